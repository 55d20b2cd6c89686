-- Lists of what is held and of what was begun.
use Rattle.std.proofs.Common.{◌≡◌, ℕ, ◌+◌, ◌-◌, ◌<◌, ◌≤◌, Bool, true, false, Some, List, [], ◌∷◌, ◌++◌, length, take, slice_get, if◌then◌else◌, refl, sym, ◌∙◌, ap, subst, arith, inl, inr}
use Rattle.std.specs.List.{All}
use Rattle.std.proofs.lemmas.Bool.{cases_eq, eq-eqb, ne_eqb}
use Rattle.std.proofs.lemmas.List.{map_push, length_push, take_more, take_all, append-nil, append_assoc}
use Rattle.std.proofs.lemmas.List.Elements.{All-take, All-drop}
use Rattle.std.proofs.lemmas.List.Sums.{sum_by-cons}
use Rattle.std.proofs.lemmas.Option.{slice_get_within, get_or_from_slice_get}
use mathlib.Core.List.{IsPrefix}
use Rattle.vd_model.specs.declared.chain.Piece.{Piece}
use Rattle.vd_model.specs.Chains.{total, readable, readable_len}
use Rattle.vd_ring.specs.History.{without, occurs}
use Rattle.vd_ring.proofs.Counts.{one_same, occurs_push}
use Rattle.vd_models.specs.declared.window.Held.{Held}
use Rattle.vd_models.specs.Holding.{next_held, rest_held, held_numbers}

-- ---- prefixes

pub prefix_same : {A : Type 0} (xs ys : List A) → ys ≡ xs → IsPrefix xs ys
prefix_same xs ys e = ([], append-nil xs ∙ sym e)

pub prefix_push : {A : Type 0} (xs ys : List A) (y : A) → ys ≡ xs ++ y ∷ [] → IsPrefix xs ys
prefix_push xs ys y e = (y ∷ [], sym e)

pub prefix_through : {A : Type 0} (xs ys zs : List A) → IsPrefix xs ys → IsPrefix ys zs → IsPrefix xs zs
prefix_through xs ys zs p q = (p.0 ++ q.0, sym (append_assoc xs p.0 q.0) ∙ ap (λ us. us ++ q.0) p.1 ∙ q.1)

-- ---- lengths

pub readable_within : (c : List Piece) → readable c ≤ total c
readable_within [] = omega arith
readable_within (p ∷ ps) = omega (
  arith,
  sum_by-cons readable_len p ps,
  sum_by-cons
      (λ (q : Piece). q.len) p ps,
  readable_within ps,
  at p.write,
)
  where
    at : (b : Bool) → (if b then 0 else p.len) ≤ p.len
    at true = omega arith
    at false = omega arith

-- ---- what is given next

without_last : (k : ℕ) (ks : List ℕ) → occurs k ks ≡ 0 → without k (ks ++ k ∷ []) ≡ ks
without_last k [] none = rw (eq-eqb k k refl) refl
without_last k (j ∷ ks) none = elim (cases_eq j k) [
  | inl e ↦ absurd (omega (arith, one_same j k e))
  | inr ne ↦ rw (ne_eqb j k ne) (ap (λ us. j ∷ us) (without_last k ks (omega arith)))
]

last_split : (hs : List Held) (h : Held) → slice_get hs (length hs - 1) ≡ Some h → hs ≡ take (length hs - 1) hs ++ h ∷ []
last_split hs h is =
    let within : length hs - 1 < length hs = slice_get_within hs (length hs - 1) h is in
    sym (take_all (length hs - 1 + 1) hs (omega arith)) ∙ take_more hs (length hs - 1) h within ∙ ap
    (λ g. take (length hs - 1) hs ++ g ∷ []) (get_or_from_slice_get hs (length hs - 1) h h is)

pub record NextIs (io : Bool) (hs : List Held) (h : Held) : Type 0 where
  pub shorter : length (rest_held io hs) + 1 ≡ length hs
  pub among : 1 ≤ occurs h.number (held_numbers hs)
  pub rest : occurs h.number (held_numbers hs) ≤ 1 → held_numbers (rest_held io hs) ≡ without h.number (held_numbers hs)

first_is : (hs : List Held) (h : Held) → slice_get hs 0 ≡ Some h → NextIs true hs h
first_is [] h is = absurd (cc)
first_is (g ∷ hs) h is =
    let same : g ≡ h = cc in
    record {
      shorter = omega arith;
      among = omega (arith, one_same g.number h.number (ap (λ (x : Held). x.number) same));
      rest = λ once. rw (eq-eqb g.number h.number (ap (λ (x : Held). x.number) same)) refl;
    }

last_is : (hs : List Held) (h : Held) → slice_get hs (length hs - 1) ≡ Some h → NextIs false hs h
last_is hs h is =
    let ts : List Held = take (length hs - 1) hs in
    let split : hs ≡ ts ++ h ∷ [] = last_split hs h is in
    let numbers : held_numbers hs ≡ held_numbers ts ++ h.number ∷ [] = ap held_numbers split ∙ map_push (λ (x : Held). x.number) ts h in
    let counts : occurs h.number (held_numbers hs) ≡ occurs h.number (held_numbers ts) + 1 = ap (occurs h.number) numbers
    ∙ occurs_push h.number (held_numbers ts) h.number ∙ ap (λ n. occurs h.number (held_numbers ts) + n)
    (one_same h.number h.number refl) in
    record {
      shorter = sym (ap length split ∙ length_push ts h);
      among = omega (arith, counts);
      rest = λ once. sym (ap (without h.number) numbers ∙ without_last h.number (held_numbers ts) (omega (arith, counts)));
    }

pub next_is : (io : Bool) (hs : List Held) (h : Held) → next_held io hs ≡ Some h → NextIs io hs h
next_is true hs h is = first_is hs h is
next_is false hs h is = last_is hs h is

pub All-rest_held : (P : Held → Type 0) (io : Bool) (hs : List Held) → All P hs → All P (rest_held io hs)
All-rest_held P true hs a = All-drop P 1 hs a
All-rest_held P false hs a = All-take P (length hs - 1) hs a

pub All-next : (P : Held → Type 0) (io : Bool) (hs : List Held) (h : Held) → next_held io hs ≡ Some h → All P hs → P h
All-next P true hs h is a = subst P (get_or_from_slice_get hs 0 h h is) (a 0 h (slice_get_within hs 0 h is))
All-next P false hs h is a = subst P (get_or_from_slice_get hs (length hs - 1) h h is) (a (length hs - 1) h
    (slice_get_within hs (length hs - 1) h is))
