-- How the words of a row of places change.
use Rattle.std.proofs.Common.{◌≡◌, ◌≢◌, ℕ, ◌+◌, ◌-◌, ◌*◌, ◌%◌, ◌<◌, ◌≤◌, List, [], ◌∷◌, ◌++◌, length, slice_index, slice_set, sym, ap, ◌∙◌, subst, arith, inl, inr}
use native.Mathlib.Nat.{add-mod_right, mod-eq_of_lt}
use Rattle.std.proofs.lemmas.Bool.{cases_eq, cases_lt}
use Rattle.std.proofs.lemmas.Nat.{mod_below}
use Rattle.std.proofs.lemmas.List.{get_or-set_other, get_or-set_same}
use Rattle.std.proofs.lemmas.List.Elements.{All-nil, All-head}
use Rattle.vd_ring.specs.declared.frame.Put.{Put}
use Rattle.vd_packed_ring.specs.PackedWords.{put}
use Rattle.vd_packed_ring.specs.PackedRing.{IsClear, Row}
use Rattle.vd_packed_ring.proofs.Areas.{window_differ}
use Rattle.vd_packed_ring.proofs.Plans.{all_left, all_right}

abbrev Apart : ℕ → Put → Type 0
Apart i s = s.place ≢ i

pub nothing_staged : (i : ℕ) → IsClear [] i
nothing_staged i = All-nil (Apart i)

pub turned : (q n : ℕ) → (q + n) % n ≡ q % n
turned q n = add-mod_right q n

-- clear of a list and one store more
clear_before : (puts : List Put) (s : Put) (i : ℕ) → IsClear (puts ++ s ∷ []) i → IsClear puts i
clear_before puts s i c = all_left (Apart i) puts (s ∷ []) c

clear_last : (puts : List Put) (s : Put) (i : ℕ) → IsClear (puts ++ s ∷ []) i → s.place ≢ i
clear_last puts s i c = All-head (Apart i) s [] (all_right (Apart i) puts (s ∷ []) c)

-- a store of the offer in progress
pub row_staged : (n half : ℕ) (ws : List ℕ) (top : ℕ) (puts : List Put) (cur : ℕ → ℕ) (p x : ℕ) → Row n half ws top puts cur
    → Row n half (slice_set ws p x) top (puts ++ put p x ∷ []) cur
row_staged n half ws top puts cur p x r = record {
  kept = λ q a b c. get_or-set_other ws p (2 * (q % n) + half) x 0 (λ e. clear_last puts (put p x) (2 * (q % n) + half) c (sym e))
      ∙ r.kept q a b (clear_before puts (put p x) (2 * (q % n) + half) c);
  fresh = λ q a b c. get_or-set_other ws p (2 * q + half) x 0 (λ e. clear_last puts (put p x) (2 * q + half) c (sym e))
      ∙ r.fresh q a b (clear_before puts (put p x) (2 * q + half) c);
}

-- a store elsewhere
pub row_elsewhere : (n half : ℕ) (ws : List ℕ) (top : ℕ) (puts : List Put) (cur : ℕ → ℕ) (p x : ℕ) → 0 < n
    → ((i : ℕ) → i < n → 2 * i + half ≢ p) → Row n half ws top puts cur → Row n half (slice_set ws p x) top puts cur
row_elsewhere n half ws top puts cur p x pos far r = record {
  kept = λ q a b c. get_or-set_other ws p (2 * (q % n) + half) x 0 (far (q % n) (mod_below q n pos)) ∙ r.kept q a b c;
  fresh = λ q a b c. get_or-set_other ws p (2 * q + half) x 0 (far q a) ∙ r.fresh q a b c;
}

-- what stands at each position is said anew
pub row_same : (n half : ℕ) (ws : List ℕ) (top : ℕ) (puts : List Put) (cur cur2 : ℕ → ℕ) → ((q : ℕ) → q < top → cur2 q ≡ cur q)
    → Row n half ws top puts cur → Row n half ws top puts cur2
row_same n half ws top puts cur cur2 same r = record { kept = λ q a b c. r.kept q a b c ∙ sym (same q a); fresh = r.fresh }

-- the other side stores at a position of the last n, where nothing is staged
pub row_over : (n half : ℕ) (ws : List ℕ) (top : ℕ) (puts : List Put) (cur cur2 : ℕ → ℕ) (u x : ℕ) → 0 < n
    → 2 * (u % n) + half < length ws → u < top → top ≤ u + n → cur2 u ≡ x → ((q : ℕ) → q ≢ u → cur2 q ≡ cur q) → Row n half ws top puts cur
    → Row n half (slice_set ws (2 * (u % n) + half) x) top puts cur2
row_over n half ws top puts cur cur2 u x pos inside below near now others r = record {
  kept = λ q a b c. elim (cases_eq q u) [
    | inl e ↦ subst (λ (k : ℕ). slice_index (slice_set ws (2 * (u % n) + half) x) (2 * (k % n) + half) ≡ cur2 k) (sym e)
        (get_or-set_same ws (2 * (u % n) + half) x 0 inside ∙ sym now)
    | inr ne ↦ get_or-set_other ws (2 * (u % n) + half) (2 * (q % n) + half) x 0
        (λ e. window_differ n top (q + n) (u + n) pos b (omega arith) near (omega arith) (λ k. ne (omega arith))
        (omega (arith, turned q n, turned u n))) ∙ r.kept q a b c ∙ sym (others q ne)
  ];
  fresh = λ q a b c. get_or-set_other ws (2 * (u % n) + half) (2 * q + half) x 0
      (λ e. window_differ n top q (u + n) pos b (omega arith) near (omega arith) (λ k. omega arith)
      (omega (arith, turned u n, mod-eq_of_lt a))) ∙ r.fresh q a b c;
}

-- the staged words are published: k positions more, at each of which a staged word stands, and no staged word is elsewhere
pub row_published : (n half : ℕ) (ws : List ℕ) (top k : ℕ) (puts : List Put) (cur cur2 : ℕ → ℕ) → 0 < n → k ≤ n
    → ((q : ℕ) → q < top → top + k ≤ q + n → IsClear puts (2 * (q % n) + half))
    → ((p : ℕ) → p < n → top + k ≤ p → IsClear puts (2 * p + half))
    → ((q : ℕ) → q < top → cur2 q ≡ cur q) → ((j : ℕ) → j < k → slice_index ws (2 * ((top + j) % n) + half) ≡ cur2 (top + j))
    → Row n half ws top puts cur → Row n half ws (top + k) [] cur2
row_published n half ws top k puts cur cur2 pos few clear clear0 old new r = record {
  kept = λ q a b c. elim (cases_lt q top) [
    | inl h ↦ r.kept q h (omega arith) (clear q h b) ∙ sym (old q h)
    | inr h ↦ (let e : top + (q - top) ≡ q = omega arith in
        subst (λ (m : ℕ). slice_index ws (2 * (m % n) + half) ≡ cur2 m) e (new (q - top) (omega arith)))
  ];
  fresh = λ q a b c. r.fresh q a (omega arith) (clear0 q a b);
}

-- what stands before the writer, where nothing is staged there
pub row_ahead : (n half : ℕ) (ws : List ℕ) (top : ℕ) (puts : List Put) (cur : ℕ → ℕ) (P : ℕ → Type 0) → 0 < n
    → IsClear puts (2 * (top % n) + half) → (top < n → P 0) → ((q : ℕ) → q + n ≡ top → P (cur q)) → Row n half ws top puts cur
    → P (slice_index ws (2 * (top % n) + half))
row_ahead n half ws top puts cur P pos clear none some r = elim (cases_lt top n) [
  | inl low ↦ (
      let e : top % n ≡ top = mod-eq_of_lt low in
      subst P (sym (ap (λ (k : ℕ). slice_index ws (2 * k + half)) e
      ∙ r.fresh top low (omega arith) (subst (λ (k : ℕ). IsClear puts (2 * k + half)) e clear))) (none low)
      )
  | inr high ↦ (
      let q : ℕ = top - n in
      let e : q + n ≡ top = omega arith in
      let same : top % n ≡ q % n = ap (λ (k : ℕ). k % n) (sym e) ∙ turned q n in
      subst P (sym (ap (λ (k : ℕ). slice_index ws (2 * k + half)) same ∙ r.kept q (omega arith) (omega arith)
      (subst (λ (k : ℕ). IsClear puts (2 * k + half)) same clear))) (some q e)
      )
]
