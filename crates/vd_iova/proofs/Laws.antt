-- The laws that a map made by one tree gives: in whatever order its mappings stand, and over the regions that it maps.
use Rattle.std.proofs.Common.{ℕ, ◌≡◌, ◌<◌, ◌+◌, ◌-◌, ◌⊎◌, inl, inr, List, [], ◌∷◌, Option, Some, None, sym, ◌∙◌, ap, subst, false, refl, find, map, is_some}
use Rattle.std.specs.Option.{option_map, option_and_then}
use Rattle.std.proofs.lemmas.Bool.{cases_Bool}
use Rattle.vd_model.specs.declared.map.Mapping.{Mapping}
use Rattle.vd_model.specs.Maps.{to, back, holds_guest}
use Rattle.vd_iova.specs.Trees.{Tree, IsKept, added, added_all, placed}
use Rattle.vd_iova.specs.Holes.{hole, laid, own, range_at}
use Rattle.vd_iova.specs.Indexes.{Has}
use Rattle.vd_iova.proofs.Members.{find_none, found, none_passes}
use Rattle.vd_iova.proofs.Changes.{has_placed, has_still, has_either}
use Rattle.vd_iova.proofs.Translations.{IsSingle, single_guest, single_iova, only_holds, holds}

-- the mappings of a tree after several were added
pub added_all-has : (ms : List Mapping) (t : Tree) (m : Mapping) → Has ms m ⊎ Has t.mappings m → Has (added_all ms t).mappings m
added_all-has [] t m (inl h) = absurd h
added_all-has [] t m (inr h) = h
added_all-has (n ∷ ns) t m (inl (inl h)) =
    added_all-has ns (added t n) m (inr (subst (Has (placed n t.mappings)) h (has_placed n t.mappings)))
added_all-has (n ∷ ns) t m (inl (inr h)) = added_all-has ns (added t n) m (inl h)
added_all-has (n ∷ ns) t m (inr h) = added_all-has ns (added t n) m (inr (has_still n t.mappings m h))

pub has-added_all : (ms : List Mapping) (t : Tree) (m : Mapping) → Has (added_all ms t).mappings m → Has ms m ⊎ Has t.mappings m
has-added_all [] t m h = inr h
has-added_all (n ∷ ns) t m h = elim (has-added_all ns (added t n) m h) [
  | inl k ↦ inl (inr k)
  | inr k ↦ elim (has_either n t.mappings m k) [ inl e ↦ inl (inl e) | inr l ↦ inr l ]
]

-- a list with the mappings of a tree in another order finds the same
same_found : (start : Mapping → ℕ) (ms ns : List Mapping) (addr len : ℕ) → IsSingle start ns → ((m : Mapping) → Has ns m → Has ms m)
    → ((m : Mapping) → Has ms m → Has ns m) → 0 < len
    → find (holds start addr len) ms ≡ find (holds start addr len) ns
same_found start ms ns addr len single into from some = by (find (holds start addr len) ns) refl
  where
    other : IsSingle start ms
    other = record {
      same = λ m n x h k p q r s. single.same m n x (from m h) (from n k) p q r s;
      has_byte = λ m h. single.has_byte m (from m h);
    }

    by : (o : Option Mapping) → find (holds start addr len) ns ≡ o → find (holds start addr len) ms ≡ o
    by None e = find_none (holds start addr len) ms (λ m h. none_passes (holds start addr len) ns m e (from m h))
    by (Some m) e = let is = found (holds start addr len) ns m e in only_holds start ms addr len m other some (into m is.0) is.1

-- `to` over the mappings in the order in which they were added to an empty tree
pub to-added_all : (ms : List Mapping) (t : Tree) (addr len : ℕ) → t.mappings ≡ [] → IsKept (added_all ms t) → 0 < len
    → to (added_all ms t).mappings addr len ≡ to ms addr len
to-added_all ms t addr len empty kept some =
    let all : Tree = added_all ms t in
    ap (option_map (λ (m : Mapping). m.iova + (addr - m.guest)))
    (sym (same_found (λ m. m.guest) ms all.mappings addr len (single_guest all.first all.last all.mappings kept.apart kept.within)
    (λ m h. elim (has-added_all ms t m h) [ inl k ↦ k | inr k ↦ absurd (subst (λ (ns : List Mapping). Has ns m) empty k) ])
    (λ m h. added_all-has ms t m (inl h)) some))

pub back-added_all : (ms : List Mapping) (t : Tree) (iova len : ℕ) → t.mappings ≡ [] → IsKept (added_all ms t) → 0 < len
    → back (added_all ms t).mappings iova len ≡ back ms iova len
back-added_all ms t iova len empty kept some =
    let all : Tree = added_all ms t in
    ap (option_map (λ (m : Mapping). m.guest + (iova - m.iova)))
    (sym (same_found (λ m. m.iova) ms all.mappings iova len (single_iova all.first all.last all.mappings kept.apart kept.within)
    (λ m h. elim (has-added_all ms t m h) [ inl k ↦ k | inr k ↦ absurd (subst (λ (ns : List Mapping). Has ns m) empty k) ])
    (λ m h. added_all-has ms t m (inl h)) some))

-- the first range is mapped at the hole, and the others after it
pub record IsLaid (r : ℕ × ℕ) (rs : List (ℕ × ℕ)) (t : Tree) (ms : List Mapping) : Type 0 where
  pub at : ℕ
  pub others : List Mapping
  pub hole : hole t r.1 ≡ Some at
  pub rest : laid rs (added t (range_at r at)) ≡ Some others
  pub whole : ms ≡ range_at r at ∷ others

pub laid-cons : (r : ℕ × ℕ) (rs : List (ℕ × ℕ)) (t : Tree) (ms : List Mapping) → laid (r ∷ rs) t ≡ Some ms → IsLaid r rs t ms
laid-cons r rs t ms e = by_hole (hole t r.1) refl e
  where
    by_rest : (x : ℕ) → hole t r.1 ≡ Some x → (o : Option (List Mapping)) → laid rs (added t (range_at r x)) ≡ o
        → option_map (λ ns. range_at r x ∷ ns) o ≡ Some ms → IsLaid r rs t ms
    by_rest x some None none h = cc
    by_rest x some (Some ns) is h = (let got : Some (range_at r x ∷ ns) ≡ Some ms = h in
        let whole : range_at r x ∷ ns ≡ ms = cc in
        record { at = x; others = ns; hole = some; rest = is; whole = sym whole })

    by_hole : (o : Option ℕ) → hole t r.1 ≡ o
        → option_and_then (λ x. option_map (λ ns. range_at r x ∷ ns) (laid rs (added t (range_at r x)))) o ≡ Some ms → IsLaid r rs t ms
    by_hole None none h = cc
    by_hole (Some x) some h = by_rest x some (laid rs (added t (range_at r x))) refl h

-- a map and the same guest ranges at their own addresses translate the same ranges
pub is_some-laid : (rs : List (ℕ × ℕ)) (t : Tree) (ms : List Mapping) (addr len : ℕ) → laid rs t ≡ Some ms
    → is_some (find (holds_guest addr len) ms) ≡ is_some (find (holds_guest addr len) (map own rs))
is_some-laid [] t ms addr len e = let got : Some [] ≡ Some ms = e in let none : [] ≡ ms = cc in
    subst (λ (ns : List Mapping). is_some (find (holds_guest addr len) ns) ≡ false) none refl
is_some-laid (r ∷ rs) t ms addr len e =
    let parts = laid-cons r rs t ms e in
    let rest = is_some-laid rs (added t (range_at r parts.at)) parts.others addr len parts.rest in
    rw parts.whole (elim (cases_Bool (holds_guest addr len (own r))) [
      | inl t ↦ rw t refl
      | inr f ↦ rw f rest
    ])

-- what a test of the range finds is Some where `to` is
pub is_some-to : (ms : List Mapping) (addr len : ℕ) → is_some (to ms addr len) ≡ is_some (find (holds_guest addr len) ms)
is_some-to ms addr len = by (find (holds_guest addr len) ms)
  where
    by : (o : Option Mapping) → is_some (option_map (λ (m : Mapping). m.iova + (addr - m.guest)) o) ≡ is_some o
    by None = refl
    by (Some m) = refl

-- an answer over a tree is the same over the mappings in the order in which they were added
pub in_turn-to : (s : Tree) (addr len : ℕ) (o : Option ℕ) → IsKept s → 0 < len → o ≡ to s.mappings addr len
    → (ms : List Mapping) (t : Tree) → t.mappings ≡ [] → s ≡ added_all ms t → o ≡ to ms addr len
in_turn-to s addr len o kept some is ms t empty e =
    is ∙ ap (λ (v : Tree). to v.mappings addr len) e ∙ to-added_all ms t addr len empty (subst IsKept e kept) some

pub in_turn-back : (s : Tree) (iova len : ℕ) (o : Option ℕ) → IsKept s → 0 < len → o ≡ back s.mappings iova len
    → (ms : List Mapping) (t : Tree) → t.mappings ≡ [] → s ≡ added_all ms t → o ≡ back ms iova len
in_turn-back s iova len o kept some is ms t empty e =
    is ∙ ap (λ (v : Tree). back v.mappings iova len) e ∙ back-added_all ms t iova len empty (subst IsKept e kept) some
