-- The index by iova, whose entries are the mappings in their order.
use Rattle.std.proofs.Common.{ℕ, ◌≡◌, ◌<◌, inl, inr, List, [], ◌∷◌, Option, Some, None, arith, sym, ◌∙◌, ap, false, nat_eq, map, IfSome}
use Rattle.std.specs.List.{AllByRecursion}
use Rattle.std.specs.Map.{lookup}
use Rattle.std.specs.Ordering.{nat_cmp}
use Rattle.std.specs.BTreeMap.{BTreeMap, get, is_at, values}
use Rattle.std.proofs.lemmas.Bool.{cases_Bool, eqb-true, eq-eqb, ne_eqb}
use Rattle.std.proofs.lemmas.Bool.Decides.{nat_tests}
use Rattle.vd_model.specs.declared.map.Mapping.{Mapping}
use Rattle.vd_iova.specs.Trees.{IsBefore, IsApart, IsWithin, IsKept}
use Rattle.vd_iova.specs.Indexes.{Has, IsIndex, IsFloor, tree_of}
use Rattle.vd_iova.proofs.Members.{of_each}

-- a key compares as equal to itself alone
pub at_key : (q k : ℕ) → is_at (nat_cmp q) k ≡ nat_eq q k
at_key q k = grind (arith, nat_tests)

-- a mapping under its iova
abbrev pub entry : Mapping → ℕ × Mapping
entry m = (m.iova, m)

-- what is found under an iova is in the list, and starts there
pub keyed_sound : (ms : List Mapping) (q : ℕ) (m : Mapping) → lookup (is_at (nat_cmp q)) (map entry ms) ≡ Some m → Has ms m × (m.iova ≡ q)
keyed_sound [] q m e = cc
keyed_sound (n ∷ ns) q m e = elim (cases_Bool (is_at (nat_cmp q) n.iova)) [
  | inl t ↦ (
      let got : Some n ≡ Some m = rw t at e in
      let same : n ≡ m = cc in
      (inl same, ap (λ (y : Mapping). y.iova) (sym same) ∙ sym (eqb-true q n.iova (sym (at_key q n.iova) ∙ t))))
  | inr f ↦ (let rest = keyed_sound ns q m (rw f at e) in (inr rest.0, rest.1))
]

-- each mapping is found under its iova
pub keyed_whole : (first last : ℕ) (ms : List Mapping) (m : Mapping) → AllByRecursion (IsWithin first last) ms → IsApart ms → Has ms m
    → lookup (is_at (nat_cmp m.iova)) (map entry ms) ≡ Some m
keyed_whole first last [] m within apart has = absurd has
keyed_whole first last (n ∷ ns) m within apart (inl h) =
    rw (at_key m.iova n.iova ∙ eq-eqb m.iova n.iova (ap (λ (y : Mapping). y.iova) (sym h))) (ap Some h)
keyed_whole first last (n ∷ ns) m within apart (inr h) =
    let before : IsBefore n m = of_each (IsBefore n) ns m apart.0 h in
    let byte : 0 < n.size = within.0.has_byte in
    let other : is_at (nat_cmp m.iova) n.iova ≡ false = at_key m.iova n.iova ∙ ne_eqb m.iova n.iova (λ e. omega (arith, before.iova)) in
    rw other (keyed_whole first last ns m within.1 apart.1 h)

-- the ordered map by iova is an index
pub iova_index : (first last : ℕ) (by_iova : BTreeMap ℕ Mapping) → by_iova.entries ≡ map entry (values by_iova)
    → IsKept (tree_of first last by_iova)
    → IsIndex (λ m. m.iova) (get nat_cmp by_iova) (values by_iova)
iova_index first last by_iova keyed kept = record {
  sound = λ q m e. keyed_sound (values by_iova) q m (ap (lookup (is_at (nat_cmp q))) (sym keyed) ∙ e);
  whole = λ m has. ap (lookup (is_at (nat_cmp m.iova))) keyed ∙ keyed_whole first last (values by_iova) m kept.within kept.apart has;
}

-- what holds of each mapping holds of the one with the greatest key below
pub floor_within : (P : Mapping → Type 0) (key : Mapping → ℕ) (at : ℕ) (ms : List Mapping) (o : Option Mapping) → AllByRecursion P ms
    → IsFloor key at ms o → IfSome o P
floor_within P key at ms None all floor = tt
floor_within P key at ms (Some m) all floor = of_each P ms m all floor.has
