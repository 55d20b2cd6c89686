-- The two indexes of a tree after a change to both.
use Rattle.std.proofs.Common.{ℕ, ◌≡◌, List, Some, None, sym, ◌∙◌, ap, subst, cond, map, find, filter}
use Rattle.std.specs.Map.{values_of, lookup, remove_entry}
use Rattle.std.specs.Ordering.{nat_cmp}
use Rattle.std.specs.BTreeMap.{BTreeMap, get, is_at, values, insert_entry}
use Rattle.std.proofs.lemmas.Bool.{eqb-true}
use Rattle.vd_model.specs.declared.map.Mapping.{Mapping}
use Rattle.vd_iova.specs.Trees.{Tree, IsKept, placed, starts}
use Rattle.vd_iova.specs.Indexes.{IsFresh, IsIndex, IsIndexed, tree_of}
use Rattle.vd_iova.proofs.Members.{found}
use Rattle.vd_iova.proofs.Keyed.{entry}
use Rattle.vd_iova.proofs.Changes.{index_added, index_undone, index_same, kept_added, insert-entries, values-entries, fresh_iova, fresh_guest}
use Rattle.vd_iova.proofs.Removals.{index_removed, kept_without, remove-entries, lookup-entries, same_start_iova, same_start_guest, elsewhere}

-- maps with the same entries by iova, and that find the same by guest address
pub indexed_same : (first last : ℕ) (i j g h : BTreeMap ℕ Mapping) → IsIndexed first last i g → j.entries ≡ i.entries
    → ((q : ℕ) → get nat_cmp h q ≡ get nat_cmp g q) → IsIndexed first last j h
indexed_same first last i j g h is e same =
    let ks : values j ≡ values i = ap values_of e in
    record {
      keyed = e ∙ is.keyed ∙ ap (map entry) (sym ks);
      kept = subst (λ (ms : List Mapping). IsKept (record { first = first; last = last; mappings = ms })) (sym ks) is.kept;
      guest = subst (IsIndex (λ m. m.guest) (get nat_cmp h)) (sym ks)
          (index_same (λ m. m.guest) (get nat_cmp g) (get nat_cmp h) (values i) is.guest same);
    }

-- the mappings after an insert into the index by iova
pub values_added : (first last : ℕ) (i j g : BTreeMap ℕ Mapping) (m : Mapping) → IsIndexed first last i g → IsFresh (tree_of first last i) m
    → j.entries ≡ insert_entry nat_cmp i.entries m.iova m → (j.entries ≡ map entry (placed m (values i))) × (values j ≡ placed m (values i))
values_added first last i j g m is fresh e =
    let es : j.entries ≡ map entry (placed m (values i)) =
    e ∙ ap (λ (es : List (ℕ × Mapping)). insert_entry nat_cmp es m.iova m) is.keyed
    ∙ insert-entries m (values i) (λ n has. fresh_iova (tree_of first last i) m n is.kept fresh has) in
    (es, ap values_of es ∙ values-entries (placed m (values i)))

-- a fresh mapping in both
pub indexed_added : (first last : ℕ) (i j g h : BTreeMap ℕ Mapping) (m : Mapping) → IsIndexed first last i g
    → IsFresh (tree_of first last i) m
    → j.entries ≡ insert_entry nat_cmp i.entries m.iova m
    → ((q : ℕ) → get nat_cmp h q ≡ cond (is_at (nat_cmp m.guest) q) (Some m) (get nat_cmp g q))
    → IsIndexed first last j h
indexed_added first last i j g h m is fresh e step =
    let both = values_added first last i j g m is fresh e in
    record {
      keyed = both.0 ∙ ap (map entry) (sym both.1);
      kept = subst (λ (ms : List Mapping). IsKept (record { first = first; last = last; mappings = ms })) (sym both.1)
          (kept_added (tree_of first last i) m is.kept fresh);
      guest = subst (IsIndex (λ m. m.guest) (get nat_cmp h)) (sym both.1)
          (index_added (λ m. m.guest) (get nat_cmp g) (get nat_cmp h) m (values i) is.guest step
          (λ n has. fresh_guest (tree_of first last i) m n is.kept fresh has));
    }

-- a fresh mapping put into the index by guest address, and taken out again
pub indexed_undone : (first last : ℕ) (i j g put h : BTreeMap ℕ Mapping) (m : Mapping) → IsIndexed first last i g
    → IsFresh (tree_of first last i) m
    → j.entries ≡ i.entries → ((q : ℕ) → get nat_cmp put q ≡ cond (is_at (nat_cmp m.guest) q) (Some m) (get nat_cmp g q))
    → ((q : ℕ) → get nat_cmp h q ≡ cond (is_at (nat_cmp m.guest) q) None (get nat_cmp put q)) → IsIndexed first last j h
indexed_undone first last i j g put h m is fresh e step back =
    let ks : values j ≡ values i = ap values_of e in
    record {
      keyed = e ∙ is.keyed ∙ ap (map entry) (sym ks);
      kept = subst (λ (ms : List Mapping). IsKept (record { first = first; last = last; mappings = ms })) (sym ks) is.kept;
      guest = subst (IsIndex (λ m. m.guest) (get nat_cmp h)) (sym ks)
          (index_undone (λ m. m.guest) (get nat_cmp g) (get nat_cmp put) (get nat_cmp h) m (values i) is.guest step back
          (λ n has. fresh_guest (tree_of first last i) m n is.kept fresh has));
    }

-- what the index by iova finds is the mapping that starts there
pub found_start : (first last : ℕ) (i g : BTreeMap ℕ Mapping) (k : ℕ) → IsIndexed first last i g
    → get nat_cmp i k ≡ find (starts k) (values i)
found_start first last i g k is = ap (lookup (is_at (nat_cmp k))) is.keyed ∙ lookup-entries k (values i)

-- the mappings after a removal from the index by iova
pub values_removed : (first last : ℕ) (i j g : BTreeMap ℕ Mapping) (k : ℕ) → IsIndexed first last i g
    → j.entries ≡ remove_entry (is_at (nat_cmp k)) i.entries
    → (j.entries ≡ map entry (filter (elsewhere k) (values i))) × (values j ≡ filter (elsewhere k) (values i))
values_removed first last i j g k is e =
    let es : j.entries ≡ map entry (filter (elsewhere k) (values i)) =
    e ∙ ap (remove_entry (is_at (nat_cmp k))) is.keyed ∙ remove-entries first last k (values i) is.kept.within is.kept.apart in
    (es, ap values_of es ∙ values-entries (filter (elsewhere k) (values i)))

-- a mapping less in both
pub indexed_removed : (first last : ℕ) (i j g h : BTreeMap ℕ Mapping) (k : ℕ) (m : Mapping) → IsIndexed first last i g
    → get nat_cmp i k ≡ Some m
    → j.entries ≡ remove_entry (is_at (nat_cmp k)) i.entries
    → ((q : ℕ) → get nat_cmp h q ≡ cond (is_at (nat_cmp m.guest) q) None (get nat_cmp g q))
    → IsIndexed first last j h
indexed_removed first last i j g h k m is was e step =
    let t : Tree = tree_of first last i in
    let both = values_removed first last i j g k is e in
    let it = found (starts k) (values i) m (sym (found_start first last i g k is) ∙ was) in
    let at : k ≡ m.iova = eqb-true k m.iova it.1 in
    let index = index_removed (λ m. m.guest) (get nat_cmp g) (get nat_cmp h) m (values i) is.guest it.0 step
    (λ n has same. same_start_guest t m n is.kept it.0 has same) (λ n has same. same_start_iova t m n is.kept it.0 has same) in
    record {
      keyed = both.0 ∙ ap (map entry) (sym both.1);
      kept = subst (λ (ms : List Mapping). IsKept (record { first = first; last = last; mappings = ms })) (sym both.1)
          (kept_without t k is.kept);
      guest = subst (IsIndex (λ m. m.guest) (get nat_cmp h)) (sym both.1)
          (subst (λ (s : ℕ). IsIndex (λ m. m.guest) (get nat_cmp h) (filter (elsewhere s) (values i))) (sym at) index);
    }
