-- The tree of a shadow epoch: the regions mapped in turn, and what a map gives that lists them in another order.
use Rattle.std.proofs.Common.{◌≡◌, ℕ, zero, suc, ◌+◌, ◌-◌, ◌^◌, ◌<◌, ◌≤◌, true, nat_le, List, [], ◌∷◌, length, map, find, slice_get, Option, Some, None, option_map, is_some, inl, inr, refl, sym, ◌∙◌, ap, subst, arith}
use Rattle.std.specs.List.{All}
use Rattle.std.specs.Option.{unwrap_or}
use Rattle.std.proofs.lemmas.Bool.{and_parts, leb-true, false≢true}
use Rattle.std.proofs.lemmas.List.Elements.{All-nil, All-cons, All-head, All-tail}
use Rattle.vd_model.specs.declared.chain.Piece.{Piece}
use Rattle.vd_model.specs.declared.map.Mapping.{Mapping}
use Rattle.vd_model.specs.Maps.{to, lies_in, holds_guest}
use Rattle.vd_model.specs.Moved.{moved, with_address}
use Rattle.vd_iova.specs.Holes.{laid, own}
use Rattle.vd_iova.specs.Indexes.{Has}
use Rattle.vd_iova.specs.Trees.{Tree, IsKept, IsWithin, added, added_all}
use Rattle.vd_iova.proofs.Laws.{added_all-has, to-added_all, laid-cons, is_some-laid, is_some-to}
use Rattle.vd_iova.proofs.Members.{of_each, found}
use Rattle.vd_iova.proofs.Translations.{single_guest, single_iova, only_holds, ends_from_holds, holds_from_ends, back_undoes}
use Rattle.vd_machine.proofs.Laid.{ranges, at_iova}
use Rattle.vd_machine.specs.File.{Plan}
use Rattle.vd_machine.specs.declared.regions.Region.{Region}
use Rattle.vd_play.specs.Journal.{own_address, pass_map, shadow_map}
use Rattle.vd_play.specs.Tree.{IsTreeOf}
use Rattle.vd_play.proofs.Laying.{empty_tree, all_apart}
use Rattle.vd_play.proofs.Lists.{some_same}

-- ---- where the regions lie

has_at : (ms : List Mapping) (i : ℕ) (m : Mapping) → slice_get ms i ≡ Some m → Has ms m
has_at [] i m h = absurd (cc)
has_at (n ∷ ns) zero m h = inl (some_same n m (Some n) refl h)
has_at (n ∷ ns) (suc i) m h = inr (has_at ns i m h)

laid_at : (rs : List Region) (t : Tree) (ms : List Mapping) → laid (ranges rs) t ≡ Some ms → (i : ℕ) (r : Region)
    → slice_get rs i ≡ Some r → (m : Mapping) × (slice_get ms i ≡ Some m) × (m.size ≡ r.size) × (m.guest ≡ r.addr)
laid_at [] t ms e i r h = absurd (cc)
laid_at (s ∷ rs) t ms e zero r h =
    let p = laid-cons (s.addr, s.size) (ranges rs) t ms e in
    let same : s ≡ r = some_same s r (Some s) refl h in (
      at_iova s p.at,
      ap (λ (ns : List Mapping). slice_get ns zero) p.whole,
      ap (λ (x : Region). x.size) same,
      ap (λ (x : Region). x.addr) same,
    )
laid_at (s ∷ rs) t ms e (suc i) r h =
    let p = laid-cons (s.addr, s.size) (ranges rs) t ms e in
    let rest = laid_at rs (added t (at_iova s p.at)) p.others p.rest i r h in
    (rest.0, ap (λ (ns : List Mapping). slice_get ns (suc i)) p.whole ∙ rest.1, rest.2, rest.3)

laid_many : (rs : List Region) (t : Tree) (ms : List Mapping) → laid (ranges rs) t ≡ Some ms → length ms ≡ length rs
laid_many [] t ms e = ap length (sym (some_same [] ms (Some []) refl e))
laid_many (s ∷ rs) t ms e =
    let p = laid-cons (s.addr, s.size) (ranges rs) t ms e in
    omega (arith, ap length p.whole, laid_many rs (added t (at_iova s p.at)) p.others p.rest)

all_with : (P : Mapping → Type 0) (ms : List Mapping) → ((m : Mapping) → Has ms m → P m) → All P ms
all_with P [] each = All-nil P
all_with P (m ∷ ms) each = All-cons P m ms (each m (inl refl)) (all_with P ms (λ n h. each n (inr h)))

-- ---- the map of the mode pass

same_own : (rs : List Region) → map own (ranges rs) ≡ map own_address rs
same_own [] = refl
same_own (r ∷ rs) = ap (λ ms. own_address r ∷ ms) (same_own rs)

some_in : {A : Type 0} (o : Option A) → is_some o ≡ true → (x : A) × (o ≡ Some x)
some_in None h = absurd (false≢true h)
some_in (Some x) h = (x, refl)

-- ---- the whole

module _ (plan : Plan) (is : laid (ranges plan.regions) (empty_tree plan) ≡ Some (shadow_map plan))
    (kept : IsKept (added_all (shadow_map plan) (empty_tree plan))) where
  abbrev all : Tree
  all = added_all (shadow_map plan) (empty_tree plan)

  in_all : (m : Mapping) → Has (shadow_map plan) m → Has all.mappings m
  in_all m h = added_all-has (shadow_map plan) (empty_tree plan) m (inl h)

  within : (m : Mapping) → Has all.mappings m → (0 < m.size) × (m.iova + m.size ≤ 2 ^ 63) × (m.guest + m.size ≤ 2 ^ 63)
  within m h =
      let w = of_each (IsWithin all.first all.last) all.mappings m kept.within h in
      (w.has_byte, omega (arith, w.ends, kept.range.1), w.guest_ends)

  region_to : (m : Mapping) (addr len : ℕ) → Has all.mappings m → m.size ≡ len → m.guest ≡ addr → to all.mappings addr len ≡ Some m.iova
  region_to m addr len h size at =
      let w = within m h in
      let one = only_holds (λ (n : Mapping). n.guest) all.mappings addr len m
      (single_guest all.first all.last all.mappings kept.apart kept.within) (omega (arith, w.0, size)) h
      (holds_from_ends m.guest m.size addr len (omega (arith, at)) (omega (arith, size, at))) in
      ap (option_map (λ (n : Mapping). n.iova + (addr - n.guest))) one ∙ ap Some (omega (arith, at))

  same_to : (addr len : ℕ) → 0 < len → to all.mappings addr len ≡ to (shadow_map plan) addr len
  same_to addr len some = to-added_all (shadow_map plan) (empty_tree plan) addr len refl kept some

  covered : (p : Piece) → lies_in (pass_map plan) p ≡ true → (lies_in all.mappings p ≡ true) × (p.addr < 2 ^ 63)
  covered p h =
      let parts = and_parts (nat_le 1 p.len) (is_some (to (pass_map plan) p.addr p.len)) h in
      let some : 1 ≤ p.len = leb-true 1 p.len parts.0 in
      let by_shadow : is_some (find (holds_guest p.addr p.len) (shadow_map plan)) ≡ true =
      is_some-laid (ranges plan.regions) (empty_tree plan) (shadow_map plan) p.addr p.len is
      ∙ ap (λ (ms : List Mapping). is_some (find (holds_guest p.addr p.len) ms)) (same_own plan.regions)
      ∙ sym (is_some-to (pass_map plan) p.addr p.len) ∙ parts.1 in
      let here : is_some (to all.mappings p.addr p.len) ≡ true =
      ap is_some (same_to p.addr p.len (omega (arith, some))) ∙ is_some-to (shadow_map plan) p.addr p.len ∙ by_shadow in
      let got = some_in (find (holds_guest p.addr p.len) all.mappings) (sym (is_some-to all.mappings p.addr p.len) ∙ here) in
      let m : Mapping = got.0 in
      let at = found (holds_guest p.addr p.len) all.mappings m got.1 in
      let ends = ends_from_holds m.guest m.size p.addr p.len at.1 in
      (rw (parts.0, here) refl, omega (arith, ends.1, (within m at.0).2, some))

  whole : IsTreeOf plan all.mappings
  whole = record {
    regions = λ i r h. let x = laid_at plan.regions (empty_tree plan) (shadow_map plan) is i r h in
        (x.0, x.1, x.2, x.3, region_to x.0 r.addr r.size (in_all x.0 (has_at (shadow_map plan) i x.0 x.1)) x.2 x.3);
    many = laid_many plan.regions (empty_tree plan) (shadow_map plan) is;
    within = all_with (λ m. (0 < m.size) × (m.iova + m.size ≤ 2 ^ 63) × (m.guest + m.size ≤ 2 ^ 63)) (shadow_map plan)
        (λ m h. within m (in_all m h));
    apart = λ i j m n less at later. all_apart (shadow_map plan) (empty_tree plan) kept.apart i j m n less at later;
    same = same_to;
    undone = λ addr len iova some e. back_undoes all.mappings addr len iova
        (single_iova all.first all.last all.mappings kept.apart kept.within) some e;
    covers = covered;
  }

-- a tree to which the map's mappings were added in turn
pub tree_is : (plan : Plan) (t : Tree) → laid (ranges plan.regions) (empty_tree plan) ≡ Some (shadow_map plan) → IsKept t
    → added_all (shadow_map plan) (empty_tree plan) ≡ t → IsTreeOf plan t.mappings
tree_is plan t is kept same = subst (λ (u : Tree). IsTreeOf plan u.mappings) same (whole plan is (subst IsKept (sym same) kept))

-- ---- chains

-- a chain is moved alike by both
pub moved_same : (plan : Plan) (mappings : List Mapping) (c : List Piece) → IsTreeOf plan mappings → All (λ p. 1 ≤ p.len) c
    → moved mappings c ≡ moved (shadow_map plan) c
moved_same plan mappings [] t h = refl
moved_same plan mappings (p ∷ c) t h =
    let P : Piece → Type 0 = λ (x : Piece). 1 ≤ x.len in
    let some : 1 ≤ p.len = All-head P p c h in
    let one = ap (λ (o : Option ℕ). with_address p (unwrap_or o p.addr)) (t.same p.addr p.len (omega (arith, some))) in
    ap (λ x. x ∷ moved mappings c) one
    ∙ ap (λ xs. with_address p (unwrap_or (to (shadow_map plan) p.addr p.len) p.addr) ∷ xs)
    (moved_same plan mappings c t (All-tail P p c h))
