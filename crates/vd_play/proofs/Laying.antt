-- The regions of a machine mapped in turn into an empty tree.
use Rattle.std.proofs.Common.{◌≡◌, ℕ, zero, suc, ◌+◌, ◌<◌, true, false, nat_lt, List, [], ◌∷◌, length, drop, get_or, slice_get, Option, Some, None, option_map, is_some, inl, inr, refl, sym, ◌∙◌, ap, subst, arith}
use Rattle.std.specs.List.{AllByRecursion}
use Rattle.std.specs.Option.{unwrap_or}
use Rattle.std.proofs.lemmas.Bool.{cases_Bool, false≢true}
use Rattle.std.proofs.lemmas.List.{drop_more}
use Rattle.vd_model.specs.declared.map.Mapping.{Mapping}
use Rattle.vd_iova.specs.Holes.{laid}
use Rattle.vd_iova.specs.Indexes.{Has}
use Rattle.vd_iova.specs.Ranges.{meets_iova}
use Rattle.vd_iova.specs.Trees.{Tree, IsBefore, IsApart, IsKept, placed, added, added_all}
use Rattle.vd_iova.proofs.Changes.{has_placed, has_still, meets-flip}
use Rattle.vd_iova.proofs.Members.{of_each, apart_from_ends}
use Rattle.vd_machine.proofs.Facts.{range_bounds}
use Rattle.vd_machine.proofs.Laid.{ranges, at_iova}
use Rattle.vd_machine.specs.File.{Plan}
use Rattle.vd_machine.specs.Iovas.{is_range, are_laid}
use Rattle.vd_machine.specs.declared.regions.Region.{Region}
use Rattle.vd_play.specs.Journal.{shadow_map}
use Rattle.vd_play.proofs.Lists.{some_same}

-- the range of a machine's iovas, without mappings
abbrev pub empty_tree : Plan → Tree
empty_tree plan = record { first = plan.first; last = plan.last; mappings = [] }

-- the regions that are left are laid as they are in all
pub record IsLaying (plan : Plan) (t : Tree) (rs : List Region) : Type 0 where
  pub left : List Mapping
  pub laid : laid (ranges rs) t ≡ Some left
  pub whole : added_all (shadow_map plan) (empty_tree plan) ≡ added_all left t
  pub kept : IsKept t

some_of : {A : Type 0} (o : Option A) (d : A) → is_some o ≡ true → o ≡ Some (unwrap_or o d)
some_of None d h = absurd (false≢true h)
some_of (Some x) d h = refl

-- the map of a shadow epoch is where the regions are laid
pub map_is : (plan : Plan) → are_laid plan.first plan.last plan.regions ≡ true
    → laid (ranges plan.regions) (empty_tree plan) ≡ Some (shadow_map plan)
map_is plan h = some_of (laid (ranges plan.regions) (empty_tree plan)) [] h

pub laying_start : (plan : Plan) (t : Tree) → t ≡ empty_tree plan → are_laid plan.first plan.last plan.regions ≡ true
    → is_range plan.first plan.last ≡ true → IsLaying plan t plan.regions
laying_start plan t is h range = subst (λ (u : Tree). IsLaying plan u plan.regions) (sym is) (record {
  left = shadow_map plan;
  laid = map_is plan h;
  whole = refl;
  kept = record { range = range_bounds plan.first plan.last range; within = tt; apart = tt };
})

pub laying_first : (plan : Plan) (t : Tree) (rs : List Region) (i : ℕ) → i < length rs → IsLaying plan t (drop i rs)
    → IsLaying plan t (get_or rs i (record { addr = 0; size = 0 }) ∷ drop (i + 1) rs)
laying_first plan t rs i below h = subst (IsLaying plan t) (drop_more rs i (record { addr = 0; size = 0 }) below) h

-- what was added to an answer
map_from : (m : Mapping) (o : Option (List Mapping)) (ms : List Mapping) → option_map (λ ns. m ∷ ns) o ≡ Some ms
    → (ns : List Mapping) × (o ≡ Some ns) × (ms ≡ m ∷ ns)
map_from m None ms h = absurd (cc)
map_from m (Some ns) ms h = (ns, refl, sym (some_same (m ∷ ns) ms (Some (m ∷ ns)) refl h))

pub laying_more : (plan : Plan) (t : Tree) (r : Region) (rs : List Region) (iova : ℕ) (new : Tree) → new ≡ added t (at_iova r iova)
    → laid ((r.addr, r.size) ∷ ranges rs) t ≡ option_map (λ ms. at_iova r iova ∷ ms) (laid (ranges rs) new) → IsKept new
    → IsLaying plan t (r ∷ rs) → IsLaying plan new rs
laying_more plan t r rs iova new is e kept h =
    let got = map_from (at_iova r iova) (laid (ranges rs) new) h.left (sym e ∙ h.laid) in
    record {
      left = got.0;
      laid = got.1;
      whole = h.whole ∙ ap (λ (ms : List Mapping). added_all ms t) got.2 ∙ ap (added_all got.0) (sym is);
      kept = kept;
    }

pub laying_end : (plan : Plan) (t : Tree) (rs : List Region) → rs ≡ [] → IsLaying plan t rs
    → added_all (shadow_map plan) (empty_tree plan) ≡ t
laying_end plan t rs none h =
    let got : Some [] ≡ Some h.left = ap (λ (xs : List Region). laid (ranges xs) t) (sym none) ∙ h.laid in
    h.whole ∙ ap (λ (ms : List Mapping). added_all ms t) (sym (some_same [] h.left (Some []) refl got))

-- ---- mappings added in turn that lie apart

-- the mapping in its place lies apart from the others
placed_apart : (m : Mapping) (ms : List Mapping) → IsApart (placed m ms) → (n : Mapping) → Has ms n → meets_iova m.iova m.size n ≡ false
placed_apart m [] apart n h = absurd h
placed_apart m (k ∷ ks) apart n h = elim (cases_Bool (nat_lt m.iova k.iova)) [
  | inl t ↦ (let here = rw t at apart in
      apart_from_ends m.iova m.size n.iova n.size (inr (of_each (IsBefore m) (k ∷ ks) n here.0 h).iova))
  | inr f ↦ (let here = rw f at apart in elim h [
    | inl e ↦ (let before : IsBefore n m = subst (λ (x : Mapping). IsBefore x m) e
        (of_each (IsBefore k) (placed m ks) m here.0 (has_placed m ks)) in
        apart_from_ends m.iova m.size n.iova n.size (inl before.iova))
    | inr rest ↦ placed_apart m ks here.1 n rest
  ])
]

all_still : (P : Mapping → Type 0) (m : Mapping) (ms : List Mapping) → AllByRecursion P (placed m ms) → AllByRecursion P ms
all_still P m [] all = tt
all_still P m (n ∷ ns) all = elim (cases_Bool (nat_lt m.iova n.iova)) [
  | inl t ↦ (let here = rw t at all in here.1)
  | inr f ↦ (let here = rw f at all in (here.0, all_still P m ns here.1))
]

others_apart : (m : Mapping) (ms : List Mapping) → IsApart (placed m ms) → IsApart ms
others_apart m [] apart = tt
others_apart m (n ∷ ns) apart = elim (cases_Bool (nat_lt m.iova n.iova)) [
  | inl t ↦ (let here = rw t at apart in here.1)
  | inr f ↦ (let here = rw f at apart in (all_still (IsBefore n) m ns here.0, others_apart m ns here.1))
]

before_apart : (ms : List Mapping) (t : Tree) → IsApart (added_all ms t).mappings → IsApart t.mappings
before_apart [] t apart = apart
before_apart (m ∷ ms) t apart = others_apart m t.mappings (before_apart ms (added t m) apart)

-- what the tree had lies apart from each that was added
old_apart : (ms : List Mapping) (t : Tree) → IsApart (added_all ms t).mappings → (m : Mapping) → Has t.mappings m → (j : ℕ) (n : Mapping)
    → slice_get ms j ≡ Some n → meets_iova m.iova m.size n ≡ false
old_apart [] t apart m h j n at = absurd (cc)
old_apart (k ∷ ks) t apart m h zero n at =
    let same : k ≡ n = some_same k n (Some k) refl at in
    let this = placed_apart k t.mappings (before_apart ks (added t k) apart) m h in
    subst (λ (x : Mapping). meets_iova m.iova m.size x ≡ false) same (meets-flip k.iova k.size m.iova m.size this)
old_apart (k ∷ ks) t apart m h (suc j) n at = old_apart ks (added t k) apart m (has_still k t.mappings m h) j n at

pub all_apart : (ms : List Mapping) (t : Tree) → IsApart (added_all ms t).mappings → (i j : ℕ) (m n : Mapping) → i < j
    → slice_get ms i ≡ Some m → slice_get ms j ≡ Some n → meets_iova m.iova m.size n ≡ false
all_apart [] t apart i j m n less at later = absurd (cc)
all_apart (k ∷ ks) t apart i zero m n less at later = absurd (omega arith)
all_apart (k ∷ ks) t apart zero (suc j) m n less at later =
    let same : k ≡ m = some_same k m (Some k) refl at in
    subst (λ (x : Mapping). meets_iova x.iova x.size n ≡ false) same
    (old_apart ks (added t k) apart k (has_placed k t.mappings) j n later)
all_apart (k ∷ ks) t apart (suc i) (suc j) m n less at later = all_apart ks (added t k) apart i j m n (omega arith) at later
