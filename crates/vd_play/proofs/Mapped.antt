-- The map of an epoch can be made by messages, and has a mapping of each region.
use Rattle.std.proofs.Common.{◌≡◌, ℕ, zero, suc, ◌+◌, ◌-◌, ◌^◌, ◌<◌, ◌≤◌, true, false, ◌&&◌, ◌||◌, nat_lt, nat_le, List, [], ◌∷◌, length, map, slice_get, find, Some, refl, ◌∙◌, ap, subst, arith}
use Rattle.std.specs.List.{list_all}
use Rattle.std.specs.Option.{option_map}
use Rattle.std.proofs.lemmas.List.{length-map}
use Rattle.std.proofs.lemmas.Bool.{and_parts, leb-true}
use Rattle.std.proofs.lemmas.Bool.Decides.{nat_tests}
use Rattle.std.proofs.lemmas.Option.{slice_get-map}
use Rattle.vd_model.specs.declared.base.Mode.{Mode}
use Rattle.vd_model.specs.declared.base.Mode.TheVariants.{Pass, Shadow}
use Rattle.vd_model.specs.declared.map.Mapping.{Mapping}
use Rattle.vd_model.specs.Maps.{to, holds_guest}
use Rattle.vd_iova.specs.Ranges.{meets_iova}
use Rattle.vd_iova.specs.Trees.{Tree, IsKept}
use Rattle.vd_iova.proofs.Members.{found}
use Rattle.vd_iova.proofs.Translations.{only_holds, single_guest, ends_from_holds, holds_from_ends}
use Rattle.vd_machine.specs.File.{Plan}
use Rattle.vd_machine.specs.Regions.{are_apart, all_apart, is_region, are_regions}
use Rattle.vd_machine.specs.declared.regions.Region.{Region}
use Rattle.vd_machine.proofs.Facts.{few_regions, region_parts}
use Rattle.vd_play.specs.Journal.{own_address, pass_map, shadow_map, map_in}
use Rattle.vd_play.specs.Tree.{IsTreeOf}
use Rattle.vd_play.proofs.Lists.{some_same, found_by, All-at}
use Rattle.vd_play.proofs.Maps.{Lies, AllLie, AreApart, CanBeMade}

-- ---- in the mode pass

-- two that are apart don't meet
apart : (a n c k : ℕ) → (nat_le (a + n) c || nat_le (c + k) a) ≡ true → (nat_lt a (c + k) && nat_lt c (a + n)) ≡ false
apart a n c k h = grind (arith, nat_tests)

ends_low : (r : Region) → is_region r ≡ true → Lies (own_address r)
ends_low r h =
    let parts = and_parts (nat_le 1 r.size && nat_lt r.size 0x8000_0000_0000_0000) (nat_le (r.addr + r.size) 0x8000_0000_0000_0000) h in
    let low : r.addr + r.size ≤ 2 ^ 63 = leb-true (r.addr + r.size) 0x8000_0000_0000_0000 parts.1 in
    (leb-true 1 r.size (and_parts (nat_le 1 r.size) (nat_lt r.size 0x8000_0000_0000_0000) parts.0).0, low, low)

regions_lie : (rs : List Region) → list_all is_region rs ≡ true → AllLie (map own_address rs)
regions_lie [] h i m at = absurd (cc)
regions_lie (r ∷ rs) h zero m at =
    subst Lies (some_same (own_address r) m (Some (own_address r)) refl at)
    (ends_low r (and_parts (is_region r) (list_all is_region rs) h).0)
regions_lie (r ∷ rs) h (suc i) m at = regions_lie rs (and_parts (is_region r) (list_all is_region rs) h).1 i m at

meets_no_other : (x : Region) (rs : List Region) (j : ℕ) (n : Mapping) → list_all (are_apart x) rs ≡ true
    → slice_get (map own_address rs) j ≡ Some n → meets_iova x.addr x.size n ≡ false
meets_no_other x [] j n h at = absurd (cc)
meets_no_other x (r ∷ rs) zero n h at =
    subst (λ (z : Mapping). meets_iova x.addr x.size z ≡ false) (some_same (own_address r) n (Some (own_address r)) refl at)
    (apart x.addr x.size r.addr r.size (and_parts (are_apart x r) (list_all (are_apart x) rs) h).0)
meets_no_other x (r ∷ rs) (suc j) n h at = meets_no_other x rs j n (and_parts (are_apart x r) (list_all (are_apart x) rs) h).1 at

regions_apart : (rs : List Region) → all_apart rs ≡ true → AreApart (map own_address rs)
regions_apart [] h i j m n less at to = absurd (cc)
regions_apart (r ∷ rs) h i zero m n less at to = absurd (omega (arith, less))
regions_apart (r ∷ rs) h zero (suc j) m n less at to =
    subst (λ (z : Mapping). meets_iova z.iova z.size n ≡ false) (some_same (own_address r) m (Some (own_address r)) refl at)
    (meets_no_other r rs j n (and_parts (list_all (are_apart r) rs) (all_apart rs) h).0 to)
regions_apart (r ∷ rs) h (suc i) (suc j) m n less at to =
    regions_apart rs (and_parts (list_all (are_apart r) rs) (all_apart rs) h).1 i j m n (omega (arith, less)) at to

pass_made : (plan : Plan) → are_regions plan.regions ≡ true → CanBeMade (pass_map plan)
pass_made plan placed =
    let parts = region_parts plan.regions placed in
    record {
      few = omega (arith, length-map plan.regions own_address, few_regions plan.regions placed);
      lie = regions_lie plan.regions parts.1;
      apart = regions_apart plan.regions parts.2;
    }

-- ---- in either mode

pub map_made : (plan : Plan) (m : Mode) (ms : List Mapping) → are_regions plan.regions ≡ true → IsTreeOf plan ms → CanBeMade (map_in plan m)
map_made plan Pass ms placed t = pass_made plan placed
map_made plan Shadow ms placed t = record {
  few = omega (arith, t.many, few_regions plan.regions placed);
  lie = λ i k at. All-at Lies (shadow_map plan) i k at t.within;
  apart = t.apart;
}

pub map_many : (plan : Plan) (m : Mode) (ms : List Mapping) → IsTreeOf plan ms → length (map_in plan m) ≡ length plan.regions
map_many plan Pass ms t = length-map plan.regions own_address
map_many plan Shadow ms t = t.many

-- where a tree has the first byte of a range that it has
pub to_first : (t : Tree) (addr size iova : ℕ) → IsKept t → 0 < size → to t.mappings addr size ≡ Some iova
    → to t.mappings addr 1 ≡ Some iova
to_first t addr size iova kept some e =
    let got = found_by (λ (m : Mapping). m.iova + (addr - m.guest)) (find (holds_guest addr size) t.mappings) iova e in
    let m : Mapping = got.0 in
    let is = found (holds_guest addr size) t.mappings m got.1 in
    let ends = ends_from_holds m.guest m.size addr size is.1 in
    let here = only_holds (λ n. n.guest) t.mappings addr 1 m (single_guest t.first t.last t.mappings kept.apart kept.within) (omega arith)
    is.0 (holds_from_ends m.guest m.size addr 1 ends.0 (omega (arith, ends.1, some))) in
    ap (option_map (λ (n : Mapping). n.iova + (addr - n.guest))) here ∙ ap Some got.2

-- the iova of a region in a shadow epoch
pub shadow_iova : (plan : Plan) (t : Tree) (i iova : ℕ) (r : Region) → IsTreeOf plan t.mappings → IsKept t
    → slice_get plan.regions i ≡ Some r → to t.mappings r.addr 1 ≡ Some iova
    → slice_get (shadow_map plan) i ≡ Some (record { iova = iova; size = r.size; guest = r.addr })
shadow_iova plan t i iova r tree kept at is =
    let h = tree.regions i r at in
    let some : 0 < r.size = omega (arith, h.2, (All-at Lies (shadow_map plan) i h.0 h.1 tree.within).0) in
    let first = to_first t r.addr r.size h.0.iova kept some h.4 in
    let same : h.0 ≡ record { iova = iova; size = r.size; guest = r.addr } =
    same_mapping h.0 iova r.size r.addr (some_same h.0.iova iova (to t.mappings r.addr 1) first is) h.2 h.3 in
    h.1 ∙ ap Some same
  where
    same_mapping : (m : Mapping) (iova size guest : ℕ) → m.iova ≡ iova → m.size ≡ size → m.guest ≡ guest
        → m ≡ record { iova = iova; size = size; guest = guest }
    same_mapping m iova size guest hi hs hg =
        ap (λ (z : ℕ). let k : Mapping = record { iova = z; size = m.size; guest = m.guest } in k) hi
        ∙ ap (λ (z : ℕ). let k : Mapping = record { iova = iova; size = z; guest = m.guest } in k) hs
        ∙ ap (λ (z : ℕ). let k : Mapping = record { iova = iova; size = size; guest = z } in k) hg

-- every region has one
pub shadow_some : (plan : Plan) (t : Tree) (i : ℕ) (r : Region) → IsTreeOf plan t.mappings → IsKept t → slice_get plan.regions i ≡ Some r
    → (iova : ℕ) × (to t.mappings r.addr 1 ≡ Some iova)
shadow_some plan t i r tree kept at =
    let h = tree.regions i r at in
    let some : 0 < r.size = omega (arith, h.2, (All-at Lies (shadow_map plan) i h.0 h.1 tree.within).0) in
    (h.0.iova, to_first t r.addr r.size h.0.iova kept some h.4)

pub pass_at : (plan : Plan) (i : ℕ) (r : Region) → slice_get plan.regions i ≡ Some r → slice_get (pass_map plan) i ≡ Some (own_address r)
pass_at plan i r at = slice_get-map own_address plan.regions i ∙ ap (option_map own_address) at

-- it lies low
pub region_low : (plan : Plan) (t : Tree) (i : ℕ) (r : Region) → IsTreeOf plan t.mappings → slice_get plan.regions i ≡ Some r
    → r.addr < 2 ^ 63
region_low plan t i r tree at =
    let h = tree.regions i r at in
    let lies = All-at Lies (shadow_map plan) i h.0 h.1 tree.within in
    omega (arith, lies.0, lies.2, h.2, h.3)
