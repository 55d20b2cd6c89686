-- The tree of a shadow epoch, by which guest addresses become iovas and come back.
use Rattle.std.specs.Prelude.{◌≡◌, ℕ, ◌+◌, ◌^◌, ◌<◌, ◌≤◌, false, List, length, slice_get, Some}
use Rattle.std.specs.List.{All}
use Rattle.vd_model.specs.declared.map.Mapping.{Mapping}
use Rattle.vd_model.specs.Maps.{to}
use Rattle.vd_iova.specs.Ranges.{meets_iova}
use Rattle.vd_relay.specs.Pairing.{Covers}
use Rattle.vd_switch.specs.ShadowingLanes.{IsUndone}
use Rattle.vd_machine.specs.File.{Plan}
use Rattle.vd_machine.specs.declared.regions.Region.{Region}
use Rattle.vd_play.specs.Journal.{pass_map, shadow_map, tree_map}

-- the tree has each region at its lowest iova: where the map of a shadow epoch, in file order, has it
pub record IsTreeOf (plan : Plan) (mappings : List Mapping) : Type 0 where
  pub regions : (i : ℕ) (r : Region) → slice_get plan.regions i ≡ Some r
      → (m : Mapping) × (slice_get (shadow_map plan) i ≡ Some m) × (m.size ≡ r.size) × (m.guest ≡ r.addr)
      × (to mappings r.addr r.size ≡ Some m.iova)
  pub many : length (shadow_map plan) ≡ length plan.regions
  pub within : All (λ m. (0 < m.size) × (m.iova + m.size ≤ 2 ^ 63) × (m.guest + m.size ≤ 2 ^ 63)) (shadow_map plan)
  pub apart : (i j : ℕ) (m n : Mapping) → i < j → slice_get (shadow_map plan) i ≡ Some m → slice_get (shadow_map plan) j ≡ Some n
      → meets_iova m.iova m.size n ≡ false
  -- a range that lies in one region has one iova by both
  pub same : (addr len : ℕ) → 0 < len → to mappings addr len ≡ to (shadow_map plan) addr len
  -- and comes back from there
  pub undone : IsUndone mappings
  -- each piece that lies in the map of the mode pass has an iova
  pub covers : Covers (pass_map plan) mappings

-- it is the one that keeps the map of a shadow epoch in order of iova
pub record IsLaid (plan : Plan) (mappings : List Mapping) : Type 0 where
  pub mapped : mappings ≡ tree_map plan
  pub tree : IsTreeOf plan mappings
