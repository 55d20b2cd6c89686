-- What always holds of a packed ring whose words and views meet the invariant. Each is the contract of a function in src/laws.rt.
use Rattle.std.specs.Prelude.{◌≡◌, ◌↔◌, ℕ, ◌+◌, ◌<◌, ◌≤◌, true, List, [], length, take, slice_index, replicate, nat_lt, if◌then◌else◌}
use Rattle.std.specs.List.{Contains}
use Rattle.vd_model.specs.Chains.{needs}
use Rattle.vd_ring.specs.declared.frame.Frame.{Frame}
use Rattle.vd_ring.specs.declared.driver.DriverDone.{DriverDone}
use Rattle.vd_ring.specs.declared.driver.DriverView.{DriverView}
use Rattle.vd_ring.specs.declared.device.DeviceDone.{DeviceDone}
use Rattle.vd_ring.specs.declared.device.DeviceView.{DeviceView}
use Rattle.vd_ring.specs.Account.{Ordered}
use Rattle.vd_ring.specs.Fresh.{fresh_driver, fresh_device}
use Rattle.vd_ring.specs.History.{offers, collects, takes, gives, running, open_size, chain_at, numbers, occurs, used_at}
use Rattle.vd_packed_ring.specs.PackedWords.{width, second_word, is_available, is_used}
use Rattle.vd_packed_ring.specs.PackedPositions.{offer_position, collect_position, take_position, give_position}
use Rattle.vd_packed_ring.specs.PackedRing.{Ring, puts_of}

-- words of 0 and the views of a fresh ring meet the invariant
abbrev pub IsFresh : Frame → Type 0
IsFresh f = Ring (replicate (width f) 0) (fresh_driver f (width f)) (fresh_device f (width f))

-- from the device's view alone: each chain taken runs or is given, and only once, and takes a descriptor at least
pub record Counts (f : Frame) (s : List DeviceDone) : Type 0 where
  pub once : (k : ℕ) → occurs k (running s) + occurs k (numbers (gives s)) ≡ (if nat_lt k (length (takes s)) then 1 else 0)
  pub some : (k : ℕ) → Contains (running s) k → 1 ≤ needs f.features (chain_at (takes s) k)

-- the lists and the positions of the two sides agree
pub record Agree (f : Frame) (o : List DriverDone) (s : List DeviceDone) : Type 0 where
  -- the chains taken are the first ones offered, and the entries collected the first ones given
  pub taken : takes s ≡ take (length (takes s)) (offers o)
  pub collected : collects o ≡ take (length (collects o)) (gives s)
  -- the numbers given differ, and each is one of a chain taken
  pub differ : (k : ℕ) → occurs k (numbers (gives s)) ≤ 1
  pub below : (j : ℕ) → j < length (gives s) → (used_at (gives s) j).number < length (takes s)
  -- collected, given, taken, offered: each count is at most the next one, and so is each position
  pub counts : (length (collects o) ≤ length (gives s)) × (length (gives s) ≤ length (takes s)) × (length (takes s) ≤ length (offers o))
  pub positions : (collect_position f o ≤ give_position f s) × (give_position f s ≤ take_position f s)
      × (take_position f s ≤ offer_position f o)
  -- the chains offered and not collected, and their descriptors, are no more than the ring's places
  pub few : length (offers o) ≤ length (collects o) + f.size
  pub room : open_size f o ≤ f.size
  pub span : offer_position f o ≤ collect_position f o + f.size
  -- under IN_ORDER the entries given, and so those collected, are in the order in which the chains were offered
  pub given_ordered : f.features.in_order ≡ true → Ordered (gives s)
  pub collected_ordered : f.features.in_order ≡ true → Ordered (collects o)
  pub device_counts : Counts f s

-- the word that a look loads, and what it shows: a further entry exactly where one given is not collected, a further chain exactly
-- where one offered is not taken. A driver looks while it has staged nothing
pub record LooksShow (ws : List ℕ) (d : DriverView) (e : DeviceView) : Type 0 where
  pub driver : puts_of d.doing ≡ []
      → (is_used d.frame.size (collect_position d.frame d.done)
      (slice_index ws (second_word d.frame.size (collect_position d.frame d.done))) ≡ true) ↔
      (length (collects d.done) < length (gives e.done))
  pub device : (is_available d.frame.size (take_position d.frame e.done)
      (slice_index ws (second_word d.frame.size (take_position d.frame e.done))) ≡ true) ↔ (length (takes e.done) < length (offers d.done))

-- a descriptor's word that the device stores is at the position of what was given before, which is below that of what was taken
pub record GivesBehind (f : Frame) (s : List DeviceDone) (p : ℕ) : Type 0 where
  pub place : p ≡ second_word f.size (give_position f s)
  pub below : give_position f s < take_position f s
