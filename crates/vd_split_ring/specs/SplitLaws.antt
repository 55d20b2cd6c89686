-- What always holds of a split ring whose words and views meet the invariant. Each is the contract of a function in src/laws.rt.
use Rattle.std.specs.Prelude.{◌≡◌, ◌↔◌, ℕ, ◌+◌, ◌<◌, ◌≤◌, true, List, length, take, slice_index, replicate}
use Rattle.vd_ring.specs.declared.frame.Frame.{Frame}
use Rattle.vd_ring.specs.declared.driver.DriverDone.{DriverDone}
use Rattle.vd_ring.specs.declared.driver.DriverView.{DriverView}
use Rattle.vd_ring.specs.declared.device.DeviceDone.{DeviceDone}
use Rattle.vd_ring.specs.declared.device.DeviceView.{DeviceView}
use Rattle.vd_ring.specs.Account.{Ordered}
use Rattle.vd_ring.specs.Fresh.{fresh_driver, fresh_device}
use Rattle.vd_ring.specs.History.{offers, collects, takes, gives, open_size, numbers, occurs, used_at}
use Rattle.vd_split_ring.specs.SplitWords.{width, used_from, lane_word, shows}
use Rattle.vd_split_ring.specs.SplitRing.{Ring}

-- words of 0 and the views of a fresh ring meet the invariant
abbrev pub IsFresh : Frame → Type 0
IsFresh f = Ring (replicate (width f) 0) (fresh_driver f (width f)) (fresh_device f (width f))

-- the lists of the two sides agree
pub record Agree (f : Frame) (o : List DriverDone) (s : List DeviceDone) : Type 0 where
  -- the chains taken are the first ones offered, and the entries collected the first ones given
  pub taken : takes s ≡ take (length (takes s)) (offers o)
  pub collected : collects o ≡ take (length (collects o)) (gives s)
  -- the numbers given differ, and each is one of a chain taken
  pub differ : (k : ℕ) → occurs k (numbers (gives s)) ≤ 1
  pub below : (j : ℕ) → j < length (gives s) → (used_at (gives s) j).number < length (takes s)
  -- collected, given, taken, offered: each count is at most the next one
  pub counts : (length (collects o) ≤ length (gives s)) × (length (gives s) ≤ length (takes s)) × (length (takes s) ≤ length (offers o))
  -- the chains offered and not collected, and so their descriptors, are no more than the ring's places
  pub few : length (offers o) ≤ length (collects o) + f.size
  pub room : open_size f o ≤ f.size
  -- under IN_ORDER the entries given, and so those collected, are in the order in which the chains were offered
  pub given_ordered : f.features.in_order ≡ true → Ordered (gives s)
  pub collected_ordered : f.features.in_order ≡ true → Ordered (collects o)

-- the word that a look loads, and what it shows: nothing further exactly where all entries given are collected, or all chains
-- offered are taken
pub record LooksShow (ws : List ℕ) (d : DriverView) (e : DeviceView) : Type 0 where
  pub driver : (shows (slice_index ws (used_from d.frame)) (length (collects d.done)) ≡ true) ↔
      (length (gives e.done) ≡ length (collects d.done))
  pub device : (shows (slice_index ws (lane_word d.frame 1)) (length (takes e.done)) ≡ true) ↔
      (length (offers d.done) ≡ length (takes e.done))
