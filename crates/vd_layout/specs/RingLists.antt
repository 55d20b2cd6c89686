-- What the two ends of a ring have done, as lists that a user of the ring can read.
use Rattle.std.specs.Prelude.{ℕ, List, [], ◌∷◌, ◌++◌, length, take}
use Rattle.std.specs.List.{sum_by}
use Rattle.vd_model.specs.declared.chain.Piece.{Piece}
use Rattle.vd_model.specs.declared.features.Features.{Features}
use Rattle.vd_model.specs.Chains.{needs}
use Rattle.vd_ring.specs.declared.act.DriverAct.{DriverAct}
use Rattle.vd_ring.specs.declared.act.DriverAct.TheVariants as driver_act
use Rattle.vd_ring.specs.declared.act.DeviceAct.{DeviceAct}
use Rattle.vd_ring.specs.declared.act.DeviceAct.TheVariants as device_act
use Rattle.vd_ring.specs.declared.driver.DriverDone.{DriverDone}
use Rattle.vd_ring.specs.declared.device.DeviceDone.{DeviceDone}
use Rattle.vd_ring.specs.declared.frame.Used.{Used}
use Rattle.vd_ring.specs.History.{entry, used_at, chain_at, without, offers, collects, open_at, takes, gives, running}

-- the chains offered and taken and the entries given and collected, in order; the numbers of the chains offered and not collected,
-- and of those taken and not given
pub record RingLists : Type 0 where
  pub offered : List (List Piece)
  pub taken : List (List Piece)
  pub given : List Used
  pub collected : List Used
  pub standing : List ℕ
  pub running : List ℕ

-- of a fresh ring
abbrev pub no_lists : RingLists
no_lists = record { offered = []; taken = []; given = []; collected = []; standing = []; running = [] }

-- a chain more was offered
abbrev pub and_offered : List Piece → RingLists → RingLists
and_offered c h = record {
  offered = h.offered ++ c ∷ [];
  taken = h.taken;
  given = h.given;
  collected = h.collected;
  standing =
      h.standing ++ length h.offered ∷ [];
  running = h.running;
}

-- the next of the chains offered was taken
abbrev pub and_taken : RingLists → RingLists
and_taken h = record {
  offered = h.offered;
  taken = h.taken ++ chain_at h.offered (length h.taken) ∷ [];
  given = h.given;
  collected =
      h.collected;
  standing = h.standing;
  running = h.running ++ length h.taken ∷ [];
}

-- chain k was given with the length n
abbrev pub and_given : ℕ → ℕ → RingLists → RingLists
and_given k n h = record {
  offered = h.offered;
  taken = h.taken;
  given = h.given ++ entry k n ∷ [];
  collected = h.collected;
  standing =
      h.standing;
  running = without k h.running;
}

-- the next of the entries given
abbrev pub next_entry : RingLists → Used
next_entry h = used_at h.given (length h.collected)

-- it was collected
abbrev pub and_collected : RingLists → RingLists
and_collected h = record {
  offered = h.offered;
  taken = h.taken;
  given = h.given;
  collected = h.collected ++ next_entry h ∷ [];
  standing = without (next_entry h).number h.standing;
  running = h.running;
}

-- after a rest as many chains count as taken as entries were given
abbrev pub and_rested : RingLists → RingLists
and_rested h = record {
  offered = h.offered;
  taken = take (length h.given) h.taken;
  given = h.given;
  collected = h.collected;
  standing =
      h.standing;
  running = [];
}

-- after an answer of the driver's end that offered nothing
abbrev pub after_driver : DriverAct → RingLists → RingLists
after_driver (driver_act.Collected k n i) h = and_collected h
after_driver x h = h

-- after an answer of the device's end, whose give had the length n
abbrev pub after_device : DeviceAct → ℕ → RingLists → RingLists
after_device (device_act.Taken k c) n h = and_taken h
after_device (device_act.Given k) n h = and_given k n h
after_device device_act.Rested n h = and_rested h
after_device x n h = h

-- the lists of what was done, the newest first
abbrev pub lists_of : List DriverDone → List DeviceDone → RingLists
lists_of o s = record {
  offered = offers o;
  taken = takes s;
  given = gives s;
  collected = collects o;
  standing = open_at o;
  running =
      running s;
}

-- the sum of the places of the chains that stand on the ring
abbrev pub standing_size : Features → RingLists → ℕ
standing_size f h = sum_by (λ k. needs f (chain_at h.offered k)) h.standing
