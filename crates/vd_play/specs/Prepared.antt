-- Parties as they are handed in, and what prepare leaves.
use Rattle.std.specs.Prelude.{◌≡◌, ℕ, true, List, [], length, slice_get, Some, None}
use Rattle.std.specs.List.{All}
use Rattle.vd_layout.specs.Layout.{LayoutModel}
use Rattle.vd_bus.specs.Bus.{is_lawful_base}
use Rattle.vd_bus.specs.Device.{DeviceParty, IsUnchanged}
use Rattle.vd_bus.specs.Guest.{GuestParty}
use Rattle.vd_machine.specs.File.{Plan}
use Rattle.vd_play.specs.declared.bench.Bench.{Bench}
use Rattle.vd_play.specs.declared.floor.Lane.{Lane}
use Rattle.vd_play.specs.Each.{HasLanes}
use Rattle.vd_play.specs.Progress.{AllStopped}
use Rattle.vd_play.specs.Setting.{Setting}

-- the layout can make the machine's rings, and the bus takes their bases
pub record IsOfLayout (l : LayoutModel) (plan : Plan) : Type 0 where
  pub packed : l.packed ≡ plan.packed
  pub lawful : l.lawful_size plan.size ≡ true
  pub based : (b : ℕ) → l.lawful_base plan.size b ≡ is_lawful_base plan.packed plan.size b

-- it isn't attached, its journal is empty, and it has made no step
pub record IsEmptyDevice {X C : Type 0} (m : DeviceParty X C) (x : X) : Type 0 where
  pub free : m.attached x ≡ None
  pub events : m.events x ≡ []
  pub begun : m.begun x ≡ []
  pub idle : (m.accesses x ≡ 0) × (m.heard x ≡ 0)

-- it has no script, and has made no step
pub record IsEmptyGuest {G : Type 0} (g : GuestParty G) (x : G) : Type 0 where
  pub script : g.script x ≡ None
  pub idle : (g.accesses x ≡ 0) × (g.heard x ≡ 0)

-- no guest has a script, and no device has done anything
pub record IsEmptyBench {G X C : Type 0} (g : GuestParty G) (m : DeviceParty X C) (bench : Bench G X) : Type 0 where
  pub guests : All (IsEmptyGuest g) bench.guests.items
  pub devices : All (IsEmptyDevice m) bench.devices.items

-- it has offered nothing, nothing came back, and it has made no step
pub record IsUnused {G : Type 0} (g : GuestParty G) (x : G) : Type 0 where
  pub offered : g.offered x ≡ 0
  pub returned : g.returned x ≡ []
  pub idle : (g.accesses x ≡ 0) × (g.heard x ≡ 0)

-- each guest has offered nothing and nothing came back; each device has changed in its window and its room alone
pub record IsUntouched {G X C : Type 0} (g : GuestParty G) (m : DeviceParty X C) (old new : Bench G X) : Type 0 where
  pub guests : All (IsUnused g) new.guests.items
  pub devices : (k : ℕ) (x y : X) → slice_get old.devices.items k ≡ Some x → slice_get new.devices.items k ≡ Some y → IsUnchanged m x y

-- no party of a bench has made a step
pub record IsIdle {D E G X C : Type 0} (s : Setting D E G X C) (bench : Bench G X) : Type 0 where
  pub guests : All (λ x. s.guest.accesses x ≡ 0) bench.guests.items
  pub devices : All (λ x. s.party.accesses x ≡ 0) bench.devices.items

-- each queue of the machine has a ring without chains; its guest holds the driver's end and has loaded the queue's script, its
-- device's end rests in the lane, and its device's journal is empty and has room for all that the machine orders
pub record IsPrepared {L D E G X C : Type 0} (s : Setting D E G X C) (plan : Plan) (lanes : List (Lane L D E)) (bench : Bench G X)
    : Type 0 where
  pub layout : IsOfLayout s.layout plan
  pub many : length lanes ≡ length plan.queues
  pub parties : HasLanes (length plan.queues) bench
  pub each : AllStopped s plan 0 lanes bench
  pub idle : IsIdle s bench
  pub none : All (λ (lane : Lane L D E). lane.relayed ≡ 0) lanes
