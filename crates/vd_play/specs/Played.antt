-- What a play leaves of the parties of a bench.
use Rattle.std.specs.Prelude.{◌≡◌, ◌≢◌, ℕ, ◌<◌, ◌≤◌, length, map, slice_get, Some, None}
use Rattle.std.specs.List.{All}
use mathlib.Core.List.{IsPrefix}
use Rattle.vd_ring.specs.declared.driver.DriverView.{DriverView}
use Rattle.vd_ring.specs.History.{occurs}
use Rattle.vd_bus.specs.Device.{DeviceParty, IsBegun, chains_of, lens_of}
use Rattle.vd_bus.specs.Pace.{raised}
use Rattle.vd_machine.specs.File.{Plan}
use Rattle.vd_play.specs.declared.bench.Bench.{Bench}
use Rattle.vd_play.specs.declared.epoch.PlayFault.{PlayFault}
use Rattle.vd_play.specs.declared.epoch.PlayFault.TheVariants.{Device}
use Rattle.vd_play.specs.Journal.{journal_events, journal_chains, queue_script, queue_chains, HasLen, IsReturned}
use Rattle.vd_play.specs.Returned.{returned_numbers}
use Rattle.vd_play.specs.Setting.{Setting}

-- the device's journal is the one that the machine orders, with the lengths that the device gave
pub record IsJournal {D E G X C : Type 0} (s : Setting D E G X C) (plan : Plan) (q : ℕ) (device : X) : Type 0 where
  pub events : s.party.events device ≡ journal_events s.device s.layout plan q
  pub chains : chains_of (s.party.begun device) ≡ journal_chains plan q
  pub each : All IsBegun (s.party.begun device)

-- queue q was played to its end: its journal is whole, and its guest has offered its whole script, got each chain back, and was
-- halted
pub record IsPlayed {D E G X C : Type 0} (s : Setting D E G X C) (plan : Plan) (q : ℕ) (guest : G) (device : X) : Type 0 where
  pub journal : IsJournal s plan q device
  pub free : s.party.attached device ≡ None
  pub script : s.guest.script guest ≡ Some (queue_script plan q)
  pub offered : s.guest.offered guest ≡ length (queue_chains plan q)
  pub returned : IsReturned plan.features.in_order (lens_of (s.party.begun device)) (s.guest.returned guest)
  pub halted : (v : DriverView) → s.guest.holds guest v → ⊥

-- the play of queue q was cut off: its journal is the beginning of the whole one, and each chain that came back was begun, came
-- back once, and has the length that was given for it
pub record IsCut {D E G X C : Type 0} (s : Setting D E G X C) (plan : Plan) (q : ℕ) (guest : G) (device : X) : Type 0 where
  pub events : IsPrefix (s.party.events device) (journal_events s.device s.layout plan q)
  pub chains : IsPrefix (chains_of (s.party.begun device)) (journal_chains plan q)
  pub each : All IsBegun (s.party.begun device)
  pub once : (k : ℕ) → occurs k (returned_numbers (s.guest.returned guest)) ≤ 1
  pub returned : All (HasLen (lens_of (s.party.begun device))) (s.guest.returned guest)

-- ---- of a whole bench

-- so it is with the parties of each queue
abbrev pub EachQueue : {G V : Type 0} → (ℕ → G → V → Type 0) → Plan → Bench G V → Type 0
EachQueue P plan bench = (q : ℕ) (guest : _) (device : _) → q < length plan.queues → slice_get bench.guests.items q ≡ Some guest
    → slice_get bench.devices.items q ≡ Some device → P q guest device

abbrev pub AllPlayed : {D E G X C : Type 0} → Setting D E G X C → Plan → Bench G X → Type 0
AllPlayed s plan bench = EachQueue (IsPlayed s plan) plan bench

abbrev pub AllCut : {D E G X C : Type 0} → Setting D E G X C → Plan → Bench G X → Type 0
AllCut s plan bench = EachQueue (IsCut s plan) plan bench

-- each device is at its place, with what it carries; and the parties beyond the first n are as they were
pub record KeepsBench {G X C : Type 0} (m : DeviceParty X C) (n : ℕ) (old new : Bench G X) : Type 0 where
  pub guests : length new.guests.items ≡ length old.guests.items
  pub carried : map m.carried new.devices.items ≡ map m.carried old.devices.items
  pub other_guests : (k : ℕ) → n ≤ k → slice_get new.guests.items k ≡ slice_get old.guests.items k
  pub other_devices : (k : ℕ) → n ≤ k → slice_get new.devices.items k ≡ slice_get old.devices.items k

-- no device's count of faults rose
abbrev pub HasNoFault : {G X C : Type 0} → DeviceParty X C → Bench G X → Bench G X → Type 0
HasNoFault m old new = map m.faults new.devices.items ≡ map m.faults old.devices.items

-- the device of queue q, one of n, refused an attach: its count of faults went up by one, and no other has changed
pub record IsFaultOf {G X C : Type 0} (m : DeviceParty X C) (n q : ℕ) (old new : Bench G X) : Type 0 where
  pub queue : q < n
  pub rose : (x y : X) → slice_get old.devices.items q ≡ Some x → slice_get new.devices.items q ≡ Some y
      → m.faults y ≡ raised 1 (m.faults x)
  pub others : (k : ℕ) (x y : X) → k ≢ q → slice_get old.devices.items k ≡ Some x → slice_get new.devices.items k ≡ Some y
      → m.faults y ≡ m.faults x

-- the queue whose device refused
abbrev pub faulty : PlayFault → ℕ
faulty (Device q) = q
