-- What a play leaves of the control queue's guest and device.
use Rattle.std.specs.Prelude.{◌≡◌, ℕ, ◌+◌, ◌-◌, ◌<◌, ◌≤◌, ◌++◌, List, length, map, take, slice_get, Some, None}
use Rattle.std.specs.List.{All}
use mathlib.Core.List.{IsPrefix}
use Rattle.vd_model.specs.declared.base.Base.{Base}
use Rattle.vd_model.specs.declared.record.Begun.{Begun}
use Rattle.vd_model.specs.declared.record.Return.{Return}
use Rattle.vd_ring.specs.declared.driver.DriverView.{DriverView}
use Rattle.vd_ring.specs.History.{occurs}
use Rattle.vd_machine.specs.File.{Plan}
use Rattle.vd_play.specs.declared.bench.Bench.{Bench}
use Rattle.vd_play.specs.Commands.{control_queue, control_commands, control_epochs, sent_at, settings_of, replayed_commands, IsAnswered, AreAnswered}
use Rattle.vd_play.specs.ControlJournal.{epoch_commands, commands_before, journal_commands, control_events, AreCommandBases}
use Rattle.vd_play.specs.Epochs.{Epoch}
use Rattle.vd_play.specs.Places.{HasControl, control_place}
use Rattle.vd_play.specs.Returned.{returned_numbers}
use Rattle.vd_play.specs.Setting.{Setting}

-- the bytes of the commands that were begun
abbrev pub bytes_of : List Begun → List (List ℕ)
bytes_of bs = map (λ b. b.bytes.items) bs

-- each was begun with the length of its ack, one byte
abbrev pub HasAckLength : Begun → Type 0
HasAckLength b = b.len ≡ 1

-- the device's journal is the one that the machine orders
pub record IsCommandJournal {D E G X C : Type 0} (s : Setting D E G X C) (plan : Plan) (device : X) : Type 0 where
  pub bases : ℕ → Base
  pub based : AreCommandBases s.device s.layout plan bases
  pub events : s.party.events device ≡ control_events s.layout plan bases
  pub commands : bytes_of (s.party.begun device) ≡ journal_commands plan
  pub each : All HasAckLength (s.party.begun device)

-- the control queue was played to its end: its journal is whole, and what its commands set is set; its guest has offered all its
-- commands, got each back with its ack, and was halted
pub record IsCommandsPlayed {D E G X C : Type 0} (s : Setting D E G X C) (plan : Plan) (guest : G) (device : X) : Type 0 where
  pub journal : IsCommandJournal s plan device
  pub settings : s.party.settings device ≡ settings_of plan
  pub free : s.party.attached device ≡ None
  pub script : s.guest.script guest ≡ Some (control_queue plan)
  pub offered : s.guest.offered guest ≡ length (control_commands plan)
  pub returned : AreAnswered plan.features.in_order (control_commands plan) (s.guest.returned guest)
  pub halted : (v : DriverView) → s.guest.holds guest v → ⊥

-- ---- cut off

-- what was begun are the commands of the epochs before k, and the first `within` of epoch k's: of these, its replay left out, and of those
-- before are the guest's own that were begun
pub record AreBegunUpTo (plan : Plan) (begun : List Begun) (own : ℕ) : Type 0 where
  pub k : ℕ
  pub epoch : Epoch
  pub is : slice_get (control_epochs plan) k ≡ Some epoch
  pub within : ℕ
  pub commands : bytes_of begun ≡ commands_before plan k ++ take within (epoch_commands plan epoch)
  pub inside : within ≤ length (epoch_commands plan epoch)
  pub sent : own ≡ sent_at plan k + (within - length (replayed_commands plan epoch))

-- it is one of the guest's commands that were begun, with its ack
pub record IsAnsweredBegun (plan : Plan) (own : ℕ) (r : Return) : Type 0 where
  pub begun : r.number < own
  pub answered : IsAnswered (control_commands plan) r

-- the play of the control queue was cut off: its journal is the beginning of the whole one, and each command that came back was begun,
-- came back once, and has its ack
pub record AreCommandsCut {D E G X C : Type 0} (s : Setting D E G X C) (plan : Plan) (guest : G) (device : X) : Type 0 where
  pub bases : ℕ → Base
  pub based : AreCommandBases s.device s.layout plan bases
  pub events : IsPrefix (s.party.events device) (control_events s.layout plan bases)
  pub own : ℕ
  pub commands : AreBegunUpTo plan (s.party.begun device) own
  pub each : All HasAckLength (s.party.begun device)
  pub once : (k : ℕ) → occurs k (returned_numbers (s.guest.returned guest)) ≤ 1
  pub returned : All (IsAnsweredBegun plan own) (s.guest.returned guest)

-- ---- of a whole bench

-- so it is with the guest and the device of the control queue, where there is one
abbrev pub AtControl : {G X : Type 0} → (G → X → Type 0) → Plan → Bench G X → Type 0
AtControl P plan bench = HasControl plan → (guest : _) (device : _) → slice_get bench.guests.items (control_place plan) ≡ Some guest
    → slice_get bench.devices.items (control_place plan) ≡ Some device → P guest device

abbrev pub AllCommandsPlayed : {D E G X C : Type 0} → Setting D E G X C → Plan → Bench G X → Type 0
AllCommandsPlayed s plan bench = AtControl (IsCommandsPlayed s plan) plan bench

abbrev pub AllCommandsCut : {D E G X C : Type 0} → Setting D E G X C → Plan → Bench G X → Type 0
AllCommandsCut s plan bench = AtControl (AreCommandsCut s plan) plan bench
