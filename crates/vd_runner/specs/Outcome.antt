-- What the play of a machine leaves of the parties of a bench, and of the sink.
use Rattle.std.specs.Prelude.{◌≡◌, ◌⊎◌, ℕ, ◌<◌, Bool, List, length, slice_get, Option, Some}
use Rattle.std.specs.Io.KnownBytes.{Appends}
use Rattle.vd_stream.specs.Causes.{Rose}
use Rattle.vd_stream.specs.Sinks.{AppendsFront}
use Rattle.vd_bus.specs.Device.{DeviceParty}
use Rattle.vd_machine.specs.File.{Plan}
use Rattle.vd_play.specs.Each.{HasLanes}
use Rattle.vd_play.specs.Played.{AllPlayed, AllCut, KeepsBench, HasNoFault, IsFaultOf}
use Rattle.vd_play.specs.Prepared.{IsUntouched}
use Rattle.vd_play.specs.Setting.{Setting}
use Rattle.vd_play.specs.declared.bench.Bench.{Bench}
use Rattle.vd_runner.specs.declared.status.Status.{Status}
use Rattle.vd_runner.specs.declared.status.Status.TheVariants as status
use Rattle.vd_runner.specs.Report.{report, all_lens}

-- each queue had its parties and was played to its end: the device's journal is what the machine orders, and each chain came
-- back to the guest once, with the length that the device gave. No device refused an attach, and the other parties are as they were
pub record IsWellPlayed {D E G X C : Type 0} (s : Setting D E G X C) (plan : Plan) (old new : Bench G X) : Type 0 where
  pub parties : HasLanes (length plan.queues) old
  pub keeps : KeepsBench s.party (length plan.queues) old new
  pub calm : HasNoFault s.party old new
  pub played : AllPlayed s plan new

-- each queue had its parties, and queue q's device refused an attach, which cut the play off
pub record IsCutOff {D E G X C : Type 0} (s : Setting D E G X C) (plan : Plan) (q : ℕ) (old new : Bench G X) : Type 0 where
  pub parties : HasLanes (length plan.queues) old
  pub keeps : KeepsBench s.party (length plan.queues) old new
  pub fault : IsFaultOf s.party (length plan.queues) q old new
  pub cut : AllCut s plan new

-- each queue had its parties, and the bench was prepared for a play that was not begun
pub record IsUnplayed {D E G X C : Type 0} (s : Setting D E G X C) (plan : Plan) (old new : Bench G X) : Type 0 where
  pub parties : HasLanes (length plan.queues) old
  pub keeps : KeepsBench s.party (length plan.queues) old new
  pub untouched : IsUntouched s.guest s.party old new

-- the bench has so many guests and devices, and fewer of the one or of the other than the machine has queues
pub record HasTooFew {G V : Type 0} (plan : Plan) (need guests devices : ℕ) (bench : Bench G V) : Type 0 where
  pub need_is : need ≡ length plan.queues
  pub guests_are : guests ≡ length bench.guests.items
  pub devices_are : devices ≡ length bench.devices.items
  pub few : (guests < need) ⊎ (devices < need)

-- a device's count of faults rose
pub record SomeRose {G X C : Type 0} (m : DeviceParty X C) (old new : Bench G X) : Type 0 where
  pub queue : ℕ
  pub before : X
  pub after : X
  pub was : slice_get old.devices.items queue ≡ Some before
  pub is : slice_get new.devices.items queue ≡ Some after
  pub rose : Rose (m.faults before) (m.faults after)

-- how a machine that was read is played: what each answer says of the bench, of what the sink holds, and of its count of faults
abbrev pub PlaysTo : {D E G X C : Type 0} → Setting D E G X C → Plan → Bool → Bench G X → Bench G X
    → Option (List ℕ) → Option (List ℕ) → ℕ → ℕ → Status → Type 0
PlaysTo s plan brief old new held now before after status.Ok =
    IsWellPlayed s plan old new × Appends held now (report plan brief (all_lens s.party plan new))
PlaysTo s plan brief old new held now before after status.WriteFault =
    IsWellPlayed s plan old new × AppendsFront held now (report plan brief (all_lens s.party plan new)) × Rose before after
PlaysTo s plan brief old new held now before after (status.DeviceFault q) = IsCutOff s plan q old new × (now ≡ held)
PlaysTo s plan brief old new held now before after (status.TooFewParties need guests devices) =
    HasTooFew plan need guests devices old × (new ≡ old) × (now ≡ held)
PlaysTo s plan brief old new held now before after status.Memory = IsUnplayed s plan old new × (now ≡ held)
PlaysTo s plan brief old new held now before after _ = ⊥
