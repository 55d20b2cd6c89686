-- What a renewal leaves of the devices.
use Rattle.std.specs.Prelude.{◌≡◌, ℕ, ◌<◌, ◌≤◌, Bool, true, false, List, slice_get, Some, None}
use Rattle.std.specs.List.{sum_by}
use Rattle.vd_bus.specs.Device.{DeviceParty, IsReset}
use Rattle.vd_machine.specs.File.{Plan}
use Rattle.vd_machine.specs.declared.machine.Switch.{Switch}
use Rattle.vd_machine.specs.declared.machine.To.{To}
use Rattle.vd_machine.specs.declared.machine.To.TheVariants as to
use Rattle.vd_play.specs.declared.bench.Bench.{Bench}
use Rattle.vd_play.specs.declared.floor.Lane.{Lane}
use Rattle.vd_play.specs.Each.{EachLane}
use Rattle.vd_play.specs.Epochs.{renewed_at}
use Rattle.vd_play.specs.Progress.{Stopped}
use Rattle.vd_play.specs.Setting.{Setting}

-- one for a renewal
abbrev pub renewal_count : To → ℕ
renewal_count to.Renew = 1
renewal_count _ = 0

-- how many of the switches are renewals
abbrev pub renewals : List Switch → ℕ
renewals ss = sum_by (λ (s : Switch). renewal_count s.to) ss

-- a device was reset where there is a renewal, and is as it was where there is none
abbrev pub IsRenewed : {X C : Type 0} → DeviceParty X C → Bool → X → X → Type 0
IsRenewed m true x y = IsReset m x y
IsRenewed m false x y = y ≡ x

-- each of the first n devices can be reset
abbrev pub CanReset : {G X C : Type 0} → DeviceParty X C → ℕ → Bench G X → Type 0
CanReset m n bench = (q : ℕ) (x : _) → q < n → slice_get bench.devices.items q ≡ Some x → (m.attached x ≡ None) × (1 ≤ m.event_room x)

-- so it is with each of the first n devices
abbrev pub AreRenewed : {G X C : Type 0} → DeviceParty X C → Bool → ℕ → Bench G X → Bench G X → Type 0
AreRenewed m renewed n old new = (q : ℕ) (x y : _) → q < n → slice_get old.devices.items q ≡ Some x
    → slice_get new.devices.items q ≡ Some y → IsRenewed m renewed x y

-- the lane is still before epoch k, and its device was reset where the epoch begins with a renewal
pub record Renewed {L D E G X C : Type 0} (s : Setting D E G X C) (plan : Plan) (q k : ℕ) (lane : Lane L D E) (guest : G) (device : X)
    : Type 0 where
  pub before : X
  pub stopped : Stopped s plan q k lane guest before
  pub renewed : IsRenewed s.party (renewed_at plan k) before device

abbrev pub AllRenewed : {L D E G X C : Type 0} → Setting D E G X C → Plan → ℕ → List (Lane L D E) → Bench G X → Type 0
AllRenewed s plan k lanes bench = EachLane (λ q a b x. Renewed s plan q k a b x) lanes bench.guests.items bench.devices.items
