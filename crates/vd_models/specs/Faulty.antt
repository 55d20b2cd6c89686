-- When a device has refused the attach of its number.
use Rattle.std.specs.Prelude.{◌≡◌, ℕ, ◌+◌, List, drop, length, nat_lt, if◌then◌else◌}
use Rattle.vd_bus.specs.declared.event.Event.{Event}
use Rattle.vd_bus.specs.Device.{DeviceParty}
use Rattle.vd_bus.specs.Pace.{attaches}
use Rattle.vd_models.specs.declared.refusal.Refusal.{Refusal}

-- how many attaches were asked of a device with this journal: those that it has, and those that were refused
abbrev pub asked : Refusal → List Event → ℕ → ℕ
asked r es faults = attaches (drop r.after es) + faults

-- one attach was refused where its number is among those asked, and else none
abbrev pub refused : ℕ → ℕ → ℕ
refused number asked = if nat_lt 0 number then (if nat_lt asked number then 0 else 1) else 0

-- the same by how many are left until the one of that number
abbrev pub was_refused : ℕ → ℕ → ℕ
was_refused number left = if nat_lt 0 number then (if nat_lt 0 left then 0 else 1) else 0

-- the next attach that is asked is the one that is refused
abbrev pub RefusesNext : {X : Type 0} → DeviceParty X Refusal → X → Type 0
RefusesNext m x = asked (m.carried x) (m.events x) (m.faults x) + 1 ≡ (m.carried x).number

-- how many attaches the device has refused, by what it was asked
abbrev pub refusals : {X : Type 0} → DeviceParty X Refusal → X → ℕ → ℕ
refusals m x faults = refused (m.carried x).number (asked (m.carried x) (m.events x) faults)

-- the device is the inner one, and counts attaches from now on
pub record IsAround {X Y C : Type 0} (m : DeviceParty X Refusal) (n : DeviceParty Y C) (x : X) (y : Y) : Type 0 where
  pub attached : m.attached x ≡ n.attached y
  pub events : m.events x ≡ n.events y
  pub begun : m.begun x ≡ n.begun y
  pub settings : m.settings x ≡ n.settings y
  pub window : m.window x ≡ n.window y
  pub counts : (m.accesses x ≡ n.accesses y) × (m.heard x ≡ n.heard y)
  pub after : (m.carried x).after ≡ length (n.events y)
