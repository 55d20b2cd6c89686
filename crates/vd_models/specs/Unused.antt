-- A party as it was made.
use Rattle.std.specs.Prelude.{◌≡◌, ℕ, ◌≤◌, None, [], length}
use Rattle.vd_ring.specs.declared.device.DeviceView.{DeviceView}
use Rattle.vd_ring.specs.History.{running}
use Rattle.vd_control.specs.Settings.{default}
use Rattle.vd_bus.specs.Device.{DeviceParty}
use Rattle.vd_bus.specs.Guest.{GuestParty}
use Rattle.vd_bus.specs.Scripts.{most_window}

abbrev pub IsWindow : ℕ → Type 0
IsWindow n = (1 ≤ n) × (n ≤ most_window)

-- a device that was never attached
pub record IsUnused {X C : Type 0} (m : DeviceParty X C) (x : X) : Type 0 where
  pub attached : m.attached x ≡ None
  pub events : m.events x ≡ []
  pub begun : m.begun x ≡ []
  pub settings : m.settings x ≡ default
  pub counts : (m.accesses x ≡ 0) × (m.heard x ≡ 0)

-- a guest that was never loaded
pub record IsUnloaded {X : Type 0} (m : GuestParty X) (x : X) : Type 0 where
  pub script : m.script x ≡ None
  pub counts : (m.accesses x ≡ 0) × (m.heard x ≡ 0)

-- at most so many chains run on the ring whose end it holds
abbrev pub HoldsAtMost : {X C : Type 0} → DeviceParty X C → X → ℕ → Type 0
HoldsAtMost m x n = (w : DeviceView) → m.holds x w → length (running w.done) ≤ n
