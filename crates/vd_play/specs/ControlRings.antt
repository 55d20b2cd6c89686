-- The control queue's rings: its guest's, and a shadow ring for every epoch, the closing one too.
use Rattle.std.specs.Prelude.{◌≡◌, ℕ, ◌+◌, ◌*◌, true, None, List, length, replicate, slice_get, Some}
use Rattle.vd_ring.specs.declared.frame.Frame.{Frame}
use Rattle.vd_layout.specs.Both.{plain_frame}
use Rattle.vd_layout.specs.Driver.{DriverModel}
use Rattle.vd_layout.specs.Device.{DeviceModel}
use Rattle.vd_layout.specs.Layout.{LayoutModel}
use Rattle.vd_switch.specs.Kits.{IsKit}
use Rattle.vd_machine.specs.File.{Plan}
use Rattle.vd_play.specs.declared.floor.ShadowRing.{ShadowRing}

-- the guest's ring has the number 15. A control ring has words for commands and acks, and no bounds
abbrev pub control_frame : LayoutModel → Plan → Frame
control_frame l plan = plain_frame l 15 plan.size plan.features true None

-- the shadow ring of epoch k, which the device serves
abbrev pub control_ring : ℕ → ℕ
control_ring k = 16 * (k + 1) + 15

abbrev pub control_shadow_frame : LayoutModel → Plan → ℕ → Frame
control_shadow_frame l plan k = plain_frame l (control_ring k) plan.size plan.features true None

-- ---- what a lane keeps for them

-- a fresh shadow ring for epoch k, with words of 0, and both its ends with an empty table
pub record IsControlRing {L D E : Type 0} (d : DriverModel D) (e : DeviceModel E) (l : LayoutModel) (plan : Plan) (k : ℕ)
    (ring : ShadowRing L D E) : Type 0 where
  pub numbered : ring.words.ring ≡ control_ring k
  pub words : ring.words.words ≡ replicate (l.width (control_shadow_frame l plan k)) 0
  pub kit : IsKit d e l plan.size plan.features true ring.kit.driver ring.kit.device ring.kit.table

-- one for each epoch from k on, the next one last
pub record HasControlKits {L D E : Type 0} (d : DriverModel D) (e : DeviceModel E) (l : LayoutModel) (plan : Plan) (k : ℕ)
    (kits : List (ShadowRing L D E)) : Type 0 where
  pub many : length kits + k ≡ length plan.switches + 2
  pub each : (j i : ℕ) (ring : ShadowRing L D E) → i + 1 + j ≡ length plan.switches + 2 → slice_get kits i ≡ Some ring
      → IsControlRing d e l plan j ring
