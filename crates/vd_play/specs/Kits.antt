-- The shadow rings that a lane keeps for the epochs to come.
use Rattle.std.specs.Prelude.{◌≡◌, ℕ, ◌+◌, ◌*◌, ◌≤◌, false, List, length, replicate, slice_get, Some}
use Rattle.vd_model.specs.declared.base.Mode.TheVariants.{Shadow}
use Rattle.vd_layout.specs.Driver.{DriverModel}
use Rattle.vd_layout.specs.Device.{DeviceModel}
use Rattle.vd_layout.specs.Layout.{LayoutModel}
use Rattle.vd_switch.specs.Kits.{IsKit}
use Rattle.vd_machine.specs.File.{Plan}
use Rattle.vd_play.specs.declared.floor.ShadowRing.{ShadowRing}
use Rattle.vd_play.specs.Epochs.{mode_at}
use Rattle.vd_play.specs.Journal.{shadow_frame}
use Rattle.vd_play.specs.Rings.{shadows, shadows_before}

-- a fresh ring of queue q for epoch k, with words of 0, and both its ends with an empty table
pub record IsShadowRing {L D E : Type 0} (d : DriverModel D) (e : DeviceModel E) (l : LayoutModel) (plan : Plan) (q k : ℕ)
    (ring : ShadowRing L D E) : Type 0 where
  pub numbered : ring.words.ring ≡ 16 * (k + 1) + q
  pub words : ring.words.words ≡ replicate (l.width (shadow_frame l plan (16 * (k + 1) + q))) 0
  pub kit : IsKit d e l plan.size plan.features false ring.kit.driver ring.kit.device ring.kit.table

-- one for each epoch of the mode shadow from k on, the next one last
pub record HasKits {L D E : Type 0} (d : DriverModel D) (e : DeviceModel E) (l : LayoutModel) (plan : Plan) (q k : ℕ)
    (kits : List (ShadowRing L D E)) : Type 0 where
  pub many : length kits + shadows_before plan k ≡ shadows plan
  pub each : (j i : ℕ) (ring : ShadowRing L D E) → k ≤ j → mode_at plan j ≡ Shadow → i + 1 + shadows_before plan j ≡ shadows plan
      → slice_get kits i ≡ Some ring → IsShadowRing d e l plan q j ring
