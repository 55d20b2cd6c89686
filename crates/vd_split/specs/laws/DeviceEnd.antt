-- Lemmas: for which views the device's end of a split ring stands, and what it has begun.
use Rattle.std.specs.Prelude.{◌≡◌, Bool, true, false, length, None, Some, if◌then◌else◌}
use Rattle.std.proofs.Common.{ap, ◌∙◌}
use Rattle.vd_ring.specs.declared.device.DeviceView.{DeviceView}
use Rattle.vd_ring.specs.History.{takes}
use Rattle.vd_split.specs.declared.device.SplitDevice.{SplitDevice}
use Rattle.vd_split.specs.DeviceEnd.{DeviceStands}

-- an end that is not armed stands for views that are not
pub not_armed : (e : SplitDevice) (v : DeviceView) → DeviceStands e v → e.armed ≡ false → v.armed ≡ None
not_armed e v st off = st.signals.is_armed ∙ ap (λ (b : Bool). if b then Some (length (takes v.done)) else None) off

pub is_armed : (e : SplitDevice) (v : DeviceView) → DeviceStands e v → e.armed ≡ true → v.armed ≡ Some (length (takes v.done))
is_armed e v st on = st.signals.is_armed ∙ ap (λ (b : Bool). if b then Some (length (takes v.done)) else None) on
