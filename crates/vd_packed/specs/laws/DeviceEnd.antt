-- Lemmas: for which views the device's end of a packed ring stands, and what it has begun.
use Rattle.std.specs.Prelude.{◌≡◌, Bool, true, false, None, Some, if◌then◌else◌}
use Rattle.std.proofs.Common.{ap, ◌∙◌}
use Rattle.vd_ring.specs.declared.device.DeviceView.{DeviceView}
use Rattle.vd_packed_ring.specs.PackedPositions.{take_position}
use Rattle.vd_packed.specs.declared.device.PackedDevice.{PackedDevice}
use Rattle.vd_packed.specs.DeviceEnd.{DeviceStands}

-- an end that is not armed stands for views that are not
pub not_armed : (e : PackedDevice) (v : DeviceView) → DeviceStands e v → e.armed ≡ false → v.armed ≡ None
not_armed e v st off = st.signals.is_armed ∙ ap (λ (b : Bool). if b then Some (take_position v.frame v.done) else None) off

pub is_armed : (e : PackedDevice) (v : DeviceView) → DeviceStands e v → e.armed ≡ true → v.armed ≡ Some (take_position v.frame v.done)
is_armed e v st on = st.signals.is_armed ∙ ap (λ (b : Bool). if b then Some (take_position v.frame v.done) else None) on
