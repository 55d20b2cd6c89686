-- Lemmas: for which views the driver's end of a packed ring stands, and what it has begun.
use Rattle.std.specs.Prelude.{◌≡◌, Bool, true, false, if◌then◌else◌, Some, None}
use Rattle.std.proofs.Common.{ap, ◌∙◌}
use Rattle.vd_ring.specs.declared.driver.DriverView.{DriverView}
use Rattle.vd_packed_ring.specs.PackedPositions.{collect_position}
use Rattle.vd_packed.specs.declared.driver.PackedDriver.{PackedDriver}
use Rattle.vd_packed.specs.DriverEnd.{DriverStands}

-- an end that is not armed stands for views that are not
pub not_armed : (e : PackedDriver) (v : DriverView) → DriverStands e v → e.armed ≡ false → v.armed ≡ None
not_armed e v st off = st.signals.is_armed ∙ ap (λ (b : Bool). if b then Some (collect_position v.frame v.done) else None) off

pub is_armed : (e : PackedDriver) (v : DriverView) → DriverStands e v → e.armed ≡ true → v.armed ≡ Some (collect_position v.frame v.done)
is_armed e v st on = st.signals.is_armed ∙ ap (λ (b : Bool). if b then Some (collect_position v.frame v.done) else None) on
