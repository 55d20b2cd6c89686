-- Lemmas: for which views the driver's end of a split ring stands, and what it has begun.
use Rattle.std.specs.Prelude.{◌≡◌, Bool, true, false, if◌then◌else◌, length, Some, None}
use Rattle.std.proofs.Common.{ap, ◌∙◌}
use Rattle.vd_ring.specs.declared.driver.DriverView.{DriverView}
use Rattle.vd_ring.specs.History.{collects}
use Rattle.vd_split.specs.declared.driver.SplitDriver.{SplitDriver}
use Rattle.vd_split.specs.DriverEnd.{DriverStands}

-- an end that is not armed stands for views that are not
pub not_armed : (e : SplitDriver) (v : DriverView) → DriverStands e v → e.armed ≡ false → v.armed ≡ None
not_armed e v st off = st.signals.is_armed ∙ ap (λ (b : Bool). if b then Some (length (collects v.done)) else None) off

pub is_armed : (e : SplitDriver) (v : DriverView) → DriverStands e v → e.armed ≡ true → v.armed ≡ Some (length (collects v.done))
is_armed e v st on = st.signals.is_armed ∙ ap (λ (b : Bool). if b then Some (length (collects v.done)) else None) on
