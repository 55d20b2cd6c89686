-- What a step of the device's end tells.
use Rattle.vd_layout.specs.declared.device.Told.{Told}
use Rattle.vd_layout.specs.declared.device.Told.TheVariants as told

-- it told no taken chain
abbrev pub TakesNone : Told → Type 0
TakesNone (told.Taken k) = ⊥
TakesNone _ = Unit {0}
