-- What a lane needs for one epoch of the mode shadow.
use Rattle.std.specs.Prelude.{◌≡◌, ℕ, Bool, None, replicate}
use Rattle.vd_model.specs.declared.features.Features.{Features}
use Rattle.vd_layout.specs.Driver.{DriverModel}
use Rattle.vd_layout.specs.Device.{DeviceModel}
use Rattle.vd_layout.specs.Layout.{LayoutModel, IsFresh}
use Rattle.vd_table.specs.declared.ShadowTable.{ShadowTable}

-- both ends of a fresh ring, made with this size, these features and control words or none, and an empty table of that size
pub record IsKit {D E : Type 0} (d : DriverModel D) (e : DeviceModel E) (l : LayoutModel) (size : ℕ) (f : Features) (control : Bool)
    (x : D) (y : E) (table : ShadowTable) : Type 0 where
  pub ends : IsFresh d e l size f control x y
  pub empty : table.origins ≡ replicate size None
  pub no_commands : table.commands ≡ replicate size None
