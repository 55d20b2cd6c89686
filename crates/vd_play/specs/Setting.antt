-- What a play is over: a layout of rings with its two ends, the guests and the devices.
use Rattle.vd_layout.specs.Driver.{DriverModel}
use Rattle.vd_layout.specs.Device.{DeviceModel}
use Rattle.vd_layout.specs.Layout.{LayoutModel, IsLawfulLayout}
use Rattle.vd_bus.specs.Device.{DeviceParty, IsLawfulDeviceParty}
use Rattle.vd_bus.specs.Guest.{GuestParty, IsLawfulGuestParty}

-- what each of them is, as one record
pub record Setting (D E G X C : Type 0) : Type 1 where
  pub driver : DriverModel D
  pub device : DeviceModel E
  pub layout : LayoutModel
  pub guest : GuestParty G
  pub party : DeviceParty X C

abbrev pub setting_of : {D E G X C : Type 0} → DriverModel D → DeviceModel E → LayoutModel → GuestParty G → DeviceParty X C
    → Setting D E G X C
setting_of d e l g m = record { driver = d; device = e; layout = l; guest = g; party = m }

-- their laws
pub record IsLawful {D E G X C : Type 0} (s : Setting D E G X C) : Type 0 where
  pub layout : IsLawfulLayout s.driver s.device s.layout
  pub guest : IsLawfulGuestParty s.driver s.guest
  pub party : IsLawfulDeviceParty s.device s.party
