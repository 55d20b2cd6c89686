-- What a step of an end answers.
use Rattle.vd_ring.specs.declared.act.DriverAct.{DriverAct}
use Rattle.vd_ring.specs.declared.act.DriverAct.TheVariants as driver_act
use Rattle.vd_split.specs.declared.device.DeviceStep.{DeviceStep}
use Rattle.vd_split.specs.declared.device.DeviceStep.TheVariants as step
use Rattle.vd_split.specs.declared.driver.DriverStep.{DriverStep}
use Rattle.vd_split.specs.declared.driver.DriverStep.TheVariants as driver
use Rattle.vd_split.specs.declared.driver.Collected.{Collected}
use Rattle.vd_split.specs.declared.driver.DriverTold.{DriverTold}
use Rattle.vd_split.specs.declared.driver.DriverTold.TheVariants as driver_told

-- the answer of a step of the driver's end that told this, where it keeps this chain
abbrev pub driver_act_of : DriverTold → Collected → DriverAct
driver_act_of driver_told.Moved c = driver_act.Moved
driver_act_of (driver_told.Offered k) c = driver_act.Offered k
driver_act_of driver_told.Collected c = driver_act.Collected c.number c.len c.head
driver_act_of driver_told.Nothing c = driver_act.Nothing
driver_act_of driver_told.Armed c = driver_act.Armed
driver_act_of driver_told.Awake c = driver_act.Awake
driver_act_of driver_told.Asleep c = driver_act.Asleep

-- a step of an arming, a hearing, a disarming or a rest
abbrev pub DeviceSleeps : DeviceStep → Type 0
DeviceSleeps step.Arm = Unit {0}
DeviceSleeps step.LookAgain = Unit {0}
DeviceSleeps step.Hear = Unit {0}
DeviceSleeps step.WakeArming = Unit {0}
DeviceSleeps step.WakeHearing = Unit {0}
DeviceSleeps step.Disarm = Unit {0}
DeviceSleeps step.Rest = Unit {0}
DeviceSleeps step.RestLook = Unit {0}
DeviceSleeps _ = ⊥

-- a step of an arming, a hearing or a disarming
abbrev pub DriverSleeps : DriverStep → Type 0
DriverSleeps driver.Arm = Unit {0}
DriverSleeps driver.LookAgain = Unit {0}
DriverSleeps driver.Hear = Unit {0}
DriverSleeps driver.WakeArming = Unit {0}
DriverSleeps driver.WakeHearing = Unit {0}
DriverSleeps driver.Disarm = Unit {0}
DriverSleeps _ = ⊥
