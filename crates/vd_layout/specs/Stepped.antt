-- One step of an end over plain words that meet the ring invariant: the invariant after it, the one bag step that its answer
-- names, and what then stands in the words.
use Rattle.std.specs.Prelude.{◌≡◌, ℕ, List}
use Rattle.vd_words.specs.Model.{PortModel}
use Rattle.vd_words.specs.Step.{written}
use Rattle.vd_ring.specs.declared.act.DriverAct.{DriverAct}
use Rattle.vd_ring.specs.declared.act.DriverAct.TheVariants as driver_act
use Rattle.vd_ring.specs.declared.act.DeviceAct.{DeviceAct}
use Rattle.vd_ring.specs.declared.act.DeviceAct.TheVariants as device_act
use Rattle.vd_ring.specs.declared.driver.DriverView.{DriverView}
use Rattle.vd_ring.specs.declared.device.DeviceView.{DeviceView}
use Rattle.vd_ring.specs.Bag.{State}
use Rattle.vd_ring.specs.Steps.{StandsFor, DriverBagStep}
use Rattle.vd_layout.specs.Driver.{DriverModel, IsDriverStep}
use Rattle.vd_layout.specs.Device.{DeviceModel, IsDeviceStep}
use Rattle.vd_layout.specs.Layout.{LayoutModel, DeviceBags}

-- of the driver's end, beside the device's view: the words after the access meet the invariant, and after an offer they spell its
-- chain; a bag that stands for both sides has made the one step that the answer names, and stands for them after it
pub record DriverStepped {P D : Type 0} (port : PortModel P) (d : DriverModel D) (l : LayoutModel) (p q : P) (ws : List ℕ)
    (v : DriverView) (w : DeviceView) (x x' : D) (answer : DriverAct) (s : IsDriverStep port d p q v x x' answer) : Type 0 where
  pub plain : port.plain q (written ws s.access)
  pub same : port.same p q
  pub ring : l.ring (written ws s.access) (d.side.after v s.op s.access s.got) w
  pub bag : (b : List State) → StandsFor v.done w.done b → (b' : List State) × DriverBagStep answer b b'
      × StandsFor (d.side.after v s.op s.access s.got).done w.done b'
  pub spells : (k : ℕ) → answer ≡ driver_act.Offered k
      → l.spells_last v.frame (written ws s.access) (d.side.after v s.op s.access s.got).done

-- of the device's end, beside the driver's view: the words after the access meet the invariant, and after a give its used entry
-- stands; a bag that stands for both sides has made the one step that the answer names, and stands for them after it
pub record DeviceStepped {P E : Type 0} (port : PortModel P) (e : DeviceModel E) (l : LayoutModel) (p q : P) (ws : List ℕ)
    (v : DriverView) (w : DeviceView) (x x' : E) (answer : DeviceAct) (s : IsDeviceStep port e p q w x x' answer) : Type 0 where
  pub plain : port.plain q (written ws s.access)
  pub same : port.same p q
  pub ring : l.ring (written ws s.access) v (e.side.after w s.op s.access s.got)
  pub bag : (b : List State) → StandsFor v.done w.done b
      → DeviceBags v.frame.features.in_order answer v.done w.done (e.side.after w s.op s.access s.got).done b
  pub uses : (k : ℕ) → answer ≡ device_act.Given k → l.has_last_used v.frame (written ws s.access) (e.side.after w s.op s.access s.got).done
