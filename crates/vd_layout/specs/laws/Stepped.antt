-- Lemmas: one step of an end over plain words that meet the ring invariant: the invariant after it, the one bag step that its answer
-- names, and what then stands in the words.
use Rattle.std.proofs.Common.{◌≡◌, ℕ, List, sym, ◌∙◌, subst}
use Rattle.vd_words.specs.Model.{PortModel, IsLawfulPort}
use Rattle.vd_words.specs.Step.{written}
use Rattle.vd_ring.specs.declared.act.DriverAct.{DriverAct}
use Rattle.vd_ring.specs.declared.act.DriverAct.TheVariants as driver_act
use Rattle.vd_ring.specs.declared.act.DeviceAct.{DeviceAct}
use Rattle.vd_ring.specs.declared.act.DeviceAct.TheVariants as device_act
use Rattle.vd_ring.specs.declared.driver.DriverView.{DriverView}
use Rattle.vd_ring.specs.declared.device.DeviceView.{DeviceView}
use Rattle.vd_ring.specs.Bag.{State}
use Rattle.vd_ring.specs.Steps.{StandsFor, DriverBagStep}
use Rattle.vd_layout.specs.Driver.{DriverModel, IsDriverStep}
use Rattle.vd_layout.specs.Device.{DeviceModel, IsDeviceStep}
use Rattle.vd_layout.specs.Layout.{LayoutModel, IsLawfulLayout, DeviceBags}
use Rattle.vd_layout.specs.laws.Plain.{driver_plain_step, device_plain_step}
use Rattle.vd_layout.specs.Stepped.{DriverStepped, DeviceStepped}

module _ {P D E : Type 0} (port : PortModel P) (law : IsLawfulPort port) (d : DriverModel D) (e : DeviceModel E) (l : LayoutModel)
    (lawful : IsLawfulLayout d e l) (p q : P) (ws : List ℕ) (v : DriverView) (w : DeviceView) where
  pub driver_stepped : (x x' : D) (answer : DriverAct) → port.plain p ws → l.ring ws v w → (s : IsDriverStep port d p q v x x' answer)
      → DriverStepped port d l p q ws v w x x' answer s
  driver_stepped x x' answer plain ring s =
      let m = driver_plain_step port law d e l lawful p q ws v w x x' answer plain ring s in
      record {
        plain = m.plain;
        same = m.same;
        ring = m.meets;
        bag = λ b stands.
            subst (λ (z : DriverAct). (b' : List State) × DriverBagStep z b b'
            × StandsFor (d.side.after v s.op s.access s.got).done w.done b') (sym s.is_answer)
            (subst (λ (r : ℕ). (b' : List State) × DriverBagStep (d.act v s.op s.access r) b b'
            × StandsFor (d.side.after v s.op s.access r).done w.done b') (sym m.answer)
            (lawful.driver_bag ws v w s.op s.access b ring s.was_next stands));
        spells = λ k is.
            (subst (λ (r : ℕ). d.act v s.op s.access r ≡ driver_act.Offered k
            → l.spells_last v.frame (written ws s.access) (d.side.after v s.op s.access r).done) (sym m.answer)
            (lawful.spells ws v w s.op s.access k ring s.was_next)) (sym s.is_answer ∙ is);
      }

  pub device_stepped : (y y' : E) (answer : DeviceAct) → port.plain p ws → l.ring ws v w → (s : IsDeviceStep port e p q w y y' answer)
      → DeviceStepped port e l p q ws v w y y' answer s
  device_stepped y y' answer plain ring s =
      let m = device_plain_step port law d e l lawful p q ws v w y y' answer plain ring s in
      record {
        plain = m.plain;
        same = m.same;
        ring = m.meets;
        bag = λ b stands.
            subst (λ (z : DeviceAct). DeviceBags v.frame.features.in_order z v.done w.done (e.side.after w s.op s.access s.got).done b)
            (sym s.is_answer)
            (subst (λ (r : ℕ). DeviceBags v.frame.features.in_order (e.act w s.op s.access r) v.done w.done
            (e.side.after w s.op s.access r).done b) (sym m.answer) (lawful.device_bag ws v w s.op s.access b ring s.was_next stands));
        uses = λ k is.
            (subst (λ (r : ℕ). e.act w s.op s.access r ≡ device_act.Given k
            → l.has_last_used v.frame (written ws s.access) (e.side.after w s.op s.access r).done) (sym m.answer)
            (lawful.uses ws v w s.op s.access k ring s.was_next)) (sym s.is_answer ∙ is);
      }
