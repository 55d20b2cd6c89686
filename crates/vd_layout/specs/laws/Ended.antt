-- Lemmas: an operation made to its end over plain words: what is known of both sides' views before and after it.
use Rattle.std.proofs.Common.{◌≡◌, List, ℕ, sym, ap, ◌∙◌, subst}
use Rattle.vd_words.specs.Model.{PortModel, IsLawfulPort}
use Rattle.vd_ring.specs.declared.act.DriverAct.{DriverAct}
use Rattle.vd_ring.specs.declared.act.DriverAct.TheVariants as driver_act
use Rattle.vd_ring.specs.declared.act.DeviceAct.{DeviceAct}
use Rattle.vd_ring.specs.declared.act.DeviceAct.TheVariants as device_act
use Rattle.vd_ring.specs.declared.driver.DriverView.{DriverView}
use Rattle.vd_ring.specs.declared.device.DeviceView.{DeviceView}
use Rattle.vd_ring.specs.declared.frame.Frame.{Frame}
use Rattle.vd_ring.specs.History.{offers, collects, takes, gives}
use Rattle.vd_layout.specs.Begun.{DriverOp, DeviceOp}
use Rattle.vd_layout.specs.Driver.{DriverModel, DriverSays}
use Rattle.vd_layout.specs.Device.{DeviceModel, DeviceSays}
use Rattle.vd_layout.specs.Layout.{LayoutModel, IsLawfulLayout}
use Rattle.vd_layout.specs.laws.Plain.{plain_step}
use Rattle.vd_layout.specs.Run.{IsToldAt, written_by}
use Rattle.vd_layout.specs.laws.Run.{plain_run}
use Rattle.vd_layout.specs.Both.{AreOn, Finished, DriverBeside, DeviceBeside}
use Rattle.vd_layout.specs.Ended.{DriverEnded, DeviceEnded, DriverEndedAt, DeviceEndedAt}

module _ {P D E : Type 0} (port : PortModel P) (law : IsLawfulPort port) (d : DriverModel D) (e : DeviceModel E) (l : LayoutModel)
    (lawful : IsLawfulLayout d e l) (p q : P) (ws : List ℕ) where
  driver_nothing : (v : DriverView) (w : DeviceView) (answer : DriverAct) → port.plain p ws → l.ring ws v w
      → IsToldAt port d.side d.act (λ u. u.done ≡ v.done) p v answer → answer ≡ driver_act.Nothing → collects v.done ≡ gives w.done
  driver_nothing v w answer plain ring at is =
      let run = plain_run port law d.side (λ zs y. l.ring zs y w) (λ zs y op a h next. lawful.driver_keeps zs y w op a h next) at.made p
      at.mid ws v at.view plain ring at.run in
      let zs : List ℕ = written_by at.made ws in
      let step = plain_step port law d.side (λ zs y. l.ring zs y w) at.mid at.next zs at.view at.op at.access at.got
      (lawful.driver_keeps zs at.view w at.op at.access run.meets at.was_next) run.plain at.moved in
      ap collects (sym at.meets) ∙ lawful.driver_nothing zs at.view w at.op at.access run.meets at.was_next
      (ap (λ r. d.act at.view at.op at.access r) (sym step.answer) ∙ sym at.is_answer ∙ is)

  device_nothing : (v : DriverView) (w : DeviceView) (answer : DeviceAct) → port.plain p ws → l.ring ws v w
      → IsToldAt port e.side e.act (λ u. u.done ≡ w.done) p w answer → answer ≡ device_act.Nothing → takes w.done ≡ offers v.done
  device_nothing v w answer plain ring at is =
      let run = plain_run port law e.side (λ zs x. l.ring zs v x) (λ zs x op a h next. lawful.device_keeps zs v x op a h next) at.made p
      at.mid ws w at.view plain ring at.run in
      let zs : List ℕ = written_by at.made ws in
      let step = plain_step port law e.side (λ zs x. l.ring zs v x) at.mid at.next zs at.view at.op at.access at.got
      (lawful.device_keeps zs v at.view at.op at.access run.meets at.was_next) run.plain at.moved in
      ap takes (sym at.meets) ∙ lawful.device_nothing zs v at.view at.op at.access run.meets at.was_next
      (ap (λ r. e.act at.view at.op at.access r) (sym step.answer) ∙ sym at.is_answer ∙ is)

  pub driver_ended : (f : Frame) (x x' : D) (y : E) (answer : DriverAct) (a : AreOn d e l f x y ws) (z : Finished port d e l f p q x' y)
      → port.plain p ws → DriverSays answer (d.begun x) DriverOp.idle a.view.frame a.view.done z.on.view.done
      → DriverBeside port d e l f p q ws x x' y answer a z
      → DriverEndedAt port d e l f p q x x' y ws answer a
  driver_ended f x x' y answer a z plain says beside = record {
    words = z.words;
    plain = z.plain;
    same = z.same;
    ended = record {
      on = z.on;
      same_device = beside.same_device;
      says = says;
      unarmed = beside.unarmed;
      leaves = beside.leaves;
      nothing =
          driver_nothing a.view a.device_view answer plain a.ring beside.at;
    };
  }

  pub device_ended : (f : Frame) (x : D) (y y' : E) (answer : DeviceAct) (a : AreOn d e l f x y ws) (z : Finished port d e l f p q x y')
      → port.plain p ws → DeviceSays e.words answer (e.begun y) DeviceOp.idle a.device_view.frame a.device_view.done
      z.on.device_view.done → DeviceBeside port d e l f p q ws x y y' answer a z
      → DeviceEndedAt port d e l f p q x y y' ws answer a
  device_ended f x y y' answer a z plain says beside = record {
    words = z.words;
    plain = z.plain;
    same = z.same;
    ended = record {
      on = z.on;
      same_driver = beside.same_driver;
      says = says;
      unarmed = beside.unarmed;
      leaves = beside.leaves;
      nothing =
          device_nothing a.view a.device_view answer plain a.ring beside.at;
    };
  }

-- with other words that are the same
pub driver_ended_on : {D E : Type 0} (d : DriverModel D) (e : DeviceModel E) (l : LayoutModel) (f : Frame) (x x' : D) (y : E)
    (ws us vs : List ℕ) (answer : DriverAct) (a : AreOn d e l f x y ws) → DriverEnded d e l f x x' y ws us answer a → vs ≡ us
    → DriverEnded d e l f x x' y ws vs answer a
driver_ended_on d e l f x x' y ws us vs answer a h same = subst (λ (zs : List ℕ). DriverEnded d e l f x x' y ws zs answer a) (sym same) h

pub device_ended_on : {D E : Type 0} (d : DriverModel D) (e : DeviceModel E) (l : LayoutModel) (f : Frame) (x : D) (y y' : E)
    (ws us vs : List ℕ) (answer : DeviceAct) (a : AreOn d e l f x y ws) → DeviceEnded d e l f x y y' ws us answer a → vs ≡ us
    → DeviceEnded d e l f x y y' ws vs answer a
device_ended_on d e l f x y y' ws us vs answer a h same = subst (λ (zs : List ℕ). DeviceEnded d e l f x y y' ws zs answer a) (sym same) h
