-- Lemmas: a whole operation on plain words: they meet the ring invariant after it, with the same view of the other side.
use Rattle.std.proofs.Common.{◌≡◌, ℕ, List, sym, ap, ◌∙◌}
use Rattle.vd_words.specs.Model.{PortModel, IsLawfulPort}
use Rattle.vd_ring.specs.declared.act.DriverAct.{DriverAct}
use Rattle.vd_ring.specs.declared.act.DriverAct.TheVariants as driver_act
use Rattle.vd_ring.specs.declared.act.DeviceAct.{DeviceAct}
use Rattle.vd_ring.specs.declared.act.DeviceAct.TheVariants as device_act
use Rattle.vd_ring.specs.declared.driver.DriverView.{DriverView}
use Rattle.vd_ring.specs.declared.device.DeviceView.{DeviceView}
use Rattle.vd_ring.specs.History.{offers, collects, takes, gives}
use Rattle.vd_layout.specs.Driver.{DriverModel}
use Rattle.vd_layout.specs.Device.{DeviceModel}
use Rattle.vd_layout.specs.DriverFinish.{IsDriverFinish}
use Rattle.vd_layout.specs.DeviceFinish.{IsDeviceFinish}
use Rattle.vd_layout.specs.Layout.{LayoutModel, IsLawfulLayout}
use Rattle.vd_layout.specs.Run.{written_by}
use Rattle.vd_layout.specs.laws.Run.{plain_run}
use Rattle.vd_layout.specs.laws.Plain.{plain_step}
use Rattle.vd_layout.specs.Whole.{IsRingAt}

-- after a whole operation of the driver's end
pub driver_whole : {P D E : Type 0} (port : PortModel P) (law : IsLawfulPort port) (d : DriverModel D) (e : DeviceModel E)
    (l : LayoutModel) (lawful : IsLawfulLayout d e l) (p q : P) (v : DriverView) (w : DeviceView) (x x' : D) (answer : DriverAct)
    → IsRingAt port l p v w
    → (f : IsDriverFinish port d p q v x x' answer) → IsRingAt port l q f.view w × port.same p q × (f.view.frame ≡ v.frame)
driver_whole port law d e l lawful p q v w x x' answer at f =
    let run = plain_run port law d.side (λ us y. l.ring us y w) (λ us y op a h next. lawful.driver_keeps us y w op a h next) f.made p q
    at.words v f.view at.plain at.ring f.run in (
      record { words = written_by f.made at.words; plain = run.plain; ring = run.meets },
      run.same,
      sym (lawful.wide (written_by f.made at.words) f.view w run.meets).1 ∙ (lawful.wide at.words v w at.ring).1,
    )

-- where it came to nothing, all that was given was collected
pub driver_found_none : {P D E : Type 0} (port : PortModel P) (law : IsLawfulPort port) (d : DriverModel D) (e : DeviceModel E)
    (l : LayoutModel) (lawful : IsLawfulLayout d e l) (p q : P) (v : DriverView) (w : DeviceView) (x x' : D) → IsRingAt port l p v w
    → IsDriverFinish port d p q v x x' driver_act.Nothing → collects v.done ≡ gives w.done
driver_found_none port law d e l lawful p q v w x x' at f =
    let run = plain_run port law d.side (λ us y. l.ring us y w) (λ us y op a h next. lawful.driver_keeps us y w op a h next) f.at.made p
    f.at.mid at.words v f.at.view at.plain at.ring f.at.run in
    let us : List ℕ = written_by f.at.made at.words in
    let step = plain_step port law d.side (λ ws y. l.ring ws y w) f.at.mid f.at.next us f.at.view f.at.op f.at.access f.at.got
    (lawful.driver_keeps us f.at.view w f.at.op f.at.access run.meets f.at.was_next) run.plain f.at.moved in
    ap collects (sym f.at.meets) ∙ lawful.driver_nothing us f.at.view w f.at.op f.at.access run.meets f.at.was_next
    (ap (λ r. d.act f.at.view f.at.op f.at.access r) (sym step.answer) ∙ sym f.at.is_answer)

-- after a whole operation of the device's end
pub device_whole : {P D E : Type 0} (port : PortModel P) (law : IsLawfulPort port) (d : DriverModel D) (e : DeviceModel E)
    (l : LayoutModel) (lawful : IsLawfulLayout d e l) (p q : P) (v : DriverView) (w : DeviceView) (y y' : E) (answer : DeviceAct)
    → IsRingAt port l p v w
    → (f : IsDeviceFinish port e p q w y y' answer) → IsRingAt port l q v f.view × port.same p q × (f.view.frame ≡ w.frame)
device_whole port law d e l lawful p q v w y y' answer at f =
    let run = plain_run port law e.side (λ us x. l.ring us v x) (λ us x op a h next. lawful.device_keeps us v x op a h next) f.made p q
    at.words w f.view at.plain at.ring f.run in (
      record { words = written_by f.made at.words; plain = run.plain; ring = run.meets },
      run.same,
      (lawful.wide (written_by f.made at.words) v f.view run.meets).1 ∙ sym (lawful.wide at.words v w at.ring).1,
    )

-- where it came to nothing, all that was offered was taken
pub device_found_none : {P D E : Type 0} (port : PortModel P) (law : IsLawfulPort port) (d : DriverModel D) (e : DeviceModel E)
    (l : LayoutModel) (lawful : IsLawfulLayout d e l) (p q : P) (v : DriverView) (w : DeviceView) (y y' : E) → IsRingAt port l p v w
    → IsDeviceFinish port e p q w y y' device_act.Nothing → takes w.done ≡ offers v.done
device_found_none port law d e l lawful p q v w y y' at f =
    let run = plain_run port law e.side (λ us x. l.ring us v x) (λ us x op a h next. lawful.device_keeps us v x op a h next) f.at.made p
    f.at.mid at.words w f.at.view at.plain at.ring f.at.run in
    let us : List ℕ = written_by f.at.made at.words in
    let step = plain_step port law e.side (λ ws x. l.ring ws v x) f.at.mid f.at.next us f.at.view f.at.op f.at.access f.at.got
    (lawful.device_keeps us v f.at.view f.at.op f.at.access run.meets f.at.was_next) run.plain f.at.moved in
    ap takes (sym f.at.meets) ∙ lawful.device_nothing us v f.at.view f.at.op f.at.access run.meets f.at.was_next
    (ap (λ r. e.act f.at.view f.at.op f.at.access r) (sym step.answer) ∙ sym f.at.is_answer)
