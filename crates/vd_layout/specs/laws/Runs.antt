-- Lemmas: an idle end on a port that is its own, and the same after many operations. Any port will do.
use Rattle.std.proofs.Common.{◌≡◌, false, List, [], ◌∷◌, ◌++◌, sym, ap, ◌∙◌, subst, refl}
use Rattle.vd_words.specs.Model.{PortModel}
use Rattle.vd_words.specs.Own.{SideModel}
use Rattle.vd_ring.specs.declared.act.DriverAct.{DriverAct}
use Rattle.vd_ring.specs.declared.act.DeviceAct.{DeviceAct}
use Rattle.vd_ring.specs.declared.act.DeviceAct.TheVariants as act
use Rattle.vd_ring.specs.declared.device.DeviceDone.{DeviceDone}
use Rattle.vd_ring.specs.declared.device.DeviceView.{DeviceView}
use Rattle.vd_ring.specs.declared.driver.DriverView.{DriverView}
use Rattle.vd_ring.specs.declared.frame.Frame.{Frame}
use Rattle.vd_layout.specs.Begun.{DeviceOp}
use Rattle.vd_layout.specs.Control.{ControlWords}
use Rattle.vd_layout.specs.Driver.{DriverModel, IsLawfulDriver}
use Rattle.vd_layout.specs.Device.{DeviceModel, DeviceSays, IsLawfulDevice, is_rested}
use Rattle.vd_layout.specs.DriverFinish.{IsDriverFinish}
use Rattle.vd_layout.specs.DeviceFinish.{IsDeviceFinish}
use Rattle.vd_layout.specs.Run.{Made, IsRun}
use Rattle.vd_layout.specs.laws.Run.{own_run}
use Rattle.vd_layout.specs.Runs.{DriverOn, DeviceOn, DriverRan, DeviceRan}

-- one run after another
pub run_append : {P V : Type 0} (port : PortModel P) (side : SideModel V) (ms ns : List Made) (p q r : P) (v w x : V)
    → IsRun port side ms p v q w → IsRun port side ns q w r x → IsRun port side (ns ++ ms) p v r x
run_append {P} {V} port side ms [] p q r v w x first rest =
    subst (λ (s : P). IsRun port side ms p v s x) (sym rest.0) (subst (λ (u : V). IsRun port side ms p v q u) (sym rest.1) first)
run_append port side ms (n ∷ ns) p q r v w x first rest =
    (rest.0, rest.1, run_append port side ms ns p q rest.0 v w rest.1 first rest.2, rest.3)

-- a run changes nothing that the ring was made with
pub driver_framed : {P E : Type 0} (port : PortModel P) (d : DriverModel E) (law : IsLawfulDriver d) (ms : List Made) (p q : P)
    (v w : DriverView) → IsRun port d.side ms p v q w → w.frame ≡ v.frame
driver_framed port d law [] p q v w run = ap (λ (x : DriverView). x.frame) run.1
driver_framed port d law (m ∷ ms) p q v w run = ap (λ (x : DriverView). x.frame) run.3.is_after ∙ law.framed run.1 m.op m.access m.got
    ∙ driver_framed port d law ms p run.0 v run.1 run.2

pub device_framed : {P E : Type 0} (port : PortModel P) (e : DeviceModel E) (law : IsLawfulDevice e) (ms : List Made) (p q : P)
    (v w : DeviceView) → IsRun port e.side ms p v q w → w.frame ≡ v.frame
device_framed port e law [] p q v w run = ap (λ (x : DeviceView). x.frame) run.1
device_framed port e law (m ∷ ms) p q v w run = ap (λ (x : DeviceView). x.frame) run.3.is_after ∙ law.framed run.1 m.op m.access m.got
    ∙ device_framed port e law ms p run.0 v run.1 run.2

-- only a rest leaves the device resting
pub still_awake : (words : ControlWords) (x : DeviceAct) (b b' : DeviceOp) (f : Frame) (s s' : List DeviceDone)
    → (b ≡ DeviceOp.rest → ⊥) → DeviceSays words x b b' f s s' → is_rested x ≡ false
still_awake words act.Moved b b' f s s' ne h = refl
still_awake words act.Nothing b b' f s s' ne h = refl
still_awake words (act.Taken k c) b b' f s s' ne h = refl
still_awake words (act.Given k) b b' f s s' ne h = refl
still_awake words act.Rested b b' f s s' ne h = absurd (ne h.0)
still_awake words act.Armed b b' f s s' ne h = refl
still_awake words act.Awake b b' f s s' ne h = refl
still_awake words act.Asleep b b' f s s' ne h = refl

-- no operation at all
pub driver_still : {P E : Type 0} (port : PortModel P) (d : DriverModel E) (p : P) (v : DriverView) (x : E) → DriverOn port d p v x
    → DriverRan port d p v p x
driver_still port d p v x on = record { view = v; made = []; run = (refl, refl); framed = refl; on = on }

pub device_still : {P E : Type 0} (port : PortModel P) (e : DeviceModel E) (p : P) (w : DeviceView) (y : E) → DeviceOn port e p w y
    → DeviceRan port e p w p y
device_still port e p w y on = record { view = w; made = []; run = (refl, refl); framed = refl; on = on }

-- some operations, and then others
pub driver_on : {P E : Type 0} (port : PortModel P) (d : DriverModel E) (p q r : P) (v : DriverView) (x y : E)
    → (f : DriverRan port d p v q x) → DriverRan port d q f.view r y → DriverRan port d p v r y
driver_on port d p q r v x y f g =
    record {
      view = g.view;
      made = g.made ++ f.made;
      run = run_append port d.side f.made g.made p q r v f.view g.view f.run g.run;
      framed = g.framed ∙ f.framed;
      on = g.on;
    }

pub device_on : {P E : Type 0} (port : PortModel P) (e : DeviceModel E) (p q r : P) (w : DeviceView) (x y : E)
    → (f : DeviceRan port e p w q x) → DeviceRan port e q f.view r y → DeviceRan port e p w r y
device_on port e p q r w x y f g =
    record {
      view = g.view;
      made = g.made ++ f.made;
      run = run_append port e.side f.made g.made p q r w f.view g.view f.run g.run;
      framed = g.framed ∙ f.framed;
      on = g.on;
    }

-- one operation that was begun and finished
pub driver_ran : {P E : Type 0} (port : PortModel P) (d : DriverModel E) (law : IsLawfulDriver d) (p q : P) (v : DriverView)
    (x x' x'' : E) (answer : DriverAct) → DriverOn port d p v x → IsDriverFinish port d p q v x' x'' answer → DriverRan port d p v q x''
driver_ran port d law p q v x x' x'' answer on f = record {
  view = f.view;
  made = f.made;
  run = f.run;
  framed = driver_framed port d law f.made p q v f.view f.run;
  on = record { stands = f.now_stands; idle = f.idle; own = own_run port d.side f.made p q v f.view on.own f.run };
}

pub device_ran : {P E : Type 0} (port : PortModel P) (e : DeviceModel E) (law : IsLawfulDevice e) (p q : P) (w : DeviceView)
    (y y' y'' : E) (answer : DeviceAct) → DeviceOn port e p w y → (e.begun y' ≡ DeviceOp.rest → ⊥)
    → IsDeviceFinish port e p q w y' y'' answer → DeviceRan port e p w q y''
device_ran port e law p q w y y' y'' answer on ne f = record {
  view = f.view;
  made = f.made;
  run = f.run;
  framed = device_framed port e law f.made p q w f.view f.run;
  on = record {
    stands = f.now_stands;
    idle = f.idle;
    own = own_run port e.side f.made p q w f.view on.own f.run;
    awake = f.rests ∙ still_awake e.words answer (e.begun y') DeviceOp.idle w.frame w.done f.view.done ne f.says;
  };
}
