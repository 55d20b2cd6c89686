-- Lemmas: both ends of a ring, and its plain words.
use Rattle.std.proofs.Common.{◌≡◌, ℕ, Bool, List, Option, replicate, refl, sym, ◌∙◌, subst}
use Rattle.vd_model.specs.declared.features.Features.{Features}
use Rattle.vd_model.specs.declared.map.Mapping.{Mapping}
use Rattle.vd_words.specs.Model.{PortModel, IsLawfulPort}
use Rattle.vd_words.specs.Own.{IsOwn}
use Rattle.vd_ring.specs.declared.act.DriverAct.{DriverAct}
use Rattle.vd_ring.specs.declared.act.DeviceAct.{DeviceAct}
use Rattle.vd_ring.specs.declared.frame.Frame.{Frame}
use Rattle.vd_ring.specs.Fresh.{fresh_driver, fresh_device}
use Rattle.vd_layout.specs.Begun.{DriverOp, DeviceOp}
use Rattle.vd_layout.specs.Driver.{DriverModel, DriverSays}
use Rattle.vd_layout.specs.Device.{DeviceModel, DeviceSays}
use Rattle.vd_layout.specs.DriverFinish.{IsDriverFinish}
use Rattle.vd_layout.specs.DeviceFinish.{IsDeviceFinish}
use Rattle.vd_layout.specs.Layout.{LayoutModel, IsMadeWith, CanMake, IsFresh, IsLawfulLayout}
use Rattle.vd_layout.specs.laws.Plain.{own_plain_driver, own_plain_device}
use Rattle.vd_layout.specs.Run.{written_by}
use Rattle.vd_layout.specs.laws.Run.{plain_run}
use Rattle.vd_layout.specs.Both.{AreOn, plain_frame, Finished, DriverBeside, DeviceBeside}

pub fresh_on : {D E : Type 0} (d : DriverModel D) (e : DeviceModel E) (l : LayoutModel) (law : IsLawfulLayout d e l) (ring size : ℕ)
    (f : Features) (control : Bool) (bounds : Option (List Mapping)) (x : D) (y : E) (ws : List ℕ) → CanMake l size f
    → IsFresh d e l size f control x y
    → ws ≡ replicate (l.width (plain_frame l ring size f control bounds)) 0 → AreOn d e l (plain_frame l ring size f control bounds) x y ws
fresh_on d e l law ring size f control bounds x y ws can fresh words =
    let g : Frame = plain_frame l ring size f control bounds in
    let with : IsMadeWith l size f control g = record { packed = refl; size = refl; features = refl; control = refl } in record {
      view = fresh_driver g (l.width g);
      device_view = fresh_device g (l.width g);
      ring = subst (λ (us : List ℕ). l.ring us (fresh_driver g (l.width g)) (fresh_device g (l.width g))) (sym words)
          (law.opens size f control g can with);
      drives = fresh.drives g with;
      serves = fresh.serves g with;
      framed = refl;
    }

pub driver_finished : {P D E : Type 0} (port : PortModel P) (law : IsLawfulPort port) (d : DriverModel D) (e : DeviceModel E)
    (l : LayoutModel) (lawful : IsLawfulLayout d e l) (f : Frame) (p q : P) (ws : List ℕ) (x x' : D) (y : E) (answer : DriverAct)
    → port.plain p ws → (on : AreOn d e l f x y ws)
    → IsDriverFinish port d p q on.view x x' answer → Finished port d e l f p q x' y
driver_finished port law d e l lawful fr p q ws x x' y answer plain on f =
    let run = plain_run port law d.side (λ us z. l.ring us z on.device_view)
    (λ us z op a h next. lawful.driver_keeps us z on.device_view op a h next) f.made p q ws on.view f.view plain on.ring f.run in
    record {
      words = written_by f.made ws;
      plain = run.plain;
      same = run.same;
      on = record {
        view = f.view;
        device_view = on.device_view;
        ring = run.meets;
        drives = f.now_stands;
        serves = on.serves;
        framed = sym (lawful.wide (written_by f.made ws) f.view on.device_view run.meets).1
            ∙ (lawful.wide ws on.view on.device_view on.ring).1 ∙ on.framed;
      };
    }

-- and the answer is about the views of before and after
pub driver_did : {P D E : Type 0} (port : PortModel P) (law : IsLawfulPort port) (d : DriverModel D) (e : DeviceModel E)
    (l : LayoutModel) (lawful : IsLawfulLayout d e l) (f : Frame) (p q : P) (ws : List ℕ) (x x' : D) (y : E) (answer : DriverAct)
    → port.plain p ws → (on : AreOn d e l f x y ws)
    → IsDriverFinish port d p q on.view x x' answer → (z : Finished port d e l f p q x' y)
    × DriverSays answer (d.begun x) DriverOp.idle on.view.frame on.view.done z.on.view.done
    × DriverBeside port d e l f p q ws x x' y answer on z
unfolding driver_finished
driver_did port law d e l lawful fr p q ws x x' y answer plain on f = (
  driver_finished port law d e l lawful fr p q ws x x' y answer plain on f,
  f.says,
  record { same_device = refl; made = f.made; run = f.run; words = refl; unarmed = f.unarmed; leaves = f.leaves; at = f.at },
)

pub device_finished : {P D E : Type 0} (port : PortModel P) (law : IsLawfulPort port) (d : DriverModel D) (e : DeviceModel E)
    (l : LayoutModel) (lawful : IsLawfulLayout d e l) (f : Frame) (p q : P) (ws : List ℕ) (x : D) (y y' : E) (answer : DeviceAct)
    → port.plain p ws → (on : AreOn d e l f x y ws)
    → IsDeviceFinish port e p q on.device_view y y' answer → Finished port d e l f p q x y'
device_finished port law d e l lawful fr p q ws x y y' answer plain on f =
    let run = plain_run port law e.side (λ us z. l.ring us on.view z) (λ us z op a h next. lawful.device_keeps us on.view z op a h next)
    f.made p q ws on.device_view f.view plain on.ring f.run in record {
      words = written_by f.made ws;
      plain = run.plain;
      same = run.same;
      on = record {
        view = on.view;
        device_view = f.view;
        ring = run.meets;
        drives = on.drives;
        serves = f.now_stands;
        framed = on.framed;
      };
    }

pub device_did : {P D E : Type 0} (port : PortModel P) (law : IsLawfulPort port) (d : DriverModel D) (e : DeviceModel E)
    (l : LayoutModel) (lawful : IsLawfulLayout d e l) (f : Frame) (p q : P) (ws : List ℕ) (x : D) (y y' : E) (answer : DeviceAct)
    → port.plain p ws → (on : AreOn d e l f x y ws)
    → IsDeviceFinish port e p q on.device_view y y' answer → (z : Finished port d e l f p q x y')
    × DeviceSays e.words answer (e.begun y) DeviceOp.idle on.device_view.frame on.device_view.done z.on.device_view.done
    × DeviceBeside port d e l f p q ws x y y' answer on z
unfolding device_finished
device_did port law d e l lawful fr p q ws x y y' answer plain on f = (
  device_finished port law d e l lawful fr p q ws x y y' answer plain on f,
  f.says,
  record { same_driver = refl; made = f.made; run = f.run; words = refl; unarmed = f.unarmed; leaves = f.leaves; at = f.at },
)

pub driver_owns : {P D E : Type 0} (port : PortModel P) (law : IsLawfulPort port) (d : DriverModel D) (e : DeviceModel E)
    (l : LayoutModel) (lawful : IsLawfulLayout d e l) (f : Frame) (p : P) (ws : List ℕ) (x : D) (y : E) → port.plain p ws
    → (on : AreOn d e l f x y ws) → IsOwn port d.side p on.view
driver_owns port law d e l lawful f p ws x y plain on = own_plain_driver port law d e l lawful p ws on.view on.device_view plain on.ring

pub device_owns : {P D E : Type 0} (port : PortModel P) (law : IsLawfulPort port) (d : DriverModel D) (e : DeviceModel E)
    (l : LayoutModel) (lawful : IsLawfulLayout d e l) (f : Frame) (p : P) (ws : List ℕ) (x : D) (y : E) → port.plain p ws
    → (on : AreOn d e l f x y ws) → IsOwn port e.side p on.device_view
device_owns port law d e l lawful f p ws x y plain on = own_plain_device port law d e l lawful p ws on.view on.device_view plain on.ring
