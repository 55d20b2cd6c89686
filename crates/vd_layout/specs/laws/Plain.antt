-- Lemmas: plain words that meet the ring invariant: a port onto them is each end's own, and a step of one end keeps the invariant with
-- the other side's view unchanged.
use Rattle.std.proofs.Common.{ℕ, List, sym, subst}
use Rattle.vd_words.specs.declared.access.Access.{Access}
use Rattle.vd_words.specs.declared.access.Op.{Op}
use Rattle.vd_words.specs.Model.{PortModel, IsLawfulPort}
use Rattle.vd_words.specs.Own.{SideModel, IsOwn, own_by}
use Rattle.vd_words.specs.Step.{written}
use Rattle.vd_ring.specs.declared.act.DriverAct.{DriverAct}
use Rattle.vd_ring.specs.declared.act.DeviceAct.{DeviceAct}
use Rattle.vd_ring.specs.declared.driver.DriverView.{DriverView}
use Rattle.vd_ring.specs.declared.device.DeviceView.{DeviceView}
use Rattle.vd_layout.specs.Driver.{DriverModel, IsDriverStep}
use Rattle.vd_layout.specs.Device.{DeviceModel, IsDeviceStep}
use Rattle.vd_layout.specs.Layout.{LayoutModel, IsLawfulLayout}
use Rattle.vd_ring.specs.Steps.{Keeps}
use Rattle.vd_layout.specs.Plain.{IsPlainOn, PlainStep}

pub plain_step : {P V : Type 0} (port : PortModel P) (law : IsLawfulPort port) (side : SideModel V) (ring : List ℕ → V → Type 0)
    (p q : P) (ws : List ℕ) (v : V) (op : Op) (a : Access) (r : ℕ) → Keeps side ring ws v op a → port.plain p ws → port.moves p op a r q
    → PlainStep port side ring p q ws v op a r
plain_step port law side ring p q ws v op a r kept plain moved =
    let did = law.does p ws op a r q plain moved in record {
      plain = did.0;
      answer = did.1;
      meets = subst (λ (x : ℕ). ring (written ws a) (side.after v op a x)) (sym did.1) kept.keeps;
      told = subst (λ (x : ℕ). side.tells v op a x) (sym did.1) kept.told;
      same = did.2;
    }

-- a plain port onto words that meet a relation which each next access keeps is the side's own
pub own_plain : {P V : Type 0} (port : PortModel P) (law : IsLawfulPort port) (side : SideModel V) (ring : List ℕ → V → Type 0)
    → ((ws : List ℕ) (v : V) (op : Op) (a : Access) → ring ws v → side.next v op a → Keeps side ring ws v op a)
    → (p : P) (v : V) → IsPlainOn port ring p v → IsOwn port side p v
own_plain port law side ring keeps = own_by port side (IsPlainOn port ring) (λ p v op a on next.
    let kept = keeps on.words v op a on.meets next in (
      law.may p on.words op a on.plain kept.inside,
      λ r q moved. let s = plain_step port law side ring p q on.words v op a r kept on.plain moved in
          (s.told, record { words = written on.words a; plain = s.plain; meets = s.meets }),
    ))

-- the driver's own
pub own_plain_driver : {P D E : Type 0} (port : PortModel P) (law : IsLawfulPort port) (d : DriverModel D) (e : DeviceModel E)
    (l : LayoutModel) (lawful : IsLawfulLayout d e l) (p : P) (ws : List ℕ) (v : DriverView) (w : DeviceView) → port.plain p ws
    → l.ring ws v w → IsOwn port d.side p v
own_plain_driver port law d e l lawful p ws v w plain ring =
    own_plain port law d.side (λ us x. l.ring us x w) (λ us x op a h next. lawful.driver_keeps us x w op a h next) p v record {
      words =
          ws;
      plain = plain;
      meets = ring;
    }

-- the device's own
pub own_plain_device : {P D E : Type 0} (port : PortModel P) (law : IsLawfulPort port) (d : DriverModel D) (e : DeviceModel E)
    (l : LayoutModel) (lawful : IsLawfulLayout d e l) (p : P) (ws : List ℕ) (v : DriverView) (w : DeviceView) → port.plain p ws
    → l.ring ws v w → IsOwn port e.side p w
own_plain_device port law d e l lawful p ws v w plain ring =
    own_plain port law e.side (λ us x. l.ring us v x) (λ us x op a h next. lawful.device_keeps us v x op a h next) p w record {
      words =
          ws;
      plain = plain;
      meets = ring;
    }

-- a step of the driver's end on plain words: with the same view of the device
pub driver_plain_step : {P D E : Type 0} (port : PortModel P) (law : IsLawfulPort port) (d : DriverModel D) (e : DeviceModel E)
    (l : LayoutModel) (lawful : IsLawfulLayout d e l) (p q : P) (ws : List ℕ) (v : DriverView) (w : DeviceView) (x x' : D)
    (answer : DriverAct) → port.plain p ws → l.ring ws v w
    → (s : IsDriverStep port d p q v x x' answer) → PlainStep port d.side (λ us y. l.ring us y w) p q ws v s.op s.access s.got
driver_plain_step port law d e l lawful p q ws v w x x' answer plain ring s =
    plain_step port law d.side (λ us y. l.ring us y w) p q ws v s.op s.access s.got
    (lawful.driver_keeps ws v w s.op s.access ring s.was_next) plain s.moved

-- a step of the device's end on plain words: with the same view of the driver
pub device_plain_step : {P D E : Type 0} (port : PortModel P) (law : IsLawfulPort port) (d : DriverModel D) (e : DeviceModel E)
    (l : LayoutModel) (lawful : IsLawfulLayout d e l) (p q : P) (ws : List ℕ) (v : DriverView) (w : DeviceView) (x x' : E)
    (answer : DeviceAct) → port.plain p ws → l.ring ws v w
    → (s : IsDeviceStep port e p q w x x' answer) → PlainStep port e.side (λ us y. l.ring us v y) p q ws w s.op s.access s.got
device_plain_step port law d e l lawful p q ws v w x x' answer plain ring s =
    plain_step port law e.side (λ us y. l.ring us v y) p q ws w s.op s.access s.got
    (lawful.device_keeps ws v w s.op s.access ring s.was_next) plain s.moved
