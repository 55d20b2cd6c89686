-- Lemmas: what the holder of one seat knows by an answer of its end: how the other side stood at the load that told it. No view of the
-- other side is handed out; there was one.
use Rattle.std.proofs.Common.{◌≡◌, ℕ, sym, ◌∙◌, subst}
use Rattle.vd_words.specs.declared.access.Access.{Access}
use Rattle.vd_words.specs.declared.access.Op.{Op}
use Rattle.vd_ring.specs.declared.act.DriverAct.{DriverAct}
use Rattle.vd_ring.specs.declared.act.DriverAct.TheVariants as driver_act
use Rattle.vd_ring.specs.declared.act.DeviceAct.{DeviceAct}
use Rattle.vd_ring.specs.declared.act.DeviceAct.TheVariants as device_act
use Rattle.vd_ring.specs.declared.device.DeviceView.{DeviceView}
use Rattle.vd_ring.specs.declared.driver.DriverView.{DriverView}
use Rattle.vd_layout.specs.Driver.{DriverModel}
use Rattle.vd_layout.specs.Device.{DeviceModel}
use Rattle.vd_layout.specs.DriverFinish.{IsDriverFinish}
use Rattle.vd_layout.specs.DeviceFinish.{IsDeviceFinish}
use Rattle.vd_layout.specs.Layout.{LayoutModel, IsLawfulLayout}
use Rattle.vd_seats.specs.laws.Closing.{driver_may_sleep, device_may_sleep}
use Rattle.vd_seats.specs.Rule.{DriverHeld, DeviceHeld, Held}
use Rattle.vd_seats.specs.Seat.{SeatState, DrivesAt, ServesAt, port_of}
use Rattle.vd_seats.specs.laws.Seat.{drives_run, serves_run}
use Rattle.vd_seats.specs.Asleep.{DriverSlept, DeviceSlept, DriverSawAll, DeviceSawAll}

module _ {D E : Type 0} (d : DriverModel D) (e : DeviceModel E) (l : LayoutModel) (law : IsLawfulLayout d e l) where
  -- by one access
  pub driver_slept : (v : DriverView) (op : Op) (a : Access) (r : ℕ) → d.side.next v op a → DriverHeld l.ring v a r
      → d.act v op a r ≡ driver_act.Asleep → DriverSlept l v
  driver_slept v op a r next h is =
      let s = law.driver_asleep h.words v h.other op a h.meets next (subst (λ x. d.act v op a x ≡ driver_act.Asleep) h.answer is) in
      record {
        words = h.words;
        other = h.other;
        met = h.meets;
        waits = s.1;
        may =
            driver_may_sleep v h.other (law.signals h.words v h.other h.meets) s.1;
      }

  pub device_slept : (w : DeviceView) (op : Op) (a : Access) (r : ℕ) → e.side.next w op a → DeviceHeld l.ring w a r
      → e.act w op a r ≡ device_act.Asleep → DeviceSlept l w
  device_slept w op a r next h is =
      let s = law.device_asleep h.words h.other w op a h.meets next (subst (λ x. e.act w op a x ≡ device_act.Asleep) h.answer is) in
      record {
        words = h.words;
        other = h.other;
        met = h.meets;
        waits = s.1;
        may =
            device_may_sleep h.other w (law.signals h.words h.other w h.meets) s.1;
      }

  pub driver_saw_all : (v : DriverView) (op : Op) (a : Access) (r : ℕ) → d.side.next v op a → DriverHeld l.ring v a r
      → d.act v op a r ≡ driver_act.Nothing → DriverSawAll l v
  driver_saw_all v op a r next h is = record {
    words = h.words;
    other = h.other;
    met = h.meets;
    all = law.driver_nothing h.words v h.other op a h.meets next (subst (λ x. d.act v op a x ≡ driver_act.Nothing) h.answer is);
  }

  pub device_saw_all : (w : DeviceView) (op : Op) (a : Access) (r : ℕ) → e.side.next w op a → DeviceHeld l.ring w a r
      → e.act w op a r ≡ device_act.Nothing → DeviceSawAll l w
  device_saw_all w op a r next h is = record {
    words = h.words;
    other = h.other;
    met = h.meets;
    all = law.device_nothing h.words h.other w op a h.meets next (subst (λ x. e.act w op a x ≡ device_act.Nothing) h.answer is);
  }

  -- how the ring stood at the load that told a whole operation's answer
  pub driver_held : (s t : SeatState) (v : DriverView) (x x' : D) (answer : DriverAct) → DrivesAt l s v
      → (f : IsDriverFinish (port_of d e l) d s t v x x' answer) → DriverHeld l.ring f.at.view f.at.access f.at.got
  driver_held s t v x x' answer at f =
      let run = drives_run d e l law f.at.made s f.at.mid v f.at.view at f.at.run in
      subst (λ u. Held l.ring u f.at.access f.at.got) run.0.view f.at.moved.held

  pub device_held : (s t : SeatState) (w : DeviceView) (y y' : E) (answer : DeviceAct) → ServesAt l s w
      → (f : IsDeviceFinish (port_of d e l) e s t w y y' answer) → DeviceHeld l.ring f.at.view f.at.access f.at.got
  device_held s t w y y' answer at f =
      let run = serves_run d e l law f.at.made s f.at.mid w f.at.view at f.at.run in
      subst (λ u. Held l.ring u f.at.access f.at.got) run.0.view f.at.moved.held

  -- by a whole operation, in the view at the load, in which nothing more was done than in the view before it
  pub driver_told_asleep : (s t : SeatState) (v : DriverView) (x x' : D) (answer : DriverAct) → DrivesAt l s v
      → IsDriverFinish (port_of d e l) d s t v x x' answer → answer ≡ driver_act.Asleep → (u : DriverView) × (u.done ≡ v.done)
      × DriverSlept l u
  driver_told_asleep s t v x x' answer at f is = (
    f.at.view,
    f.at.meets,
    driver_slept f.at.view f.at.op f.at.access f.at.got f.at.was_next (driver_held s t v x x' answer at f)
        (sym f.at.is_answer ∙ is),
  )

  pub device_told_asleep : (s t : SeatState) (w : DeviceView) (y y' : E) (answer : DeviceAct) → ServesAt l s w
      → IsDeviceFinish (port_of d e l) e s t w y y' answer → answer ≡ device_act.Asleep → (u : DeviceView) × (u.done ≡ w.done)
      × DeviceSlept l u
  device_told_asleep s t w y y' answer at f is = (
    f.at.view,
    f.at.meets,
    device_slept f.at.view f.at.op f.at.access f.at.got f.at.was_next (device_held s t w y y' answer at f)
        (sym f.at.is_answer ∙ is),
  )

  pub driver_told_nothing : (s t : SeatState) (v : DriverView) (x x' : D) (answer : DriverAct) → DrivesAt l s v
      → IsDriverFinish (port_of d e l) d s t v x x' answer → answer ≡ driver_act.Nothing → (u : DriverView) × (u.done ≡ v.done)
      × DriverSawAll l u
  driver_told_nothing s t v x x' answer at f is = (
    f.at.view,
    f.at.meets,
    driver_saw_all f.at.view f.at.op f.at.access f.at.got f.at.was_next (driver_held s t v x x' answer at f)
        (sym f.at.is_answer ∙ is),
  )

  pub device_told_nothing : (s t : SeatState) (w : DeviceView) (y y' : E) (answer : DeviceAct) → ServesAt l s w
      → IsDeviceFinish (port_of d e l) e s t w y y' answer → answer ≡ device_act.Nothing → (u : DeviceView) × (u.done ≡ w.done)
      × DeviceSawAll l u
  device_told_nothing s t w y y' answer at f is = (
    f.at.view,
    f.at.meets,
    device_saw_all f.at.view f.at.op f.at.access f.at.got f.at.was_next (device_held s t w y y' answer at f)
        (sym f.at.is_answer ∙ is),
  )
