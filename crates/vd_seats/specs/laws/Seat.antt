-- Lemmas: a seat as a port, and when it is a side's own.
use Rattle.std.proofs.Common.{◌≡◌, ℕ, ◌<◌, List, [], ◌∷◌, refl, sym, ap, ◌∙◌, subst}
use Rattle.vd_words.specs.declared.access.Access.{Access}
use Rattle.vd_words.specs.declared.access.Op.{Op}
use Rattle.vd_words.specs.Model.{IsLawfulPort}
use Rattle.vd_words.specs.Own.{SideModel, IsOwn, own_by}
use Rattle.vd_words.specs.Step.{place_of}
use Rattle.vd_ring.specs.declared.device.DeviceView.{DeviceView}
use Rattle.vd_ring.specs.declared.driver.DriverView.{DriverView}
use Rattle.vd_layout.specs.Driver.{DriverModel}
use Rattle.vd_layout.specs.Device.{DeviceModel}
use Rattle.vd_layout.specs.Layout.{LayoutModel, IsLawfulLayout}
use Rattle.vd_layout.specs.Run.{Made, IsRun}
use Rattle.vd_seats.specs.declared.view.View.{View}
use Rattle.vd_seats.specs.Rule.{Next, After, Tells, seat_side}
use Rattle.vd_seats.specs.Seat.{SeatState, AreBeside, SeatMoves, seat_port, DrivesAt, ServesAt}

pub beside_trans : (s t u : SeatState) → AreBeside s t → AreBeside t u → AreBeside s u
beside_trans s t u p q = record { table = p.table ∙ q.table; ring = p.ring ∙ q.ring; count = p.count ∙ q.count }

pub seat_lawful : (ring : List ℕ → DriverView → DeviceView → Type 0) (side : SideModel View) → IsLawfulPort (seat_port ring side)
seat_lawful ring side = record {
  stays = λ s op a r t m. (sym m.beside.ring, sym m.beside.count);
  counted = λ s ws is. absurd is;
  may = λ s ws op a is fits. absurd is;
  does = λ s ws op a r t is m. absurd is;
  alike = λ s t p. (p.ring, p.count);
  same_refl = λ s. record { table = refl; ring = refl; count = refl };
  same_trans = beside_trans;
}

module _ {D E : Type 0} (d : DriverModel D) (e : DeviceModel E) (l : LayoutModel) (law : IsLawfulLayout d e l) where
  abbrev side : SideModel View
  side = seat_side d.side e.side

  pub drives_after : (s t : SeatState) (v : DriverView) (op : Op) (a : Access) (r : ℕ) → DrivesAt l s v
      → SeatMoves l.ring side s op a r t → DrivesAt l t (d.side.after v op a r)
  drives_after s t v op a r at m =
      let same : (d.side.after v op a r).frame ≡ v.frame = law.driver_end.framed v op a r in record {
        view = m.view ∙ ap (λ u. After d.side e.side u op a r) at.view;
        count = sym m.beside.count ∙ at.count ∙ ap l.width (sym same);
        lawful = subst l.lawful_frame (sym same) at.lawful;
      }

  pub serves_after : (s t : SeatState) (w : DeviceView) (op : Op) (a : Access) (r : ℕ) → ServesAt l s w
      → SeatMoves l.ring side s op a r t → ServesAt l t (e.side.after w op a r)
  serves_after s t w op a r at m =
      let same : (e.side.after w op a r).frame ≡ w.frame = law.device_end.framed w op a r in record {
        view = m.view ∙ ap (λ u. After d.side e.side u op a r) at.view;
        count = sym m.beside.count ∙ at.count ∙ ap l.width (sym same);
        lawful = subst l.lawful_frame (sym same) at.lawful;
      }

  -- such a seat is the side's own
  pub drivers_own : (s : SeatState) (v : DriverView) → DrivesAt l s v → IsOwn (seat_port l.ring side) d.side s v
  drivers_own = own_by (seat_port l.ring side) d.side (DrivesAt l) (λ s v op a at next. (
    (
      subst (λ k. place_of a < k) (sym at.count) (law.driver_low v op a at.lawful next),
      subst (λ u. Next d.side e.side u op a) (sym at.view) next,
    ),
    λ r t m. (subst (λ u. Tells d.side e.side u op a r) at.view m.told, drives_after s t v op a r at m),
  ))

  pub devices_own : (s : SeatState) (w : DeviceView) → ServesAt l s w → IsOwn (seat_port l.ring side) e.side s w
  devices_own = own_by (seat_port l.ring side) e.side (ServesAt l) (λ s w op a at next. (
    (
      subst (λ k. place_of a < k) (sym at.count) (law.device_low w op a at.lawful next),
      subst (λ u. Next d.side e.side u op a) (sym at.view) next,
    ),
    λ r t m. (subst (λ u. Tells d.side e.side u op a r) at.view m.told, serves_after s t w op a r at m),
  ))

  -- at a run's end the seat has the view to which the run came
  pub drives_run : (ms : List Made) (s t : SeatState) (v w : DriverView) → DrivesAt l s v
      → IsRun (seat_port l.ring side) d.side ms s v t w → DrivesAt l t w × AreBeside s t × (w.frame ≡ v.frame)
  drives_run [] s t v w at run = (
    subst (λ x. DrivesAt l x w) (sym run.0) (subst (λ x. DrivesAt l s x) (sym run.1) at),
    subst (λ x. AreBeside s x) (sym run.0) (record { table = refl; ring = refl; count = refl }),
    ap (λ (x : DriverView). x.frame) run.1,
  )
  drives_run (m ∷ ms) s t v w at run =
      let so_far = drives_run ms s run.0 v run.1 at run.2 in
      let last = run.3 in (
        subst (λ x. DrivesAt l t x) (sym last.is_after) (drives_after run.0 t run.1 m.op m.access m.got so_far.0 last.moved),
        beside_trans s run.0 t so_far.1 last.moved.beside,
        ap (λ (x : DriverView). x.frame) last.is_after ∙ law.driver_end.framed run.1 m.op m.access m.got ∙ so_far.2,
      )

  pub serves_run : (ms : List Made) (s t : SeatState) (v w : DeviceView) → ServesAt l s v
      → IsRun (seat_port l.ring side) e.side ms s v t w → ServesAt l t w × AreBeside s t × (w.frame ≡ v.frame)
  serves_run [] s t v w at run = (
    subst (λ x. ServesAt l x w) (sym run.0) (subst (λ x. ServesAt l s x) (sym run.1) at),
    subst (λ x. AreBeside s x) (sym run.0) (record { table = refl; ring = refl; count = refl }),
    ap (λ (x : DeviceView). x.frame) run.1,
  )
  serves_run (m ∷ ms) s t v w at run =
      let so_far = serves_run ms s run.0 v run.1 at run.2 in
      let last = run.3 in (
        subst (λ x. ServesAt l t x) (sym last.is_after) (serves_after run.0 t run.1 m.op m.access m.got so_far.0 last.moved),
        beside_trans s run.0 t so_far.1 last.moved.beside,
        ap (λ (x : DeviceView). x.frame) last.is_after ∙ law.device_end.framed run.1 m.op m.access m.got ∙ so_far.2,
      )

  -- what an access's answer tells of the side's view
  pub drivers_told : (s t : SeatState) (v : DriverView) (op : Op) (a : Access) (r : ℕ) → DrivesAt l s v
      → SeatMoves l.ring side s op a r t → d.side.tells v op a r
  drivers_told s t v op a r at m = subst (λ u. Tells d.side e.side u op a r) at.view m.told

  pub devices_told : (s t : SeatState) (w : DeviceView) (op : Op) (a : Access) (r : ℕ) → ServesAt l s w
      → SeatMoves l.ring side s op a r t → e.side.tells w op a r
  devices_told s t w op a r at m = subst (λ u. Tells d.side e.side u op a r) at.view m.told
