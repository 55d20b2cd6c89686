-- An access of a seat is one step between words that meet the ring invariant.
use Rattle.std.proofs.Common.{ℕ, sym, subst}
use Rattle.vd_words.specs.declared.access.Access.{Access}
use Rattle.vd_words.specs.declared.access.Op.{Op}
use Rattle.vd_words.specs.Step.{written}
use Rattle.vd_ring.specs.declared.device.DeviceView.{DeviceView}
use Rattle.vd_ring.specs.declared.driver.DriverView.{DriverView}
use Rattle.vd_layout.specs.Driver.{DriverModel}
use Rattle.vd_layout.specs.Device.{DeviceModel}
use Rattle.vd_layout.specs.Layout.{LayoutModel, IsLawfulLayout}
use Rattle.vd_seats.specs.Around.{DriverStepped, DeviceStepped}
use Rattle.vd_seats.specs.Rule.{DriverHeld, DeviceHeld, Held, seat_side}
use Rattle.vd_seats.specs.Seat.{SeatState, SeatMoves, DrivesAt, ServesAt}

module _ {D E : Type 0} (d : DriverModel D) (e : DeviceModel E) (l : LayoutModel) (law : IsLawfulLayout d e l) where
  pub driver_stepped : (s t : SeatState) (v : DriverView) (op : Op) (a : Access) (r : ℕ) → DrivesAt l s v → d.side.next v op a
      → SeatMoves l.ring (seat_side d.side e.side) s op a r t → DriverStepped l v (d.side.after v op a r) a r
  driver_stepped s t v op a r at next m =
      let h : DriverHeld l.ring v a r = subst (λ u. Held l.ring u a r) at.view m.held in record {
        words = h.words;
        other = h.other;
        before = h.meets;
        answer = h.answer;
        after = subst (λ (x : ℕ). l.ring (written h.words a) (d.side.after v op a x) h.other) (sym h.answer)
            (law.driver_keeps h.words v h.other op a h.meets next).keeps;
      }

  pub device_stepped : (s t : SeatState) (w : DeviceView) (op : Op) (a : Access) (r : ℕ) → ServesAt l s w → e.side.next w op a
      → SeatMoves l.ring (seat_side d.side e.side) s op a r t → DeviceStepped l w (e.side.after w op a r) a r
  device_stepped s t w op a r at next m =
      let h : DeviceHeld l.ring w a r = subst (λ u. Held l.ring u a r) at.view m.held in record {
        words = h.words;
        other = h.other;
        before = h.meets;
        answer = h.answer;
        after = subst (λ (x : ℕ). l.ring (written h.words a) h.other (e.side.after w op a x)) (sym h.answer)
            (law.device_keeps h.words h.other w op a h.meets next).keeps;
      }
