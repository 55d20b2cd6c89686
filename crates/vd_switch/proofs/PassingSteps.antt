-- One access of a party keeps a passing lane, and is the one step of its bag that the answer names.
use Rattle.std.proofs.Common.{◌≡◌, ℕ, Some, List, [], ◌++◌, length, sym, ◌∙◌, ap, subst}
use mathlib.Core.List.{IsPrefix}
use Rattle.std.proofs.lemmas.List.{append-nil, append_assoc}
use Rattle.vd_model.specs.declared.chain.Piece.{Piece}
use Rattle.vd_model.specs.declared.record.Begun.{Begun}
use Rattle.vd_words.specs.Model.{PortModel, IsLawfulPort}
use Rattle.vd_words.specs.Step.{written}
use Rattle.vd_ring.specs.declared.device.DeviceView.{DeviceView}
use Rattle.vd_ring.specs.declared.driver.DriverView.{DriverView}
use Rattle.vd_ring.specs.declared.frame.Used.{Used}
use Rattle.vd_ring.specs.Bag.{State}
use Rattle.vd_ring.specs.History.{takes, gives}
use Rattle.vd_ring.specs.Steps.{StandsFor, DriverBagStep}
use Rattle.vd_layout.specs.declared.moves.Move.{Move}
use Rattle.vd_layout.specs.Device.{DeviceModel}
use Rattle.vd_layout.specs.Driver.{DriverModel}
use Rattle.vd_layout.specs.Layout.{LayoutModel, IsLawfulLayout, DeviceBags}
use Rattle.vd_layout.specs.laws.Plain.{plain_step}
use Rattle.vd_bus.specs.declared.device.Attached.{Attached}
use Rattle.vd_bus.specs.Device.{DeviceParty, IsLawfulDeviceParty, IsDeviceAccess, IsServing}
use Rattle.vd_bus.specs.Guest.{GuestParty, IsGuestAccess}
use Rattle.vd_bus.specs.Orders.{IsData}
use Rattle.vd_switch.specs.Account.{IsBegunBefore}
use Rattle.vd_switch.specs.PassingLanes.{IsPassing, PassingServed, PassingDriven}

prefix_same : {A : Type 0} (xs : List A) → IsPrefix xs xs
prefix_same xs = ([], append-nil xs)

prefix_through : {A : Type 0} (xs ys zs : List A) → IsPrefix xs ys → IsPrefix ys zs → IsPrefix xs zs
prefix_through xs ys zs a b = (a.0 ++ b.0, sym (append_assoc xs a.0 b.0) ∙ ap (λ us. us ++ b.0) a.1 ∙ b.1)

-- a lane begins to be passing once its device is attached to the guest's ring
pub starts : (l : LayoutModel) (old : List (List Piece × ℕ)) (begun : List Begun) (by : Attached) (words : List ℕ) (v : DriverView)
    (w : DeviceView) → l.ring words v w → IsServing begun by w.done → by.from ≡ length (gives w.done)
    → length (takes w.done) ≡ length (gives w.done) → IsBegunBefore old (takes w.done) (gives w.done)
    → IsPassing l (takes w.done) (gives w.done) old begun by words v w
starts l old begun by words v w ring serves from even before = record {
  ring = ring;
  serves = serves;
  from = from;
  even = even;
  takes = prefix_same (takes w.done);
  gives = prefix_same (gives w.done);
  before = before;
}

module _ {P E D : Type 0} (p : PortModel P) (plaw : IsLawfulPort p) (e : DeviceModel E) (d : DriverModel D) (l : LayoutModel)
    (law : IsLawfulLayout d e l) (ts : List (List Piece)) (gs : List Used) (old : List (List Piece × ℕ)) (by : Attached) (words : List ℕ)
    (v : DriverView) (w : DeviceView) where
  pub served : {X C : Type 0} (m : DeviceParty X C) → IsLawfulDeviceParty e m → (x y : X) (a a' : P) (said : Move)
      → IsPassing l ts gs old (m.begun x) by words v w → m.attached x ≡ Some by → IsData by.queue → p.plain a words
      → (s : IsDeviceAccess p e m a a' w x y said)
      → PassingServed p l ts gs old (m.begun y) by a' v w (e.side.after w s.op s.access s.got) (e.act w s.op s.access s.got)
  served m mlaw x y a a' said h attached for_data plain s =
      let k = plain_step p plaw e.side (λ us u. l.ring us v u) a a' words w s.op s.access s.got
      (law.device_keeps words v w s.op s.access h.ring s.was_next) plain s.moved in record {
        words = written words s.access;
        plain = k.plain;
        lane = record {
          ring = k.meets;
          serves = mlaw.serves y (e.side.after w s.op s.access s.got) by s.holds (s.served.attached ∙ attached) for_data;
          from = h.from;
          even = h.even;
          takes = prefix_through ts (takes w.done) (takes (e.side.after w s.op s.access s.got).done) h.takes s.grows.takes;
          gives = prefix_through gs (gives w.done) (gives (e.side.after w s.op s.access s.got).done) h.gives s.grows.gives;
          before = h.before;
        };
        bag = λ b stands. subst (λ (r : ℕ). DeviceBags v.frame.features.in_order (e.act w s.op s.access r) v.done w.done
            (e.side.after w s.op s.access r).done b) (sym k.answer) (law.device_bag words v w s.op s.access b h.ring s.was_next stands);
      }

  pub driven : {G : Type 0} (g : GuestParty G) (begun : List Begun) (x y : G) (a a' : P) (said : Move)
      → IsPassing l ts gs old begun by words v w → p.plain a words → (s : IsGuestAccess p d g a a' v x y said)
      → PassingDriven p l ts gs old begun by a' v (d.side.after v s.op s.access s.got) w (d.act v s.op s.access s.got)
  driven g begun x y a a' said h plain s =
      let k = plain_step p plaw d.side (λ us u. l.ring us u w) a a' words v s.op s.access s.got
      (law.driver_keeps words v w s.op s.access h.ring s.was_next) plain s.moved in record {
        words = written words s.access;
        plain = k.plain;
        lane = record {
          ring = k.meets;
          serves = h.serves;
          from = h.from;
          even = h.even;
          takes = h.takes;
          gives = h.gives;
          before = h.before;
        };
        bag = λ b stands. subst (λ (r : ℕ). (b' : List State) × DriverBagStep (d.act v s.op s.access r) b b'
            × StandsFor (d.side.after v s.op s.access r).done w.done b') (sym k.answer)
            (law.driver_bag words v w s.op s.access b h.ring s.was_next stands);
      }
