-- A lane in an epoch of the mode pass: the parts that its parties promise, each of its own view, and what follows from them and the ring.
use Rattle.std.specs.Prelude.{◌≡◌, ℕ, List, ◌++◌, length, map, drop}
use mathlib.Core.List.{IsPrefix}
use Rattle.vd_model.specs.declared.chain.Piece.{Piece}
use Rattle.vd_model.specs.declared.record.Begun.{Begun}
use Rattle.vd_words.specs.Model.{PortModel}
use Rattle.vd_ring.specs.declared.act.DeviceAct.{DeviceAct}
use Rattle.vd_ring.specs.declared.act.DriverAct.{DriverAct}
use Rattle.vd_ring.specs.declared.driver.DriverView.{DriverView}
use Rattle.vd_ring.specs.declared.device.DeviceView.{DeviceView}
use Rattle.vd_ring.specs.declared.frame.Used.{Used}
use Rattle.vd_ring.specs.Account.{Lawful}
use Rattle.vd_ring.specs.Bag.{State}
use Rattle.vd_ring.specs.History.{takes, gives}
use Rattle.vd_ring.specs.Steps.{StandsFor, DriverBagStep}
use Rattle.vd_layout.specs.Layout.{LayoutModel, DeviceBags}
use Rattle.vd_bus.specs.declared.device.Attached.{Attached}
use Rattle.vd_bus.specs.Device.{IsServing}
use Rattle.vd_switch.specs.Account.{IsBegunBefore, lane_account}

-- the ring, what the device has journalled since its attach, and what stood on the ring at the attach: all that was taken was given
pub record IsPassing (l : LayoutModel) (ts : List (List Piece)) (gs : List Used) (old : List (List Piece × ℕ)) (begun : List Begun)
    (by : Attached) (words : List ℕ) (v : DriverView) (w : DeviceView) : Type 0 where
  pub ring : l.ring words v w
  pub serves : IsServing begun by w.done
  pub from : by.from ≡ length gs
  pub even : length ts ≡ length gs
  pub takes : IsPrefix ts (Rattle.vd_ring.specs.History.takes w.done)
  pub gives : IsPrefix gs (Rattle.vd_ring.specs.History.gives w.done)
  pub before : IsBegunBefore old ts gs

abbrev pub passed : Begun → List Piece × ℕ
passed b = (b.chain, b.len)

-- the chains begun in the lane: those before, and those of the device since its attach
abbrev pub lane_passed : List (List Piece × ℕ) → List Begun → Attached → List (List Piece × ℕ)
lane_passed old begun by = old ++ map passed (drop by.at begun)

-- a lane is kept while it is passing: its account is lawful, and the chains begun are those taken from the guest's ring
pub record KeepsPassing (old : List (List Piece × ℕ)) (begun : List Begun) (by : Attached) (v : DriverView) (w : DeviceView) : Type 0 where
  pub lawful : Lawful (lane_account v.done (lane_passed old begun by) w.done)
  pub chains : map (λ x. x.0) (lane_passed old begun by) ≡ takes w.done

-- ---- one access of a party, over plain words. The chains begun being those taken, the lane's bag is the ring's own: it makes the one
-- step that the answer names

-- of the device: a take begins its chain, and a give ends its chain
pub record PassingServed {P : Type 0} (p : PortModel P) (l : LayoutModel) (ts : List (List Piece)) (gs : List Used)
    (old : List (List Piece × ℕ)) (begun : List Begun) (by : Attached) (q : P) (v : DriverView) (w w' : DeviceView) (answer : DeviceAct)
    : Type 0 where
  pub words : List ℕ
  pub plain : p.plain q words
  pub lane : IsPassing l ts gs old begun by words v w'
  pub bag : (b : List State) → StandsFor v.done w.done b → DeviceBags v.frame.features.in_order answer v.done w.done w'.done b

-- of the guest
pub record PassingDriven {P : Type 0} (p : PortModel P) (l : LayoutModel) (ts : List (List Piece)) (gs : List Used)
    (old : List (List Piece × ℕ)) (begun : List Begun) (by : Attached) (q : P) (v v' : DriverView) (w : DeviceView) (answer : DriverAct)
    : Type 0 where
  pub words : List ℕ
  pub plain : p.plain q words
  pub lane : IsPassing l ts gs old begun by words v' w
  pub bag : (b : List State) → StandsFor v.done w.done b → (b' : List State) × DriverBagStep answer b b' × StandsFor v'.done w.done b'
