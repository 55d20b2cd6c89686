-- An operation of a driver's end made to its end, step by step.
use Rattle.std.specs.Prelude.{◌≡◌, ◌≢◌, ◌⊎◌, ℕ, Option, Some, None, List}
use Rattle.vd_words.specs.declared.access.Op.TheVariants as op
use Rattle.vd_words.specs.Model.{PortModel}
use Rattle.vd_ring.specs.declared.act.DriverAct.{DriverAct}
use Rattle.vd_ring.specs.declared.act.DriverAct.TheVariants as driver_act
use Rattle.vd_ring.specs.declared.driver.DriverNow.TheVariants as now
use Rattle.vd_ring.specs.declared.driver.DriverView.{DriverView}
use Rattle.vd_layout.specs.Begun.{DriverOp, DriverPublished}
use Rattle.vd_layout.specs.Driver.{DriverModel, DriverSays}
use Rattle.vd_layout.specs.Run.{Made, IsRun, IsToldAt}

-- an operation that a begin call began
abbrev pub IsDriverWork : DriverOp → Type 0
IsDriverWork (DriverOp.offer c) = Unit {0}
IsDriverWork DriverOp.collect = Unit {0}
IsDriverWork DriverOp.arm = Unit {0}
IsDriverWork DriverOp.hear = Unit {0}
IsDriverWork DriverOp.disarm = Unit {0}
IsDriverWork _ = ⊥

-- the answer that the steps so far have told: the last one that isn't Moved
abbrev pub driver_told : DriverAct → DriverAct → DriverAct
driver_told before driver_act.Moved = before
driver_told before now = now

-- how an operation that told this leaves its side, by whether it was armed before and is after it: Armed leaves it armed, Asleep as it
-- was, and Awake unarmed
abbrev pub DriverLeaves : DriverAct → Option ℕ → Option ℕ → Type 0
DriverLeaves driver_act.Armed a a' = (t : ℕ) × (a' ≡ Some t)
DriverLeaves driver_act.Asleep a a' = a' ≡ a
DriverLeaves driver_act.Awake a a' = a' ≡ None
DriverLeaves _ a a' = Unit {0}

-- an operation of the driver's end was made to its end: by accesses that were next it came to a view for which the end stands,
-- and its answer is one that ends the operation
pub record IsDriverFinish {P E : Type 0} (port : PortModel P) (m : DriverModel E) (p q : P) (v : DriverView) (e e' : E)
    (answer : DriverAct) : Type 0 where
  pub view : DriverView
  pub made : List Made
  pub run : IsRun port m.side made p v q view
  pub now_stands : m.stands e' view
  pub idle : m.begun e' ≡ DriverOp.idle
  pub told : answer ≢ driver_act.Moved
  pub says : DriverSays answer (m.begun e) DriverOp.idle v.frame v.done view.done
  -- only an arming arms
  pub unarmed : m.begun e ≢ DriverOp.arm → v.armed ≡ None → view.armed ≡ None
  pub leaves : v.doing ≡ now.Idle → DriverLeaves answer v.armed view.armed
  -- the access by which it was told
  pub at : IsToldAt port m.side m.act (λ u. u.done ≡ v.done) p v answer

-- ---- on the way

-- how far an operation is that has told nothing, and before which nothing was in progress
abbrev pub DriverWay : DriverOp → DriverView → DriverView → Type 0
DriverWay DriverOp.arm v w =
    (w.doing ≡ now.Idle) ⊎ ((w.doing ≡ now.Arming) × (t : ℕ) × (w.armed ≡ Some t)) ⊎ (w.doing ≡ now.Disarming op.Arm)
DriverWay DriverOp.hear v w = (w ≡ v) ⊎ (w.doing ≡ now.Disarming op.Hear)
DriverWay _ v w = Unit {0}

-- what was told ended the operation; after an offer its signal may be left
abbrev pub DriverSignals : DriverAct → DriverOp → Type 0
DriverSignals (driver_act.Offered k) b = DriverPublished b
DriverSignals _ b = b ≡ DriverOp.idle

-- nothing told yet, or told and published
pub record DriverGoing {P E : Type 0} (port : PortModel P) (m : DriverModel E) (b : DriverOp) (p : P) (v : DriverView) (q : P) (e : E)
    (answer : DriverAct) : Type 0 where
  pub view : DriverView
  pub made : List Made
  pub run : IsRun port m.side made p v q view
  pub stands : m.stands e view
  pub framed : view.frame ≡ v.frame
  pub unarmed : b ≢ DriverOp.arm → v.armed ≡ None → view.armed ≡ None
  pub phase : ((answer ≡ driver_act.Moved) × (m.begun e ≡ b) × (view.done ≡ v.done) × (v.doing ≡ now.Idle → DriverWay b v view)) ⊎
      ((answer ≢ driver_act.Moved) × DriverSignals answer (m.begun e) × DriverSays answer b DriverOp.idle v.frame v.done view.done
      × (v.doing ≡ now.Idle → DriverLeaves answer v.armed view.armed) × IsToldAt port m.side m.act (λ u. u.done ≡ v.done) p v answer)
