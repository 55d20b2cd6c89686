-- An operation of a device's end made to its end, step by step.
use Rattle.std.specs.Prelude.{Bool, ◌≡◌, ◌≢◌, ◌⊎◌, ℕ, Option, Some, None, List}
use Rattle.vd_words.specs.declared.access.Op.TheVariants as op
use Rattle.vd_words.specs.Model.{PortModel}
use Rattle.vd_ring.specs.declared.act.DeviceAct.{DeviceAct}
use Rattle.vd_ring.specs.declared.act.DeviceAct.TheVariants as act
use Rattle.vd_ring.specs.declared.device.DeviceNow.TheVariants as now
use Rattle.vd_ring.specs.declared.device.DeviceView.{DeviceView}
use Rattle.vd_layout.specs.Begun.{DeviceOp}
use Rattle.vd_layout.specs.Device.{DeviceModel, DeviceSays, is_rested}
use Rattle.vd_layout.specs.Run.{Made, IsRun, IsToldAt}

-- an operation that a begin call began
abbrev pub IsDeviceWork : DeviceOp → Type 0
IsDeviceWork DeviceOp.take = Unit {0}
IsDeviceWork (DeviceOp.give k n) = Unit {0}
IsDeviceWork DeviceOp.rest = Unit {0}
IsDeviceWork DeviceOp.arm = Unit {0}
IsDeviceWork DeviceOp.hear = Unit {0}
IsDeviceWork DeviceOp.disarm = Unit {0}
IsDeviceWork _ = ⊥

-- the answer that the steps so far have told: the last one that isn't Moved
abbrev pub device_told : DeviceAct → DeviceAct → DeviceAct
device_told before act.Moved = before
device_told before now = now

-- how an operation that told this leaves its side, by whether it was armed before and is after it: Armed leaves it armed, Asleep as it
-- was, and Awake unarmed
abbrev pub DeviceLeaves : DeviceAct → Option ℕ → Option ℕ → Type 0
DeviceLeaves act.Armed a a' = (t : ℕ) × (a' ≡ Some t)
DeviceLeaves act.Asleep a a' = a' ≡ a
DeviceLeaves act.Awake a a' = a' ≡ None
DeviceLeaves _ a a' = Unit {0}

-- an operation of the device's end was made to its end: by accesses that were next it came to a view for which the end stands,
-- its answer is one that ends the operation, and it rests exactly where it answers so
pub record IsDeviceFinish {P E : Type 0} (port : PortModel P) (m : DeviceModel E) (p q : P) (v : DeviceView) (e e' : E)
    (answer : DeviceAct) : Type 0 where
  pub view : DeviceView
  pub made : List Made
  pub run : IsRun port m.side made p v q view
  pub now_stands : m.stands e' view
  pub idle : m.begun e' ≡ DeviceOp.idle
  pub told : answer ≢ act.Moved
  pub says : DeviceSays m.words answer (m.begun e) DeviceOp.idle v.frame v.done view.done
  pub rests : m.resting e' ≡ is_rested answer
  -- only an arming arms
  pub unarmed : m.begun e ≢ DeviceOp.arm → v.armed ≡ None → view.armed ≡ None
  pub leaves : v.doing ≡ now.Idle → DeviceLeaves answer v.armed view.armed
  -- the access by which it was told
  pub at : IsToldAt port m.side m.act (λ u. u.done ≡ v.done) p v answer

-- ---- on the way

-- how far an operation is that has told nothing, and before which nothing was in progress
abbrev pub DeviceWay : DeviceOp → DeviceView → DeviceView → Type 0
DeviceWay DeviceOp.arm v w =
    (w.doing ≡ now.Idle) ⊎ ((w.doing ≡ now.Arming) × (t : ℕ) × (w.armed ≡ Some t)) ⊎ (w.doing ≡ now.Disarming op.Arm)
DeviceWay DeviceOp.hear v w = (w ≡ v) ⊎ (w.doing ≡ now.Disarming op.Hear)
DeviceWay _ v w = Unit {0}

-- after a give its signal may be left
abbrev pub DeviceSignals : DeviceAct → Type 0
DeviceSignals (act.Given k) = Unit {0}
DeviceSignals _ = ⊥

-- what was told ended the operation, or only its signal is left
abbrev pub DeviceToldStage : DeviceAct → DeviceOp → Bool → Type 0
DeviceToldStage answer b resting = ((b ≡ DeviceOp.idle) × (resting ≡ is_rested answer)) ⊎ ((b ≡ DeviceOp.signal) × DeviceSignals answer)

-- nothing told yet, or told
pub record DeviceGoing {P E : Type 0} (port : PortModel P) (m : DeviceModel E) (b : DeviceOp) (p : P) (v : DeviceView) (q : P) (e : E)
    (answer : DeviceAct) : Type 0 where
  pub view : DeviceView
  pub made : List Made
  pub run : IsRun port m.side made p v q view
  pub stands : m.stands e view
  pub framed : view.frame ≡ v.frame
  pub unarmed : b ≢ DeviceOp.arm → v.armed ≡ None → view.armed ≡ None
  pub phase : ((answer ≡ act.Moved) × (m.begun e ≡ b) × (view.done ≡ v.done) × (v.doing ≡ now.Idle → DeviceWay b v view)) ⊎
      ((answer ≢ act.Moved) × DeviceToldStage answer (m.begun e) (m.resting e)
      × DeviceSays m.words answer b DeviceOp.idle v.frame v.done view.done
      × (v.doing ≡ now.Idle → DeviceLeaves answer v.armed view.armed) × IsToldAt port m.side m.act (λ u. u.done ≡ v.done) p v answer)
