-- The guest's end of a relay whose wind-up came before the replay was over, and that took nothing: it is left by a rest.
use Rattle.std.specs.Prelude.{◌≡◌, ℕ, ◌+◌, ◌≤◌, Bool, false, None, length, if◌then◌else◌}
use Rattle.vd_words.specs.declared.access.Access.{Access}
use Rattle.vd_words.specs.declared.access.Op.{Op}
use Rattle.vd_words.specs.declared.access.Op.TheVariants.{Rest}
use Rattle.vd_words.specs.Model.{PortModel}
use Rattle.vd_ring.specs.declared.device.DeviceView.{DeviceView}
use Rattle.vd_ring.specs.History.{takes, gives}
use Rattle.vd_layout.specs.Begun.{DeviceOp}
use Rattle.vd_layout.specs.Device.{DeviceModel}
use Rattle.vd_relay.specs.Acts.{AddsOneAct}
use Rattle.vd_relay.specs.Pace.{guest_handled}

-- an end that is free: all that was taken is given, and it neither rests nor sleeps
pub record IsFree {E : Type 0} (e : DeviceModel E) (a : E) (w : DeviceView) : Type 0 where
  pub serves : e.stands a w
  pub even : length (takes w.done) ≡ length (gives w.done)
  pub idle : e.begun a ≡ DeviceOp.idle
  pub awake : e.resting a ≡ false
  pub unarmed : e.armed a ≡ false

-- the operation of an end that is left, by whether it rests: the rest, or none
abbrev pub RestIs : Bool → DeviceOp → Type 0
RestIs resting DeviceOp.idle = Unit {0}
RestIs false DeviceOp.rest = Unit {0}
RestIs resting b = ⊥

-- an end that is left: before its rest, in it, or after it
pub record IsLeft {E : Type 0} (e : DeviceModel E) (a : E) (w : DeviceView) : Type 0 where
  pub serves : e.stands a w
  pub even : length (takes w.done) ≡ length (gives w.done)
  pub op : RestIs (e.resting a) (e.begun a)
  pub unarmed : w.armed ≡ None

-- how many accesses its rest may take
abbrev pub rest_owes : DeviceOp → ℕ → ℕ
rest_owes DeviceOp.idle left = 2
rest_owes b left = left

abbrev pub leave_owes : {E : Type 0} → DeviceModel E → E → ℕ
leave_owes e a = if e.resting a then 0 else rest_owes (e.begun a) (e.left a)

-- one access of the rest, which was next; nothing is taken back by it, as nothing was taken
pub record IsLeave {P E : Type 0} (port : PortModel P) (e : DeviceModel E) (p q : P) (a a' : E) (w : DeviceView) (rested : Bool)
    : Type 0 where
  pub op : Op
  pub access : Access
  pub got : ℕ
  pub rest : op ≡ Rest
  pub was_next : e.side.next w op access
  pub moved : port.moves p op access got q
  pub left : IsLeft e a' (e.side.after w op access got)
  pub acts : AddsOneAct w.done (e.side.after w op access got).done
  pub takes : Rattle.vd_ring.specs.History.takes (e.side.after w op access got).done ≡ Rattle.vd_ring.specs.History.takes w.done
  pub gives : Rattle.vd_ring.specs.History.gives (e.side.after w op access got).done ≡ Rattle.vd_ring.specs.History.gives w.done
  pub handled : guest_handled (e.act w op access got) ≡ 0
  pub rests : e.resting a' ≡ rested
  pub paid : leave_owes e a' + 1 ≤ leave_owes e a
