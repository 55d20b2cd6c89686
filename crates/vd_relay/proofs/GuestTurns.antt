-- What a turn of the guest's end owes to what its answer says.
use Rattle.std.proofs.Common.{◌≡◌, ◌≢◌, ◌↔◌, ℕ, ◌+◌, ◌*◌, ◌≤◌, Bool, false, List, length, if◌then◌else◌, refl, sym, ◌∙◌, ap, subst, inl, inr}
use Rattle.vd_words.specs.declared.access.Op.{Op}
use Rattle.vd_words.specs.declared.access.Op.TheVariants as op
use Rattle.vd_words.specs.Model.{PortModel}
use Rattle.vd_ring.specs.declared.act.DeviceAct.{DeviceAct}
use Rattle.vd_ring.specs.declared.act.DeviceAct.TheVariants as act
use Rattle.vd_ring.specs.declared.frame.Frame.{Frame}
use Rattle.vd_ring.specs.declared.driver.DriverView.{DriverView}
use Rattle.vd_ring.specs.declared.device.DeviceDone.{DeviceDone}
use Rattle.vd_ring.specs.declared.device.DeviceNow.TheVariants as now
use Rattle.vd_ring.specs.declared.device.DeviceView.{DeviceView}
use Rattle.vd_ring.specs.History.{takes, gives}
use Rattle.vd_ring.specs.Sleep.{device_woken}
use Rattle.vd_layout.proofs.OnePair.{says_given}
use Rattle.vd_layout.specs.Driver.{DriverModel, IsLawfulDriver}
use Rattle.vd_layout.specs.Begun.{DeviceOp}
use Rattle.vd_layout.specs.Control.{ControlWords}
use Rattle.vd_layout.specs.Device.{DeviceModel, IsLawfulDevice, IsDeviceStep, DeviceSays, is_rested as is_rested_act}
use Rattle.vd_relay.specs.declared.counts.Turn.{Turn}
use Rattle.vd_relay.specs.declared.counts.Turn.TheVariants.{Slept, Again}
use Rattle.vd_relay.specs.declared.stage.Stage.{Stage}
use Rattle.vd_relay.specs.declared.stage.Stage.TheVariants as stage
use Rattle.vd_relay.specs.declared.state.State.{State}
use Rattle.vd_relay.specs.Ways.{Pairs}
use Rattle.vd_relay.specs.Pace.{counted, handled, woke, guest_handled, guest_owes, shadow_owes}
use Rattle.vd_relay.specs.Stages.{is_rested, is_shadow}
use Rattle.vd_relay.specs.Tie.{Course, returned}
use Rattle.vd_relay.specs.Relay.{Stands, GuestDid, GuestTurn, GivesOne, HearsNone, IsGlance, owes}
use Rattle.vd_relay.proofs.Calm.{at_stage}
use Rattle.vd_relay.proofs.Growth.{guest_grown}

abbrev pub with_guest : {E D : Type 0} → State E D → E → State E D
with_guest r b = record { guest = b; shadow = r.shadow; table = r.table; stage = r.stage; winding = r.winding; target = r.target }

-- the end after an access, at the next stage
abbrev pub next_at : {E D : Type 0} → State E D → E → Stage → State E D
next_at r b st = at_stage (with_guest r b) st

pub not_woken : (o : Op) (x : DeviceAct) → x ≢ act.Awake → 0 ≡ device_woken o x
not_woken op.Offer x n = refl
not_woken op.Collect x n = refl
not_woken op.Take x n = refl
not_woken op.Give x n = refl
not_woken op.Arm x n = refl
not_woken op.Disarm x n = refl
not_woken op.Rest x n = refl
not_woken op.Control x n = refl
not_woken op.Hear act.Awake n = absurd (n refl)
not_woken op.Hear act.Moved n = refl
not_woken op.Hear (act.Taken k c) n = refl
not_woken op.Hear (act.Given k) n = refl
not_woken op.Hear act.Nothing n = refl
not_woken op.Hear act.Armed n = refl
not_woken op.Hear act.Asleep n = refl
not_woken op.Hear act.Rested n = refl

-- after an answer that ends an operation the end is in no hearing
still_hears : (words : ControlWords) (f : Frame) (o o' : List DeviceDone) (X : Type 0) (answer : DeviceAct) (a a' : DeviceOp)
    → DeviceSays words answer a a' f o o' → (answer ≡ act.Moved → a' ≡ DeviceOp.hear → X) → a' ≡ DeviceOp.hear → X
still_hears words f o o' X act.Moved a a' says moves is = moves refl is
still_hears words f o o' X act.Nothing a a' says moves is = absurd (cc (says.1, is))
still_hears words f o o' X (act.Taken k c) a a' says moves is = absurd (cc (says.2, is))
still_hears words f o o' X (act.Given k) a a' says moves is = absurd (elim says.3 [ inl x ↦ cc (x, is) | inr x ↦ cc (x, is) ])
still_hears words f o o' X act.Rested a a' says moves is = absurd (cc (says.1, is))
still_hears words f o o' X act.Armed a a' says moves is = absurd (cc (says.1, is))
still_hears words f o o' X act.Awake a a' says moves is = absurd (cc (says.1, is))
still_hears words f o o' X act.Asleep a a' says moves is = absurd (cc (says.1, is))

-- what was done, from what the answer says
did_of : {E : Type 0} (e : DeviceModel E) (f : Frame) (o o' : List DeviceDone) (a a' : E) (answer : DeviceAct)
    → DeviceSays e.words answer (e.begun a) (e.begun a') f o o' → GuestDid e answer a a' o o'
did_of e f o o' a a' act.Moved says = says.1
did_of e f o o' a a' act.Nothing says = says.2
did_of e f o o' a a' (act.Taken k c) says = (says.0, says.4)
did_of e f o o' a a' (act.Given k) says =
    let g = says_given e.words k (e.begun a) (e.begun a') f o o' says in (says.0, g.begun, g.done)
did_of e f o o' a a' act.Rested says = (says.1, says.2)
did_of e f o o' a a' act.Armed says = says.2
did_of e f o o' a a' act.Awake says = says.2
did_of e f o o' a a' act.Asleep says = says.2

-- a turn after which the guest's ring has this view
abbrev pub TurnsTo : {P E D : Type 0} → PortModel P → DeviceModel E → DriverModel D → Course → P → P → State E D → State E D → DeviceView
    → DriverView → Turn → DeviceView → Type 0
TurnsTo port e d z p q r r' w v t w' = (turn : GuestTurn port e d z p q r r' w v t)
    × (e.side.after w turn.op turn.access turn.got ≡ w')

module _ {P E D : Type 0} (port : PortModel P) (e : DeviceModel E) (d : DriverModel D) (law : IsLawfulDevice e) (ldr : IsLawfulDriver d)
    (z : Course) (p q : P) (r : State E D) (w : DeviceView) (v : DriverView) (b : E) where
  -- the turn to the view after the access, from what the answer says
  pub made_to : (answer : DeviceAct) (s : IsDeviceStep port e p q w r.guest b answer) (st : Stage) (r' : State E D) (t : Turn)
      → Stands e d z r' (e.side.after w s.op s.access s.got) v
      → GivesOne (returned z v.done) w.done (e.side.after w s.op s.access s.got).done
      → handled t ≡ guest_handled answer → woke t ≡ device_woken s.op answer → (t ≡ Slept) ↔ (answer ≡ act.Asleep) → t ≢ Again
      → (t ≡ Slept → is_rested r'.stage ≡ false)
      → owes e d r' (e.side.after w s.op s.access s.got) v + counted t ≤ owes e d (at_stage r st) w v + 64 * (handled t + woke t)
      → r'.guest ≡ b → (answer ≡ act.Moved → e.begun b ≡ DeviceOp.hear → (e.side.after w s.op s.access s.got).doing ≡ now.Idle → ⊥)
      → (t ≡ Slept → IsGlance stage.HearingGuest stage.HearingShadow e d (at_stage r st) r')
      → (t ≢ Slept → HearsNone e d r')
      → TurnsTo port e d z p q (at_stage r st) r' w v t (e.side.after w s.op s.access s.got)
  made_to answer s st r' t stands bag handles wakes sleeps once live paid same moves look leaves = (
    record {
      op = s.op;
      access = s.access;
      got = s.got;
      was_next = s.was_next;
      moved = s.moved;
      stands = stands;
      bag = bag;
      handled = handles ∙ ap guest_handled s.is_answer;
      woke = wakes ∙ ap (device_woken s.op) s.is_answer;
      slept = subst (λ x. (t ≡ Slept) ↔ (x ≡ act.Asleep)) s.is_answer sleeps;
      once = once;
      did = subst (λ x. GuestDid e x r.guest r'.guest w.done (e.side.after w s.op s.access s.got).done) s.is_answer
          (subst (λ x. GuestDid e answer r.guest x w.done (e.side.after w s.op s.access s.got).done) (sym same)
          (did_of e w.frame w.done (e.side.after w s.op s.access s.got).done r.guest b answer s.says));
      rests = sym stands.rests ∙ ap e.resting same ∙ s.rests ∙ ap is_rested_act s.is_answer;
      live = live;
      grown =
          let rests : is_rested_act answer ≡ is_rested r'.stage = sym s.rests ∙ ap e.resting (sym same) ∙ stands.rests in
          subst (λ x. length (takes w.done) + length (gives w.done) + guest_handled x
          ≤ (if is_rested r'.stage then length (takes w.done) else length (takes (e.side.after w s.op s.access s.got).done))
          + length (gives (e.side.after w s.op s.access s.got).done)) s.is_answer
          (subst (λ (x : Bool). length (takes w.done) + length (gives w.done) + guest_handled answer
          ≤ (if x then length (takes w.done) else length (takes (e.side.after w s.op s.access s.got).done))
          + length (gives (e.side.after w s.op s.access s.got).done)) rests
          (guest_grown w.done (e.side.after w s.op s.access s.got).done e.words w.frame answer (e.begun r.guest) (e.begun b) s.says));
      hears = λ is.
          still_hears e.words w.frame w.done (e.side.after w s.op s.access s.got).done _ answer (e.begun r.guest) (e.begun b) s.says moves
          (ap e.begun (sym same) ∙ is);
      look = look;
      leaves = leaves;
      paid = paid;
    },
    refl,
  )

  pub made_at : (answer : DeviceAct) (s : IsDeviceStep port e p q w r.guest b answer) (st : Stage) (r' : State E D) (t : Turn)
      → Stands e d z r' (e.side.after w s.op s.access s.got) v
      → GivesOne (returned z v.done) w.done (e.side.after w s.op s.access s.got).done
      → handled t ≡ guest_handled answer → woke t ≡ device_woken s.op answer → (t ≡ Slept) ↔ (answer ≡ act.Asleep) → t ≢ Again
      → (t ≡ Slept → is_rested r'.stage ≡ false)
      → owes e d r' (e.side.after w s.op s.access s.got) v + counted t ≤ owes e d (at_stage r st) w v + 64 * (handled t + woke t)
      → r'.guest ≡ b → (answer ≡ act.Moved → e.begun b ≡ DeviceOp.hear → (e.side.after w s.op s.access s.got).doing ≡ now.Idle → ⊥)
      → (t ≡ Slept → IsGlance stage.HearingGuest stage.HearingShadow e d (at_stage r st) r')
      → (t ≢ Slept → HearsNone e d r')
      → GuestTurn port e d z p q (at_stage r st) r' w v t
  made_at answer s st r' t stands bag handles wakes sleeps once live paid same moves look leaves =
      (made_to answer s st r' t stands bag handles wakes sleeps once live paid same moves look leaves).0

  pub framed_at : (answer : DeviceAct) (s : IsDeviceStep port e p q w r.guest b answer) → Pairs z.way w.frame v.frame
      → Pairs z.way (e.side.after w s.op s.access s.got).frame v.frame
  framed_at answer s paired = subst (λ (f : Frame). Pairs z.way f v.frame) (sym (law.framed w s.op s.access s.got)) paired

  pub bag_same : (answer : DeviceAct) (s : IsDeviceStep port e p q w r.guest b answer) → (e.side.after w s.op s.access s.got).done ≡ w.done
      → GivesOne (returned z v.done) w.done (e.side.after w s.op s.access s.got).done
  bag_same answer s done = inl (ap gives done)

  pub owes_here : (r' : State E D) (u : DeviceView) → is_shadow r'.stage ≡ false
      → owes e d r' u v ≡ guest_owes r'.winding r'.stage (e.begun r'.guest) u.doing u.shown v.shown (e.left r'.guest)
  owes_here r' u side = ap {B = ℕ} (λ (x : Bool). if x then shadow_owes r'.winding r'.stage (d.begun r'.shadow) v.doing u.shown v.shown
      (d.left r'.shadow) else guest_owes r'.winding r'.stage (e.begun r'.guest) u.doing u.shown v.shown (e.left r'.guest)) side

  -- the stage that an operation names, and back
  pub to_stage : (st : Stage) (r' : State E D) (t : Turn) → r.stage ≡ st → (Stands e d z (at_stage r st) w v
      → GuestTurn port e d z p q (at_stage r st) r' w v t) → Stands e d z r w v → GuestTurn port e d z p q r r' w v t
  to_stage st r' t is f h = subst (λ (x : Stage). GuestTurn port e d z p q (at_stage r x) r' w v t) (sym is)
      (f (subst (λ (x : Stage). Stands e d z (at_stage r x) w v) is h))

  pub to_stage_to : (st : Stage) (r' : State E D) (t : Turn) (w' : DeviceView) → r.stage ≡ st → (Stands e d z (at_stage r st) w v
      → TurnsTo port e d z p q (at_stage r st) r' w v t w') → Stands e d z r w v → TurnsTo port e d z p q r r' w v t w'
  to_stage_to st r' t w' is f h = subst (λ (x : Stage). TurnsTo port e d z p q (at_stage r x) r' w v t w') (sym is)
      (f (subst (λ (x : Stage). Stands e d z (at_stage r x) w v) is h))
