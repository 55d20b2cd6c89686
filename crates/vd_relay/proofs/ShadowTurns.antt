-- What a turn of the shadow end owes to what its answer says.
use Rattle.std.proofs.Common.{◌≡◌, ◌≢◌, ◌↔◌, ℕ, ◌+◌, ◌*◌, ◌≤◌, Bool, true, false, Option, List, length, if◌then◌else◌, refl, sym, ◌∙◌, ap, subst, arith, inl, inr}
use Rattle.vd_model.specs.declared.chain.Piece.{Piece}
use Rattle.vd_words.specs.declared.access.Op.{Op}
use Rattle.vd_words.specs.declared.access.Op.TheVariants as op
use Rattle.vd_words.specs.Model.{PortModel}
use Rattle.vd_ring.specs.declared.act.DriverAct.{DriverAct}
use Rattle.vd_ring.specs.declared.act.DriverAct.TheVariants as act
use Rattle.vd_ring.specs.declared.frame.Frame.{Frame}
use Rattle.vd_ring.specs.declared.frame.Used.{Used}
use Rattle.vd_ring.specs.declared.driver.DriverDone.{DriverDone}
use Rattle.vd_ring.specs.declared.driver.DriverNow.TheVariants as now
use Rattle.vd_ring.specs.declared.driver.DriverView.{DriverView}
use Rattle.vd_ring.specs.declared.device.DeviceDone.{DeviceDone}
use Rattle.vd_ring.specs.declared.device.DeviceView.{DeviceView}
use Rattle.vd_ring.specs.History.{offers, collects}
use Rattle.vd_ring.specs.Sleep.{driver_woken}
use Rattle.vd_layout.specs.Begun.{DriverOp}
use Rattle.vd_layout.specs.Driver.{DriverModel, IsLawfulDriver, IsDriverStep, DriverSays}
use Rattle.vd_layout.specs.Device.{DeviceModel, IsLawfulDevice}
use Rattle.vd_table.specs.declared.Origin.{Origin}
use Rattle.vd_relay.specs.declared.counts.Turn.{Turn}
use Rattle.vd_relay.specs.declared.counts.Turn.TheVariants.{Slept, Again}
use Rattle.vd_relay.specs.declared.stage.Stage.{Stage}
use Rattle.vd_relay.specs.declared.stage.Stage.TheVariants as stage
use Rattle.vd_relay.specs.declared.state.State.{State}
use Rattle.vd_relay.specs.Ways.{Pairs}
use Rattle.vd_relay.specs.Pace.{counted, handled, woke, shadow_handled, guest_owes, shadow_owes}
use Rattle.vd_relay.specs.Stages.{is_rested, is_shadow}
use Rattle.vd_relay.specs.Tie.{Course, IsTied}
use Rattle.vd_relay.specs.Relay.{Stands, ShadowTurn, HearsNone, IsGlance, owes, IsFinished}
use Rattle.vd_relay.proofs.ShadowActs.{says_acts}
use Rattle.vd_relay.proofs.Calm.{at_stage}
use Rattle.vd_relay.proofs.Growth.{shadow_grown}

abbrev pub with_shadow : {E D : Type 0} → State E D → D → State E D
with_shadow r b = record { guest = r.guest; shadow = b; table = r.table; stage = r.stage; winding = r.winding; target = r.target }

-- the end after an access, at the next stage
abbrev pub next_at : {E D : Type 0} → State E D → D → Stage → State E D
next_at r b st = at_stage (with_shadow r b) st

pub not_woken : (o : Op) (x : DriverAct) → x ≢ act.Awake → 0 ≡ driver_woken o x
not_woken op.Offer x n = refl
not_woken op.Collect x n = refl
not_woken op.Take x n = refl
not_woken op.Give x n = refl
not_woken op.Arm x n = refl
not_woken op.Disarm x n = refl
not_woken op.Rest x n = refl
not_woken op.Control x n = refl
not_woken op.Hear act.Awake n = absurd (n refl)
not_woken op.Hear act.Moved n = refl
not_woken op.Hear (act.Offered k) n = refl
not_woken op.Hear (act.Collected k m h) n = refl
not_woken op.Hear act.Nothing n = refl
not_woken op.Hear act.Armed n = refl
not_woken op.Hear act.Asleep n = refl

-- after an answer that ends an operation the end is in no hearing
still_hears : (f : Frame) (o o' : List DriverDone) (X : Type 0) (answer : DriverAct) (a a' : DriverOp)
    → DriverSays answer a a' f o o' → (answer ≡ act.Moved → a' ≡ DriverOp.hear → X) → a' ≡ DriverOp.hear → X
still_hears f o o' X act.Moved a a' says moves is = moves refl is
still_hears f o o' X act.Nothing a a' says moves is = absurd (cc (says.1, is))
still_hears f o o' X (act.Offered k) a a' says moves is = absurd (elim says.2 [ inl x ↦ cc (x, is) | inr x ↦ cc (x, is) ])
still_hears f o o' X (act.Collected k n h) a a' says moves is = absurd (cc (says.2, is))
still_hears f o o' X act.Armed a a' says moves is = absurd (cc (says.1, is))
still_hears f o o' X act.Awake a a' says moves is = absurd (cc (says.1, is))
still_hears f o o' X act.Asleep a a' says moves is = absurd (cc (says.1, is))

-- an answer that no chain was offered or collected
none_done : (f : Frame) (o o' : List DriverDone) (answer : DriverAct) (a a' : DriverOp) → DriverSays answer a a' f o o'
    → 0 ≡ shadow_handled answer → o' ≡ o
none_done f o o' act.Moved a a' says none = says.1
none_done f o o' act.Nothing a a' says none = says.2
none_done f o o' (act.Offered k) a a' says none = absurd (omega (arith, none))
none_done f o o' (act.Collected k n h) a a' says none = absurd (omega (arith, none))
none_done f o o' act.Armed a a' says none = says.2
none_done f o o' act.Awake a a' says none = says.2
none_done f o o' act.Asleep a a' says none = says.2

-- a turn after which the shadow ring has this view
abbrev pub TurnsTo : {P E D : Type 0} → PortModel P → DeviceModel E → DriverModel D → Course → P → P → State E D → State E D → DeviceView
    → DriverView → Turn → DriverView → Type 0
TurnsTo port e d z p q r r' w v t v' = (turn : ShadowTurn port e d z p q r r' w v t)
    × (d.side.after v turn.op turn.access turn.got ≡ v')

module _ {P E D : Type 0} (port : PortModel P) (e : DeviceModel E) (d : DriverModel D) (law : IsLawfulDevice e) (ldr : IsLawfulDriver d)
    (z : Course) (p q : P) (r : State E D) (w : DeviceView) (v : DriverView) (b : D) where
  -- the turn to the view after the access, from what the answer says
  pub made_to : (answer : DriverAct) (s : IsDriverStep port d p q v r.shadow b answer) (st : Stage) (r' : State E D) (t : Turn)
      → Stands e d z r' w (d.side.after v s.op s.access s.got)
      → handled t ≡ shadow_handled answer → woke t ≡ driver_woken s.op answer → (t ≡ Slept) ↔ (answer ≡ act.Asleep)
      → (t ≡ Again) ↔ ((answer ≡ act.Nothing) × (r.winding ≡ true) × (IsFinished r w v → ⊥)) → is_rested r'.stage ≡ false
      → owes e d r' w (d.side.after v s.op s.access s.got) + counted t ≤ owes e d (at_stage r st) w v + 64 * (handled t + woke t)
      → r'.shadow ≡ b → (answer ≡ act.Moved → d.begun b ≡ DriverOp.hear → (d.side.after v s.op s.access s.got).doing ≡ now.Idle → ⊥)
      → (t ≡ Slept → IsGlance stage.HearingShadow stage.HearingGuest e d (at_stage r st) r')
      → (t ≢ Slept → HearsNone e d r')
      → TurnsTo port e d z p q (at_stage r st) r' w v t (d.side.after v s.op s.access s.got)
  made_to answer s st r' t stands handles wakes sleeps agains live paid same moves look leaves = (
    record {
      op = s.op;
      access = s.access;
      got = s.got;
      was_next = s.was_next;
      moved = s.moved;
      stands = stands;
      handled = handles ∙ ap shadow_handled s.is_answer;
      woke = wakes ∙ ap (driver_woken s.op) s.is_answer;
      slept = subst (λ x. (t ≡ Slept) ↔ (x ≡ act.Asleep)) s.is_answer sleeps;
      again = subst (λ x. (t ≡ Again) ↔ ((x ≡ act.Nothing) × (r.winding ≡ true) × (IsFinished r w v → ⊥))) s.is_answer agains;
      same = λ none.
          none_done v.frame v.done (d.side.after v s.op s.access s.got).done answer (d.begun r.shadow) (d.begun b) s.says
          (sym none ∙ handles);
      acts = says_acts answer (d.begun r.shadow) (d.begun b) v.frame v.done (d.side.after v s.op s.access s.got).done s.says;
      live = live;
      grown =
          subst (λ x. length (offers v.done) + length (collects v.done) + shadow_handled x
          ≤ length (offers (d.side.after v s.op s.access s.got).done) + length (collects (d.side.after v s.op s.access s.got).done))
          s.is_answer
          (shadow_grown v.done (d.side.after v s.op s.access s.got).done v.frame answer (d.begun r.shadow) (d.begun b) s.says);
      hears = λ is.
          still_hears v.frame v.done (d.side.after v s.op s.access s.got).done _ answer (d.begun r.shadow) (d.begun b) s.says moves
          (ap d.begun (sym same) ∙ is);
      look = look;
      leaves = leaves;
      paid = paid;
    },
    refl,
  )

  pub made_at : (answer : DriverAct) (s : IsDriverStep port d p q v r.shadow b answer) (st : Stage) (r' : State E D) (t : Turn)
      → Stands e d z r' w (d.side.after v s.op s.access s.got)
      → handled t ≡ shadow_handled answer → woke t ≡ driver_woken s.op answer → (t ≡ Slept) ↔ (answer ≡ act.Asleep)
      → (t ≡ Again) ↔ ((answer ≡ act.Nothing) × (r.winding ≡ true) × (IsFinished r w v → ⊥)) → is_rested r'.stage ≡ false
      → owes e d r' w (d.side.after v s.op s.access s.got) + counted t ≤ owes e d (at_stage r st) w v + 64 * (handled t + woke t)
      → r'.shadow ≡ b → (answer ≡ act.Moved → d.begun b ≡ DriverOp.hear → (d.side.after v s.op s.access s.got).doing ≡ now.Idle → ⊥)
      → (t ≡ Slept → IsGlance stage.HearingShadow stage.HearingGuest e d (at_stage r st) r')
      → (t ≢ Slept → HearsNone e d r')
      → ShadowTurn port e d z p q (at_stage r st) r' w v t
  made_at answer s st r' t stands handles wakes sleeps agains live paid same moves look leaves =
      (made_to answer s st r' t stands handles wakes sleeps agains live paid same moves look leaves).0

  pub framed_at : (answer : DriverAct) (s : IsDriverStep port d p q v r.shadow b answer) → Pairs z.way w.frame v.frame
      → Pairs z.way w.frame (d.side.after v s.op s.access s.got).frame
  framed_at answer s paired = subst (λ (f : Frame). Pairs z.way w.frame f) (sym (ldr.framed v s.op s.access s.got)) paired

  -- the tie at the view after the step
  pub tied_after : (answer : DriverAct) (s : IsDriverStep port d p q v r.shadow b answer) (t' : List (Option Origin))
      (hand : List (List Piece))
      (back : List Used) (acts : List DeviceDone) (o' : List DriverDone) → (d.side.after v s.op s.access s.got).done ≡ o'
      → IsTied z t' hand back acts v.frame o'
      → IsTied z t' hand back acts (d.side.after v s.op s.access s.got).frame (d.side.after v s.op s.access s.got).done
  tied_after answer s t' hand back acts o' done tied =
      subst (λ (f : Frame). IsTied z t' hand back acts f (d.side.after v s.op s.access s.got).done) (sym (ldr.framed v s.op s.access s.got))
      (subst (λ (o : List DriverDone). IsTied z t' hand back acts v.frame o) (sym done) tied)

  pub owes_here : (r' : State E D) (u : DriverView) → is_shadow r'.stage ≡ true
      → owes e d r' w u ≡ shadow_owes r'.winding r'.stage (d.begun r'.shadow) u.doing w.shown u.shown (d.left r'.shadow)
  owes_here r' u side = ap {B = ℕ} (λ (x : Bool). if x then shadow_owes r'.winding r'.stage (d.begun r'.shadow) u.doing w.shown u.shown
      (d.left r'.shadow) else guest_owes r'.winding r'.stage (e.begun r'.guest) w.doing w.shown u.shown (e.left r'.guest)) side

  pub once : (answer : DriverAct) (t : Turn) → answer ≢ act.Nothing → t ≢ Again
      → (t ≡ Again) ↔ ((answer ≡ act.Nothing) × (r.winding ≡ true) × (IsFinished r w v → ⊥))
  once answer t n m = ((λ y. absurd (m y)), λ y. absurd (n y.0))

  -- the stage that an operation names, and back
  pub to_stage_to : (st : Stage) (r' : State E D) (t : Turn) (v' : DriverView) → r.stage ≡ st → (Stands e d z (at_stage r st) w v
      → TurnsTo port e d z p q (at_stage r st) r' w v t v') → Stands e d z r w v → TurnsTo port e d z p q r r' w v t v'
  to_stage_to st r' t v' is f h = subst (λ (x : Stage). TurnsTo port e d z p q (at_stage r x) r' w v t v') (sym is)
      (f (subst (λ (x : Stage). Stands e d z (at_stage r x) w v) is h))

  pub to_stage : (st : Stage) (r' : State E D) (t : Turn) → r.stage ≡ st → (Stands e d z (at_stage r st) w v
      → ShadowTurn port e d z p q (at_stage r st) r' w v t) → Stands e d z r w v → ShadowTurn port e d z p q r r' w v t
  to_stage st r' t is f h = subst (λ (x : Stage). ShadowTurn port e d z p q (at_stage r x) r' w v t) (sym is)
      (f (subst (λ (x : Stage). Stands e d z (at_stage r x) w v) is h))
