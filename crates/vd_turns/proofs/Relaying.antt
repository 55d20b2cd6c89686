-- Steps of a relay on plain words.
use Rattle.std.proofs.Common.{◌≡◌, ◌↔◌, ◌⊎◌, ℕ, ◌+◌, ◌≤◌, Bool, true, false, IsTrue, if◌then◌else◌, List, [], length, refl, sym, ◌∙◌, ap, subst, arith, inl, inr}
use Rattle.vd_model.specs.declared.chain.Piece.{Piece}
use Rattle.vd_model.specs.declared.record.Begun.{Begun}
use Rattle.vd_words.specs.Model.{PortModel, IsLawfulPort}
use Rattle.vd_words.specs.Step.{answered, written}
use Rattle.vd_ring.specs.declared.act.DriverAct.TheVariants as driver_act
use Rattle.vd_ring.specs.declared.act.DeviceAct.TheVariants as device_act
use Rattle.vd_ring.specs.declared.driver.DriverDone.{DriverDone}
use Rattle.vd_ring.specs.declared.driver.DriverView.{DriverView}
use Rattle.vd_ring.specs.declared.device.DeviceDone.{DeviceDone}
use Rattle.vd_ring.specs.declared.device.DeviceView.{DeviceView}
use Rattle.vd_ring.specs.declared.frame.Used.{Used}
use Rattle.vd_ring.specs.History.{offers, collects, takes, gives, IsWhole}
use Rattle.vd_ring.specs.Sleep.{driver_hearings, device_hearings, driver_woken, device_woken}
use Rattle.vd_layout.specs.declared.moves.Move.{Move}
use Rattle.vd_layout.specs.declared.moves.Move.TheVariants as move
use Rattle.vd_layout.specs.Begun.{DeviceOp}
use Rattle.vd_layout.specs.Driver.{DriverModel}
use Rattle.vd_layout.specs.Device.{DeviceModel}
use Rattle.vd_layout.specs.Layout.{LayoutModel, IsLawfulLayout}
use Rattle.vd_layout.specs.laws.Plain.{plain_step}
use Rattle.vd_bus.specs.declared.device.Attached.{Attached}
use Rattle.vd_bus.specs.Pace.{raised, worked}
use Rattle.vd_relay.specs.declared.counts.Counts.{Counts}
use Rattle.vd_relay.specs.declared.stage.Stage.{Stage}
use Rattle.vd_relay.specs.declared.stage.Stage.TheVariants as stage
use Rattle.vd_relay.specs.declared.state.State.{State}
use Rattle.vd_relay.specs.Pace.{guest_handled, shadow_handled}
use Rattle.vd_relay.specs.Moving.{IsRelayStep, OnGuest, OnShadow}
use Rattle.vd_relay.specs.Relay.{IsFinished, unless}
use Rattle.vd_relay.specs.Stages.{is_rested, BackIs, BeforeRest, EndsIs}
use Rattle.vd_relay.specs.Tie.{Start}
use Rattle.vd_switch.specs.ShadowingLanes.{IsShadowing, IsWinding}
use Rattle.vd_switch.proofs.Wound.{whole}
use Rattle.vd_turns.specs.RelayTurns.{Alternates, HalfWaits, RelayOn, did, reached}
use Rattle.vd_turns.proofs.Turning.{raised_low}

-- ---- stages

before_live : (st : Stage) (s done : List DeviceDone) → is_rested st ≡ false → BeforeRest st s done → done ≡ s
before_live stage.Rested s done live b = absurd (cc live)
before_live stage.Taking s done live b = b
before_live (stage.Offering n h) s done live b = b
before_live (stage.Collecting n) s done live b = b
before_live stage.Giving s done live b = b
before_live stage.ArmingGuest s done live b = b
before_live stage.ArmingShadow s done live b = b
before_live stage.HearingGuest s done live b = b
before_live stage.HearingShadow s done live b = b
before_live stage.DisarmingGuest s done live b = b
before_live stage.DisarmingShadow s done live b = b
before_live stage.Resting s done live b = b

-- only in a wind-up it rests
pub rests_winding : (st : Stage) (winding : Bool) (target : ℕ) (s : List DeviceDone) (o : List DriverDone) → EndsIs st winding target s o
    → winding ≡ false → is_rested st ≡ false
rests_winding stage.Rested winding target s o ends off = absurd (cc (ends.0, off))
rests_winding stage.Taking winding target s o ends off = refl
rests_winding (stage.Offering n h) winding target s o ends off = refl
rests_winding (stage.Collecting n) winding target s o ends off = refl
rests_winding stage.Giving winding target s o ends off = refl
rests_winding stage.ArmingGuest winding target s o ends off = refl
rests_winding stage.ArmingShadow winding target s o ends off = refl
rests_winding stage.HearingGuest winding target s o ends off = refl
rests_winding stage.HearingShadow winding target s o ends off = refl
rests_winding stage.DisarmingGuest winding target s o ends off = refl
rests_winding stage.DisarmingShadow winding target s o ends off = refl
rests_winding stage.Resting winding target s o ends off = refl

-- ---- counts

pub worked_is : (m : Move) (b : Bool) → IsTrue b ↔ (m ≡ move.Looked) → unless b ≡ worked m
worked_is move.Looked true f = refl
worked_is move.Looked false f = absurd (cc (f.1 refl))
worked_is move.Worked true f = absurd (cc (f.0 refl))
worked_is move.Worked false f = refl
worked_is move.Finished true f = absurd (cc (f.0 refl))
worked_is move.Finished false f = refl

pub guest_did : (b : Bool) (n m k t g t' g' o x y : ℕ) → m ≡ raised k n → t + g + k ≤ (if b then t else t') + g' → t ≤ o
    → m + (t + g + x + y) ≤ n + ((if b then o else t') + g' + x + y)
guest_did true n m k t g t' g' o x y is grown few = omega arith
guest_did false n m k t g t' g' o x y is grown few = omega arith

pub shadow_did : (b : Bool) (n m k t g o x y x' y' : ℕ) → m ≡ raised k n → x + y + k ≤ x' + y' → t ≤ o
    → m + (t + g + x + y) ≤ n + ((if b then o else t) + g + x' + y')
shadow_did true n m k t g o x y x' y' is grown few = omega arith
shadow_did false n m k t g o x y x' y' is grown few = omega arith

-- ---- a step

module _ {P Q E D : Type 0} (port : PortModel P) (law : IsLawfulPort port) (other : PortModel Q) (olaw : IsLawfulPort other)
    (e : DeviceModel E) (d : DriverModel D) (l : LayoutModel) (lay : IsLawfulLayout d e l) (z : Start) (old : List (List Piece × ℕ))
    (begun : List Begun) (by : Attached) (ws us : List ℕ) (v : DriverView) (w : DeviceView) (sv : DriverView) (sw : DeviceView)
    (r r' : State E D) (c c' : Counts) (p p' : P) (q q' : Q) (answer : Move) (plain : port.plain p ws) (shadow_plain : other.plain q us)
    (lane : IsShadowing e d l z old r begun by ws us v w sv sw) (live : is_rested r.stage ≡ false)
    (s : IsRelayStep port other e d z p p' q q' w sv r r' c c' answer) where
  winds : r'.winding ≡ true → IsWinding r' sw
  winds on =
      let was = lane.winds (sym s.kept.0 ∙ on) in
      record { target = s.kept.1 ∙ was.target; even = was.even; whole = was.whole }

  took : length (takes w.done) ≡ reached r v w
  took = sym (ap {B = ℕ} (λ (b : Bool). if b then length (offers v.done) else length (takes w.done)) live)

  few : length (takes w.done) ≤ length (offers v.done)
  few = (lay.lists ws v w lane.ring).some

  on_guest : q' ≡ q → OnGuest port e d z p p' r r' c c' w sv answer
      → RelayOn port other l e d z old begun by p p' q q' v w sv sw r r' c c' answer
  on_guest stays o =
      let k = plain_step port law e.side (λ zs x. l.ring zs v x) p p' ws w o.op o.access o.got
      (lay.device_keeps ws v w o.op o.access lane.ring o.was_next) plain o.moved in
      let w' : DeviceView = e.side.after w o.op o.access o.got in
      let hears : device_hearings w + device_woken o.op (e.act w o.op o.access (answered ws o.access)) ≤ device_hearings
      (e.side.after w o.op o.access (answered ws o.access)) = lay.device_hears ws v w o.op o.access lane.ring o.was_next in
      let heard : device_hearings w + device_woken o.op (e.act w o.op o.access o.got) ≤ device_hearings w' =
      subst (λ (x : ℕ). device_hearings w + device_woken o.op (e.act w o.op o.access x) ≤ device_hearings
      (e.side.after w o.op o.access x)) (sym k.answer) hears in
      let low = raised_low (device_woken o.op (e.act w o.op o.access o.got)) c.heard c'.heard (device_hearings w) _ o.counts.heard heard in
      let handled = guest_did (is_rested r'.stage) c.handled c'.handled (guest_handled (e.act w o.op o.access o.got))
      (length (takes w.done))
      (length (gives w.done)) (length (takes w'.done)) (length (gives w'.done)) (length (offers v.done)) (length (offers sv.done))
      (length (collects sv.done)) o.counts.handled o.grown few in
      record {
        words = written ws o.access;
        shadow = us;
        plain = k.plain;
        shadow_plain = subst (λ (x : Q). other.plain x us) (sym stays) shadow_plain;
        same = k.same;
        shadow_same = subst (λ (x : Q). other.same q x) (sym stays) (olaw.same_refl q);
        stepped = record {
          view = w';
          shadow_view = sv;
          lane = record {
            ring = k.meets;
            shadow_ring = lane.shadow_ring;
            relays = o.holds.stands;
            serves = lane.serves;
            from = lane.from;
            winds = winds;
            before = lane.before;
            undone = lane.undone;
          };
          holds = o.holds;
          kept = s.kept;
          awake = λ off. rests_winding r'.stage r'.winding r'.target _ _ o.holds.stands.ends (s.kept.0 ∙ off);
          finished = s.finished;
          looked = λ is.
              let asleep : e.act w o.op o.access (answered ws o.access) ≡ device_act.Asleep =
              ap (λ (x : ℕ). e.act w o.op o.access x) (sym k.answer) ∙ o.looked.0 is in
              let quiet = lay.device_asleep ws v w o.op o.access lane.ring o.was_next asleep in (
                ap (λ (x : ℕ). e.side.after w o.op o.access x) k.answer ∙ quiet.0,
                refl,
                let look = o.look is in
                    record {
                      turn = subst (λ (x : Stage). Alternates x r'.stage) (sym look.was) look.is;
                      half = subst (λ (x : Stage). HalfWaits x v w sv sw) (sym look.is) quiet.1;
                      guest_idle = look.guest_idle;
                      shadow_idle = look.shadow_idle;
                      live = look.live;
                      counts = s.still is;
                    },
              );
          accesses = o.counts.accesses ∙ ap (λ (x : ℕ). raised x c.accesses) (worked_is answer o.slept o.asleep);
          heard = omega (arith, low);
          handled = subst (λ (x : ℕ). c'.handled + (x + length (gives w.done) + length (offers sv.done) + length (collects sv.done))
              ≤ c.handled + did r' v w' sv) took handled;
        };
      }

  -- in a wind-up a collect finds nothing only where all is collected and given
  module _ (o : OnShadow other e d z q q' r r' c c' w sv answer) where
    finishes : o.got ≡ answered us o.access → d.act sv o.op o.access o.got ≡ driver_act.Nothing → r.winding ≡ true → IsFinished r w sv
    finishes got nothing on =
        let none : d.act sv o.op o.access (answered us o.access) ≡ driver_act.Nothing =
        ap (λ (x : ℕ). d.act sv o.op o.access x) (sym got) ∙ nothing in
        let collected : collects sv.done ≡ gives sw.done = lay.driver_nothing us sv sw o.op o.access lane.shadow_ring o.was_next none in
        let all : length (collects sv.done) ≡ r.target = ap (λ (xs : List Used). length xs) collected ∙ sym (lane.winds on).target in
        let back : lane.relays.back ≡ [] = subst (λ (x : DeviceOp). BackIs x lane.relays.back) (o.free nothing) lane.relays.to_give in (
          on,
          omega (arith, all),
          whole e d l lay z old r begun by ws us v w sv sw lane on
              (before_live r.stage lane.relays.acts w.done live lane.relays.before) back all,
        )

    counts_looks : o.got ≡ answered us o.access → IsTrue o.left_out ↔ (answer ≡ move.Looked)
    counts_looks got = (
      (λ out. elim (o.uncounted.0 out) [
        | inl is ↦ is
        | inr again ↦ absurd (again.2 (finishes got again.0 again.1))
      ]),
      λ is. o.uncounted.1 (inl is),
    )

  on_shadow : p' ≡ p → OnShadow other e d z q q' r r' c c' w sv answer
      → RelayOn port other l e d z old begun by p p' q q' v w sv sw r r' c c' answer
  on_shadow stays o =
      let k = plain_step other olaw d.side (λ zs x. l.ring zs x sw) q q' us sv o.op o.access o.got
      (lay.driver_keeps us sv sw o.op o.access lane.shadow_ring o.was_next) shadow_plain o.moved in
      let sv' : DriverView = d.side.after sv o.op o.access o.got in
      let hears : driver_hearings sv + driver_woken o.op (d.act sv o.op o.access (answered us o.access)) ≤ driver_hearings
      (d.side.after sv o.op o.access (answered us o.access)) = lay.driver_hears us sv sw o.op o.access lane.shadow_ring o.was_next in
      let heard : driver_hearings sv + driver_woken o.op (d.act sv o.op o.access o.got) ≤ driver_hearings sv' =
      subst (λ (x : ℕ). driver_hearings sv + driver_woken o.op (d.act sv o.op o.access x) ≤ driver_hearings
      (d.side.after sv o.op o.access x)) (sym k.answer) hears in
      let low = raised_low (driver_woken o.op (d.act sv o.op o.access o.got)) c.heard c'.heard (driver_hearings sv) _ o.counts.heard
      heard in
      let handled = shadow_did (is_rested r'.stage) c.handled c'.handled (shadow_handled (d.act sv o.op o.access o.got))
      (length (takes w.done)) (length (gives w.done)) (length (offers v.done)) (length (offers sv.done)) (length (collects sv.done))
      (length (offers sv'.done)) (length (collects sv'.done)) o.counts.handled o.grown few in
      record {
        words = ws;
        shadow = written us o.access;
        plain = subst (λ (x : P). port.plain x ws) (sym stays) plain;
        shadow_plain = k.plain;
        same = subst (λ (x : P). port.same p x) (sym stays) (law.same_refl p);
        shadow_same = k.same;
        stepped = record {
          view = w;
          shadow_view = sv';
          lane = record {
            ring = lane.ring;
            shadow_ring = k.meets;
            relays = o.holds.stands;
            serves = lane.serves;
            from = lane.from;
            winds = winds;
            before = lane.before;
            undone = lane.undone;
          };
          holds = o.holds;
          kept = s.kept;
          awake = λ off. rests_winding r'.stage r'.winding r'.target _ _ o.holds.stands.ends (s.kept.0 ∙ off);
          finished = s.finished;
          looked = λ is.
              let asleep : d.act sv o.op o.access (answered us o.access) ≡ driver_act.Asleep =
              ap (λ (x : ℕ). d.act sv o.op o.access x) (sym k.answer) ∙ o.looked.0 is in
              let quiet = lay.driver_asleep us sv sw o.op o.access lane.shadow_ring o.was_next asleep in (
                refl,
                ap (λ (x : ℕ). d.side.after sv o.op o.access x) k.answer ∙ quiet.0,
                let look = o.look is in
                    record {
                      turn = subst (λ (x : Stage). Alternates x r'.stage) (sym look.was) look.is;
                      half = subst (λ (x : Stage). HalfWaits x v w sv sw) (sym look.is) quiet.1;
                      guest_idle = look.guest_idle;
                      shadow_idle = look.shadow_idle;
                      live = look.live;
                      counts = s.still is;
                    },
              );
          accesses = o.counts.accesses ∙ ap (λ (x : ℕ). raised x c.accesses) (worked_is answer o.left_out (counts_looks o k.answer));
          heard = omega (arith, low);
          handled = subst (λ (x : ℕ). c'.handled + (x + length (gives w.done) + length (offers sv.done) + length (collects sv.done))
              ≤ c.handled + did r' v w sv') took handled;
        };
      }

  pub relay_on : RelayOn port other l e d z old begun by p p' q q' v w sv sw r r' c c' answer
  relay_on = elim s.made [ inl x ↦ on_guest x.0 x.1 | inr x ↦ on_shadow x.0 x.1 ]
