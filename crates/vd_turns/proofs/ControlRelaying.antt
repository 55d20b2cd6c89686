-- Steps of a relay of a control queue on plain words.
use Rattle.std.proofs.Common.{◌≡◌, ◌↔◌, ◌⊎◌, ℕ, ◌+◌, ◌≤◌, Bool, true, false, IsTrue, Some, if◌then◌else◌, List, [], length, refl, sym, ◌∙◌, ap, subst, arith, inl, inr}
use Rattle.vd_model.specs.declared.record.Begun.{Begun}
use Rattle.vd_words.specs.Model.{PortModel, IsLawfulPort}
use Rattle.vd_words.specs.Step.{answered, written}
use Rattle.vd_ring.specs.declared.act.DriverAct.TheVariants as driver_act
use Rattle.vd_ring.specs.declared.act.DeviceAct.TheVariants as device_act
use Rattle.vd_ring.specs.declared.driver.DriverView.{DriverView}
use Rattle.vd_ring.specs.declared.device.DeviceView.{DeviceView}
use Rattle.vd_ring.specs.declared.device.DeviceDone.{DeviceDone}
use Rattle.vd_ring.specs.declared.frame.Used.{Used}
use Rattle.vd_ring.specs.History.{offers, collects, takes, gives}
use Rattle.vd_ring.specs.Sleep.{DriverWaits, driver_hearings, device_hearings, driver_woken, device_woken}
use Rattle.vd_layout.specs.Begun.{DeviceOp}
use Rattle.vd_layout.specs.declared.moves.Move.{Move}
use Rattle.vd_layout.specs.declared.moves.Move.TheVariants as move
use Rattle.vd_layout.specs.Driver.{DriverModel}
use Rattle.vd_layout.specs.Device.{DeviceModel}
use Rattle.vd_layout.specs.Layout.{LayoutModel, IsLawfulLayout}
use Rattle.vd_layout.specs.laws.Plain.{plain_step}
use Rattle.vd_bus.specs.Pace.{raised, worked}
use Rattle.vd_control.specs.declared.settings.Settings.{Settings}
use Rattle.vd_control.specs.Settings.{replay as replay_of}
use Rattle.vd_relay.specs.declared.control.Control.{Control}
use Rattle.vd_relay.specs.declared.control.Mode.{Mode}
use Rattle.vd_relay.specs.declared.control.Mode.TheVariants.{Replaying, Carrying, Leaving}
use Rattle.vd_relay.specs.declared.counts.Counts.{Counts}
use Rattle.vd_relay.specs.declared.replay.ReplayStage.{ReplayStage}
use Rattle.vd_relay.specs.declared.replay.ReplayStage.TheVariants as replay
use Rattle.vd_relay.specs.declared.stage.Stage.{Stage}
use Rattle.vd_relay.specs.declared.stage.Stage.TheVariants as stage
use Rattle.vd_relay.specs.declared.state.State.{State}
use Rattle.vd_relay.specs.Modes.{Opening, ControlHolds, Does, carries_from, has_replayed}
use Rattle.vd_relay.specs.ModeSteps.{Becomes, IsControlStep, LooksOn, OnGuestControl, OnShadowControl}
use Rattle.vd_relay.specs.Pace.{guest_handled, shadow_handled}
use Rattle.vd_relay.specs.Commanding.{carries}
use Rattle.vd_relay.specs.Relay.{IsFinished, unless}
use Rattle.vd_relay.specs.Replays as replay_at
use Rattle.vd_relay.specs.Replays.{is_done, is_over}
use Rattle.vd_relay.specs.Stages.{BackIs, BeforeRest, is_rested}
use Rattle.vd_switch.specs.Controlling.{ControlStart, replay_list}
use Rattle.vd_switch.proofs.Controlling.{kind}
use Rattle.vd_switch.proofs.ControllingSteps.{on_guest as on_guest', on_shadow as on_shadow', answers, acks, account}
use Rattle.vd_switch.proofs.WoundCourse.{whole_by}
use Rattle.vd_turns.specs.RelayTurns.{Alternates, HalfWaits, HasLooked, did, reached}
use Rattle.vd_turns.specs.ControlTurns.{IsControlLane, ControlLooked, ControlOn}
use Rattle.vd_turns.proofs.Relaying.{guest_did, rests_winding, shadow_did, worked_is}
use Rattle.vd_turns.proofs.Turning.{raised_low}

done_over : (st : ReplayStage) → is_done st ≡ true → is_over st ≡ false → ⊥
done_over replay.Done done over = cc over
done_over replay.Left done over = cc over
done_over replay.First done over = cc done
done_over replay.Second done over = cc done
done_over replay.Offering done over = cc done
done_over replay.Collecting done over = cc done
done_over (replay.Loading h) done over = cc done
done_over replay.Arming done over = cc done
done_over replay.Hearing done over = cc done
done_over replay.Disarming done over = cc done

before_live : (st : Stage) (s done : List DeviceDone) → is_rested st ≡ false → BeforeRest st s done → done ≡ s
before_live stage.Rested s done live b = absurd (cc live)
before_live _ s done live b = b

module _ {E D : Type 0} (l : LayoutModel) (e : DeviceModel E) (d : DriverModel D) (z : Opening) where
  awake_by : (m : Mode) (r : State E D) (k : Control) (s : Settings) (c : Counts) (w : DeviceView) (v : DriverView)
      → Does m l e d z r k s c w v → r.winding ≡ false → is_rested r.stage ≡ false
  awake_by Replaying r k s c w v h off = ap is_rested h.1.waits
  awake_by Carrying r k s c w v h off = rests_winding r.stage r.winding r.target _ _ h.commands.stands.ends off
  awake_by Leaving r k s c w v h off = absurd (cc (h.winding, off))

  not_replaying : (m by : Mode) (r : State E D) (k : Control) (s : Settings) (c : Counts) (w : DeviceView) (v : DriverView)
      → Does m l e d z r k s c w v → Becomes m by → is_done k.replay.stage ≡ true → by ≡ Replaying → ⊥
  not_replaying Replaying by r k s c w v h b done is = done_over k.replay.stage done h.0
  not_replaying Carrying by r k s c w v h b done is = cc (b, is)
  not_replaying Leaving by r k s c w v h b done is = cc (b, is)

module _ {P Q E D : Type 0} (port : PortModel P) (law : IsLawfulPort port) (other : PortModel Q) (olaw : IsLawfulPort other)
    (e : DeviceModel E) (d : DriverModel D) (l : LayoutModel) (lay : IsLawfulLayout d e l) (x : ControlStart)
    (begun : List Begun) (now : Settings) (ws us : List ℕ)
    (v : DriverView) (w : DeviceView) (sv : DriverView) (sw : DeviceView) (r r' : State E D) (k k' : Control) (s s' : Settings)
    (c c' : Counts) (p p' : P) (q q' : Q) (answer : Move) (plain : port.plain p ws) (shadow_plain : other.plain q us)
    (lane : IsControlLane l e d x begun now ws us v w sv sw r k s c) (live : is_rested r.stage ≡ false)
    (t : IsControlStep port other l e d x.opening p p' q q' w sv r r' k k' s s' c c' answer) where
  took : length (takes w.done) ≡ reached r v w
  took = sym (ap {B = ℕ} (λ (b : Bool). if b then length (offers v.done) else length (takes w.done)) live)

  few : length (takes w.done) ≤ length (offers v.done)
  few = (lay.lists ws v w lane.controlling.parts.ring).some

  stays_replayed : (w' : DeviceView) (v' : DriverView) → ControlHolds l e d x.opening r' k' s' c' w' v' → has_replayed (Some k) ≡ true
      → has_replayed (Some k') ≡ true
  stays_replayed w' v' h' done =
      let h = lane.controlling.holds in
      h'.done.1 ((t.far (not_replaying l e d x.opening k.mode t.by r k s c w sv h.does t.begins done)).1 ∙ h.done.0 done)

  guest_looked : (by : Mode) → (by ≡ Replaying → ⊥) → HasLooked e d r r' c c' v w sv sw → ControlLooked by e d r r' k' c c' v w sv sw
  guest_looked Replaying n y = absurd (n refl)
  guest_looked Carrying n y = y
  guest_looked Leaving n y = y

  shadow_looked : (by : Mode) → LooksOn by e d r r' k' → DriverWaits sv sw → c' ≡ c → ControlLooked by e d r r' k' c c' v w sv sw
  shadow_looked Replaying look waits same =
      record { stage = look.0; waits = waits; shadow_idle = look.1; live = look.2; counts = same }
  shadow_looked Carrying look waits same = record {
    turn = subst (λ (x : Stage). Alternates x r'.stage) (sym look.was) look.is;
    half = subst (λ (x : Stage). HalfWaits x v w sv sw) (sym look.is) waits;
    guest_idle = look.guest_idle;
    shadow_idle = look.shadow_idle;
    live = look.live;
    counts = same;
  }
  shadow_looked Leaving look waits same = record {
    turn = subst (λ (x : Stage). Alternates x r'.stage) (sym look.was) look.is;
    half = subst (λ (x : Stage). HalfWaits x v w sv sw) (sym look.is) waits;
    guest_idle = look.guest_idle;
    shadow_idle = look.shadow_idle;
    live = look.live;
    counts = same;
  }

  on_guest : q' ≡ q → (t.by ≡ Replaying → ⊥) → OnGuestControl port l e d x.opening p p' r r' k' s' c c' w sv answer
      → ControlOn port other l e d x begun now p p' q q' v w sv sw r r' k k' s s' c c' answer
  on_guest stays other_mode o =
      let n = plain_step port law e.side (λ zs x. l.ring zs v x) p p' ws w o.op o.access o.got
      (lay.device_keeps ws v w o.op o.access lane.controlling.parts.ring o.was_next) plain o.moved in
      let w' : DeviceView = e.side.after w o.op o.access o.got in
      let hears : device_hearings w + device_woken o.op (e.act w o.op o.access (answered ws o.access)) ≤ device_hearings
      (e.side.after w o.op o.access (answered ws o.access)) = lay.device_hears ws v w o.op o.access lane.controlling.parts.ring o.was_next in
      let heard : device_hearings w + device_woken o.op (e.act w o.op o.access o.got) ≤ device_hearings w' =
      subst (λ (x : ℕ). device_hearings w + device_woken o.op (e.act w o.op o.access x) ≤ device_hearings
      (e.side.after w o.op o.access x)) (sym n.answer) hears in
      let low = raised_low (device_woken o.op (e.act w o.op o.access o.got)) c.heard c'.heard (device_hearings w) _ o.counts.heard heard in
      let handled = guest_did (is_rested r'.stage) c.handled c'.handled (guest_handled (e.act w o.op o.access o.got))
      (length (takes w.done))
      (length (gives w.done)) (length (takes w'.done)) (length (gives w'.done)) (length (offers v.done)) (length (offers sv.done))
      (length (collects sv.done)) o.counts.handled o.grown few in
      record {
        words = written ws o.access;
        shadow = us;
        plain = n.plain;
        shadow_plain = subst (λ (x : Q). other.plain x us) (sym stays) shadow_plain;
        same = n.same;
        shadow_same = subst (λ (x : Q). other.same q x) (sym stays) (olaw.same_refl q);
        stepped = record {
          view = w';
          shadow_view = sv;
          lane = record {
            controlling = on_guest' port other law olaw l e d lay x p p' q q' r r' k k' s s' c c' begun now ws us v w sv sw answer
                lane.controlling t o plain;
            answers = answers port other law olaw l e d lay x p p' q q' r r' k k' s s' c c' begun now ws us v w sv sw answer
                lane.controlling t o plain o.acts lane.answers;
            acks = lane.acks;
            covered = λ on. lane.covered (sym t.kept.0 ∙ on);
          };
          kept = t.kept;
          awake = λ off. awake_by l e d x.opening k'.mode r' k' s' c' w' sv o.holds.does (t.kept.0 ∙ off);
          replayed = stays_replayed w' sv o.holds;
          finished = t.finished;
          by = t.by;
          looked = λ is.
              let asleep : e.act w o.op o.access (answered ws o.access) ≡ device_act.Asleep =
              ap (λ (x : ℕ). e.act w o.op o.access x) (sym n.answer) ∙ o.looked.0 is in
              let quiet = lay.device_asleep ws v w o.op o.access lane.controlling.parts.ring o.was_next asleep in (
                ap (λ (x : ℕ). e.side.after w o.op o.access x) n.answer ∙ quiet.0,
                refl,
                (t.still is).1,
                let look = o.look is in
                    guest_looked t.by other_mode (record {
                      turn = subst (λ (x : Stage). Alternates x r'.stage) (sym look.was) look.is;
                      half = subst (λ (x : Stage). HalfWaits x v w sv sw) (sym look.is) quiet.1;
                      guest_idle = look.guest_idle;
                      shadow_idle = look.shadow_idle;
                      live = look.live;
                      counts = (t.still is).0;
                    }),
              );
          account = account port other law olaw l e d lay x p p' q q' r r' k k' s s' c c' begun now ws us v w sv sw answer
              lane.controlling t;
          accesses = o.counts.accesses ∙ ap (λ (x : ℕ). raised x c.accesses) (worked_is answer o.slept o.asleep);
          heard = omega (arith, low);
          handled = subst (λ (x : ℕ). c'.handled + (x + length (gives w.done) + length (offers sv.done) + length (collects sv.done))
              ≤ c.handled + did r' v w' sv) took handled;
        };
      }

  -- in a wind-up a collect finds nothing only where all is collected and given
  module _ (o : OnShadowControl other l e d x.opening q q' t.by r r' k' s' c c' w sv answer) (leaves : t.by ≡ Leaving → ⊥)
      (got : o.got ≡ answered us o.access) (nothing : d.act sv o.op o.access o.got ≡ driver_act.Nothing) (on : r.winding ≡ true) where
    collected : collects sv.done ≡ gives sw.done
    collected = lay.driver_nothing us sv sw o.op o.access lane.controlling.parts.shadow_ring o.was_next
        (ap (λ (y : ℕ). d.act sv o.op o.access y) (sym got) ∙ nothing)

    all : length (replay_list x) ≤ length (collects sv.done)
    all = omega (arith, lane.covered on, ap (λ (us : List Used). length us) collected)

    carried : k.mode ≡ Carrying → IsFinished r w sv
    carried is =
        let h = subst (λ (m : Mode). Does m l e d x.opening r k s c w sv) is lane.controlling.holds.does in
        let stands = h.commands.stands in
        let until : length (collects sv.done) ≡ r.target = ap (λ (us : List Used). length us) collected
        ∙ sym (lane.controlling.winds on).target in
        let back : stands.back ≡ [] = subst (λ (y : DeviceOp). BackIs y stands.back) (o.free nothing) stands.to_give in (
          on,
          omega (arith, until),
          whole_by e d l lay (carries (carries_from x.opening k.replay.next)) r ws us v w sv sw lane.controlling.parts.ring
              lane.controlling.parts.shadow_ring stands (lane.controlling.winds on)
              (before_live r.stage stands.acts w.done live stands.before) back until,
        )

    -- a replay that goes over leaves none of its commands on the shadow ring
    waits : (st : ReplayStage) → is_over st ≡ false → replay_at.IsAt st (replay_list x) k.replay.next sv.frame sv.done
        → (k.replay.next ≡ length (replay_list x)) ⊎ ((r.winding ≡ true) × (length (offers sv.done) ≤ k.replay.next)) → ⊥
    waits replay.First off at over = omega (arith, at.0, at.1.collected, all)
    waits replay.Second off at over = omega (arith, at.0, at.1.collected, all)
    waits replay.Offering off at over = omega (arith, at.0, at.1.collected, all)
    waits replay.Collecting off at over = omega (arith, at.0, at.1.collected, all)
    waits (replay.Loading g) off at over = elim over [
      | inl whole ↦ omega (arith, at.0, whole)
      | inr cut ↦ omega (arith, at.1.offered, cut.1)
    ]
    waits replay.Arming off at over = omega (arith, at.0, at.1.collected, all)
    waits replay.Hearing off at over = omega (arith, at.0, at.1.collected, all)
    waits replay.Disarming off at over = omega (arith, at.0, at.1.collected, all)
    waits replay.Done off at over = cc off
    waits replay.Left off at over = cc off

    finishes : (t.by ≡ Carrying → IsFinished r w sv → ⊥) → ⊥
    finishes never = elim (kind t.by) [
      | inl by ↦ omega (arith, o.waits by nothing on, all)
      | inr (inl by) ↦ elim (kind k.mode) [
        | inl was ↦ (
            let far = t.far (λ is. (let other : Carrying ≡ Replaying = sym by ∙ is in cc)) in
            let h = subst (λ (m : Mode). Does m l e d x.opening r k s c w sv) was lane.controlling.holds.does in
            let at = subst (λ (y : Settings). replay_at.IsAt k.replay.stage (replay_of y) k.replay.next sv.frame sv.done)
            lane.controlling.holds.again h.1.replays.replays.at in
            waits k.replay.stage h.0 at (subst (λ (n : ℕ). (n ≡ length (replay_list x))
            ⊎ ((r.winding ≡ true) × (length (offers sv.done) ≤ n))) far.1 (t.over was (far.0 ∙ by)))
            )
        | inr (inl is) ↦ never by (carried is)
        | inr (inr is) ↦ (
            let b : t.by ≡ Leaving = subst (λ (m : Mode). Becomes m t.by) is t.begins in leaves b
            )
      ]
      | inr (inr by) ↦ leaves by
    ]

  counts_looks : (o : OnShadowControl other l e d x.opening q q' t.by r r' k' s' c c' w sv answer) → (t.by ≡ Leaving → ⊥)
      → o.got ≡ answered us o.access → IsTrue o.left_out ↔ (answer ≡ move.Looked)
  counts_looks o leaves got = (
    (λ out. elim (o.uncounted.0 out) [
      | inl is ↦ is
      | inr again ↦ absurd (finishes o leaves got again.0 again.1 again.2)
    ]),
    λ is. o.uncounted.1 (inl is),
  )

  on_shadow : p' ≡ p → (t.by ≡ Leaving → ⊥) → OnShadowControl other l e d x.opening q q' t.by r r' k' s' c c' w sv answer
      → ControlOn port other l e d x begun now p p' q q' v w sv sw r r' k k' s s' c c' answer
  on_shadow stays leaves o =
      let n = plain_step other olaw d.side (λ zs x. l.ring zs x sw) q q' us sv o.op o.access o.got
      (lay.driver_keeps us sv sw o.op o.access lane.controlling.parts.shadow_ring o.was_next) shadow_plain o.moved in
      let sv' : DriverView = d.side.after sv o.op o.access o.got in
      let hears : driver_hearings sv + driver_woken o.op (d.act sv o.op o.access (answered us o.access)) ≤ driver_hearings
      (d.side.after sv o.op o.access (answered us o.access)) = lay.driver_hears us sv sw o.op o.access lane.controlling.parts.shadow_ring o.was_next in
      let heard : driver_hearings sv + driver_woken o.op (d.act sv o.op o.access o.got) ≤ driver_hearings sv' =
      subst (λ (x : ℕ). driver_hearings sv + driver_woken o.op (d.act sv o.op o.access x) ≤ driver_hearings
      (d.side.after sv o.op o.access x)) (sym n.answer) hears in
      let low = raised_low (driver_woken o.op (d.act sv o.op o.access o.got)) c.heard c'.heard (driver_hearings sv) _ o.counts.heard
      heard in
      let handled = shadow_did (is_rested r'.stage) c.handled c'.handled (shadow_handled (d.act sv o.op o.access o.got))
      (length (takes w.done)) (length (gives w.done)) (length (offers v.done)) (length (offers sv.done)) (length (collects sv.done))
      (length (offers sv'.done)) (length (collects sv'.done)) o.counts.handled o.grown few in
      record {
        words = ws;
        shadow = written us o.access;
        plain = subst (λ (x : P). port.plain x ws) (sym stays) plain;
        shadow_plain = n.plain;
        same = subst (λ (x : P). port.same p x) (sym stays) (law.same_refl p);
        shadow_same = n.same;
        stepped = record {
          view = w;
          shadow_view = sv';
          lane = record {
            controlling = on_shadow' port other law olaw l e d lay x p p' q q' r r' k k' s s' c c' begun now ws us v w sv sw answer
                lane.controlling t o leaves shadow_plain;
            answers = lane.answers;
            acks = acks port other law olaw l e d lay x p p' q q' r r' k k' s s' c c' begun now ws us v w sv sw answer lane.controlling t
                o leaves shadow_plain lane.acks;
            covered = λ on. lane.covered (sym t.kept.0 ∙ on);
          };
          kept = t.kept;
          awake = λ off. awake_by l e d x.opening k'.mode r' k' s' c' w sv' o.holds.does (t.kept.0 ∙ off);
          replayed = stays_replayed w sv' o.holds;
          finished = t.finished;
          by = t.by;
          looked = λ is.
              let asleep : d.act sv o.op o.access (answered us o.access) ≡ driver_act.Asleep =
              ap (λ (x : ℕ). d.act sv o.op o.access x) (sym n.answer) ∙ o.looked.0 is in
              let quiet = lay.driver_asleep us sv sw o.op o.access lane.controlling.parts.shadow_ring o.was_next asleep in (
                refl,
                ap (λ (x : ℕ). d.side.after sv o.op o.access x) n.answer ∙ quiet.0,
                (t.still is).1,
                shadow_looked t.by (o.look is) quiet.1 (t.still is).0,
              );
          account = account port other law olaw l e d lay x p p' q q' r r' k k' s s' c c' begun now ws us v w sv sw answer
              lane.controlling t;
          accesses = o.counts.accesses
              ∙ ap (λ (y : ℕ). raised y c.accesses) (worked_is answer o.left_out (counts_looks o leaves n.answer));
          heard = omega (arith, low);
          handled = subst (λ (x : ℕ). c'.handled + (x + length (gives w.done) + length (offers sv.done) + length (collects sv.done))
              ≤ c.handled + did r' v w sv') took handled;
        };
      }

  pub control_on : ControlOn port other l e d x begun now p p' q q' v w sv sw r r' k k' s s' c c' answer
  control_on = elim t.made [ inl y ↦ on_guest y.0 y.2 y.3 | inr y ↦ on_shadow y.0 y.1 y.2 ]
