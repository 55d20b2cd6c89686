-- A relay's turn on plain words, step by step.
use Rattle.std.proofs.Common.{◌≡◌, ℕ, ◌+◌, ◌≤◌, true, false, List, refl, sym, ◌∙◌, ap, subst, arith}
use Rattle.vd_model.specs.declared.chain.Piece.{Piece}
use Rattle.vd_model.specs.declared.record.Begun.{Begun}
use Rattle.vd_ring.specs.declared.driver.DriverView.{DriverView}
use Rattle.vd_ring.specs.declared.device.DeviceView.{DeviceView}
use Rattle.vd_layout.specs.declared.moves.Move.{Move}
use Rattle.vd_layout.specs.declared.moves.Move.TheVariants as move
use Rattle.vd_layout.specs.Driver.{DriverModel}
use Rattle.vd_layout.specs.Device.{DeviceModel}
use Rattle.vd_layout.specs.Layout.{LayoutModel}
use Rattle.vd_bus.specs.declared.device.Attached.{Attached}
use Rattle.vd_bus.specs.Pace.{last_count, worked}
use Rattle.vd_relay.specs.declared.counts.Counts.{Counts}
use Rattle.vd_relay.specs.declared.stage.Stage.{Stage}
use Rattle.vd_relay.specs.declared.stage.Stage.TheVariants as stage
use Rattle.vd_relay.specs.declared.state.State.{State}
use Rattle.vd_relay.specs.Moving.{Holds}
use Rattle.vd_relay.specs.Stages.{is_rested}
use Rattle.vd_relay.specs.Tie.{Start}
use Rattle.vd_switch.specs.ShadowingLanes.{IsShadowing}
use Rattle.vd_turns.specs.RelayTurns.{HasLooked, RelayStepped, RelayRun, RelayWay, RelayTurn, did}
use Rattle.vd_turns.proofs.Turning.{worked_one, one_more, no_more}

pub live_on : (st : Stage) → (is_rested st ≡ true → ⊥) → is_rested st ≡ false
live_on stage.Rested rests = absurd (rests refl)
live_on stage.Taking rests = refl
live_on (stage.Offering n h) rests = refl
live_on (stage.Collecting n) rests = refl
live_on stage.Giving rests = refl
live_on stage.ArmingGuest rests = refl
live_on stage.ArmingShadow rests = refl
live_on stage.HearingGuest rests = refl
live_on stage.HearingShadow rests = refl
live_on stage.DisarmingGuest rests = refl
live_on stage.DisarmingShadow rests = refl
live_on stage.Resting rests = refl

-- what two steps add
pub through : (a b c x y u : ℕ) → b + x ≤ a + y → c + y ≤ b + u → c + x ≤ a + u
through a b c x y u f g = omega arith

module _ {E D : Type 0} (l : LayoutModel) (e : DeviceModel E) (d : DriverModel D) (z : Start) (old : List (List Piece × ℕ))
    (begun : List Begun) (by : Attached) (v : DriverView) (sw : DeviceView) where
  -- on other words that are the same
  pub relay_same : (ws us ws' us' : List ℕ) (w : DeviceView) (sv : DriverView) (r r' : State E D) (c c' : Counts) (answer : Move)
      → ws' ≡ ws → us' ≡ us → RelayStepped l e d z old begun by ws us v w sv sw r r' c c' answer
      → RelayStepped l e d z old begun by ws' us' v w sv sw r r' c c' answer
  relay_same ws us ws' us' w sv r r' c c' answer a b s = subst
      (λ (xs : List ℕ). RelayStepped l e d z old begun by xs us' v w sv sw r r' c c' answer) (sym a)
      (subst (λ (xs : List ℕ). RelayStepped l e d z old begun by ws xs v w sv sw r r' c c' answer) (sym b) s)

  pub relay_starts : (ws us : List ℕ) (w : DeviceView) (sv : DriverView) (r : State E D) (c : Counts) → is_rested r.stage ≡ false
      → IsShadowing e d l z old r begun by ws us v w sv sw → Holds e d z r c w sv
      → RelayWay l e d z old begun by ws us v w sv sw r r c c 0
  relay_starts ws us w sv r c live lane holds = record {
    run = record {
      view = w;
      shadow_view = sv;
      lane = lane;
      holds = holds;
      kept = (refl, refl);
      awake = λ off. live;
      accesses = λ le. omega arith;
      heard = omega arith;
      handled = omega arith;
    };
    start = λ none. (refl, refl, refl, refl);
  }

  module _ (ws us ws' us' : List ℕ) (w : DeviceView) (sv : DriverView) (r y u : State E D) (c b a : Counts) (made : ℕ) (answer : Move)
      (way : RelayWay l e d z old begun by ws us v w sv sw r y c b made)
      (s : RelayStepped l e d z old begun by ws' us' v way.run.view way.run.shadow_view sw y u b a answer) where
    runs : (n : ℕ) → (c.accesses + n ≤ last_count → a.accesses ≡ c.accesses + n)
        → RelayRun l e d z old begun by ws' us' v w sv sw r u c a n
    runs n accesses = record {
      view = s.view;
      shadow_view = s.shadow_view;
      lane = s.lane;
      holds = s.holds;
      kept = (s.kept.0 ∙ way.run.kept.0, s.kept.1 ∙ way.run.kept.1);
      awake = λ off. s.awake (way.run.kept.0 ∙ off);
      accesses = accesses;
      heard = omega (arith, s.heard, way.run.heard);
      handled = through c.handled b.handled a.handled (did r v w sv) (did y v way.run.view way.run.shadow_view)
          (did u v s.view s.shadow_view) way.run.handled s.handled;
    }

    -- a step that was no look
    more : (answer ≡ move.Looked → ⊥) → RelayRun l e d z old begun by ws' us' v w sv sw r u c a (made + 1)
    more work = runs (made + 1) (λ le. one_more c.accesses b.accesses a.accesses made (worked answer) way.run.accesses s.accesses
        (worked_one answer work) le)

    pub relay_goes : (answer ≡ move.Looked → ⊥) → RelayWay l e d z old begun by ws' us' v w sv sw r u c a (made + 1)
    relay_goes work = record { run = more work; start = λ none. absurd (omega arith) }

    -- the step after which it rests
    pub relay_ends : (answer ≡ move.Looked → ⊥) → RelayTurn l e d z old begun by ws' us' v w sv sw r u c a (made + 1)
    relay_ends work = record { run = more work; quiet = λ none. absurd (omega arith) }

    -- a look
    pub relay_looks : answer ≡ move.Looked → RelayTurn l e d z old begun by ws' us' v w sv sw r u c a made
    unfolding runs
    relay_looks is =
        let quiet = s.looked is in
        let none : worked answer ≡ 0 = ap worked is in
        record {
          run = runs made (λ le. no_more c.accesses b.accesses a.accesses made (worked answer) way.run.accesses s.accesses none le);
          quiet = λ zero.
              let first = way.start zero in (
                quiet.0 ∙ first.0,
                quiet.1 ∙ first.1,
                subst (λ (x : Counts). HasLooked e d r u x a v w sv sw) first.3
                    (subst (λ (x : State E D). HasLooked e d x u b a v w sv sw) first.2
                    (subst (λ (x : DriverView). HasLooked e d y u b a v w x sw) first.1
                    (subst (λ (x : DeviceView). HasLooked e d y u b a v x way.run.shadow_view sw) first.0 quiet.2))),
              );
        }

  pub relay_spent : (ws us : List ℕ) (w : DeviceView) (sv : DriverView) (r y : State E D) (c b : Counts) (made : ℕ)
      → RelayWay l e d z old begun by ws us v w sv sw r y c b made → 1 ≤ made
      → RelayTurn l e d z old begun by ws us v w sv sw r y c b made
  relay_spent ws us w sv r y c b made way some = record { run = way.run; quiet = λ none. absurd (omega arith) }
