-- A turn of a relay of a control queue on plain words, step by step.
use Rattle.std.proofs.Common.{◌≡◌, ℕ, ◌+◌, ◌≤◌, true, false, List, Option, Some, None, IsSomeAnd, refl, sym, ◌∙◌, ap, subst, arith}
use Rattle.vd_ring.specs.declared.driver.DriverView.{DriverView}
use Rattle.vd_ring.specs.declared.device.DeviceView.{DeviceView}
use Rattle.vd_layout.specs.declared.moves.Move.{Move}
use Rattle.vd_layout.specs.declared.moves.Move.TheVariants as move
use Rattle.vd_layout.specs.Driver.{DriverModel}
use Rattle.vd_layout.specs.Device.{DeviceModel}
use Rattle.vd_layout.specs.Layout.{LayoutModel}
use Rattle.vd_bus.specs.Pace.{last_count, worked}
use Rattle.vd_control.specs.declared.settings.Settings.{Settings}
use Rattle.vd_relay.specs.declared.control.Control.{Control}
use Rattle.vd_relay.specs.declared.control.Mode.{Mode}
use Rattle.vd_relay.specs.declared.control.Mode.TheVariants.{Replaying, Carrying, Leaving}
use Rattle.vd_relay.specs.declared.counts.Counts.{Counts}
use Rattle.vd_relay.specs.declared.state.State.{State}
use Rattle.vd_relay.specs.Stages.{is_rested}
use Rattle.vd_model.specs.declared.record.Begun.{Begun}
use Rattle.vd_switch.specs.Controlling.{ControlStart}
use Rattle.vd_turns.specs.RelayTurns.{did}
use Rattle.vd_turns.specs.ControlTurns.{IsControlLane, ControlLooked, ControlStepped, ControlRun, ControlWay, ControlTurn}
use Rattle.vd_turns.proofs.RelayWays.{through}
use Rattle.vd_turns.proofs.Turning.{worked_one, one_more, no_more}

-- what is known of the control before, and of each that comes from it, is known after
pub some_then : {X Y : Type 0} (o : Option X) (o' : Option Y) (A : X → Type 0) (B : X → Y → Type 0) (R : Y → Type 0) → IsSomeAnd o A
    → ((x : X) → o ≡ Some x → IsSomeAnd o' (B x)) → ((x : X) (y : Y) → A x → B x y → R y) → IsSomeAnd o' R
some_then None o' A B R has next to = absurd has
some_then (Some x) None A B R has next to = absurd (next x refl)
some_then (Some x) (Some y) A B R has next to = to x y has (next x refl)

pub some_to : {X : Type 0} (o : Option X) (A B : X → Type 0) → IsSomeAnd o A → ((x : X) → A x → B x) → IsSomeAnd o B
some_to None A B has to = absurd has
some_to (Some x) A B has to = to x has

pub some_get : {X : Type 0} (o : Option X) (A : X → Type 0) → IsSomeAnd o A → (x : (y : X) × (o ≡ Some y)) × A x.0
some_get None A has = absurd has
some_get (Some x) A has = ((x, refl), has)

pub some_is : {X : Type 0} (o : Option X) (x : X) (A : X → Type 0) → o ≡ Some x → A x → IsSomeAnd o A
some_is {X = X} o x A is has = subst (λ (y : Option X). IsSomeAnd y A) (sym is) has

-- a step by which it goes on was not its last
pub not_finished : (m : Move) → m ≡ move.Worked → m ≡ move.Finished → ⊥
not_finished move.Looked is other = absurd (cc is)
not_finished move.Worked is other = absurd (cc other)
not_finished move.Finished is other = absurd (cc is)

module _ {E D : Type 0} (l : LayoutModel) (e : DeviceModel E) (d : DriverModel D) (x : ControlStart) (begun : List Begun) (now : Settings) (v : DriverView) (sw : DeviceView) where
  -- on other words that are the same
  pub control_same : (ws us ws' us' : List ℕ) (w : DeviceView) (sv : DriverView) (r r' : State E D) (k k' : Control) (s s' : Settings)
      (c c' : Counts) (answer : Move) → ws' ≡ ws → us' ≡ us → ControlStepped l e d x begun now ws us v w sv sw r r' k k' s s' c c' answer
      → ControlStepped l e d x begun now ws' us' v w sv sw r r' k k' s s' c c' answer
  control_same ws us ws' us' w sv r r' k k' s s' c c' answer a b t = subst
      (λ (xs : List ℕ). ControlStepped l e d x begun now xs us' v w sv sw r r' k k' s s' c c' answer) (sym a)
      (subst (λ (xs : List ℕ). ControlStepped l e d x begun now ws xs v w sv sw r r' k k' s s' c c' answer) (sym b) t)

  pub control_starts : (ws us : List ℕ) (w : DeviceView) (sv : DriverView) (r : State E D) (k : Control) (s : Settings) (c : Counts)
      → is_rested r.stage ≡ false → IsControlLane l e d x begun now ws us v w sv sw r k s c
      → ControlWay l e d x begun now ws us v w sv sw r r k k s s c c 0
  control_starts ws us w sv r k s c live lane = record {
    run = record {
      view = w;
      shadow_view = sv;
      lane = lane;
      kept = (refl, refl);
      awake = λ off. live;
      replayed = λ x. x;
      account = refl;
      accesses = λ le. omega arith;
      heard = omega arith;
      handled = omega arith;
    };
    start = λ none. (refl, refl, refl, refl, refl);
  }

  module _ (ws us ws' us' : List ℕ) (w : DeviceView) (sv : DriverView) (r y u : State E D) (k m n : Control) (s t o : Settings)
      (c b a : Counts) (made : ℕ) (answer : Move) (way : ControlWay l e d x begun now ws us v w sv sw r y k m s t c b made)
      (f : ControlStepped l e d x begun now ws' us' v way.run.view way.run.shadow_view sw y u m n t o b a answer) where
    runs : (i : ℕ) → (c.accesses + i ≤ last_count → a.accesses ≡ c.accesses + i)
        → ControlRun l e d x begun now ws' us' v w sv sw r u k n o c a i
    runs i accesses = record {
      view = f.view;
      shadow_view = f.shadow_view;
      lane = f.lane;
      kept = (f.kept.0 ∙ way.run.kept.0, f.kept.1 ∙ way.run.kept.1);
      awake = λ off. f.awake (way.run.kept.0 ∙ off);
      replayed = λ done. f.replayed (way.run.replayed done);
      account = f.account ∙ way.run.account;
      accesses = accesses;
      heard = omega (arith, f.heard, way.run.heard);
      handled = through c.handled b.handled a.handled (did r v w sv) (did y v way.run.view way.run.shadow_view)
          (did u v f.view f.shadow_view) way.run.handled f.handled;
    }

    -- a step that was no look
    more : (answer ≡ move.Looked → ⊥) → ControlRun l e d x begun now ws' us' v w sv sw r u k n o c a (made + 1)
    more work =
        let one : worked answer ≡ 1 = worked_one answer work in
        runs (made + 1) (λ le. one_more c.accesses b.accesses a.accesses made (worked answer) way.run.accesses f.accesses one le)

    pub control_goes : (answer ≡ move.Looked → ⊥) → ControlWay l e d x begun now ws' us' v w sv sw r u k n s o c a (made + 1)
    control_goes work = record { run = more work; start = λ none. absurd (omega arith) }

    -- the step after which it rests
    pub control_ends : (answer ≡ move.Looked → ⊥) → ControlTurn l e d x begun now ws' us' v w sv sw r u k n s o c a (made + 1)
    control_ends work = record { run = more work; by = f.by; quiet = λ none. absurd (omega arith) }

    -- a look
    pub control_looks : answer ≡ move.Looked → ControlTurn l e d x begun now ws' us' v w sv sw r u k n s o c a made
    unfolding runs
    control_looks is =
        let quiet = f.looked is in
        let none : worked answer ≡ 0 = ap worked is in
        record {
          run = runs made (λ le. no_more c.accesses b.accesses a.accesses made (worked answer) way.run.accesses f.accesses none le);
          by = f.by;
          quiet = λ zero.
              let first = way.start zero in (
                quiet.0 ∙ first.0,
                quiet.1 ∙ first.1,
                quiet.2 ∙ first.3,
                subst (λ (g : Counts). ControlLooked f.by e d r u n g a v w sv sw) first.4
                    (subst (λ (g : State E D). ControlLooked f.by e d g u n b a v w sv sw) first.2
                    (subst (λ (g : DriverView). ControlLooked f.by e d y u n b a v w g sw) first.1
                    (subst (λ (g : DeviceView). ControlLooked f.by e d y u n b a v g way.run.shadow_view sw) first.0 quiet.3))),
              );
        }

  pub control_spent : (ws us : List ℕ) (w : DeviceView) (sv : DriverView) (r y : State E D) (k m : Control) (s t : Settings)
      (c b : Counts) (made : ℕ) → ControlWay l e d x begun now ws us v w sv sw r y k m s t c b made → 1 ≤ made
      → ControlTurn l e d x begun now ws us v w sv sw r y k m s t c b made
  control_spent ws us w sv r y k m s t c b made way some =
      record { run = way.run; by = Carrying; quiet = λ none. absurd (omega arith) }
