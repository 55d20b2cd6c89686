-- What a relay of a control queue holds as it goes on from its replay.
use Rattle.std.proofs.Common.{◌≡◌, ◌≢◌, ◌⊎◌, ◌↔◌, ℕ, ◌<◌, ◌≤◌, Bool, true, false, IsTrue, IsSome, Option, Some, None, List, length, refl, sym, ◌∙◌, ap, subst, arith, inl, inr}
use Rattle.vd_model.specs.declared.chain.Piece.{Piece}
use Rattle.vd_ring.specs.declared.frame.Frame.{Frame}
use Rattle.vd_ring.specs.declared.frame.Used.{Used}
use Rattle.vd_ring.specs.declared.driver.DriverDone.{DriverDone}
use Rattle.vd_ring.specs.declared.driver.DriverView.{DriverView}
use Rattle.vd_ring.specs.declared.device.DeviceView.{DeviceView}
use Rattle.vd_ring.specs.History.{offers, collects, takes, gives}
use Rattle.vd_layout.specs.Begun.{DriverOp}
use Rattle.vd_layout.specs.Driver.{DriverModel, IsLawfulDriver}
use Rattle.vd_layout.specs.Device.{DeviceModel, IsLawfulDevice}
use Rattle.vd_layout.specs.Layout.{LayoutModel}
use Rattle.vd_commands.specs.Loads.{ack_load}
use Rattle.vd_control.specs.declared.command.Command.{Command}
use Rattle.vd_control.specs.declared.settings.Settings.{Settings}
use Rattle.vd_control.specs.Settings.{replay}
use Rattle.vd_relay.specs.declared.control.Control.{Control}
use Rattle.vd_relay.specs.declared.control.Mode.{Mode}
use Rattle.vd_relay.specs.declared.control.Mode.TheVariants.{Replaying, Carrying, Leaving}
use Rattle.vd_relay.specs.declared.counts.Counts.{Counts}
use Rattle.vd_relay.specs.declared.stage.Stage.{Stage}
use Rattle.vd_relay.specs.declared.stage.Stage.TheVariants as stage
use Rattle.vd_relay.specs.declared.state.State.{State}
use Rattle.vd_relay.specs.declared.replay.Replay.{Replay}
use Rattle.vd_relay.specs.declared.replay.ReplayStage.{ReplayStage}
use Rattle.vd_relay.specs.declared.replay.ReplayStage.TheVariants.{First, Second, Offering, Collecting, Loading, Arming, Hearing, Disarming, Done, Left}
use Rattle.vd_relay.specs.Stages.{is_rested, is_offering, ShadowIs}
use Rattle.vd_relay.specs.Ways.{carrying}
use Rattle.vd_relay.specs.Tie.{Course}
use Rattle.vd_relay.specs.Relay.{Holds, start}
use Rattle.vd_relay.specs.Commanding.{Takeover, carries}
use Rattle.vd_relay.specs.CommandSteps.{CommandHolds}
use Rattle.vd_relay.specs.Leaving.{leave_owes}
use Rattle.vd_relay.specs.Replays.{Replays, IsAt, IsSameReplay, IsWound, Winds, as_stage, is_done, is_over, replay_owes, wound}
use Rattle.vd_relay.specs.Modes.{Opening, IsReplaying, IsLeaving, ControlHolds, Does, again, carries_from}
use Rattle.vd_relay.proofs.Begins.{pace_to}
use Rattle.vd_relay.proofs.Ops.{shadow_idle}
use Rattle.vd_relay.proofs.ReplayEnds.{goes_on, over_even, over_odd, over_between, free_left, free_owes}
use Rattle.vd_relay.proofs.CommandBegins.{command_begins, settled_none}

-- all is acknowledged exactly where the replay is done
pub done_by : (st : ReplayStage) (cs : List Command) (n : ℕ) (g : Frame) (o : List DriverDone) → IsAt st cs n g o
    → IsTrue (is_done st) ↔ (n ≡ length cs)
done_by Done cs n g o at = ((λ y. at.0), λ y. refl)
done_by Left cs n g o at = ((λ y. absurd (cc y)), λ y. absurd (omega (arith, at.0, y)))
done_by First cs n g o at = ((λ y. absurd (cc y)), λ y. absurd (omega (arith, at.0, y)))
done_by Second cs n g o at = ((λ y. absurd (cc y)), λ y. absurd (omega (arith, at.0, y)))
done_by Offering cs n g o at = ((λ y. absurd (cc y)), λ y. absurd (omega (arith, at.0, y)))
done_by Collecting cs n g o at = ((λ y. absurd (cc y)), λ y. absurd (omega (arith, at.0, y)))
done_by (Loading h) cs n g o at = ((λ y. absurd (cc y)), λ y. absurd (omega (arith, at.0, y)))
done_by Arming cs n g o at = ((λ y. absurd (cc y)), λ y. absurd (omega (arith, at.0, y)))
done_by Hearing cs n g o at = ((λ y. absurd (cc y)), λ y. absurd (omega (arith, at.0, y)))
done_by Disarming cs n g o at = ((λ y. absurd (cc y)), λ y. absurd (omega (arith, at.0, y)))

few_by : (st : ReplayStage) (cs : List Command) (n : ℕ) (g : Frame) (o : List DriverDone) → IsAt st cs n g o → n ≤ length cs
few_by Done cs n g o at = omega (arith, at.0)
few_by Left cs n g o at = omega (arith, at.0)
few_by First cs n g o at = omega (arith, at.0)
few_by Second cs n g o at = omega (arith, at.0)
few_by Offering cs n g o at = omega (arith, at.0)
few_by Collecting cs n g o at = omega (arith, at.0)
few_by (Loading h) cs n g o at = omega (arith, at.0)
few_by Arming cs n g o at = omega (arith, at.0)
few_by Hearing cs n g o at = omega (arith, at.0)
few_by Disarming cs n g o at = omega (arith, at.0)

-- so each command of the list was acknowledged exactly then
pub replayed_exact : {D : Type 0} (l : LayoutModel) (d : DriverModel D) (r : Replay) (x : D) (v : DriverView) → Replays l d r x v
    → IsTrue (is_done r.stage) ↔ ((i : ℕ) → i < length (replay r.settings) → IsSome (ack_load v.done i))
replayed_exact l d r x v h =
    let done = done_by r.stage (replay r.settings) r.next v.frame v.done h.at in
    let few = few_by r.stage (replay r.settings) r.next v.frame v.done h.at in (
      (λ y i low. (h.acked i).1 (omega (arith, done.0 y, low))),
      λ all. done.1 (elim (small r.next (length (replay r.settings)) few) [
        | inl e ↦ e
        | inr low ↦ absurd (omega (arith, (h.acked r.next).0 (all r.next low)))
      ]),
    )
  where
    small : (n m : ℕ) → n ≤ m → (n ≡ m) ⊎ (n < m)
    small n m few = elim (Rattle.std.proofs.lemmas.Bool.cases_lt n m) [ inl low ↦ inr low | inr high ↦ inl (omega (arith, few, high)) ]

abbrev pub in_mode : Control → Mode → Control
in_mode k m = record { mode = m; replay = k.replay; commander = k.commander }

abbrev pub with_replay : Control → Replay → Control
with_replay k r = record { mode = k.mode; replay = r; commander = k.commander }

abbrev pub winding_as : {E D : Type 0} → State E D → Bool → ℕ → State E D
winding_as r y t = record { guest = r.guest; shadow = r.shadow; table = r.table; stage = r.stage; winding = y; target = t }

-- the course of a relay that carries, by where it takes over
pub course_is : (z : Opening) (n n' : ℕ) (w : DeviceView) → takes w.done ≡ z.takes → gives w.done ≡ z.gives → n' ≡ n
    → start (carrying n') w ≡ carries (carries_from z n)
course_is z n n' w t g is = ap (λ (x : List (List Piece)). record { takes = x; gives = gives w.done; way = carrying n' }) t
    ∙ ap (λ (x : List Used). record { takes = z.takes; gives = x; way = carrying n' }) g
    ∙ ap (λ (x : ℕ). record { takes = z.takes; gives = z.gives; way = carrying x }) is

module _ {E D : Type 0} (l : LayoutModel) (e : DeviceModel E) (d : DriverModel D) (z : Opening) (r : State E D) (k : Control)
    (s : Settings) (c : Counts) (w : DeviceView) (v : DriverView) where
  -- what is held by what it does
  pub replaying_of : ControlHolds l e d z r k s c w v → k.mode ≡ Replaying
      → (is_over k.replay.stage ≡ false) × IsReplaying l e d z r k s c w v
  replaying_of h at = subst (λ (m : Mode). Does m l e d z r k s c w v) at h.does

  pub carrying_of : ControlHolds l e d z r k s c w v → k.mode ≡ Carrying
      → CommandHolds l e d (carries_from z k.replay.next) r k.commander s c w v
  carrying_of h at = subst (λ (m : Mode). Does m l e d z r k s c w v) at h.does

  pub leaving_of : ControlHolds l e d z r k s c w v → k.mode ≡ Leaving → IsLeaving l e d z r k s c w v
  leaving_of h at = subst (λ (m : Mode). Does m l e d z r k s c w v) at h.does

module _ {E D : Type 0} (l : LayoutModel) (e : DeviceModel E) (d : DriverModel D) (law : IsLawfulDevice e) (ldr : IsLawfulDriver d)
    (z : Opening) (r : State E D) (k : Control) (s : Settings) (c : Counts) (w : DeviceView) (v : DriverView) where
  module _ (h : IsReplaying l e d z r k s c w v) (same : k.replay.settings ≡ again z) where
    pub done_now : IsTrue (is_done k.replay.stage) ↔ (k.replay.next ≡ length (replay (again z)))
    done_now = subst (λ (x : Settings). IsTrue (is_done k.replay.stage) ↔ (k.replay.next ≡ length (replay x))) same
        (done_by k.replay.stage (replay k.replay.settings) k.replay.next v.frame v.done h.replays.replays.at)

    -- it goes on with its replay
    pub replays_on : k.mode ≡ Replaying → is_over k.replay.stage ≡ false → ControlHolds l e d z r k s c w v
    replays_on at on = record {
      again = same;
      done = done_now;
      does = subst (λ (m : Mode). Does m l e d z r k s c w v) (sym at) (on, h);
    }

    -- it carries
    state_is : (c' : Course) → Holds e d c'
        (record { guest = r.guest; shadow = r.shadow; table = r.table; stage = stage.Taking; winding = k.replay.winding; target = k.replay.target })
        c w v → Holds e d c' r c w v
    state_is c' a =
        let b = subst (λ (x : Stage). Holds e d c'
        (record { guest = r.guest; shadow = r.shadow; table = r.table; stage = x; winding = k.replay.winding; target = k.replay.target }) c w v)
        (sym h.waits) a in
        let b2 = subst (λ (x : Bool). Holds e d c'
        (record { guest = r.guest; shadow = r.shadow; table = r.table; stage = r.stage; winding = x; target = k.replay.target }) c w v)
        (sym h.winding) b in
        subst (λ (x : ℕ). Holds e d c'
        (record { guest = r.guest; shadow = r.shadow; table = r.table; stage = r.stage; winding = r.winding; target = x }) c w v)
        (sym h.target) b2

    pub carries_on : is_over k.replay.stage ≡ true → length (offers v.done) ≡ length (collects v.done)
        → ControlHolds l e d z r (in_mode k Carrying) s c w v
    carries_on over even =
        let q = h.replays.replays in
        let none = over_even l e d law ldr k.replay r.shadow v q over even in
        let between = over_between l e d law ldr k.replay r.shadow v q over none in
        let a = goes_on l e d law ldr k.replay r.shadow v q r.guest r.table w h.free h.paired h.origins c over none h.pace in
        let t : Takeover = carries_from z k.replay.next in
        let b = subst (λ (x : Course). Holds e d x r c w v)
        (course_is z k.replay.next (length (offers v.done)) w h.untouched.takes h.untouched.gives between.offered)
        (state_is (start (carrying (length (offers v.done))) w) a) in
        record {
          again = same;
          done = done_now;
          does = command_begins l e d t r k.commander s c w v b q.ring (ap is_offering h.waits) h.free.idle h.hand h.commands none
              (omega (arith, between.offered))
              (h.settings ∙ settled_none k.replay.next v.frame z.settings v.done (omega (arith, between.offered)));
        }

    -- it leaves
    pub leaves_on : is_over k.replay.stage ≡ true → length (offers v.done) ≢ length (collects v.done)
        → ControlHolds l e d z r (in_mode k Leaving) s c w v
    leaves_on over odd =
        let q = h.replays.replays in
        let o = over_odd l e d law ldr k.replay r.shadow v q over odd in
        record {
          again = same;
          done = done_now;
          does = record {
            left = free_left l e d law ldr k.replay r.shadow v q r.guest w h.free;
            untouched = h.untouched;
            paired = h.paired;
            replays = q;
            stage = o.0;
            one = o.1;
            rests = h.free.awake ∙ sym (ap is_rested h.waits);
            winding = h.winding ∙ (q.left o.0).0;
            target = h.target;
            settings = h.settings;
            pace = pace_to e d law ldr c (leave_owes e r.guest) (replay_owes d k.replay.winding k.replay.stage r.shadow v)
                (free_owes l e d law ldr k.replay r.shadow v q r.guest w o.0 h.free) h.pace;
          };
        }

  -- ---- where the replay alone changes, and whether it winds up

  pub replaying_to : (y : Bool) (t : ℕ) (r' : Replay) → IsReplaying l e d z r k s c w v → Winds l d k.replay r' r.shadow v → y ≡ r'.winding
      → t ≡ r'.target → IsReplaying l e d z (winding_as r y t) (with_replay k r') s c w v
  replaying_to y t r' h winds on until = record {
    replays = winds.holds;
    free = h.free;
    untouched = h.untouched;
    paired = h.paired;
    waits = h.waits;
    winding = on;
    target = until;
    origins = h.origins;
    commands = h.commands;
    hand = h.hand;
    settings = h.settings;
    pace = pace_to e d law ldr c (replay_owes d r'.winding r'.stage r.shadow v) (replay_owes d k.replay.winding k.replay.stage r.shadow v)
        winds.owes h.pace;
  }

  pub turned : (r' : Replay) → IsReplaying l e d z r k s c w v → Winds l d k.replay r' r.shadow v → IsSameReplay k.replay r'
      → IsReplaying l e d z r (with_replay k r') s c w v
  turned r' h winds same = replaying_to r.winding r.target r' h winds (h.winding ∙ sym same.2) (h.target ∙ sym same.3)

  -- between two operations of a wind-up no second word of a command is stored
  pub no_second : (r' : Replay) → IsReplaying l e d z r k s c w v
      → (r'.stage ≡ k.replay.stage) ⊎ ((enough : Bool) × (r'.stage ≡ wound k.replay.stage enough))
      → (k.replay.winding ≡ true → d.begun r.shadow ≡ DriverOp.idle → IsWound k.replay r' v) → k.replay.winding ≡ true
      → r'.stage ≡ Second → ⊥
  no_second r' h stays turns on at =
      let was : k.replay.stage ≡ Second = elim stays [ inl same ↦ sym same ∙ at | inr x ↦ second_was k.replay.stage x.0 (sym x.1 ∙ at) ] in
      let idle = shadow_idle stage.Giving (d.begun r.shadow) refl
      (subst (λ (x : ReplayStage). ShadowIs (as_stage x) (d.begun r.shadow)) was h.replays.replays.op) in
      let x = turns on idle in
      cc (sym at ∙ x.2 ∙ ap (λ (y : ReplayStage). wound y x.0) was)
    where
      second_was : (st : ReplayStage) (b : Bool) → wound st b ≡ Second → st ≡ Second
      second_was Second b is = absurd (cc is)
      second_was First b is = absurd (cc is)
      second_was Collecting true is = absurd (cc is)
      second_was Collecting false is = absurd (cc is)
      second_was Arming true is = absurd (cc is)
      second_was Arming false is = absurd (cc is)
      second_was Offering b is = absurd (cc is)
      second_was (Loading h) b is = absurd (cc is)
      second_was Hearing b is = absurd (cc is)
      second_was Disarming b is = absurd (cc is)
      second_was Done b is = absurd (cc is)
      second_was Left b is = absurd (cc is)
