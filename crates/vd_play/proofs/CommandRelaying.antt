-- The relay's turn in a round of the control queue's lane, by what the calls promise.
use Rattle.std.proofs.Common.{◌≡◌, ℕ, ◌+◌, ◌≤◌, Bool, true, false, Option, Some, None, IsSomeAnd, List, refl, sym, ◌∙◌, subst}
use Rattle.std.proofs.lemmas.Bool.{false≢true}
use Rattle.vd_model.specs.declared.record.Begun.{Begun}
use Rattle.vd_words.specs.Plain.{RingWords}
use Rattle.vd_ring.specs.declared.driver.DriverView.{DriverView}
use Rattle.vd_ring.specs.declared.device.DeviceView.{DeviceView}
use Rattle.vd_layout.specs.declared.device.DeviceEnd as device_end
use Rattle.vd_layout.specs.declared.driver.DriverEnd as driver_end
use Rattle.vd_layout.specs.declared.layout.Layout as layout
use Rattle.vd_control.specs.declared.settings.Settings.{Settings}
use Rattle.vd_relay.specs.declared.control.Control.{Control}
use Rattle.vd_relay.specs.declared.counts.Counts.{Counts}
use Rattle.vd_relay.specs.declared.state.State.{State}
use Rattle.vd_relay.specs.Modes.{Opening, ControlHolds}
use Rattle.vd_relay.specs.Stages.{is_rested}
use Rattle.vd_switch.specs.declared.still.Still.{Still}
use Rattle.vd_switch.specs.Controlling.{ControlStart}
use Rattle.vd_turns.specs.ControlTurns.{CanControlTurn, IsControlLane, ControlTurn, ControlTurns}
use Rattle.vd_machine.specs.File.{Plan}
use Rattle.vd_play.specs.declared.floor.Relaying.{Relaying}
use Rattle.vd_play.specs.CommandProgress.{HasCommandRelayHeard, IsCommandStopped, CommandRelayingBy, IsCommandRelaying, InCommandRoundWith}
use Rattle.vd_play.specs.CommandProgress.Next.{relays, devices}
use Rattle.vd_play.specs.CommandShadowed.{AreCommandsRelayed}
use Rattle.vd_play.specs.Progress.{steps}
use Rattle.vd_play.specs.Setting.{Setting, IsLawful}
use Rattle.vd_play.proofs.CommandLanes.{control_of, relaying_of, round_of}
use Rattle.vd_play.proofs.CommandPace.{bounds_of, low_of}
use Rattle.vd_play.proofs.CommandRelays.{relay_shadows, relay_winds, relay_rests}

-- what the control is after the call, with what holds of it
some_of : (P : Control → Type 0) (o : Option Control) → IsSomeAnd o P → (y : Control) × (o ≡ Some y) × P y
some_of P None p = absurd p
some_of P (Some y) p = (y, refl, p)

module _ {D E G X C : Type 0} (s : Setting D E G X C) (plan : Plan) (k n : ℕ) (words : RingWords) (relayed : ℕ) (guest : G)
    (device : X) where
  -- whether its relay winds up or not
  pub record Works (shadow_words : List ℕ) (r : State E D) (control : Control) (settings : Settings) (c : Counts) : Type 0 where
    pub start : ControlStart
    pub view : DriverView
    pub device_view : DeviceView
    pub shadow_view : DriverView
    pub shadow_device_view : DeviceView
    pub kept : AreCommandsRelayed s plan k words shadow_words r control settings c guest device start view device_view shadow_view
        shadow_device_view
    pub heard : HasCommandRelayHeard s plan k relayed r c device view device_view shadow_view shadow_device_view

  works_by : (w : Bool) (shadow_words : List ℕ) (r : State E D) (control : Control) (settings : Settings) (c : Counts)
      → CommandRelayingBy (Some control) w s plan relays k n words shadow_words r settings c relayed guest device
      → Works shadow_words r control settings c
  works_by false shadow_words r control settings c p = record {
    start = p.start;
    view = p.view;
    device_view = p.device_view;
    shadow_view = p.shadow_view;
    shadow_device_view = p.shadow_device_view;
    kept = p.kept;
    heard = p.heard;
  }
  works_by true shadow_words r control settings c p = record {
    start = p.start;
    view = p.view;
    device_view = p.device_view;
    shadow_view = p.shadow_view;
    shadow_device_view = p.shadow_device_view;
    kept = p.kept;
    heard = p.heard;
  }

module _ {L D E G X C : Type 0} {i : layout.Ghosts L D E} {j : driver_end.Ghosts D} {h : device_end.Ghosts E} (s : Setting D E G X C)
    (plan : Plan) (k n : ℕ) (words : RingWords) (relayed : ℕ) (guest : G) (device : X) (on : Bool)
    (still : Option (Still L D E i j h)) where
  -- what a relay that rests leaves
  stopped_of : (end : E) (settings : Settings) (y : Option (Still L D E i j h)) (o : Option (Relaying L D E)) → o ≡ None
      → IsSomeAnd y (λ z. (z.end ≡ end) × (z.control ≡ true) × (z.settings ≡ settings))
      → IsCommandStopped s plan (k + 1) (n + 1) words end true settings relayed guest device
      → InCommandRoundWith s plan devices on k n words y o relayed guest device
  stopped_of end settings None o is kept p = absurd kept
  stopped_of end settings (Some y) (Some x) is kept p = absurd (cc)
  stopped_of end settings (Some y) None is kept p =
      subst (λ (z : E). IsCommandStopped s plan (k + 1) (n + 1) words z y.control y.settings relayed guest device) (sym kept.0)
      (subst (λ (z : Bool). IsCommandStopped s plan (k + 1) (n + 1) words end z y.settings relayed guest device) (sym kept.1)
      (subst (λ (z : Settings). IsCommandStopped s plan (k + 1) (n + 1) words end true z relayed guest device) (sym kept.2) p))

  module _ (x : Relaying L D E) (o : Option (Relaying L D E)) (is : o ≡ Some x)
      (p : InCommandRoundWith s plan relays on k n words still o relayed guest device) where
    at : (on ≡ true) × (still ≡ None) × IsCommandRelaying s plan relays k n words x relayed guest device
    at = relaying_of s plan k n words relayed guest device relays on still o x is p

    abbrev winds : Bool
    winds = x.lane.relay.state.winding

    pub controls : (y : Control) × (x.lane.relay.control ≡ Some y)
    controls = control_of s plan k n words relayed guest device relays x.lane.relay.control winds x.words.words x.lane.relay.state
        x.lane.relay.settings x.lane.relay.counts at.2

    abbrev By : Bool → Type 0
    By w = CommandRelayingBy (Some controls.0) w s plan relays k n words x.words.words x.lane.relay.state x.lane.relay.settings
        x.lane.relay.counts relayed guest device

    by : By winds
    by = subst (λ (z : Option Control). CommandRelayingBy z winds s plan relays k n words x.words.words x.lane.relay.state
        x.lane.relay.settings x.lane.relay.counts relayed guest device) controls.1 at.2

    pub works : Works s plan k n words relayed guest device x.words.words x.lane.relay.state controls.0 x.lane.relay.settings
        x.lane.relay.counts
    works = works_by s plan k n words relayed guest device winds x.words.words x.lane.relay.state controls.0 x.lane.relay.settings
        x.lane.relay.counts by

    pub can_turn : CanControlTurn s.layout s.device s.driver words.words x.words.words x.lane.relay.state x.lane.relay.control
        x.lane.relay.settings x.lane.relay.counts
    can_turn = (
      controls.0,
      works.start,
      s.party.begun device,
      s.party.settings device,
      works.view,
      works.device_view,
      works.shadow_view,
      works.shadow_device_view,
      controls.1,
      works.kept.lane,
    )

    module _ (law : IsLawful s) where
      -- the steps of all relays are far fewer than the last count
      pub few_relayed : relayed ≤ 250000000
      few_relayed =
          let r = x.lane.relay.state in
          let c = x.lane.relay.counts in
          (low_of s law plan k relayed r c device works.start works.view works.device_view works.shadow_view works.shadow_device_view
          (bounds_of s law plan k words x.words.words r controls.0 x.lane.relay.settings c guest device works.start works.view
          works.device_view works.shadow_view works.shadow_device_view works.kept) works.heard).relayed_low

      module _ (words1 : RingWords) (x1 : Relaying L D E) (b : ℕ) (few : b ≤ 4) (same : words1.ring ≡ words.ring)
          (turns : ControlTurns s.layout s.device s.driver words.words words1.words x.words.words x1.words.words x.lane.relay.state
          x1.lane.relay.state x.lane.relay.control x1.lane.relay.control x.lane.relay.settings x1.lane.relay.settings
          x.lane.relay.counts x1.lane.relay.counts b) where
        after : (y : Control) × (x1.lane.relay.control ≡ Some y) × ((z : ControlStart) (begun : List Begun) (now : Settings)
            (v : DriverView) (w : DeviceView) (sv : DriverView) (sw : DeviceView)
            → IsControlLane s.layout s.device s.driver z begun now words.words x.words.words v w sv sw x.lane.relay.state controls.0
            x.lane.relay.settings x.lane.relay.counts
            → ControlTurn s.layout s.device s.driver z begun now words1.words x1.words.words v w sv sw x.lane.relay.state
            x1.lane.relay.state controls.0 y x.lane.relay.settings x1.lane.relay.settings x.lane.relay.counts x1.lane.relay.counts b)
        after = some_of _ x1.lane.relay.control (turns controls.0 controls.1)

        pub turn_at : (y : Control) × (x1.lane.relay.control ≡ Some y) × ControlTurn s.layout s.device s.driver works.start
            (s.party.begun device) (s.party.settings device) words1.words x1.words.words works.view works.device_view works.shadow_view
            works.shadow_device_view x.lane.relay.state x1.lane.relay.state controls.0 y x.lane.relay.settings x1.lane.relay.settings
            x.lane.relay.counts x1.lane.relay.counts b
        turn_at = (
          after.0,
          after.1,
          after.2 works.start (s.party.begun device) (s.party.settings device) works.view works.device_view works.shadow_view
              works.shadow_device_view works.kept.lane,
        )

        -- it holds its ends
        pub holds_after : IsSomeAnd x1.lane.relay.control (λ y. (z : Opening) × (w : DeviceView) × (v : DriverView)
            × ControlHolds s.layout s.device s.driver z x1.lane.relay.state y x1.lane.relay.settings x1.lane.relay.counts w v)
        holds_after =
            let t = turn_at.2 in
            subst (λ (q : Option Control). IsSomeAnd q (λ y. (z : Opening) × (w : DeviceView) × (v : DriverView)
            × ControlHolds s.layout s.device s.driver z x1.lane.relay.state y x1.lane.relay.settings x1.lane.relay.counts w v))
            (sym turn_at.1) (works.start.opening, t.run.view, t.run.shadow_view, t.run.lane.controlling.holds)

        -- the same lane with the relay's turn behind it
        abbrev Counted : Type 0
        Counted = steps s (relayed + b) guest device ≡ steps s relayed guest device + b

        goes_by : (w : Bool) → By w → is_rested x1.lane.relay.state.stage ≡ false
            → (u : Bool) × (x1.lane.relay.state.winding ≡ u)
            × CommandRelayingBy (Some after.0) u s plan devices k n words1 x1.words.words x1.lane.relay.state x1.lane.relay.settings
            x1.lane.relay.counts (relayed + b) guest device × Counted
        goes_by false q live =
            let y = relay_shadows s law plan k n b few words words1 same x.words.words x1.words.words x.lane.relay.state
            x1.lane.relay.state controls.0 after.0 x.lane.relay.settings x1.lane.relay.settings x.lane.relay.counts
            x1.lane.relay.counts relayed guest device q (after.2 q.start (s.party.begun device) (s.party.settings device) q.view
            q.device_view q.shadow_view q.shadow_device_view q.kept.lane) in
            (false, y.0.awake.0, y.0, y.1)
        goes_by true q live =
            let y = relay_winds s law plan k n b few words words1 same x.words.words x1.words.words x.lane.relay.state
            x1.lane.relay.state controls.0 after.0 x.lane.relay.settings x1.lane.relay.settings x.lane.relay.counts
            x1.lane.relay.counts relayed guest device q (after.2 q.start (s.party.begun device) (s.party.settings device) q.view
            q.device_view q.shadow_view q.shadow_device_view q.kept.lane) live in
            (true, y.0.winds.0, y.0, y.1)

        rests_by : (w : Bool) → By w → is_rested x1.lane.relay.state.stage ≡ true
            → IsCommandStopped s plan (k + 1) (n + 1) words1 x1.lane.relay.state.guest true x1.lane.relay.settings (relayed + b) guest
            device × Counted
        rests_by false q rests = absurd (false≢true (sym ((after.2 q.start (s.party.begun device) (s.party.settings device) q.view
            q.device_view q.shadow_view q.shadow_device_view q.kept.lane).run.awake q.awake.0) ∙ rests))
        rests_by true q rests = relay_rests s law plan k n b few words words1 same x.words.words x1.words.words x.lane.relay.state
            x1.lane.relay.state controls.0 after.0 x.lane.relay.settings x1.lane.relay.settings x.lane.relay.counts
            x1.lane.relay.counts relayed guest device q (after.2 q.start (s.party.begun device) (s.party.settings device) q.view
            q.device_view q.shadow_view q.shadow_device_view q.kept.lane) rests

        -- its relay goes on
        pub goes_on : is_rested x1.lane.relay.state.stage ≡ false
            → InCommandRoundWith s plan devices on k n words1 still (Some x1) (relayed + b) guest device × Counted
        goes_on live =
            let y = goes_by winds by live in (
              round_of s plan k n words1 (relayed + b) guest device devices on still x1 at.0 at.1
                  (subst (λ (z : Option Control). CommandRelayingBy z x1.lane.relay.state.winding s plan devices k n words1
                  x1.words.words x1.lane.relay.state x1.lane.relay.settings x1.lane.relay.counts (relayed + b) guest device)
                  (sym after.1) (subst (λ (z : Bool). CommandRelayingBy (Some after.0) z s plan devices k n words1 x1.words.words
                  x1.lane.relay.state x1.lane.relay.settings x1.lane.relay.counts (relayed + b) guest device) (sym y.1) y.2)),
              y.3,
            )

module _ {L D E G X C : Type 0} {i : layout.Ghosts L D E} {j : driver_end.Ghosts D} {h : device_end.Ghosts E} (s : Setting D E G X C)
    (law : IsLawful s) (plan : Plan) (k n : ℕ) (words : RingWords) (relayed : ℕ) (guest : G) (device : X) (on : Bool)
    (still still1 : Option (Still L D E i j h)) (x : Relaying L D E) (o o1 : Option (Relaying L D E)) (is : o ≡ Some x)
    (p : InCommandRoundWith s plan relays on k n words still o relayed guest device) (words1 : RingWords) (x1 : Relaying L D E) (b : ℕ)
    (few : b ≤ 4) (same : words1.ring ≡ words.ring)
    (turns : ControlTurns s.layout s.device s.driver words.words words1.words x.words.words x1.words.words x.lane.relay.state
    x1.lane.relay.state x.lane.relay.control x1.lane.relay.control x.lane.relay.settings x1.lane.relay.settings x.lane.relay.counts
    x1.lane.relay.counts b) where
  -- or it rests, and has handed back what the lane keeps
  pub goes_rested : is_rested x1.lane.relay.state.stage ≡ true → o1 ≡ None
      → IsSomeAnd still1 (λ z. (z.end ≡ x1.lane.relay.state.guest) × (z.control ≡ true) × (z.settings ≡ x1.lane.relay.settings))
      → InCommandRoundWith s plan devices on k n words1 still1 o1 (relayed + b) guest device
      × (steps s (relayed + b) guest device ≡ steps s relayed guest device + b)
  goes_rested rests gone kept =
      let y = rests_by s plan k n words relayed guest device on still x o is p law words1 x1 b few same turns
      (winds s plan k n words relayed guest device on still x o is p) (by s plan k n words relayed guest device on still x o is p) rests
      in (
        stopped_of s plan k n words1 (relayed + b) guest device on still x1.lane.relay.state.guest x1.lane.relay.settings still1 o1 gone
            kept y.0,
        y.1,
      )
