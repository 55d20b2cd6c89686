-- The relay's turn in a round of the control queue's lane.
use Rattle.std.proofs.Common.{◌≡◌, ◌⊎◌, inl, inr, ℕ, ◌+◌, ◌*◌, ◌≤◌, true, false, List, sym, ◌∙◌, ap, subst, arith}
use Rattle.std.proofs.lemmas.Bool.{cases_lt, false≢true}
use Rattle.vd_words.specs.Plain.{RingWords}
use Rattle.vd_ring.specs.declared.driver.DriverView.{DriverView}
use Rattle.vd_ring.specs.declared.device.DeviceView.{DeviceView}
use Rattle.vd_control.specs.declared.settings.Settings.{Settings}
use Rattle.vd_relay.specs.declared.control.Control.{Control}
use Rattle.vd_relay.specs.declared.counts.Counts.{Counts}
use Rattle.vd_relay.specs.declared.state.State.{State}
use Rattle.vd_relay.specs.Replays.{is_done}
use Rattle.vd_relay.specs.Stages.{is_rested}
use Rattle.vd_switch.specs.Controlling.{ControlStart}
use Rattle.vd_turns.specs.ControlTurns.{ControlTurn}
use Rattle.vd_turns.specs.RelayTurns.{HalfWaits}
use Rattle.vd_machine.specs.File.{Plan}
use Rattle.vd_play.specs.CommandProgress.{HasCommandRelayHeard, IsCommandShadowing, IsCommandStopped, IsCommandWinding, IsQuietGuest, IsQuietRelay}
use Rattle.vd_play.specs.CommandProgress.Next.{relays, devices}
use Rattle.vd_play.specs.CommandShadowed.{AreCommandsRelayed}
use Rattle.vd_play.specs.Progress.{steps}
use Rattle.vd_play.specs.Setting.{Setting, IsLawful}
use Rattle.vd_play.proofs.CommandEnds.{account, heard_now, rests_now}
use Rattle.vd_play.proofs.CommandKeep.{keeps_relay}
use Rattle.vd_play.proofs.CommandLooks.{looked_by, carries_all, hears_replay}
use Rattle.vd_play.proofs.CommandPace.{bounds_of}
use Rattle.vd_play.proofs.CommandPaces.{paces_relay}
use Rattle.vd_play.proofs.CommandQuiet.{carrying, hears}
use Rattle.vd_play.proofs.ShadowQuiet.{both_ends}

module _ {D E G X C : Type 0} (s : Setting D E G X C) (law : IsLawful s) (plan : Plan) (k n b : ℕ) (few : b ≤ 4)
    (words words1 : RingWords) (same : words1.ring ≡ words.ring) (shadow_words shadow_words1 : List ℕ) (r r1 : State E D)
    (control control1 : Control) (settings settings1 : Settings) (c c1 : Counts) (relayed : ℕ) (guest : G) (device : X) where
  abbrev TurnAt : ControlStart → DriverView → DeviceView → DriverView → DeviceView → Type 0
  TurnAt x v w sv sw = ControlTurn s.layout s.device s.driver x (s.party.begun device) (s.party.settings device) words1.words
      shadow_words1 v w sv sw r r1 control control1 settings settings1 c c1 b

  -- after it
  record Turned (x : ControlStart) (v : DriverView) (w : DeviceView) (sv : DriverView) (sw : DeviceView) : Type 0 where
    kept : AreCommandsRelayed s plan k words1 shadow_words1 r1 control1 settings1 c1 guest device x v w sv sw
    heard : HasCommandRelayHeard s plan k (relayed + b) r1 c1 device v w sv sw
    counted : steps s (relayed + b) guest device ≡ steps s relayed guest device + b

  module _ (x : ControlStart) (v : DriverView) (w : DeviceView) (sv : DriverView) (sw : DeviceView)
      (p : AreCommandsRelayed s plan k words shadow_words r control settings c guest device x v w sv sw) (t : TurnAt x v w sv sw) where
    turned : HasCommandRelayHeard s plan k relayed r c device v w sv sw → Turned x v t.run.view t.run.shadow_view sw
    turned heard =
        let kept = keeps_relay s law plan k b words words1 shadow_words shadow_words1 r r1 control control1 settings settings1 c c1 guest
        device x v w t.run.view sv t.run.shadow_view sw same p t.run.lane in
        let bounds = bounds_of s law plan k words shadow_words r control settings c guest device x v w sv sw p in
        record {
          kept = kept;
          heard = paces_relay s law plan k b relayed words1 shadow_words1 r r1 control1 settings1 c c1 guest device x v w t.run.view sv
              t.run.shadow_view sw few bounds heard t.run.accesses t.run.heard t.run.handled kept;
          counted = omega arith;
        }

    -- a relay that winds up doesn't look
    works : r.winding ≡ true → 1 ≤ b
    works on = elim (cases_lt 0 b) [
      | inl some ↦ omega (arith, some)
      | inr none ↦ elim (looked_by t.by s.device s.driver r r1 control1 c c1 v w sv sw (t.quiet (omega (arith, none))).3) [
        | inl look ↦ absurd (false≢true (sym look.live ∙ on))
        | inr look ↦ absurd (false≢true (sym look.live ∙ on))
      ]
    ]

    -- one that has looked sleeps
    sleeps_on : (made : ℕ) → b ≡ 0 → r.winding ≡ false
        → (n ≤ 2 * made) ⊎ ((n ≤ 2 * made + 1) × HalfWaits r.stage v w sv sw)
        → IsQuietRelay n made r1 control1 v w sv sw
    sleeps_on made none off rounds =
        elim (looked_by t.by s.device s.driver r r1 control1 c c1 v w sv sw (t.quiet none).3) [
          | inl look ↦ (
              let h = p.lane.controlling in
              let off1 : r1.winding ≡ false = t.run.kept.0 ∙ off in
              let mode = hears_replay s.layout s.device s.driver x r1 control1 settings1 c1 (s.party.begun device)
              (s.party.settings device) words1.words shadow_words1 v t.run.view t.run.shadow_view sw t.run.lane.controlling off1 look.stage
              in
              let many : n ≤ 2 * made = elim rounds [
                | inl le ↦ le
                | inr half ↦ (
                    let was = carrying s.layout s.device s.driver x.opening r control settings c w sv control.mode h.holds.does
                    (hears r.stage v w sv sw half.1) off in
                    let all = carries_all s.layout s.device s.driver x r control settings c (s.party.begun device)
                    (s.party.settings device) words.words shadow_words v w sv sw h off was in
                    absurd (false≢true (sym (ap is_done look.stage) ∙ t.run.replayed all))
                    )
              ] in
              inl (many, mode, look.stage, look.waits)
              )
          | inr look ↦ inr (
            look.half,
            elim rounds [
              | inl le ↦ inl le
              | inr half ↦ (
                  let both = both_ends r.stage r1.stage v w sv sw look.turn half.1 look.half in
                  inr (half.0, both.0, both.1)
                  )
            ],
          )
        ]

    quiet_after : (made : ℕ) → b ≡ 0 → r.winding ≡ false
        → (n ≤ 2 * made) ⊎ ((n ≤ 2 * made + 1) × HalfWaits r.stage v w sv sw)
        → IsQuietRelay n made r1 control1 v t.run.view t.run.shadow_view sw
    quiet_after made none off rounds =
        let q = t.quiet none in
        subst (λ (y : DriverView). IsQuietRelay n made r1 control1 v t.run.view y sw) (sym q.1)
        (subst (λ (y : DeviceView). IsQuietRelay n made r1 control1 v y sv sw) (sym q.0) (sleeps_on made none off rounds))

  -- ---- what it leaves

  -- a relay that doesn't wind up
  pub relay_shadows : (p : IsCommandShadowing s plan relays k n words shadow_words r control settings c relayed guest device)
      → TurnAt p.start p.view p.device_view p.shadow_view p.shadow_device_view
      → IsCommandShadowing s plan devices k n words1 shadow_words1 r1 control1 settings1 c1 (relayed + b) guest device
      × (steps s (relayed + b) guest device ≡ steps s relayed guest device + b)
  relay_shadows p t =
      let y = turned p.start p.view p.device_view p.shadow_view p.shadow_device_view p.kept t p.heard in
      let now : ℕ = steps s (relayed + b) guest device in (
        record {
          start = p.start;
          view = p.view;
          device_view = t.run.view;
          shadow_view = t.run.shadow_view;
          shadow_device_view = p.shadow_device_view;
          kept = y.kept;
          serves = p.serves;
          awake = (t.run.kept.0 ∙ p.awake.0, t.run.awake p.awake.0);
          paced = p.paced;
          heard = y.heard;
          rounds = elim p.rounds [
            | inl le ↦ inl (omega (arith, le, y.counted))
            | inr quiet ↦ elim (cases_lt 0 b) [
              | inl some ↦ elim quiet.1 [
                | inl le ↦ inl (omega (arith, le, y.counted, some))
                | inr half ↦ inl (omega (arith, half.0, y.counted, some))
              ]
              | inr none ↦ (
                  let zero : b ≡ 0 = omega (arith, none) in
                  let before : (n ≤ 2 * now) ⊎ ((n ≤ 2 * now + 1)
                  × HalfWaits r.stage p.view p.device_view p.shadow_view p.shadow_device_view) = elim quiet.1 [
                    | inl le ↦ inl (omega (arith, le, y.counted))
                    | inr half ↦ inr (omega (arith, half.0, y.counted), half.1)
                  ] in
                  inr (
                    subst (λ (z : DeviceView). IsQuietGuest s guest p.view z) (sym (t.quiet zero).0) quiet.0,
                    quiet_after p.start p.view p.device_view p.shadow_view p.shadow_device_view p.kept t now zero p.awake.0 before,
                  )
                  )
            ]
          ];
        },
        y.counted,
      )

  module _ (p : IsCommandWinding s plan relays k n words shadow_words r control settings c relayed guest device)
      (t : TurnAt p.start p.view p.device_view p.shadow_view p.shadow_device_view) where
    some : 1 ≤ b
    some = works p.start p.view p.device_view p.shadow_view p.shadow_device_view p.kept t p.winds.0

    after : Turned p.start p.view t.run.view t.run.shadow_view p.shadow_device_view
    after = turned p.start p.view p.device_view p.shadow_view p.shadow_device_view p.kept t p.heard

    -- one that winds up still
    pub relay_winds : is_rested r1.stage ≡ false
        → IsCommandWinding s plan devices k n words1 shadow_words1 r1 control1 settings1 c1 (relayed + b) guest device
        × (steps s (relayed + b) guest device ≡ steps s relayed guest device + b)
    relay_winds live = (
      record {
        start = p.start;
        view = p.view;
        device_view = t.run.view;
        shadow_view = t.run.shadow_view;
        shadow_device_view = p.shadow_device_view;
        kept = after.kept;
        served = p.served;
        winds = (t.run.kept.0 ∙ p.winds.0, live);
        paced = p.paced;
        heard = after.heard;
        rounds = omega (arith, p.rounds, some, after.counted);
      },
      after.counted,
    )

    -- one that rests
    pub relay_rests : is_rested r1.stage ≡ true
        → IsCommandStopped s plan (k + 1) (n + 1) words1 r1.guest true settings1 (relayed + b) guest device
        × (steps s (relayed + b) guest device ≡ steps s relayed guest device + b)
    relay_rests rests =
        let v : DriverView = p.view in
        let w : DeviceView = t.run.view in
        let sv : DriverView = t.run.shadow_view in
        let sw : DeviceView = p.shadow_device_view in
        let low = bounds_of s law plan k words1 shadow_words1 r1 control1 settings1 c1 guest device p.start v w sv sw after.kept in (
          record {
            view = v;
            device_view = w;
            kept = record {
              driven = after.kept.driven;
              account = account s law plan k words1 shadow_words1 r1 control1 settings1 c1 guest device p.start v w sv sw after.kept
                  p.served rests;
              reserved = after.kept.reserved;
            };
            rests = rests_now s law plan k words1 shadow_words1 r1 control1 settings1 c1 guest device p.start v w sv sw after.kept
                p.served rests;
            paced = p.paced;
            heard = heard_now s law plan k words1 shadow_words1 r1 control1 settings1 c1 guest device p.start v w sv sw after.kept
                p.served rests (relayed + b) after.heard;
            early = omega (arith, low.epoch);
            late = λ all. inr (omega (arith, p.rounds, some, after.counted));
          },
          after.counted,
        )
