-- Where a replay comes to its end the device has begun all of it and nothing behind it: it has set again what was set before the epoch.
use Rattle.std.proofs.Common.{◌≡◌, inl, inr, ℕ, ◌≤◌, Bool, true, false, if◌then◌else◌, Option, Some, List, [], ◌++◌, length, map, take, drop, refl, sym, ◌∙◌, ap, arith}
use Rattle.std.proofs.lemmas.Bool.{false≢true}
use Rattle.std.proofs.lemmas.List.{length-map, length-drop, length-take, take_all, take-append-le}
use Rattle.vd_model.specs.declared.record.Begun.{Begun}
use Rattle.vd_words.specs.Plain.{RingWords}
use Rattle.vd_ring.specs.declared.driver.DriverView.{DriverView}
use Rattle.vd_ring.specs.declared.device.DeviceView.{DeviceView}
use Rattle.vd_ring.specs.History.{takes, gives}
use Rattle.vd_layout.specs.declared.device.DeviceEnd as device_end
use Rattle.vd_layout.specs.declared.driver.DriverEnd as driver_end
use Rattle.vd_layout.specs.declared.layout.Layout as layout
use Rattle.vd_bus.specs.DeviceCommands.{commands_of}
use Rattle.vd_control.specs.declared.command.Command.{Command}
use Rattle.vd_control.specs.declared.settings.Settings.{Settings}
use Rattle.vd_control.specs.Commands.{spelled}
use Rattle.vd_control.specs.Settings.{replay}
use Rattle.vd_commands.specs.Words.{set_by}
use Rattle.vd_relay.specs.declared.control.Control.{Control}
use Rattle.vd_relay.specs.declared.counts.Counts.{Counts}
use Rattle.vd_relay.specs.declared.state.State.{State}
use Rattle.vd_relay.specs.Modes.{has_replayed}
use Rattle.vd_relay.specs.Replays.{is_done}
use Rattle.vd_relay.specs.Stages.{is_rested}
use Rattle.vd_switch.specs.declared.still.Still.{Still}
use Rattle.vd_switch.specs.CommandLanes.{guest_commands}
use Rattle.vd_switch.specs.Controlling.{ControlStart, replay_list, start_of, replayed_by}
use Rattle.vd_switch.proofs.Controlling.{is_carrying, some_by, replaying}
use Rattle.vd_switch.proofs.ControllingBegins.{control_keeps}
use Rattle.vd_turns.specs.ControlTurns.{ControlTurn, ControlTurns}
use Rattle.vd_machine.specs.File.{Plan}
use Rattle.vd_play.specs.declared.floor.Relaying.{Relaying}
use Rattle.vd_play.specs.Commands.{settings_at}
use Rattle.vd_play.specs.CommandProgress.{InCommandRoundWith}
use Rattle.vd_play.specs.CommandProgress.Next.{relays}
use Rattle.vd_play.specs.CommandRounds.{is_replayed}
use Rattle.vd_play.specs.CommandShadowed.{AreCommandsRelayed}
use Rattle.vd_play.specs.Epochs.{renewed_at}
use Rattle.vd_play.specs.Setting.{Setting, IsLawful}
use Rattle.vd_play.proofs.CommandPace.{bounds_of}
use Rattle.vd_play.proofs.CommandRelaying.{Works, controls, works, turn_at}
use Rattle.vd_play.proofs.CommandReplays.{replays_list, replay_collected, set_again}
use Rattle.vd_play.proofs.ControlEpochs.{replay_back}
use Rattle.vd_play.proofs.Lists.{prefix_at}

module _ {D E G X C : Type 0} (s : Setting D E G X C) (law : IsLawful s) (plan : Plan) (k : ℕ) (words : RingWords)
    (shadow_words : List ℕ) (r : State E D) (control : Control) (settings : Settings) (c : Counts) (guest : G) (device : X)
    (x : ControlStart) (v : DriverView) (w : DeviceView) (sv : DriverView) (sw : DeviceView)
    (p : AreCommandsRelayed s plan k words shadow_words r control settings c guest device x v w sv sw)
    (replays : is_done control.replay.stage ≡ false) where
  abbrev ds : List Begun
  ds = drop x.by.at (s.party.begun device)

  abbrev all : ℕ
  all = length (replay_list x)

  counted : (start_of x control).from.replayed ≤ all
  counted = omega (
    arith,
    p.lane.controlling.parts.counted,
    length-take (replayed_by control.mode control.replay.next all) (replay_list x),
  )

  -- the device has taken no more than the replay, and each that it took is replayed
  few : (length (takes sw.done) ≤ all) × (length (takes sw.done) ≤ (start_of x control).from.replayed)
  few =
      let h = p.lane.controlling in
      let next : ℕ = control.replay.next in
      let b = bounds_of s law plan k words shadow_words r control settings c guest device x v w sv sw p in
      elim (is_carrying control.mode) [
        | inl is ↦ elim (h.over is) [
          | inl whole ↦ absurd (false≢true (sym replays ∙ h.holds.done.1 whole))
          | inr cut ↦ (
            omega (arith, cut.1, some_by control.mode next all is, counted),
            omega (arith, cut.1, some_by control.mode next all is),
          )
        ]
        | inr never ↦ (
            let list = replaying s.layout s.device s.driver x r control settings c (s.party.begun device) (s.party.settings device)
            words.words shadow_words v w sv sw h never in (
              omega (arith, b.shadow_taken, list.few, h.parts.counted, counted),
              omega (arith, b.shadow_taken, list.few, h.parts.counted),
            )
            )
      ]

  module _ (gave : all ≤ length (gives sw.done)) where
    many : length ds ≡ all
    many =
        let b = bounds_of s law plan k words shadow_words r control settings c guest device x v w sv sw p in
        omega (arith, length-drop x.by.at (s.party.begun device), p.start.at, b.begun, b.shadow_given, few.0, gave)

    -- all of the list stands before the guest's commands
    whole : (start_of x control).from.replayed ≡ all
    whole =
        let b = bounds_of s law plan k words shadow_words r control settings c guest device x v w sv sw p in
        omega (arith, few.1, counted, length-drop x.by.at (s.party.begun device), p.start.at, b.begun, many)

    begun_is : commands_of ds ≡ map spelled (replay_list x)
    begun_is =
        let list : List Command = replay_list x in
        let rest : List (List ℕ) = drop (length x.opening.gives) (guest_commands v) in
        let keeps = control_keeps s.layout s.device s.driver law.layout x r control settings c (s.party.begun device)
        (s.party.settings device) words.words shadow_words v w sv sw p.lane.controlling in
        let long : length (map spelled list) ≡ all = length-map list spelled in
        let first : map spelled (start_of x control).replays ≡ map spelled list =
        ap (λ (i : ℕ). map spelled (take i list)) whole ∙ ap (map spelled) (take_all all list (omega arith)) in
        prefix_at (commands_of ds) (map spelled (start_of x control).replays ++ rest) all keeps.journal
        (omega (arith, length-map ds (λ (y : Begun). y.bytes.items), many))
        ∙ ap (λ (zs : List (List ℕ)). take all (zs ++ rest)) first
        ∙ take-append-le all (map spelled list) rest (omega (arith, long)) ∙ take_all all (map spelled list) (omega (arith, long))

    pub replayed_sets : s.party.settings device ≡ settings_at plan k
    replayed_sets =
        let was : Settings = settings_at plan k in
        let renewed : Bool = renewed_at plan k in
        p.lane.controlling.parts.commanded.settings ∙ ap (set_by x.settings) begun_is
        ∙ ap (set_by x.settings) (replays_list plan k x p.start)
        ∙ ap (λ (z : Settings). set_by z (if renewed then map spelled (replay was) else [])) p.start.set
        ∙ set_again renewed was (replay_back plan k p.driven.queue.sendable.bytes)

-- ---- by the relay's turn

on_of : (b : Bool) → (b ≡ false → ⊥) → b ≡ true
on_of true never = refl
on_of false never = absurd (never refl)

module _ {L D E G X C : Type 0} {i : layout.Ghosts L D E} {j : driver_end.Ghosts D} {h : device_end.Ghosts E} (s : Setting D E G X C)
    (law : IsLawful s) (plan : Plan) (k n : ℕ) (words : RingWords) (relayed : ℕ) (guest : G) (device : X) (on : Bool)
    (still : Option (Still L D E i j h)) (x : Relaying L D E) (o : Option (Relaying L D E)) (is : o ≡ Some x)
    (p : InCommandRoundWith s plan relays on k n words still o relayed guest device) (words1 : RingWords) (x1 : Relaying L D E) (b : ℕ)
    (few : b ≤ 4) (same : words1.ring ≡ words.ring)
    (turns : ControlTurns s.layout s.device s.driver words.words words1.words x.words.words x1.words.words x.lane.relay.state
    x1.lane.relay.state x.lane.relay.control x1.lane.relay.control x.lane.relay.settings x1.lane.relay.settings x.lane.relay.counts
    x1.lane.relay.counts b) (replays : is_replayed o ≡ false) where
  abbrev y : (z : Control) × (x.lane.relay.control ≡ Some z)
  y = controls s plan k n words relayed guest device on still x o is p

  abbrev at : Works s plan k n words relayed guest device x.words.words x.lane.relay.state y.0 x.lane.relay.settings x.lane.relay.counts
  at = works s plan k n words relayed guest device on still x o is p

  abbrev turn : (z : Control) × (x1.lane.relay.control ≡ Some z) × ControlTurn s.layout s.device s.driver at.start (s.party.begun device)
      (s.party.settings device) words1.words x1.words.words at.view at.device_view at.shadow_view at.shadow_device_view
      x.lane.relay.state x1.lane.relay.state y.0 z x.lane.relay.settings x1.lane.relay.settings x.lane.relay.counts
      x1.lane.relay.counts b
  turn = turn_at s plan k n words relayed guest device on still x o is p law words1 x1 b few same turns

  replaying_was : is_done y.0.replay.stage ≡ false
  replaying_was = sym (ap has_replayed y.1) ∙ sym (ap is_replayed is) ∙ replays

  sets : length (replay_list at.start) ≤ length (gives at.shadow_device_view.done) → s.party.settings device ≡ settings_at plan k
  sets gave = replayed_sets s law plan k words x.words.words x.lane.relay.state y.0 x.lane.relay.settings x.lane.relay.counts guest
      device at.start at.view at.device_view at.shadow_view at.shadow_device_view at.kept replaying_was gave

  -- the relay has come to its end, which a wind-up has begun
  pub sets_rested : is_rested x1.lane.relay.state.stage ≡ true → s.party.settings device ≡ settings_at plan k
  sets_rested rests = sets (at.kept.lane.covered (on_of x.lane.relay.state.winding
      (λ off. false≢true (sym (turn.2.run.awake off) ∙ rests))))

  -- or has all of the replay acknowledged
  pub sets_replayed : has_replayed x1.lane.relay.control ≡ true → s.party.settings device ≡ settings_at plan k
  sets_replayed all =
      let t = turn.2.run in
      let lane = t.lane.controlling in
      let collected = replay_collected s.layout s.device s.driver at.start x1.lane.relay.state turn.0 x1.lane.relay.settings
      x1.lane.relay.counts (s.party.begun device) (s.party.settings device) words1.words x1.words.words at.view t.view t.shadow_view
      at.shadow_device_view lane (sym (ap has_replayed turn.1) ∙ all) in
      sets (omega (
        arith,
        collected,
        (law.layout.lists x1.words.words t.shadow_view at.shadow_device_view lane.parts.shadow_ring).fewer,
      ))
