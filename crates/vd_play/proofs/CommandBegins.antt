-- The control queue's lane as its device is attached to the epoch's shadow ring, and its relay stands between that and the guest's ring.
use Rattle.std.proofs.Common.{◌≡◌, inl, ℕ, ◌+◌, ◌<◌, ◌≤◌, Bool, true, false, if◌then◌else◌, None, List, [], ◌∷◌, length, map, take, length-append, refl, sym, ◌∙◌, ap, subst, arith}
use Rattle.std.specs.List.{All}
use Rattle.std.proofs.lemmas.Bool.{false≢true, le-ltb}
use Rattle.std.proofs.lemmas.List.{append-nil, take-take, length-take-le}
use Rattle.std.proofs.lemmas.List.Elements.{All-take}
use Rattle.vd_model.specs.declared.base.Mode.TheVariants.{Shadow}
use Rattle.vd_words.specs.Plain.{RingWords}
use Rattle.vd_ring.specs.declared.driver.DriverView.{DriverView}
use Rattle.vd_ring.specs.declared.device.DeviceView.{DeviceView}
use Rattle.vd_ring.specs.declared.frame.Frame.{Frame}
use Rattle.vd_ring.specs.Fresh.{fresh_driver, fresh_device}
use Rattle.vd_ring.specs.History.{offers, takes, gives}
use Rattle.vd_ring.specs.Lists.{Lists}
use Rattle.vd_ring.proofs.ListSteps.{given_below}
use Rattle.vd_layout.specs.Layout.{IsMadeWith}
use Rattle.vd_bus.specs.declared.device.Attached.{Attached}
use Rattle.vd_bus.specs.declared.event.Event.{Event}
use Rattle.vd_bus.specs.declared.event.Event.TheVariants.{Attach}
use Rattle.vd_bus.specs.Device.{IsAttach}
use Rattle.vd_bus.specs.Orders.{mode_of}
use Rattle.vd_bus.specs.Pace.{attaches}
use Rattle.vd_control.specs.declared.settings.Settings.{Settings}
use Rattle.vd_control.specs.declared.command.Command.{Command}
use Rattle.vd_control.specs.Commands.{spelled}
use Rattle.vd_control.specs.Settings.{default, folded, replay}
use Rattle.vd_control_lane.proofs.Sent.{script_sent}
use Rattle.vd_relay.specs.declared.control.Control.{Control}
use Rattle.vd_relay.specs.declared.control.Mode.{Mode}
use Rattle.vd_relay.specs.declared.control.Mode.TheVariants.{Replaying, Carrying, Leaving}
use Rattle.vd_relay.specs.declared.replay.ReplayStage.{ReplayStage}
use Rattle.vd_relay.specs.declared.replay.ReplayStage.TheVariants.{First, Second, Offering, Collecting, Loading, Arming, Hearing, Disarming, Done, Left}
use Rattle.vd_relay.specs.declared.counts.Counts.{Counts}
use Rattle.vd_relay.specs.declared.state.State.{State}
use Rattle.vd_relay.specs.ModeEnds.{opening}
use Rattle.vd_relay.specs.Modes.{ControlHolds, Does, replays_for}
use Rattle.vd_relay.specs.Pairing.{AreControls}
use Rattle.vd_relay.specs.Replays.{IsShadowRing, is_done, is_over}
use Rattle.vd_relay.specs.Stages.{is_rested}
use Rattle.vd_switch.specs.Account.{IsBegunBefore}
use Rattle.vd_switch.specs.CommandLanes.{AreAnsweredTo, guest_commands}
use Rattle.vd_switch.specs.Controlling.{ControlStart, IsControlling, replay_list}
use Rattle.vd_switch.specs.Stills.{Replays, IsNew}
use Rattle.vd_switch.proofs.ControllingBegins.{control_starts}
use Rattle.vd_turns.specs.ControlTurns.{IsControlLane}
use Rattle.vd_turns.specs.RelayTurns.{reached}
use Rattle.vd_control_lane.proofs.AnyScripts.{any_sent}
use Rattle.vd_machine.specs.File.{Plan}
use Rattle.vd_play.specs.declared.floor.ShadowRing.{ShadowRing}
use Rattle.vd_play.specs.CommandLane.{IsCommandQueue, IsCommandAccount, command_events_before, command_resets}
use Rattle.vd_play.specs.CommandProgress.{AreCommandsPaced, IsCommandStopped, IsCommandShadowing}
use Rattle.vd_play.specs.CommandProgress.Next.{guests}
use Rattle.vd_play.specs.Commands.{control_queue, control_commands, sent_at, settings_at}
use Rattle.vd_play.specs.ControlJournal.{journalled_at}
use Rattle.vd_play.specs.ControlRing.{control_order}
use Rattle.vd_play.specs.ControlRings.{control_ring, control_frame, control_shadow_frame, IsControlRing}
use Rattle.vd_play.specs.Epochs.{mode_at, renewed_at}
use Rattle.vd_play.specs.Journal.{map_in}
use Rattle.vd_play.specs.Setting.{Setting, IsLawful}
use Rattle.vd_play.proofs.Bounds.{many_epochs}
use Rattle.vd_play.proofs.CommandBegin.{IsCount, with_ack, acked_ones, acked_before, again_spelled, counted_to}
use Rattle.vd_play.proofs.CommandPace.{offers_few}
use Rattle.vd_play.proofs.ControlEpochs.{replay_back}
use Rattle.vd_play.proofs.Pace.{attaches_more}
use Rattle.vd_play.proofs.Renewals.{Renews, events_attached}

over_done : (stage : ReplayStage) → is_done stage ≡ true → is_over stage ≡ true
over_done Done is = refl
over_done Left is = refl
over_done First is = absurd (false≢true is)
over_done Second is = absurd (false≢true is)
over_done Offering is = absurd (false≢true is)
over_done Collecting is = absurd (false≢true is)
over_done (Loading h) is = absurd (false≢true is)
over_done Arming is = absurd (false≢true is)
over_done Hearing is = absurd (false≢true is)
over_done Disarming is = absurd (false≢true is)

no_members : {A : Type 0} (xs : List A) → length xs ≡ 0 → xs ≡ []
no_members [] h = refl
no_members (x ∷ xs) h = absurd (omega arith)

shadow_mode : (ring : ℕ) → 16 ≤ ring → mode_of ring ≡ Shadow
shadow_mode ring high = rw (le-ltb ring 16 high) refl

reached_live : {E D : Type 0} (r : State E D) (v : DriverView) (w : DeviceView) → is_rested r.stage ≡ false
    → reached r v w ≡ length (takes w.done)
reached_live r v w live = rw live refl

-- a device that is attached has kept its pace
pub commands_paced : {D E G X C : Type 0} (s : Setting D E G X C) (plan : Plan) (k : ℕ) (guest : G) (device device' : X) (v : DriverView)
    → AreCommandsPaced s plan k guest device v
    → (s.party.accesses device' ≡ s.party.accesses device) × (s.party.heard device' ≡ s.party.heard device)
    → attaches (s.party.events device') ≡ attaches (s.party.events device) + 1
    → AreCommandsPaced s plan (k + 1) guest device' v
commands_paced s plan k guest device device' v p same counted = record {
  guest_heard = p.guest_heard;
  guest_low = p.guest_low;
  device_low = omega (arith, p.device_low, same.0, same.1, counted);
  times = omega (arith, p.times, counted);
}

module _ {L D E G X C : Type 0} (s : Setting D E G X C) (law : IsLawful s) (plan : Plan) (k : ℕ) (words : RingWords) (end : E)
    (of_control : Bool) (settings : Settings) (relayed : ℕ) (guest : G) (device device1 device' : X) (ring : ShadowRing L D E)
    (r : State E D) (control : Control) (c : Counts) (count : ℕ) (less : k < length plan.switches + 2)
    (p : IsCommandStopped s plan k 0 words end of_control settings relayed guest device)
    (n : Renews s.party (command_resets plan k) device device1)
    (set : s.party.settings device1 ≡ (if renewed_at plan k then default else settings_at plan k))
    (many : IsCount plan k count)
    (kit : IsControlRing s.driver s.device s.layout plan k ring)
    (replays : Replays s.layout s.device s.driver (renewed_at plan k) settings end ring.kit.driver ring.kit.table r control c)
    (fresh : IsNew r c)
    (a : IsAttach s.device s.party (control_order s.layout plan (mode_at plan k) k count) None ring.kit.device device1 device')
  where
    abbrev frame : Frame
    frame = control_shadow_frame s.layout plan k

    abbrev v : DriverView
    v = p.view

    abbrev w : DeviceView
    w = p.device_view

    abbrev sv : DriverView
    sv = fresh_driver frame (s.layout.width frame)

    abbrev sw : DeviceView
    sw = fresh_device frame (s.layout.width frame)

    abbrev by : Attached
    by = record { queue = 15; count = count; at = length (s.party.begun device1); from = a.from }

    abbrev first : List (List ℕ)
    first = take (sent_at plan k) (control_commands plan)

    abbrev x : ControlStart
    x = record {
      opening = opening settings (renewed_at plan k) w;
      old = map with_ack first;
      by = by;
      settings = s.party.settings device1;
    }

    queue : IsCommandQueue s.layout plan
    queue = p.kept.driven.queue

    made : IsMadeWith s.layout plan.size plan.features true frame
    made = record { packed = refl; size = refl; features = refl; control = refl }

    framed : w.frame ≡ control_frame s.layout plan
    framed = (law.layout.wide words.words v w p.kept.driven.ring).1 ∙ p.kept.driven.part.framed

    own_pair : AreControls (control_frame s.layout plan) sv.frame
    own_pair = record {
      guest_control = refl;
      shadow_control = refl;
      guest_free = refl;
      free = refl;
      size = refl;
      features = refl;
      guest = omega arith;
      shadow = omega arith;
    }

    paired : AreControls w.frame sv.frame
    paired = subst (λ (f : Frame). AreControls f sv.frame) (sym framed) own_pair

    of_shadow : IsShadowRing s.layout sv.frame
    of_shadow = record { size = queue.made.lawful; packed = refl; control = refl; bounds = refl; number = omega arith }

    pub holds : ControlHolds s.layout s.device s.driver x.opening r control settings c w sv
        × (control.mode ≡ Carrying → control.replay.next ≡ length (replay control.replay.settings))
    holds = replays w sv p.rests.stands (kit.kit.ends.drives frame made) of_shadow paired refl

    whole : control.mode ≡ Carrying → control.replay.next ≡ length (replay_list x)
    whole is = holds.1 is ∙ ap (λ (z : Settings). length (replay z)) holds.0.again

    shadow_ring : s.layout.ring ring.words.words sv sw
    shadow_ring = subst (λ (ws : List ℕ). s.layout.ring ws sv sw) (sym kit.words)
        (law.layout.opens plan.size plan.features true frame queue.made made)

    from_none : a.from ≡ 0
    from_none = a.taken sw (kit.kit.ends.serves frame made)

    begun_same : s.party.begun device' ≡ s.party.begun device
    begun_same = a.noted.begun ∙ n.begun

    at_many : length (s.party.begun device1) ≡ journalled_at plan k
    at_many = ap length n.begun ∙ p.rests.begun

    -- ---- what the guest's ring has

    lists : Lists v.frame v.done w.done
    lists = law.layout.lists words.words v w p.kept.driven.ring

    offered : sent_at plan k ≤ length (offers v.done)
    offered = omega (arith, p.rests.taken, lists.some)

    sent : guest_commands v ≡ take (length (offers v.done)) (control_commands plan)
    sent = script_sent s.driver.words (control_queue plan) v
        (any_sent s.driver s.guest law.guest guest v (control_queue plan) p.kept.driven.part.holds p.kept.driven.part.script queue.plain) queue.sendable

    first_sent : take (length (gives w.done)) (guest_commands v) ≡ first
    first_sent = ap (λ (i : ℕ). take i (guest_commands v)) p.rests.given ∙ ap (take (sent_at plan k)) sent
        ∙ take-take (sent_at plan k) (length (offers v.done)) (control_commands plan) offered

    first_many : length first ≡ sent_at plan k
    first_many = length-take-le (sent_at plan k) (control_commands plan) (omega (
      arith,
      offered,
      offers_few s law plan words guest v w p.kept.driven,
    ))

    old_begun : IsBegunBefore x.old (take (length (gives w.done)) (guest_commands v)) (gives w.done)
    old_begun = subst (λ (cs : List (List ℕ)). IsBegunBefore x.old cs (gives w.done)) (sym first_sent)
        (acked_before first (gives w.done)
        (λ j low. omega (arith, given_below v.frame v.done w.done j lists low, p.rests.taken, first_many)) p.rests.ones)

    -- ---- the lane

    controlling : IsControlling s.layout s.device s.driver x r control settings c (s.party.begun device') (s.party.settings device')
        words.words ring.words.words v w sv sw
    controlling = subst
        (λ (z : Settings). IsControlling s.layout s.device s.driver x r control settings c (s.party.begun device') z words.words
        ring.words.words v w sv sw) (sym a.settings)
        (control_starts s.layout s.device s.driver x r control settings c (s.party.begun device') words.words ring.words.words v w sv sw
        holds.0 fresh.winding whole p.kept.driven.ring shadow_ring (ap (λ (f : Frame). f.control) p.kept.driven.part.framed) refl refl refl
        (p.rests.taken ∙ sym p.rests.given) refl refl (sym (ap length a.noted.begun)) from_none
        (again_spelled (renewed_at plan k) settings first
        (All-take (All (λ byte. byte < 256)) (sent_at plan k) (control_commands plan) queue.sendable.bytes) p.rests.kept) old_begun
        (acked_ones first))

    lane : IsControlLane s.layout s.device s.driver x (s.party.begun device') (s.party.settings device') words.words ring.words.words v w
        sv sw r control settings c
    lane = record {
      controlling = controlling;
      answers = subst (λ (i : ℕ). AreAnsweredTo i v w) (sym p.rests.given) p.rests.answers;
      acks = λ i y is. absurd (cc);
      covered = λ on. absurd (false≢true (sym fresh.winding ∙ on));
    }

    -- ---- the journal

    abbrev noted : Event
    noted = Attach (length (s.party.begun device1)) (control_ring k) (record { 0 = s.layout.fresh_base }) (mode_of (control_ring k)) default
        (map_in plan (mode_at plan k))

    last : noted ≡ Attach (journalled_at plan k) (control_ring k) (record { 0 = s.layout.fresh_base }) Shadow default
        (map_in plan (mode_at plan k))
    last = ap (λ j. Attach j (control_ring k) (record { 0 = s.layout.fresh_base }) (mode_of (control_ring k)) default
        (map_in plan (mode_at plan k))) at_many
        ∙ ap (λ m. Attach (journalled_at plan k) (control_ring k) (record { 0 = s.layout.fresh_base }) m default
        (map_in plan (mode_at plan k))) (shadow_mode (control_ring k) (omega arith))

    counted : attaches (s.party.events device') ≡ attaches (s.party.events device) + 1
    counted = ap attaches a.noted.events ∙ attaches_more (s.party.events device1) _ ∙ ap (λ j. j + 1) n.attaches_same

    even : length (takes w.done) ≡ length (gives w.done)
    even = p.rests.taken ∙ sym p.rests.given

    pub commands_start : IsCommandShadowing s plan guests k 0 words ring.words.words r control settings c relayed guest device'
    commands_start = record {
      start = x;
      view = v;
      device_view = w;
      shadow_view = sv;
      shadow_device_view = sw;
      kept = record {
        epoch = omega (arith, less, many_epochs plan (length (control_commands plan)));
        driven = p.kept.driven;
        account = subst (IsCommandAccount plan k) (sym begun_same) p.kept.account;
        reserved = record {
          window = a.noted.window ∙ n.window ∙ p.kept.reserved.window;
          room = omega (arith, p.kept.reserved.room, n.chain_room, a.noted.room.1, ap length begun_same);
        };
        framed = refl;
        start = record {
          settings = p.rests.kept;
          replays = refl;
          taken = p.rests.taken;
          given = p.rests.given;
          old = refl;
          at = at_many;
          to = omega (
            arith,
            at_many,
            counted_to s plan k 0 words end of_control settings relayed guest device p less count many,
          );
          set = set;
        };
        lane = lane;
      };
      serves = record {
        holds = a.holds sw (kit.kit.ends.serves frame made) (λ h. refl, λ h. refl);
        attached = a.attached;
        for_control = refl;
        attached_with = a.attached_with;
        events = record {
          bases = p.rests.events.bases;
          based = p.rests.events.based;
          events = events_attached (s.party.events device) (s.party.events device1) (s.party.events device')
              (command_events_before s.layout plan p.rests.events.bases k) (command_resets plan k) _ _
              (p.rests.events.events ∙ append-nil (command_events_before s.layout plan p.rests.events.bases k)) n.events a.noted.events last;
        };
        room = omega (
          arith,
          p.rests.room,
          n.event_room,
          ap length n.events,
          length-append (s.party.events device) (command_resets plan k),
          a.noted.room.0,
          ap length a.noted.events,
          length-append (s.party.events device1) (noted ∷ []),
        );
        live = a.live;
      };
      awake = (fresh.winding, fresh.live);
      paced = commands_paced s plan k guest device device' v p.paced
          (a.noted.counts.0 ∙ n.counts.0, a.noted.counts.1 ∙ n.counts.1) counted;
      heard = record {
        relays = p.heard.relays;
        before = relayed;
        heard = omega (arith, p.heard.heard, a.noted.counts.1, n.counts.1, ap (λ (y : Counts). y.heard) fresh.counts);
        low = p.heard.low;
        counted = omega (arith, ap (λ (y : Counts). y.accesses) fresh.counts);
        handled = omega (
          arith,
          ap (λ (y : Counts). y.handled) fresh.counts,
          reached_live r v w fresh.live,
          p.rests.taken,
          even,
        );
        pace = omega (arith, ap (λ (y : Counts). y.accesses) fresh.counts);
      };
      rounds = inl (omega arith);
    }

    -- ---- where all of a replay is acknowledged at once

    next_none : (m : Mode) → Does m s.layout s.device s.driver x.opening r control settings c w sv
        → is_done control.replay.stage ≡ true → control.replay.next ≡ 0
    next_none Replaying h all = absurd (false≢true (sym h.0 ∙ over_done control.replay.stage all))
    next_none Carrying h all = omega (arith, h.commands.stands.tied.follows.offered)
    next_none Leaving h all = absurd (false≢true (sym fresh.winding ∙ h.winding))

    set_at : (b : Bool) → renewed_at plan k ≡ b → is_done control.replay.stage ≡ true
        → s.party.settings device1 ≡ settings_at plan k
    set_at false is all = set ∙ ap (λ (y : Bool). if y then default else settings_at plan k) is
    set_at true is all =
        let none : length (replay (settings_at plan k)) ≡ 0 =
        ap (λ (z : Settings). length (replay z))
        (sym p.rests.kept ∙ ap (λ (y : Bool). replays_for y settings) (sym is))
        ∙ sym (holds.0.done.0 all) ∙ next_none control.mode holds.0.does all in
        set ∙ ap (λ (y : Bool). if y then default else settings_at plan k) is
        ∙ ap (λ (cs : List Command). folded (map spelled cs)) (sym (no_members (replay (settings_at plan k)) none))
        ∙ replay_back plan k queue.sendable.bytes

    pub commands_set : is_done control.replay.stage ≡ true → s.party.settings device' ≡ settings_at plan k
    commands_set all = a.settings ∙ set_at (renewed_at plan k) refl all
