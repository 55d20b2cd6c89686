-- The device's turn in a round of the control queue's lane.
use Rattle.std.proofs.Common.{◌≡◌, ◌⊎◌, inl, inr, ℕ, ◌+◌, ◌*◌, ◌≤◌, true, false, List, [], ◌∷◌, ◌++◌, length, length-append, sym, ◌∙◌, ap, subst, arith}
use Rattle.std.proofs.lemmas.Bool.{cases_lt}
use Rattle.vd_model.specs.declared.record.Begun.{Begun}
use Rattle.vd_words.specs.Plain.{RingWords}
use Rattle.vd_ring.specs.declared.driver.DriverView.{DriverView}
use Rattle.vd_ring.specs.declared.device.DeviceView.{DeviceView}
use Rattle.vd_ring.specs.declared.frame.Frame.{Frame}
use Rattle.vd_ring.specs.History.{takes, gives}
use Rattle.vd_ring.specs.Sleep.{DriverWaits}
use Rattle.vd_control.specs.declared.settings.Settings.{Settings}
use Rattle.vd_bus.specs.declared.event.Event.TheVariants.{Suspend}
use Rattle.vd_bus.specs.Device.{IsSuspend}
use Rattle.vd_bus.specs.Pace.{attaches}
use Rattle.vd_relay.specs.declared.control.Control.{Control}
use Rattle.vd_relay.specs.declared.counts.Counts.{Counts}
use Rattle.vd_relay.specs.declared.state.State.{State}
use Rattle.vd_relay.specs.Modes.{Opening, ControlHolds}
use Rattle.vd_relay.specs.Stages.{is_rested}
use Rattle.vd_switch.specs.Controlling.{ControlStart, IsControlling, replay_list}
use Rattle.vd_switch.proofs.ControllingBegins.{control_winds}
use Rattle.vd_turns.specs.RelayTurns.{HalfWaits, reached}
use Rattle.vd_turns.specs.Turns.{DeviceTurn}
use Rattle.vd_machine.specs.File.{Plan}
use Rattle.vd_play.specs.CommandLane.{AreCommandEvents, HasCommandRoom, IsCommandAccount, command_attached}
use Rattle.vd_play.specs.Commands.{own_commands, replayed_commands}
use Rattle.vd_play.specs.CommandProgress.{AreCommandsPaced, HasCommandRelayHeard, IsCommandShadowing, IsCommandWinding}
use Rattle.vd_play.specs.CommandProgress.Next.{guests, devices}
use Rattle.vd_play.specs.CommandShadowed.{AreCommandsRelayed, HasServedCommands}
use Rattle.vd_play.specs.ControlJournal.{epoch_commands, journalled_at, IsCommandBase}
use Rattle.vd_play.specs.ControlRings.{control_shadow_frame}
use Rattle.vd_play.specs.Progress.{steps}
use Rattle.vd_play.specs.Setting.{Setting, IsLawful}
use Rattle.vd_play.proofs.CommandBounds.{epoch_of}
use Rattle.vd_play.proofs.CommandEvents.{suspended, taken_controls}
use Rattle.vd_play.proofs.CommandKeep.{keeps_device}
use Rattle.vd_play.proofs.CommandPace.{bounds_of}
use Rattle.vd_play.proofs.CommandPaces.{paces_device}
use Rattle.vd_play.proofs.CommandQuiet.{replay_wakes, no_sleep}
use Rattle.vd_play.proofs.CommandReplays.{replays_many}
use Rattle.vd_play.proofs.Pace.{attaches_more}
use Rattle.vd_play.proofs.ShadowStops.{chosen}

module _ {D E G X C : Type 0} (s : Setting D E G X C) (law : IsLawful s) (plan : Plan) (k n d : ℕ) (few : d ≤ 4) (words : RingWords)
    (shadow_words shadow_words1 : List ℕ) (r : State E D) (control : Control) (settings : Settings) (c : Counts) (relayed : ℕ) (guest : G)
    (device device1 : X)
    (p : IsCommandShadowing s plan devices k n words shadow_words r control settings c relayed guest device)
    (t : DeviceTurn s.layout s.party shadow_words1 p.shadow_view p.shadow_device_view device device1 d) where
  -- after it
  record Turned (sw : DeviceView) : Type 0 where
    kept : AreCommandsRelayed s plan k words shadow_words1 r control settings c guest device1 p.start p.view p.device_view p.shadow_view sw
    paced : AreCommandsPaced s plan (k + 1) guest device1 p.view
    heard : HasCommandRelayHeard s plan k relayed r c device1 p.view p.device_view p.shadow_view sw
    counted : steps s relayed guest device1 ≡ steps s relayed guest device + d
    events : AreCommandEvents s plan k device1 (command_attached s.layout plan k)
    room : HasCommandRoom s plan device1
    rounds : (n + 1 ≤ 2 * steps s relayed guest device1) ⊎ ((n + 1 ≤ 2 * steps s relayed guest device1 + 1)
        × HalfWaits r.stage p.view p.device_view p.shadow_view sw)

  turned : Turned t.run.view
  turned =
      let off : r.winding ≡ false = p.awake.0 in
      let m = p.serves in
      let kept = keeps_device s law plan k d words shadow_words shadow_words1 r control settings c guest device device1 p.start p.view
      p.device_view p.shadow_view p.shadow_device_view off m.attached m.for_control m.attached_with p.kept t.run in
      let bounds = bounds_of s law plan k words shadow_words r control settings c guest device p.start p.view p.device_view p.shadow_view
      p.shadow_device_view p.kept in
      let paces = paces_device s law plan k d relayed words shadow_words1 r control settings c guest device device1 p.start p.view
      p.device_view p.shadow_view p.shadow_device_view few m.attached bounds t.run kept p.paced p.heard in
      let attached = t.run.served.attached ∙ m.attached in
      let counted : steps s relayed guest device1 ≡ steps s relayed guest device + d = omega (arith, paces.counted) in
      record {
        kept = kept;
        paced = paces.paced;
        heard = paces.heard;
        counted = counted;
        events = record {
          bases = m.events.bases;
          based = m.events.based;
          events = t.run.served.events ∙ m.events.events;
        };
        room = omega (arith, m.room, t.run.served.room.0, ap length t.run.served.events);
        rounds = elim p.rounds [
          | inl le ↦ inl (omega (arith, le, counted))
          | inr quiet ↦ elim (cases_lt 0 d) [
            | inl some ↦ elim quiet.1 [
              | inl replays ↦ inl (omega (arith, replays.0, counted, some))
              | inr half ↦ elim half.1 [
                | inl le ↦ inl (omega (arith, le, counted, some))
                | inr both ↦ inl (omega (arith, both.0, counted, some))
              ]
            ]
            | inr none ↦ (
                let asleep = t.quiet (omega (arith, none)) in
                elim quiet.1 [
                  | inl replays ↦ absurd (replay_wakes s law plan k words shadow_words1 r control settings c guest device1 p.start p.view
                      p.device_view p.shadow_view t.run.view kept t.run.holds attached off asleep.1 replays.1 replays.2
                      (subst (λ (z : DeviceView). DriverWaits p.shadow_view z) (sym asleep.0) replays.3))
                  | inr half ↦ (
                      let now : HalfWaits r.stage p.view p.device_view p.shadow_view t.run.view =
                      subst (λ (z : DeviceView). HalfWaits r.stage p.view p.device_view p.shadow_view z) (sym asleep.0) half.0 in
                      elim half.1 [
                        | inl le ↦ inr (omega (arith, le, counted), now)
                        | inr both ↦ absurd (no_sleep s law plan k words shadow_words1 r control settings c guest device1 p.start p.view
                            p.device_view p.shadow_view t.run.view kept t.run.holds attached off asleep.1 now quiet.0 both.1
                            (subst (λ (z : DeviceView). DriverWaits p.shadow_view z) (sym asleep.0) both.2))
                      ]
                      )
                ]
                )
          ]
        ];
      }

  -- it isn't done
  pub device_shadows : (s.party.is_done device1 → ⊥)
      → IsCommandShadowing s plan guests k (n + 1) words shadow_words1 r control settings c relayed guest device1
      × (steps s relayed guest device1 ≡ steps s relayed guest device + d)
  device_shadows live = (
    record {
      start = p.start;
      view = p.view;
      device_view = p.device_view;
      shadow_view = p.shadow_view;
      shadow_device_view = t.run.view;
      kept = turned.kept;
      serves = record {
        holds = t.run.holds;
        attached = t.run.served.attached ∙ p.serves.attached;
        for_control = p.serves.for_control;
        attached_with = t.run.served.attached_with ∙ p.serves.attached_with;
        events = turned.events;
        room = turned.room;
        live = live;
      };
      awake = p.awake;
      paced = turned.paced;
      heard = turned.heard;
      rounds = turned.rounds;
    },
    turned.counted,
  )

  -- ---- it is done, and suspended; its relay begins to wind up

  module _ (done : s.party.is_done device1) (device2 : X) (end : E) (z : IsSuspend s.device s.party device1 device2 end) where
    every : length (s.party.begun device1) ≡ journalled_at plan (k + 1)
    every = (law.party.done device1 t.run.view p.start.by t.run.holds (t.run.served.attached ∙ p.serves.attached) done).all
        ∙ p.kept.start.to

    -- it gave as many as are replayed, and the epoch's own
    covers : length (replay_list p.start) ≤ length (gives t.run.view.done)
    covers =
        let queue = p.kept.driven.queue in
        let ep = epoch_of s.layout plan queue k p.kept.epoch in
        let at = queue.numbered.at k ep.bound.epoch ep.bound.is in
        let sw : DeviceView = t.run.view in
        let all = law.party.done device1 sw p.start.by t.run.holds (t.run.served.attached ∙ p.serves.attached) done in
        let b = bounds_of s law plan k words shadow_words1 r control settings c guest device1 p.start p.view p.device_view p.shadow_view sw
        turned.kept in
        omega (
          arith,
          all.as_many,
          b.begun,
          every,
          ep.many,
          length-append (replayed_commands plan ep.bound.epoch) (own_commands plan ep.bound.epoch),
          replays_many plan k p.start p.kept.start ep.bound.epoch at.0 at.2,
        )

    served : HasServedCommands s plan k device2
    served =
        let queue = p.kept.driven.queue in
        let ep = epoch_of s.layout plan queue k p.kept.epoch in
        let sw : DeviceView = t.run.view in
        let h = turned.kept.lane.controlling in
        let all = law.party.done device1 sw p.start.by t.run.holds (t.run.served.attached ∙ p.serves.attached) done in
        let b = bounds_of s law plan k words shadow_words1 r control settings c guest device1 p.start p.view p.device_view p.shadow_view sw
        turned.kept in
        let framed : sw.frame ≡ control_shadow_frame s.layout plan k =
        (law.layout.wide shadow_words1 p.shadow_view sw h.parts.shadow_ring).1 ∙ turned.kept.framed in
        let base : IsCommandBase s.device s.layout plan k (length (epoch_commands plan ep.bound.epoch))
        (record { 0 = s.device.base end }) = record {
          chains = takes sw.done;
          many = omega (
            arith,
            all.as_many,
            b.shadow_given,
            b.begun,
            every,
            ep.many,
            length-append (replayed_commands plan ep.bound.epoch)
                (own_commands plan ep.bound.epoch),
          );
          each = taken_controls s.device s.driver s.layout law.layout shadow_words1 p.shadow_view sw h.parts.shadow_ring h.parts.control.1;
          is = ap (λ (n : ℕ). record { 0 = n }) (law.layout.device_end.based end sw (z.stands sw t.run.holds) (inl z.rests)
              ∙ ap (λ (f : Frame). s.device.base_of f (takes sw.done)) framed);
        } in
        record {
          free = z.attached;
          begun = ap length z.noted.begun ∙ every;
          events = suspended s plan queue.numbered k ep.bound.epoch ep.bound.is device1 device2 (record { 0 = s.device.base end })
              turned.events
              (z.noted.events
              ∙ ap (λ (n : ℕ). s.party.events device1 ++ Suspend n (record { 0 = s.device.base end })
              ∷ []) every) base;
          room = omega (
            arith,
            turned.room,
            z.noted.room.0,
            ap length z.noted.events,
            length-append (s.party.events device1)
                (Suspend (length (s.party.begun device1)) (record { 0 = s.device.base end }) ∷ []),
          );
        }

    pub device_winds : (r2 : State E D) (control2 : Control) (settings2 : Settings) (c2 : Counts)
        → ((y : Opening) (w : DeviceView) (v : DriverView) → ControlHolds s.layout s.device s.driver y r control settings c w v
        → ControlHolds s.layout s.device s.driver y r2 control2 settings2 c2 w v)
        → control2.mode ≡ control.mode → control2.replay.next ≡ control.replay.next → is_rested r2.stage ≡ false → r2.winding ≡ true
        → ((sw : DeviceView) → s.party.holds device1 sw → r2.target ≡ length (gives sw.done)) → c2 ≡ c → settings2 ≡ settings
        → IsCommandWinding s plan guests k (n + 1) words shadow_words1 r2 control2 settings2 c2 relayed guest device2
        × (steps s relayed guest device2 ≡ steps s relayed guest device + d)
    device_winds r2 control2 settings2 c2 holds mode next live winding target same_counts same_settings =
        let x : ControlStart = p.start in
        let sw : DeviceView = t.run.view in
        let y = turned in
        let all = law.party.done device1 sw x.by t.run.holds (t.run.served.attached ∙ p.serves.attached) done in
        let h = y.kept.lane.controlling in
        let held : ControlHolds s.layout s.device s.driver x.opening r2 control2 settings c p.device_view p.shadow_view =
        subst (λ (o : Settings). ControlHolds s.layout s.device s.driver x.opening r2 control2 o c p.device_view p.shadow_view)
        same_settings (subst (λ (o : Counts). ControlHolds s.layout s.device s.driver x.opening r2 control2 settings2 o p.device_view
        p.shadow_view) same_counts (holds x.opening p.device_view p.shadow_view h.holds)) in
        let lane1 = (control_winds s.layout s.device s.driver law.layout x r control settings c (s.party.begun device1)
        (s.party.settings device1) words.words shadow_words1 p.view p.device_view p.shadow_view sw h r2 control2 p.awake.0 held mode next
        (record { target = target sw t.run.holds; even = all.as_many; whole = all.whole })).0 in
        let lane2 : IsControlling s.layout s.device s.driver x r2 control2 settings2 c2 (s.party.begun device2) (s.party.settings device2)
        words.words shadow_words1 p.view p.device_view p.shadow_view sw =
        subst (λ (o : Settings). IsControlling s.layout s.device s.driver x r2 control2 o c2 (s.party.begun device2)
        (s.party.settings device2) words.words shadow_words1 p.view p.device_view p.shadow_view sw) (sym same_settings)
        (subst (λ (o : Counts). IsControlling s.layout s.device s.driver x r2 control2 settings o (s.party.begun device2)
        (s.party.settings device2) words.words shadow_words1 p.view p.device_view p.shadow_view sw) (sym same_counts)
        (subst (λ (o : Settings). IsControlling s.layout s.device s.driver x r2 control2 settings c (s.party.begun device2) o words.words
        shadow_words1 p.view p.device_view p.shadow_view sw) (sym z.settings)
        (subst (λ (o : List Begun). IsControlling s.layout s.device s.driver x r2 control2 settings c o (s.party.settings device1)
        words.words shadow_words1 p.view p.device_view p.shadow_view sw) (sym z.noted.begun) lane1))) in
        let no_attach : attaches (s.party.events device2) ≡ attaches (s.party.events device1) =
        ap attaches z.noted.events ∙ attaches_more (s.party.events device1) _
        ∙ (let e : attaches (s.party.events device1) + 0 ≡ attaches (s.party.events device1) = omega arith in e) in
        let far : reached r2 p.view p.device_view ≡ reached r p.view p.device_view =
        chosen (is_rested r2.stage) _ _ live ∙ sym (chosen (is_rested r.stage) _ _ p.awake.1) in
        let total : steps s relayed guest device2 ≡ steps s relayed guest device + d = omega (arith, y.counted, z.noted.counts.0) in
        let heard = y.heard in (
          record {
            start = x;
            view = p.view;
            device_view = p.device_view;
            shadow_view = p.shadow_view;
            shadow_device_view = sw;
            kept = record {
              epoch = y.kept.epoch;
              driven = y.kept.driven;
              account = subst (λ (bs : List Begun). IsCommandAccount plan k bs) (sym z.noted.begun) y.kept.account;
              reserved = record {
                window = z.noted.window ∙ y.kept.reserved.window;
                room = omega (arith, y.kept.reserved.room, z.noted.room.1, ap length z.noted.begun);
              };
              framed = y.kept.framed;
              start = y.kept.start;
              lane = record {
                controlling = lane2;
                answers = y.kept.lane.answers;
                acks = y.kept.lane.acks;
                covered = λ on. covers;
              };
            };
            served = served;
            winds = (winding, live);
            paced = record {
              guest_heard = y.paced.guest_heard;
              guest_low = y.paced.guest_low;
              device_low = omega (arith, y.paced.device_low, z.noted.counts.0, z.noted.counts.1, no_attach);
              times = omega (arith, y.paced.times, no_attach);
            };
            heard = record {
              relays = heard.relays;
              before = heard.before;
              heard = omega (arith, heard.heard, z.noted.counts.1, ap (λ (y : Counts). y.heard) same_counts);
              low = heard.low;
              counted = omega (arith, heard.counted, ap (λ (y : Counts). y.accesses) same_counts);
              handled = omega (arith, heard.handled, far, ap (λ (y : Counts). y.handled) same_counts);
              pace = omega (
                arith,
                heard.pace,
                ap (λ (y : Counts). y.accesses) same_counts,
                ap (λ (y : Counts). y.handled) same_counts,
                ap (λ (y : Counts). y.heard) same_counts,
              );
            };
            rounds = elim y.rounds [
              | inl le ↦ omega (arith, le, z.noted.counts.0)
              | inr half ↦ omega (arith, half.0, z.noted.counts.0)
            ];
          },
          total,
        )
