-- The end of a shadow epoch: its device is done and suspended, and its relay begins to wind up.
use Rattle.std.proofs.Common.{◌≡◌, inl, inr, ℕ, ◌+◌, ◌*◌, ◌≤◌, Bool, true, false, if◌then◌else◌, List, [], ◌∷◌, ◌++◌, length, map, take, drop, sym, ◌∙◌, ap, subst, arith}
use Rattle.std.proofs.lemmas.Bool.{false≢true}
use Rattle.vd_model.specs.declared.base.Mode.TheVariants.{Shadow}
use Rattle.vd_model.specs.declared.chain.Piece.{Piece}
use Rattle.vd_model.specs.declared.record.Begun.{Begun}
use Rattle.vd_model.specs.Moved.{moved}
use Rattle.vd_words.specs.Plain.{RingWords}
use Rattle.vd_ring.specs.declared.driver.DriverView.{DriverView}
use Rattle.vd_ring.specs.declared.device.DeviceView.{DeviceView}
use Rattle.vd_ring.specs.History.{takes, gives}
use Rattle.vd_bus.specs.declared.device.Attached.{Attached}
use Rattle.vd_bus.specs.declared.event.Event.TheVariants.{Suspend}
use Rattle.vd_bus.specs.Device.{IsSuspend, lens_of}
use Rattle.vd_bus.specs.Pace.{attaches}
use Rattle.vd_relay.specs.declared.counts.Counts.{Counts}
use Rattle.vd_relay.specs.declared.state.State.{State}
use Rattle.vd_relay.specs.Moving.{Holds}
use Rattle.vd_relay.specs.Stages.{is_rested}
use Rattle.vd_relay.specs.Tie.{Start}
use Rattle.vd_switch.specs.ShadowingLanes as switch
use Rattle.vd_switch.proofs.Wound.{winds_up}
use Rattle.vd_machine.specs.File.{Plan}
use Rattle.vd_play.specs.Before.{events_before, begun_at, resets}
use Rattle.vd_play.specs.Epochs.{Epoch}
use Rattle.vd_play.specs.Journal.{queue_chains, queue_epochs, epoch_events, own_chains, shadow_map, shadow_frame}
use Rattle.vd_play.specs.Lane.{Account, HasRoom}
use Rattle.vd_play.specs.Orders.{shadow_attach}
use Rattle.vd_play.specs.Progress.{steps, IsShadowing, IsWinding, HasRelayHeard}
use Rattle.vd_play.specs.Setting.{Setting, IsLawful}
use Rattle.vd_play.specs.Shadowed.{IsRelayed, HasServedShadow}
use Rattle.vd_turns.specs.RelayTurns.{RelayTurn, reached}
use Rattle.vd_turns.specs.Turns.{GuestTurn, DeviceTurn}
use Rattle.vd_play.proofs.Bounds.{bounded, flat_more}
use Rattle.vd_play.proofs.Pace.{attaches_more}
use Rattle.vd_play.proofs.Parts.{by_shadow}
use Rattle.vd_play.proofs.Passed.{two_events}
use Rattle.vd_play.proofs.Rooms.{room_noted, room_same}
use Rattle.vd_play.proofs.ShadowChains.{shadow_events, begun_chains}
use Rattle.vd_play.proofs.ShadowRounds.{all_turned}

pub chosen : (b : Bool) (x y : ℕ) → b ≡ false → (if b then x else y) ≡ y
chosen false x y is = Rattle.std.proofs.Common.refl
chosen true x y is = absurd (false≢true (sym is))

module _ {D E G X C : Type 0} (s : Setting D E G X C) (law : IsLawful s) (plan : Plan) (q k : ℕ) where
  -- the device of a shadow ring after its suspension
  served_shadow : (words : RingWords) (shadow_words : List ℕ) (r : State E D) (c : Counts) (guest : G) (device device' : X) (by : Attached)
      (v : DriverView) (w : DeviceView) (sv : DriverView) (sw : DeviceView) (end : E)
      → IsRelayed s plan q k words shadow_words r c guest device by v w sv sw → s.party.holds device sw
      → length (s.party.begun device) ≡ begun_at plan q (k + 1)
      → s.party.events device ≡ events_before s.device s.layout plan q k
      ++ (resets plan q k ++ shadow_attach s.layout plan q k (begun_at plan q k) ∷ [])
      → HasRoom s plan q device → IsSuspend s.device s.party device device' end → HasServedShadow s plan q k device'
  served_shadow words shadow_words r c guest device device' by v w sv sw end p holds every events room z =
      let b = bounded (length (queue_chains plan q)) (queue_epochs plan q) k p.driven.queue.chained p.epoch in
      let ep : Epoch = b.epoch in
      let numbered = p.driven.queue.numbered.at k ep b.is in
      let ring : ℕ = 16 * (k + 1) + q in
      let mode : ep.mode ≡ Shadow = numbered.1 ∙ p.mode in
      let moved_chains : List (List Piece) = map (moved (shadow_map plan)) (own_chains plan q ep) in
      let taken : takes sw.done ≡ moved_chains =
      ap (λ j. drop j (takes sw.done)) (sym p.lane.from) ∙ sym p.lane.serves.chains
      ∙ begun_chains s law plan q k words shadow_words r c guest device by v w sv sw p every b ∙ by_shadow plan q ep mode in
      let framed : sw.frame ≡ shadow_frame s.layout plan ring =
      (law.layout.wide shadow_words sv sw p.lane.shadow_ring).1 ∙ p.framed in
      let based : s.device.base end ≡ s.device.base_of (shadow_frame s.layout plan ring) moved_chains =
      law.layout.device_end.based end sw (z.stands sw holds) (inl z.rests) ∙ ap (λ f. s.device.base_of f (takes sw.done)) framed
      ∙ ap (s.device.base_of (shadow_frame s.layout plan ring)) taken in
      let next : ℕ = begun_at plan q (k + 1) in
      let last : Suspend (length (s.party.begun device)) (record { 0 = s.device.base end })
      ≡ Suspend next (record { 0 = s.device.base_of (shadow_frame s.layout plan ring) moved_chains }) =
      ap (λ j. Suspend j (record { 0 = s.device.base end })) every ∙ ap (λ j. Suspend next (record { 0 = j })) based in
      let whole : epoch_events s.device s.layout plan q ep ≡ resets plan q k
      ++ shadow_attach s.layout plan q k (begun_at plan q k)
      ∷ Suspend next (record { 0 = s.device.base_of (shadow_frame s.layout plan ring) moved_chains }) ∷ [] =
      shadow_events s.device s.layout plan q k ep mode numbered.2 numbered.0 b.first
      ∙ ap (λ j. resets plan q k ++ shadow_attach s.layout plan q k (begun_at plan q k)
      ∷ Suspend j (record { 0 = s.device.base_of (shadow_frame s.layout plan ring) moved_chains }) ∷ []) b.end in
      record {
        free = z.attached;
        begun = ap length z.noted.begun ∙ every;
        events = two_events (s.party.events device) (s.party.events device') (events_before s.device s.layout plan q k)
            (resets plan q k) _ _ _ events z.noted.events last
            ∙ ap (λ zs. events_before s.device s.layout plan q k ++ zs) (sym whole)
            ∙ sym (flat_more (epoch_events s.device s.layout plan q) (queue_epochs plan q) k ep b.is);
        room = room_noted s plan q device device' _ z.noted.events z.noted.room.0 room;
      }

  -- the lane after the device's suspension, as its relay begins to wind up
  relayed_on : (words : RingWords) (shadow_words : List ℕ) (r r' : State E D) (c c' : Counts) (guest : G) (device device' : X)
      (by : Attached) (v : DriverView) (w : DeviceView) (sv : DriverView) (sw : DeviceView) (end : E)
      → (p : IsRelayed s plan q k words shadow_words r c guest device by v w sv sw)
      → IsSuspend s.device s.party device device' end → Holds s.device s.driver p.start r' c' w sv → switch.IsWinding r' sw
      → IsRelayed s plan q k words shadow_words r' c' guest device' by v w sv sw
  relayed_on words shadow_words r r' c c' guest device device' by v w sv sw end p z holds winding =
      let same : s.party.begun device' ≡ s.party.begun device = z.noted.begun in
      record {
        epoch = p.epoch;
        mode = p.mode;
        driven = p.driven;
        account = subst (λ (bs : List Begun). Account plan q k bs) (sym same) p.account;
        reserved = record {
          window = z.noted.window ∙ p.reserved.window;
          room = omega (arith, p.reserved.room, z.noted.room.1, ap length same);
        };
        framed = p.framed;
        start = p.start;
        old = p.old;
        lane = subst (λ (bs : List Begun). switch.IsShadowing s.device s.driver s.layout p.start p.old r' bs by words.words shadow_words v
            w sv sw) (sym same)
            (winds_up s.device s.driver s.layout p.start p.old r r' (s.party.begun device) by words.words shadow_words v w sv sw p.lane
            holds.stands winding);
        holds = holds;
        moves = p.moves;
        took_over = p.took_over;
        lens = p.lens ∙ ap (λ (bs : List Begun). take (begun_at plan q k) (lens_of bs)) (sym same);
        to = p.to;
      }

  module _ (n a b : ℕ) (few_a : a ≤ 4) (few_b : b ≤ 4) where
    -- the round after which the device is done
    pub winds_from : (d : ℕ) → d ≤ 4 → (words words1 words2 : RingWords) (shadow_words shadow_words1 shadow_words2 : List ℕ)
        (r r1 r2 : State E D) (c c1 c2 : Counts) (relayed : ℕ) (guest guest1 : G) (device device1 device2 : X) (end : E)
        (p : IsShadowing s plan q k n words shadow_words r c relayed guest device) → words1.ring ≡ words.ring → words2.ring ≡ words1.ring
        → (t : GuestTurn s.layout s.guest words1.words p.view p.device_view guest guest1 a)
        → (u : RelayTurn s.layout s.device s.driver p.kept.start p.kept.old (s.party.begun device) p.by words2.words shadow_words1
        t.run.view p.device_view p.shadow_view p.shadow_device_view r r1 c c1 b)
        → (x : DeviceTurn s.layout s.party shadow_words2 u.run.shadow_view p.shadow_device_view device device1 d)
        → s.party.is_done device1 → IsSuspend s.device s.party device1 device2 end
        → ((z : Start) (w : DeviceView) (v : DriverView) → Holds s.device s.driver z r1 c1 w v → Holds s.device s.driver z r2 c2 w v)
        → is_rested r2.stage ≡ false → r2.winding ≡ true
        → ((sw : DeviceView) → s.party.holds device1 sw → r2.target ≡ length (gives sw.done)) → c2 ≡ c1
        → IsWinding s plan q k (n + 1) words2 shadow_words2 r2 c2 (relayed + b) guest1 device2
        × (steps s (relayed + b) guest1 device2 ≡ steps s relayed guest device + (a + b + d))
    winds_from d few_d words words1 words2 shadow_words shadow_words1 shadow_words2 r r1 r2 c c1 c2 relayed guest guest1 device device1
        device2 end p same1 same2 t u x done z holds live winding target counts =
        let y = all_turned s law plan q k n a b few_a few_b d few_d words words1 words2 shadow_words shadow_words1 shadow_words2 r r1 c c1
        relayed guest guest1 device device1 p same1 same2 t u x in
        let attached = x.run.served.attached ∙ p.serves.attached in
        let all = law.party.done device1 x.run.view p.by x.run.holds attached done in
        let every : length (s.party.begun device1) ≡ begun_at plan q (k + 1) = all.all ∙ y.kept.to in
        let held : Holds s.device s.driver y.kept.start r2 c2 u.run.view u.run.shadow_view =
        holds y.kept.start u.run.view u.run.shadow_view y.kept.holds in
        let winds : switch.IsWinding r2 x.run.view =
        record { target = target x.run.view x.run.holds; even = all.as_many; whole = all.whole } in
        let no_attach : attaches (s.party.events device2) ≡ attaches (s.party.events device1) =
        ap attaches z.noted.events ∙ attaches_more (s.party.events device1) _
        ∙ (let e : attaches (s.party.events device1) + 0 ≡ attaches (s.party.events device1) = omega arith in e) in
        let far : reached r2 t.run.view u.run.view ≡ reached r1 t.run.view u.run.view =
        chosen (is_rested r2.stage) _ _ live ∙ sym (chosen (is_rested r1.stage) _ _ y.awake.1) in
        let total : steps s (relayed + b) guest1 device2 ≡ steps s relayed guest device + (a + b + d) =
        omega (arith, y.counted, z.noted.counts.0) in
        let h : HasRelayHeard s plan q k (relayed + b) r1 c1 device1 t.run.view u.run.view u.run.shadow_view x.run.view = y.heard in (
          record {
            by = p.by;
            view = t.run.view;
            device_view = u.run.view;
            shadow_view = u.run.shadow_view;
            shadow_device_view = x.run.view;
            kept = relayed_on words2 shadow_words2 r1 r2 c1 c2 guest1 device1 device2 p.by t.run.view u.run.view u.run.shadow_view
                x.run.view end y.kept z held winds;
            served = served_shadow words2 shadow_words2 r1 c1 guest1 device1 device2 p.by t.run.view u.run.view u.run.shadow_view
                x.run.view end y.kept x.run.holds every (x.run.served.events ∙ p.serves.events)
                (room_same s plan q device device1 x.run.served.events x.run.served.room.0 p.serves.room) z;
            winds = (winding, live);
            paced = record {
              guest_heard = y.paced.guest_heard;
              guest_low = y.paced.guest_low;
              device_low = omega (arith, y.paced.device_low, z.noted.counts.0, z.noted.counts.1, no_attach);
              times = omega (arith, y.paced.times, no_attach);
            };
            heard = record {
              relays = h.relays;
              before = h.before;
              heard = omega (arith, h.heard, z.noted.counts.1, ap (λ (y : Counts). y.heard) counts);
              low = h.low;
              counted = omega (arith, h.counted, ap (λ (y : Counts). y.accesses) counts);
              handled = omega (arith, h.handled, far, ap (λ (y : Counts). y.handled) counts);
              pace = omega (
                arith,
                h.pace,
                ap (λ (y : Counts). y.accesses) counts,
                ap (λ (y : Counts). y.handled) counts,
                ap (λ (y : Counts). y.heard) counts,
              );
            };
            rounds = elim y.rounds [
              | inl le ↦ omega (arith, le, z.noted.counts.0)
              | inr half ↦ omega (arith, half.0, z.noted.counts.0)
            ];
          },
          total,
        )
