-- A shadow epoch's last round: its relay rests, and hands back the end of the guest's ring.
use Rattle.std.proofs.Common.{◌≡◌, inl, inr, ℕ, ◌+◌, ◌-◌, ◌*◌, ◌≤◌, Bool, true, false, if◌then◌else◌, List, length, take, sym, ◌∙◌, ap, arith}
use Rattle.std.proofs.lemmas.Bool.{cases_lt, false≢true}
use Rattle.std.proofs.lemmas.List.{length-map, take_all}
use Rattle.vd_model.specs.declared.chain.Piece.{Piece}
use Rattle.vd_model.specs.declared.record.Begun.{Begun}
use Rattle.vd_words.specs.Plain.{RingWords}
use Rattle.vd_ring.specs.declared.driver.DriverView.{DriverView}
use Rattle.vd_ring.specs.declared.device.DeviceView.{DeviceView}
use Rattle.vd_ring.specs.declared.frame.Frame.{Frame}
use Rattle.vd_ring.specs.History.{offers, takes, gives}
use Rattle.vd_ring.proofs.HeldPlaces.{few_open}
use Rattle.vd_bus.specs.Device.{chains_of}
use Rattle.vd_relay.specs.declared.counts.Counts.{Counts}
use Rattle.vd_relay.specs.declared.stage.Stage.{Stage}
use Rattle.vd_relay.specs.declared.stage.Stage.TheVariants as stage
use Rattle.vd_relay.specs.declared.state.State.{State}
use Rattle.vd_relay.specs.Stages.{is_rested}
use Rattle.vd_relay.specs.Tie.{Start}
use Rattle.vd_switch.specs.ShadowingLanes.{lane_begun}
use Rattle.vd_switch.proofs.ShadowingLanes.{leaves, begun_count}
use Rattle.vd_machine.specs.File.{Plan}
use Rattle.vd_play.specs.Before.{begun_at, chains_before, chains_within}
use Rattle.vd_play.specs.Epochs.{Epoch}
use Rattle.vd_play.specs.Journal.{queue_chains, queue_epochs}
use Rattle.vd_play.specs.Progress.{steps, IsWinding, IsStopped, HasRelayHeard}
use Rattle.vd_play.specs.Rings.{shadows_before}
use Rattle.vd_play.specs.Setting.{Setting, IsLawful}
use Rattle.vd_turns.specs.RelayTurns.{RelayTurn, reached}
use Rattle.vd_turns.specs.Turns.{GuestTurn}
use Rattle.vd_play.proofs.Bounds.{bounded}
use Rattle.vd_play.proofs.Moves.{within_end}
use Rattle.vd_play.proofs.Rings.{shadows_before_shadow}
use Rattle.vd_play.proofs.ShadowCut.{given_shadowing, shadow_within}
use Rattle.vd_play.proofs.ShadowPace.{bounds_of}
use Rattle.vd_play.proofs.ShadowRounds.{turned, winding_works}

pub taken_first : (b : Bool) (x y : ℕ) → b ≡ true → (if b then x else y) ≡ x
taken_first true x y is = Rattle.std.proofs.Common.refl
taken_first false x y is = absurd (false≢true is)

rested_is : (st : Stage) → is_rested st ≡ true → st ≡ stage.Rested
rested_is stage.Rested is = Rattle.std.proofs.Common.refl
rested_is stage.Taking is = absurd (cc is)
rested_is (stage.Offering k p) is = absurd (cc is)
rested_is (stage.Collecting n) is = absurd (cc is)
rested_is stage.Giving is = absurd (cc is)
rested_is stage.ArmingGuest is = absurd (cc is)
rested_is stage.ArmingShadow is = absurd (cc is)
rested_is stage.HearingGuest is = absurd (cc is)
rested_is stage.HearingShadow is = absurd (cc is)
rested_is stage.DisarmingGuest is = absurd (cc is)
rested_is stage.DisarmingShadow is = absurd (cc is)
rested_is stage.Resting is = absurd (cc is)

module _ {D E G X C : Type 0} (s : Setting D E G X C) (law : IsLawful s) (plan : Plan) (q k n a b : ℕ) (few_a : a ≤ 4) (few_b : b ≤ 4) where
  -- the round after which the relay rests
  pub stops : (words words1 words2 : RingWords) (shadow_words shadow_words1 : List ℕ) (r r1 : State E D) (c c1 : Counts) (relayed : ℕ)
      (guest guest1 : G) (device : X) (p : IsWinding s plan q k n words shadow_words r c relayed guest device)
      → words1.ring ≡ words.ring → words2.ring ≡ words1.ring
      → (t : GuestTurn s.layout s.guest words1.words p.view p.device_view guest guest1 a)
      → (u : RelayTurn s.layout s.device s.driver p.kept.start p.kept.old (s.party.begun device) p.by words2.words shadow_words1
      t.run.view p.device_view p.shadow_view p.shadow_device_view r r1 c c1 b) → is_rested r1.stage ≡ true
      → IsStopped s plan q (k + 1) (n + 1) words2 r1.guest (relayed + b) guest1 device
      × (steps s (relayed + b) guest1 device ≡ steps s relayed guest device + (a + b))
  stops words words1 words2 shadow_words shadow_words1 r r1 c c1 relayed guest guest1 device p same1 same2 t u rests =
      let x = turned s law plan q k n a b few_a few_b words words1 words2 shadow_words shadow_words1 r r1 c c1 relayed guest guest1 device
      (winding_works s plan q k n words shadow_words r c relayed guest device p) same1 same2 t u in
      let v : DriverView = t.run.view in
      let w : DeviceView = u.run.view in
      let sv : DriverView = u.run.shadow_view in
      let sw : DeviceView = p.shadow_device_view in
      let begun : List Begun = s.party.begun device in
      let z : Start = x.kept.start in
      let next : ℕ = begun_at plan q (k + 1) in
      let left = leaves s.device s.driver s.layout law.layout z x.kept.old r1 begun p.by words2.words shadow_words1 v w sv sw x.kept.lane
      (rested_is r1.stage rests) in
      let every : length begun ≡ next = p.served.begun in
      let bound = bounded (length (queue_chains plan q)) (queue_epochs plan q) k x.kept.driven.queue.chained x.kept.epoch in
      let low = bounds_of s law plan q k words2 shadow_words1 r1 c1 guest1 device p.by v w sv sw x.kept in
      let inner = law.layout.lists shadow_words1 sv sw x.kept.lane.shadow_ring in
      let outer = law.layout.lists words2.words v w x.kept.lane.ring in
      let count = begun_count s.device s.driver s.layout law.layout z x.kept.old r1 begun p.by words2.words shadow_words1 v w sv sw
      x.kept.lane in
      let given : length (gives w.done) ≡ next =
      omega (arith, left.0.even, count, x.kept.took_over.0, low.begun, low.at, every) in
      let taken : length (takes w.done) ≡ next =
      sym (ap length left.0.chains) ∙ length-map (lane_begun z x.kept.old begun p.by) (λ (y : List Piece × ℕ). y.0)
      ∙ omega (arith, count, x.kept.took_over.0, low.begun, low.at, every) in
      let n0 : ℕ = begun_at plan q k in
      let ep : Epoch = bound.epoch in
      let many : length begun - n0 ≡ ep.end - ep.first = omega (arith, every, bound.first, bound.end) in
      let chains : chains_of (take next begun) ≡ chains_before plan q (k + 1) =
      ap chains_of (take_all next begun (omega (arith, every)))
      ∙ shadow_within s law plan q k words2 shadow_words1 r1 c1 guest1 device p.by v w sv sw x.kept ep bound.is
      ∙ ap (chains_within plan q k ep) many ∙ within_end plan q k ep x.kept.driven.queue.chained bound.is in
      let h : HasRelayHeard s plan q k (relayed + b) r1 c1 device v w sv sw = x.heard in
      let more : shadows_before plan (k + 1) ≡ shadows_before plan k + 1 = shadows_before_shadow plan k x.kept.mode in
      let rings : plan.size * shadows_before plan (k + 1) ≡ plan.size * shadows_before plan k + plan.size =
      ap (λ j. plan.size * j) more ∙ omega arith in
      let rows : (2 * plan.size + 1) * shadows_before plan (k + 1) ≡ (2 * plan.size + 1) * shadows_before plan k + (2 * plan.size + 1) =
      ap (λ j. (2 * plan.size + 1) * j) more ∙ omega arith in
      let places = law.layout.places words2.words v w x.kept.lane.ring in
      let same_size : v.frame.size ≡ plan.size = ap (λ (f : Frame). f.size) x.kept.driven.part.framed in
      let offered : length (offers v.done) ≤ length (gives w.done) + plan.size =
      omega (arith, places.count, few_open v.frame v.done places, same_size, outer.fewer) in
      let far : reached r1 v w ≡ length (offers v.done) = taken_first (is_rested r1.stage) _ _ rests in
      let handled : c1.handled + 4 * n0 ≤ 4 * next + 2 * plan.size =
      omega (
        arith,
        h.handled,
        far,
        offered,
        given,
        low.shadow_offered,
        low.shadow_collected,
        low.shadow_given,
        low.begun,
        low.at,
        every,
        low.rises,
      ) in
      let some : 1 ≤ b = elim (cases_lt 0 b) [
        | inl some ↦ omega (arith, some)
        | inr none ↦ absurd (false≢true (sym (u.quiet (omega (arith, none))).2.live ∙ p.winds.0))
      ] in
      let total : steps s (relayed + b) guest1 device ≡ steps s relayed guest device + (a + b) = omega (arith, x.counted) in (
        record {
          view = v;
          device_view = w;
          kept = record {
            driven = x.kept.driven;
            account = record { before = chains; many = omega (arith, every); each = x.kept.account.each };
            given = given_shadowing s law plan q k words2 shadow_words1 r1 c1 guest1 device p.by v w sv sw x.kept;
            reserved = x.kept.reserved;
          };
          rests = record {
            stands = x.kept.lane.relays.serves;
            still = inl left.0.rests;
            free = p.served.free;
            taken = taken;
            begun = every;
            events = p.served.events;
            room = p.served.room;
          };
          paced = x.paced;
          heard = record {
            relays = h.relays + c1.heard;
            heard = omega (
              arith,
              h.heard,
              low.shadow_bells,
              low.device_bells,
              low.shadow_offered,
              low.shadow_collected,
              low.shadow_given,
              low.begun,
              low.at,
              every,
              low.rises,
              rings,
            );
            low = omega (arith, h.counted, h.low, h.pace, handled, rows, low.rises);
          };
          early = omega (arith, low.epoch);
          late = λ all. inr (omega (arith, p.rounds, some, total));
        },
        total,
      )
