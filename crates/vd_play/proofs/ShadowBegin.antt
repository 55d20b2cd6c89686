-- A lane that is still, and its device's attach to a shadow ring.
use Rattle.std.proofs.Common.{◌≡◌, ℕ, ◌+◌, ◌*◌, ◌-◌, ◌<◌, ◌≤◌, inl, Option, false, List, [], ◌∷◌, length, map, take, slice_index_or, refl, sym, ◌∙◌, ap, subst, arith}
use Rattle.std.specs.List.{All, zip}
use Rattle.std.proofs.lemmas.Bool.{le-ltb}
use Rattle.std.proofs.lemmas.List.{length-map, take_all, get_or-map}
use Rattle.std.proofs.lemmas.Option.{get_or_from_slice_get, slice_get_within}
use Rattle.vd_control.specs.declared.settings.Settings.{Settings}
use Rattle.vd_model.specs.declared.base.Mode.TheVariants.{Shadow}
use Rattle.vd_model.specs.declared.chain.Piece.{Piece}
use Rattle.vd_model.specs.declared.record.Begun.{Begun}
use Rattle.vd_words.specs.Plain.{RingWords}
use Rattle.vd_ring.specs.declared.driver.DriverView.{DriverView}
use Rattle.vd_ring.specs.declared.device.DeviceView.{DeviceView}
use Rattle.vd_ring.specs.declared.frame.Frame.{Frame}
use Rattle.vd_ring.specs.declared.frame.Used.{Used}
use Rattle.vd_ring.specs.Fresh.{fresh_driver, fresh_device}
use Rattle.vd_ring.specs.History.{takes, gives, used_at, entry}
use Rattle.vd_layout.specs.Layout.{IsMadeWith}
use Rattle.vd_bus.specs.declared.device.Attached.{Attached}
use Rattle.vd_bus.specs.declared.event.Event.TheVariants.{Attach}
use Rattle.vd_bus.specs.Device.{IsAttach, lens_of, control_settings}
use Rattle.vd_bus.specs.Orders.{mode_of}
use Rattle.vd_bus.specs.Pace.{attaches}
use Rattle.vd_relay.specs.declared.counts.Counts.{Counts}
use Rattle.vd_relay.specs.declared.state.State.{State}
use Rattle.vd_relay.specs.Pairing.{ArePaired}
use Rattle.vd_relay.specs.Moving.{Holds, start}
use Rattle.vd_relay.specs.Stages.{is_rested}
use Rattle.vd_relay.specs.Tie.{Start}
use Rattle.vd_switch.specs.Account.{IsBegunBefore}
use Rattle.vd_switch.specs.ShadowingLanes as switch
use Rattle.vd_switch.specs.Stills.{Shadows, IsNew}
use Rattle.vd_switch.proofs.Wound as switched
use Rattle.vd_machine.specs.File.{Plan}
use Rattle.vd_turns.specs.RelayTurns.{reached}
use Rattle.vd_play.specs.declared.floor.ShadowRing.{ShadowRing}
use Rattle.vd_play.specs.Before.{begun_at, events_before, resets}
use Rattle.vd_play.specs.Commands.{settings_at}
use Rattle.vd_play.specs.Epochs.{mode_at}
use Rattle.vd_play.specs.Journal.{queue_chains, queue_epochs, guest_frame, shadow_frame, pass_map, shadow_map, tree_map}
use Rattle.vd_play.specs.Kits.{IsShadowRing}
use Rattle.vd_play.specs.Lane.{HasGiven, IsKept, IsQueue}
use Rattle.vd_play.specs.Orders.{shadow_order, shadow_attach}
use Rattle.vd_play.specs.Progress.{IsStopped, IsShadowing}
use Rattle.vd_play.specs.Setting.{Setting, IsLawful}
use Rattle.vd_play.proofs.Begin.{fits, paced_attached}
use Rattle.vd_play.proofs.Bounds.{bounded}
use Rattle.vd_play.proofs.Keep.{kept_still}
use Rattle.vd_play.proofs.Pace.{attaches_more}
use Rattle.vd_play.proofs.Renewals.{Renews, events_attached, room_renewed}
use Rattle.vd_play.proofs.Rooms.{room_noted}

-- ---- chains with their lengths

zip_chains : (cs : List (List Piece)) (ns : List ℕ) → length cs ≡ length ns → map (λ (x : List Piece × ℕ). x.0) (zip cs ns) ≡ cs
zip_chains [] ns h = refl
zip_chains (c ∷ cs) [] h = absurd (omega arith)
zip_chains (c ∷ cs) (n ∷ ns) h = ap (λ xs. c ∷ xs) (zip_chains cs ns (omega (arith, h)))

zip_lens : (cs : List (List Piece)) (ns : List ℕ) → length cs ≡ length ns → map (λ (x : List Piece × ℕ). x.1) (zip cs ns) ≡ ns
zip_lens [] [] h = refl
zip_lens [] (n ∷ ns) h = absurd (omega arith)
zip_lens (c ∷ cs) [] h = absurd (omega arith)
zip_lens (c ∷ cs) (n ∷ ns) h = ap (λ xs. n ∷ xs) (zip_lens cs ns (omega (arith, h)))

-- what was given has the lengths that stand beside the chains taken
begun_before : (cs : List (List Piece)) (ns : List ℕ) (us : List Used) → length cs ≡ length ns → All (HasGiven ns) us
    → IsBegunBefore (zip cs ns) cs us
begun_before cs ns us even given =
    let all : List (List Piece × ℕ) = zip cs ns in
    let second : List Piece × ℕ → ℕ = λ x. x.1 in
    let many : length all ≡ length ns = sym (length-map all second) ∙ ap length (zip_lens cs ns even) in
    let low : (j : ℕ) → j < length us → (used_at us j).number < length all =
    λ j below. omega (arith, many, slice_get_within ns (used_at us j).number (used_at us j).len (given j (entry 0 0) below)) in
    record {
      chains = zip_chains cs ns even;
      inside = low;
      lens = λ j d below. let u : Used = used_at us j in
          sym (get_or-map second all u.number d 0 (low j below))
          ∙ ap (λ ks. slice_index_or ks u.number 0) (zip_lens cs ns even)
          ∙ get_or_from_slice_get ns u.number u.len 0 (given j (entry 0 0) below);
    }

shadow_mode : (number : ℕ) → 16 ≤ number → mode_of number ≡ Shadow
shadow_mode number high = rw (le-ltb number 16 high) refl

reached_live : {E D : Type 0} (r : State E D) (v : DriverView) (w : DeviceView) → is_rested r.stage ≡ false
    → reached r v w ≡ length (takes w.done)
reached_live r v w live = rw live refl

-- ---- the attach

module _ {L D E G X C : Type 0} (s : Setting D E G X C) (law : IsLawful s) (plan : Plan) (q k to : ℕ) (words : RingWords) (end : E)
    (relayed : ℕ) (guest : G) (device device1 device' : X) (ring : ShadowRing L D E) (r : State E D) (c : Counts)
    (control : Option X) (set : control_settings s.party.settings control ≡ settings_at plan k) (is : to ≡ begun_at plan q (k + 1))
    (more : k < length (queue_epochs plan q)) (mode : mode_at plan k ≡ Shadow)
    (p : IsStopped s plan q k 0 words end relayed guest device) (n : Renews s.party (resets plan q k) device device1)
    (kit : IsShadowRing s.driver s.device s.layout plan q k ring)
    (shadows : Shadows s.device s.driver end ring.kit.driver ring.kit.table.origins r c) (fresh : IsNew r c)
    (a : IsAttach s.device s.party (shadow_order s.layout plan k q (to - length (s.party.begun device1))) control ring.kit.device device1
    device')
  where
    abbrev number : ℕ
    number = 16 * (k + 1) + q

    abbrev frame : Frame
    frame = shadow_frame s.layout plan number

    abbrev v : DriverView
    v = p.view

    abbrev w : DeviceView
    w = p.device_view

    abbrev sv : DriverView
    sv = fresh_driver frame (s.layout.width frame)

    abbrev sw : DeviceView
    sw = fresh_device frame (s.layout.width frame)

    abbrev by : Attached
    by = record { queue = q; count = to - length (s.party.begun device1); at = length (s.party.begun device1); from = a.from }

    abbrev z : Start
    z = start (tree_map plan) w

    abbrev old : List (List Piece × ℕ)
    old = zip (takes w.done) (lens_of (s.party.begun device))

    queue : IsQueue s.layout plan q
    queue = p.kept.driven.queue

    made : IsMadeWith s.layout plan.size plan.features false frame
    made = record { packed = refl; size = refl; features = refl; control = refl }

    framed : w.frame ≡ guest_frame s.layout plan q
    framed = (law.layout.wide words.words v w p.kept.driven.ring).1 ∙ p.kept.driven.part.framed

    own_pair : ArePaired (tree_map plan) (guest_frame s.layout plan q) sv.frame
    own_pair = record {
      bounds = pass_map plan;
      bounded = refl;
      covers = queue.tree.covers;
      free = refl;
      size = refl;
      features = refl;
      guest_plain = refl;
      shadow_plain = refl;
      guest = omega (arith, queue.low);
      shadow = omega arith;
    }

    paired : ArePaired (tree_map plan) w.frame sv.frame
    paired = subst (λ (f : Frame). ArePaired (tree_map plan) f sv.frame) (sym framed) own_pair

    holds : Holds s.device s.driver z r c w sv
    holds = shadows (tree_map plan) w sv p.rests.stands (kit.kit.ends.drives frame made) paired refl

    shadow_ring : s.layout.ring ring.words.words sv sw
    shadow_ring = subst (λ (ws : List ℕ). s.layout.ring ws sv sw) (sym kit.words)
        (law.layout.opens plan.size plan.features false frame queue.made made)

    from_none : a.from ≡ 0
    from_none = a.taken sw (kit.kit.ends.serves frame made)

    many : length (s.party.begun device) ≡ begun_at plan q k
    many = p.rests.begun

    many_still : length (s.party.begun device1) ≡ begun_at plan q k
    many_still = ap length n.begun ∙ many

    -- all that was taken was given
    even : length (takes w.done) ≡ length (gives w.done)
    even = (law.layout.device_end.whole end w p.rests.stands p.rests.still).1

    lens_many : length (lens_of (s.party.begun device)) ≡ begun_at plan q k
    lens_many = length-map (s.party.begun device) (λ (b : Begun). b.len) ∙ many

    as_many : length (takes w.done) ≡ length (lens_of (s.party.begun device))
    as_many = p.rests.taken ∙ sym lens_many

    kept : IsKept s plan q k words guest device' v w
    kept = kept_still s law plan q k words guest device device' v w (a.noted.begun ∙ n.begun) (a.noted.window ∙ n.window)
        (omega (arith, n.chain_room, a.noted.room.1)) p.kept

    lane : switch.IsShadowing s.device s.driver s.layout z old r (s.party.begun device') by words.words ring.words.words v w sv sw
    lane = switched.starts s.device s.driver s.layout law.layout z old r (s.party.begun device') by words.words ring.words.words v w sv sw
        p.kept.driven.ring shadow_ring holds.stands fresh.winding (sym (ap (λ (bs : List Begun). length bs) a.noted.begun)) from_none refl
        (begun_before (takes w.done) (lens_of (s.party.begun device)) (gives w.done) as_many p.kept.given) queue.tree.undone

    lens : map (λ (x : List Piece × ℕ). x.1) old ≡ take (begun_at plan q k) (lens_of (s.party.begun device'))
    lens = zip_lens (takes w.done) (lens_of (s.party.begun device)) as_many
        ∙ sym (take_all (begun_at plan q k) (lens_of (s.party.begun device)) (omega (arith, lens_many)))
        ∙ ap (λ (bs : List Begun). take (begun_at plan q k) (lens_of bs)) (sym (a.noted.begun ∙ n.begun))

    to_end : by.at + by.count ≡ begun_at plan q (k + 1)
    to_end = omega (
      arith,
      many_still,
      is,
      (bounded (length (queue_chains plan q)) (queue_epochs plan q) k queue.chained more).rises,
    )

    abbrev own : Settings
    own = control_settings s.party.settings control

    last : Attach (length (s.party.begun device1)) number (record { 0 = s.layout.fresh_base }) (mode_of number) own (shadow_map plan)
        ≡ shadow_attach s.layout plan q k (begun_at plan q k)
    last = ap (λ j. Attach j number (record { 0 = s.layout.fresh_base }) (mode_of number) own (shadow_map plan)) many_still
        ∙ ap (λ m. Attach (begun_at plan q k) number (record { 0 = s.layout.fresh_base }) m own (shadow_map plan))
        (shadow_mode number (omega arith))
        ∙ ap (λ z. Attach (begun_at plan q k) number (record { 0 = s.layout.fresh_base }) Shadow z (shadow_map plan)) set

    counted : attaches (s.party.events device') ≡ attaches (s.party.events device) + 1
    counted = ap attaches a.noted.events ∙ attaches_more (s.party.events device1) _ ∙ ap (λ j. j + 1) n.attaches_same

    other : q ≡ 15 → ⊥
    other h = omega (arith, h, queue.low)

    pub shadow_starts : IsShadowing s plan q k 0 words ring.words.words r c relayed guest device'
    shadow_starts = record {
      by = by;
      view = v;
      device_view = w;
      shadow_view = sv;
      shadow_device_view = sw;
      kept = record {
        epoch = more;
        mode = mode;
        driven = kept.driven;
        account = kept.account;
        reserved = kept.reserved;
        framed = refl;
        start = z;
        old = old;
        lane = lane;
        holds = holds;
        moves = refl;
        took_over = (sym even ∙ p.rests.taken, p.rests.taken, many_still);
        lens = lens;
        to = to_end;
      };
      serves = record {
        holds = a.holds sw (kit.kit.ends.serves frame made)
            (fits (shadow_order s.layout plan k q (to - length (s.party.begun device1))) frame frame refl refl other);
        attached = a.attached;
        for_data = other;
        events = events_attached (s.party.events device) (s.party.events device1) (s.party.events device')
            (events_before s.device s.layout plan q k) (resets plan q k) _ _ p.rests.events n.events a.noted.events last;
        room = room_noted s plan q device1 device' _ a.noted.events a.noted.room.0
            (room_renewed s plan q (resets plan q k) device device1 n p.rests.room);
        live = a.live;
      };
      awake = (fresh.winding, fresh.live);
      paced = paced_attached s plan q k guest device device' v p.paced
          (a.noted.counts.0 ∙ n.counts.0, a.noted.counts.1 ∙ n.counts.1) counted;
      heard = record {
        relays = p.heard.relays;
        before = relayed;
        heard = omega (arith, p.heard.heard, a.noted.counts.1, n.counts.1, ap (λ (x : Counts). x.heard) fresh.counts);
        low = p.heard.low;
        counted = omega (arith, ap (λ (x : Counts). x.accesses) fresh.counts);
        handled = omega (
          arith,
          ap
              (λ (x : Counts). x.handled) fresh.counts,
          reached_live r v w fresh.live,
          p.rests.taken,
          even,
        );
        pace = omega (arith, ap (λ (x : Counts). x.accesses) fresh.counts);
      };
      rounds = inl (omega arith);
    }
