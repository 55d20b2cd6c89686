-- A round of a lane that is still, or passing.
use Rattle.std.proofs.Common.{◌≡◌, ◌⊎◌, inl, inr, ℕ, ◌+◌, ◌-◌, ◌*◌, ◌≤◌, List, [], ◌∷◌, ◌++◌, length, take, drop, sym, ◌∙◌, ap, subst, arith}
use Rattle.std.proofs.lemmas.Bool.{cases_lt}
use Rattle.std.proofs.lemmas.List.{drop-take, drop-map, take-map, take-append-drop}
use Rattle.vd_model.specs.declared.base.Mode.TheVariants.{Pass}
use Rattle.vd_model.specs.declared.chain.Piece.{Piece}
use Rattle.vd_model.specs.declared.record.Begun.{Begun}
use Rattle.vd_words.specs.Plain.{RingWords}
use Rattle.vd_ring.specs.declared.driver.DriverView.{DriverView}
use Rattle.vd_ring.specs.declared.device.DeviceView.{DeviceView}
use Rattle.vd_ring.specs.History.{takes}
use Rattle.vd_ring.specs.Sleep.{DriverWaits, device_owed}
use Rattle.vd_bus.specs.declared.event.Event.TheVariants.{Suspend}
use Rattle.vd_bus.specs.Device.{IsServing, IsSuspend, chains_of}
use Rattle.vd_bus.specs.Pace.{attaches}
use Rattle.vd_machine.specs.File.{Plan}
use Rattle.vd_play.specs.Before.{events_before, chains_before, begun_at, resets}
use Rattle.vd_play.specs.Epochs.{mode_at}
use Rattle.vd_play.specs.Journal.{queue_chains, queue_epochs, own_chains, epoch_chains, epoch_events, attach_event, suspend_event}
use Rattle.vd_play.specs.Lane.{IsKept, Account}
use Rattle.vd_play.specs.Progress.{IsPaced, HasHeard, IsStopped, IsPassing, steps}
use Rattle.vd_play.specs.Rings.{shadows_before}
use Rattle.vd_play.specs.Setting.{Setting, IsLawful}
use Rattle.vd_turns.specs.Turns.{GuestTurn, DeviceTurn}
use Rattle.vd_play.proofs.Bounds.{Bounded, bounded, flat_more}
use Rattle.vd_play.proofs.Keep.{kept_guest, kept_device, kept_still, begun_of, taken_of, base_of}
use Rattle.vd_play.proofs.Moves.{before_more}
use Rattle.vd_play.proofs.Pace.{guest_paced, device_paced, device_bells, hears_low, attaches_more}
use Rattle.vd_play.proofs.Passed.{two_events, pass_events, pass_chains}
use Rattle.vd_play.proofs.Quiet.{offers_le, no_quiet, all_back}
use Rattle.vd_play.proofs.Rings.{shadows_before_pass}
use Rattle.vd_play.proofs.Rooms.{room_noted, room_same}

-- the chains of an epoch stand behind those of the epochs before it
pub chains_two : (begun : List Begun) (first end : ℕ) (old new : List (List Piece)) → length begun ≡ end
    → chains_of (take first begun) ≡ old → chains_of (drop first begun) ≡ new → chains_of (take end begun) ≡ old ++ new
chains_two begun first end old new many before after =
    let all : take end begun ≡ begun = Rattle.std.proofs.lemmas.List.take_all end begun (omega (arith, many)) in
    let cs : List (List Piece) = chains_of begun in
    let front : take first cs ≡ old = take-map (λ (b : Begun). b.chain) first begun ∙ before in
    let back : drop first cs ≡ new = drop-map (λ (b : Begun). b.chain) first begun ∙ after in
    ap chains_of all ∙ sym (take-append-drop first cs) ∙ ap (λ xs. xs ++ drop first cs) front ∙ ap (λ xs. old ++ xs) back

-- an epoch of the mode pass more, in which no shadow ring was made
pub heard_next : {D E G X C : Type 0} (s : Setting D E G X C) (plan : Plan) (q k relayed : ℕ) (device device' : X) (w : DeviceView)
    → mode_at plan k ≡ Pass → begun_at plan q k ≤ begun_at plan q (k + 1) → s.party.heard device' ≡ s.party.heard device
    → HasHeard s plan q k relayed device w → HasHeard s plan q (k + 1) relayed device' w
heard_next s plan q k relayed device device' w mode rises same h =
    let few : shadows_before plan (k + 1) ≡ shadows_before plan k = shadows_before_pass plan k mode in
    record {
      relays = h.relays;
      heard = omega (arith, h.heard, same, rises, ap (λ n. plan.size * n) few);
      low = omega (arith, h.low, rises, ap (λ n. (2 * plan.size + 1) * n) few);
    }

module _ {D E G X C : Type 0} (s : Setting D E G X C) (law : IsLawful s) (plan : Plan) (q k r a b : ℕ) (few_a : a ≤ 4) (few_b : b ≤ 4) where
  epoch_of : (words : RingWords) (relayed : ℕ) (guest : G) (device : X) → (p : IsPassing s plan q k r words relayed guest device)
      → Bounded (length (queue_chains plan q)) (queue_epochs plan q) k
  epoch_of words relayed guest device p = bounded (length (queue_chains plan q)) (queue_epochs plan q) k p.kept.driven.queue.chained
      p.serves.epoch

  -- after the turns of both
  record BothTurns (words2 : RingWords) (relayed : ℕ) (guest guest1 : G) (device device2 : X) (v : DriverView) (w : DeviceView)
      : Type 0 where
    kept : IsKept s plan q k words2 guest1 device2 v w
    paced : IsPaced s (length (queue_chains plan q)) (k + 1) guest1 device2 v
    heard : HasHeard s plan q k relayed device2 w
    some : 1 ≤ a + b
    counted : steps s relayed guest1 device2 ≡ steps s relayed guest device + (a + b)

  both : (words words1 words2 : RingWords) (relayed : ℕ) (guest guest1 : G) (device device2 : X)
      (p : IsPassing s plan q k r words relayed guest device)
      → words1.ring ≡ words.ring → words2.ring ≡ words1.ring
      → (t : GuestTurn s.layout s.guest words1.words p.view p.device_view guest guest1 a)
      → (u : DeviceTurn s.layout s.party words2.words t.run.view p.device_view device device2 b)
      → BothTurns words2 relayed guest guest1 device device2 t.run.view u.run.view
  both words words1 words2 relayed guest guest1 device device2 p same1 same2 t u =
      let n : ℕ = length (queue_chains plan q) in
      let m = p.serves in
      let d = p.kept.driven.queue in
      let from = m.from.1 ∙ sym m.from.0 in
      let bound = epoch_of words relayed guest device p in
      let low : m.by.at + m.by.count ≤ n = omega (arith, m.to, bound.low) in
      let first = kept_guest s law plan q k a words words1 guest guest1 device p.view p.device_view same1 p.kept t.run in
      let second = kept_device s law plan q k b words1 words2 guest1 device device2 t.run.view p.device_view m.by same2 m.holds m.attached
      m.for_data from first u.run in
      let by_guest = guest_paced s law plan q a words1 guest guest1 p.view p.device_view p.paced.guest_heard p.paced.guest_low t.run
      first.driven few_a in
      let offered = offers_le s law plan q words1 guest1 t.run.view p.device_view first.driven in
      let early : k ≤ 18 = omega (arith, m.epoch, d.epochs) in
      let hears = hears_low s.layout plan q k (s.party.heard device) p.heard.relays t.run.view p.device_view d early
      (omega (arith, m.epoch)) (device_bells s law plan q words1.words t.run.view p.device_view t.run.ring) offered p.heard.heard in
      let by_device = device_paced s law plan q n b words2.words device device2 t.run.view p.device_view m.by
      p.paced.device_low u.run few_b m.attached m.for_data low d.few (omega (arith, offered, d.few)) hears
      (omega (arith, p.paced.times, early)) in
      let attached = u.run.served.attached ∙ m.attached in
      record {
        kept = second;
        paced = record {
          guest_heard = by_guest.heard;
          guest_low = by_guest.low;
          device_low = by_device.low;
          times = omega (arith, p.paced.times, ap attaches u.run.served.events);
        };
        heard = record { relays = p.heard.relays; heard = omega (arith, p.heard.heard, u.run.heard); low = p.heard.low };
        some = elim (cases_lt 0 (a + b)) [
          | inl some ↦ omega arith
          | inr none ↦ (
              let still = t.quiet (omega arith) in
              let sleeps = u.quiet (omega arith) in
              let guest_still : s.guest.is_done guest1 ⊎ DriverWaits t.run.view u.run.view =
              subst (λ (z : DeviceView). s.guest.is_done guest1 ⊎ DriverWaits t.run.view z) (sym sleeps.0) still.1 in
              absurd (no_quiet s law plan q words2 guest1 device2 t.run.view u.run.view m.by second.driven u.run.holds attached m.for_data
              from low guest_still sleeps.1)
              )
        ];
        counted = omega (arith, by_guest.counted, by_device.counted);
      }

  -- the round after which the device isn't done
  pub goes_on : (words words1 words2 : RingWords) (relayed : ℕ) (guest guest1 : G) (device device2 : X)
      (p : IsPassing s plan q k r words relayed guest device) → words1.ring ≡ words.ring → words2.ring ≡ words1.ring
      → (t : GuestTurn s.layout s.guest words1.words p.view p.device_view guest guest1 a)
      → (u : DeviceTurn s.layout s.party words2.words t.run.view p.device_view device device2 b) → (s.party.is_done device2 → ⊥)
      → IsPassing s plan q k (r + 1) words2 relayed guest1 device2
      × (steps s relayed guest1 device2 ≡ steps s relayed guest device + (a + b))
  goes_on words words1 words2 relayed guest guest1 device device2 p same1 same2 t u live =
      let x = both words words1 words2 relayed guest guest1 device device2 p same1 same2 t u in
      let m = p.serves in (
        record {
          view = t.run.view;
          device_view = u.run.view;
          kept = x.kept;
          serves = record {
            epoch = m.epoch;
            mode = m.mode;
            holds = u.run.holds;
            by = m.by;
            attached = u.run.served.attached ∙ m.attached;
            for_data = m.for_data;
            from = m.from;
            to = m.to;
            events = u.run.served.events ∙ m.events;
            room = room_same s plan q device device2 u.run.served.events u.run.served.room.0 m.room;
            live = live;
          };
          paced = x.paced;
          heard = x.heard;
          rounds = omega (arith, p.rounds, x.some, x.counted);
        },
        x.counted,
      )

  -- the account of the epoch that has ended: its chains are the queue's own
  ended : (words : RingWords) (relayed : ℕ) (guest : G) (device : X) (p : IsPassing s plan q k r words relayed guest device)
      (words2 : RingWords) (guest1 : G) (device2 : X) (v : DriverView) (w : DeviceView) → IsKept s plan q k words2 guest1 device2 v w
      → IsServing (s.party.begun device2) p.serves.by w.done → length (s.party.begun device2) ≡ begun_at plan q (k + 1)
      → length (takes w.done) ≡ begun_at plan q (k + 1) → Account plan q (k + 1) (s.party.begun device2)
  ended words relayed guest device p words2 guest1 device2 v w kept serves many taken =
      let m = p.serves in
      let bound = epoch_of words relayed guest device p in
      let ep = bound.epoch in
      let cs : List (List Piece) = queue_chains plan q in
      let bs : List Begun = s.party.begun device2 in
      let f : ℕ = begun_at plan q k in
      let e : ℕ = begun_at plan q (k + 1) in
      let mode : ep.mode ≡ Pass = (p.kept.driven.queue.numbered.at k ep bound.is).1 ∙ m.mode in
      let sum : f + (e - f) ≡ e = omega (arith, bound.rises) in
      let own : own_chains plan q ep ≡ take (e - f) (drop f cs) = ap (λ j. take (ep.end - j) (drop j cs)) bound.first
      ∙ ap (λ j. take (j - f) (drop f cs)) bound.end in
      let here : drop f (takes w.done) ≡ epoch_chains plan q ep =
      ap (drop f) (taken_of s law plan q words2 guest1 v w e kept.driven taken) ∙ ap (λ j. drop f (take j cs)) (sym sum)
      ∙ drop-take f (e - f) cs ∙ sym own ∙ sym (pass_chains plan q ep mode) in
      let since : chains_of (drop f bs) ≡ epoch_chains plan q ep =
      ap (λ j. chains_of (drop j bs)) (sym m.from.0) ∙ serves.chains ∙ ap (λ j. drop j (takes w.done)) m.from.1 ∙ here in
      record {
        before = chains_two bs f e (chains_before plan q k) (epoch_chains plan q ep) many kept.account.before since
            ∙ sym (before_more plan q k ep bound.is);
        many = omega (arith, many);
        each = kept.account.each;
      }

  -- the round after which it is done, and suspended
  pub stops : (words words1 words2 : RingWords) (relayed : ℕ) (guest guest1 : G) (device device2 device3 : X) (end : E)
      (p : IsPassing s plan q k r words relayed guest device) → words1.ring ≡ words.ring → words2.ring ≡ words1.ring
      → (t : GuestTurn s.layout s.guest words1.words p.view p.device_view guest guest1 a)
      → (u : DeviceTurn s.layout s.party words2.words t.run.view p.device_view device device2 b) → s.party.is_done device2
      → IsSuspend s.device s.party device2 device3 end
      → IsStopped s plan q (k + 1) (r + 1) words2 end relayed guest1 device3
      × (steps s relayed guest1 device3 ≡ steps s relayed guest device + (a + b))
  stops words words1 words2 relayed guest guest1 device device2 device3 end p same1 same2 t u done z =
      let x = both words words1 words2 relayed guest guest1 device device2 p same1 same2 t u in
      let m = p.serves in
      let bound = epoch_of words relayed guest device p in
      let from = m.from.1 ∙ sym m.from.0 in
      let attached = u.run.served.attached ∙ m.attached in
      let serves = law.party.serves device2 u.run.view m.by u.run.holds attached m.for_data in
      let all : length (s.party.begun device2) ≡ m.by.at + m.by.count =
      (law.party.done device2 u.run.view m.by u.run.holds attached done).all in
      let many : length (s.party.begun device2) ≡ begun_at plan q (k + 1) = all ∙ m.to in
      let taken : length (takes u.run.view.done) ≡ begun_at plan q (k + 1) =
      sym (begun_of s law plan q (s.party.begun device2) m.by u.run.view from serves) ∙ many in
      let stands : s.device.stands end u.run.view = z.stands u.run.view u.run.holds in
      let base = base_of s law plan q words2 end guest1 t.run.view u.run.view (begun_at plan q (k + 1)) x.kept.driven stands
      (inl z.rests) taken in
      let last : Suspend (length (s.party.begun device2)) (record { 0 = s.device.base end }) ≡ suspend_event s.device s.layout plan q
      (begun_at plan q (k + 1)) = ap (λ j. Suspend j (record { 0 = s.device.base end })) many
      ∙ ap (λ y. Suspend (begun_at plan q (k + 1)) y) base in
      let mode = p.kept.driven.queue.numbered.at k bound.epoch bound.is in
      let whole : epoch_events s.device s.layout plan q bound.epoch ≡ resets plan q k
      ++ attach_event s.device s.layout plan q k (begun_at plan q k)
      ∷ suspend_event s.device s.layout plan q (begun_at plan q (k + 1)) ∷ [] =
      pass_events s.device s.layout plan q k bound.epoch mode.2 bound.first (mode.1 ∙ m.mode) mode.0 bound.end in
      let events = two_events (s.party.events device2) (s.party.events device3) (events_before s.device s.layout plan q k)
      (resets plan q k) _ _ _ (u.run.served.events ∙ m.events) z.noted.events last in
      let counted : attaches (s.party.events device3) ≡ attaches (s.party.events device2) =
      ap attaches z.noted.events ∙ attaches_more (s.party.events device2) _
      ∙ (let e : attaches (s.party.events device2) + 0 ≡ attaches (s.party.events device2) = omega arith in e) in
      let total : steps s relayed guest1 device3 ≡ steps s relayed guest device + (a + b) =
      omega (arith, x.counted, z.noted.counts.0) in
      let old : IsKept s plan q k words2 guest1 device3 t.run.view u.run.view =
      kept_still s law plan q k words2 guest1 device2 device3 t.run.view u.run.view z.noted.begun z.noted.window z.noted.room.1 x.kept in
      let account : Account plan q (k + 1) (s.party.begun device2) =
      ended words relayed guest device p words2 guest1 device2 t.run.view u.run.view x.kept serves many taken in (
        record {
          view = t.run.view;
          device_view = u.run.view;
          kept = record {
            driven = old.driven;
            account = subst (λ (bs : List Begun). Account plan q (k + 1) bs) (sym z.noted.begun) account;
            given = old.given;
            reserved = old.reserved;
          };
          rests = record {
            stands = stands;
            still = inl z.rests;
            free = z.attached;
            taken = taken;
            begun = ap length z.noted.begun ∙ many;
            events = events ∙ ap (λ zs. events_before s.device s.layout plan q k ++ zs) (sym whole)
                ∙ sym (flat_more (epoch_events s.device s.layout plan q) (queue_epochs plan q) k bound.epoch bound.is);
            room = room_noted s plan q device2 device3 _ z.noted.events z.noted.room.0
                (room_same s plan q device device2 u.run.served.events u.run.served.room.0 m.room);
          };
          paced = record {
            guest_heard = x.paced.guest_heard;
            guest_low = x.paced.guest_low;
            device_low = omega (arith, x.paced.device_low, z.noted.counts.0, z.noted.counts.1, counted);
            times = omega (arith, x.paced.times, counted);
          };
          heard = heard_next s plan q k relayed device2 device3 u.run.view m.mode bound.rises z.noted.counts.1 x.heard;
          early = omega (arith, m.epoch, p.kept.driven.queue.epochs);
          late = λ every. inr (omega (arith, p.rounds, x.some, total));
        },
        total,
      )

-- a guest's turn on a lane that is still
pub waits : {D E G X C : Type 0} (s : Setting D E G X C) (law : IsLawful s) (plan : Plan) (q k r a : ℕ) → a ≤ 4
    → (words words1 : RingWords) (end : E) (relayed : ℕ) (guest guest1 : G) (device : X)
    (p : IsStopped s plan q k r words end relayed guest device) → words1.ring ≡ words.ring
    → GuestTurn s.layout s.guest words1.words p.view p.device_view guest guest1 a
    → IsStopped s plan q k (r + 1) words1 end relayed guest1 device
    × (steps s relayed guest1 device ≡ steps s relayed guest device + a)
waits s law plan q k r a few words words1 end relayed guest guest1 device p same t =
    let kept = kept_guest s law plan q k a words words1 guest guest1 device p.view p.device_view same p.kept t.run in
    let by_guest = guest_paced s law plan q a words1 guest guest1 p.view p.device_view p.paced.guest_heard p.paced.guest_low t.run
    kept.driven few in
    let counted : steps s relayed guest1 device ≡ steps s relayed guest device + a = omega (arith, by_guest.counted) in
    let whole = law.layout.device_end.whole end p.device_view p.rests.stands p.rests.still in
    let idle = law.layout.device_end.at_rest end p.device_view p.rests.stands (law.layout.device_end.still end p.rests.still) in (
      record {
        view = t.run.view;
        device_view = p.device_view;
        kept = kept;
        rests = p.rests;
        paced = record {
          guest_heard = by_guest.heard;
          guest_low = by_guest.low;
          device_low = p.paced.device_low;
          times = p.paced.times;
        };
        heard = p.heard;
        early = p.early;
        late = λ every. elim (p.late every) [
          | inl done ↦ inl (t.over done)
          | inr pace ↦ elim (cases_lt 0 a) [
            | inl some ↦ inr (omega (arith, pace, counted))
            | inr none ↦ inl (all_back s law plan q words1 guest1 t.run.view p.device_view kept.driven
                (ap device_owed idle) whole.1 every (t.quiet (omega arith)).1)
          ]
        ];
      },
      counted,
    )
