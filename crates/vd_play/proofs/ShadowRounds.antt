-- A round of a lane in a shadow epoch, after which its relay goes on.
use Rattle.std.proofs.Common.{◌≡◌, ◌⊎◌, inl, inr, ℕ, ◌+◌, ◌*◌, ◌≤◌, Bool, true, false, List, length, sym, ◌∙◌, subst, arith}
use Rattle.std.proofs.lemmas.Bool.{cases_lt, false≢true}
use Rattle.vd_words.specs.Plain.{RingWords}
use Rattle.vd_ring.specs.declared.driver.DriverView.{DriverView}
use Rattle.vd_ring.specs.declared.device.DeviceView.{DeviceView}
use Rattle.vd_ring.specs.Sleep.{DriverWaits}
use Rattle.vd_bus.specs.declared.device.Attached.{Attached}
use Rattle.vd_relay.specs.declared.counts.Counts.{Counts}
use Rattle.vd_relay.specs.declared.stage.Stage.{Stage}
use Rattle.vd_relay.specs.declared.state.State.{State}
use Rattle.vd_relay.specs.Stages.{is_rested}
use Rattle.vd_machine.specs.File.{Plan}
use Rattle.vd_play.specs.Journal.{queue_chains}
use Rattle.vd_play.specs.Progress.{steps, IsPaced, HasRelayHeard, IsShadowing, IsWinding, RelayingBy}
use Rattle.vd_play.specs.Setting.{Setting, IsLawful}
use Rattle.vd_play.specs.Shadowed.{IsRelayed}
use Rattle.vd_turns.specs.RelayTurns.{RelayTurn, HalfWaits}
use Rattle.vd_turns.specs.Turns.{GuestTurn, DeviceTurn}
use Rattle.vd_play.proofs.ShadowKeep.{keeps_guest, keeps_relay, keeps_device}
use Rattle.vd_play.proofs.ShadowPace.{bounds_of, paces_guest, paces_relay, paces_device}
use Rattle.vd_play.proofs.ShadowQuiet.{both_ends, no_sleep}
use Rattle.vd_play.proofs.Rooms.{room_same}

module _ {D E G X C : Type 0} (s : Setting D E G X C) (plan : Plan) (q k n : ℕ) where
  -- whether its relay winds up or not
  pub record Works (words : RingWords) (shadow_words : List ℕ) (r : State E D) (c : Counts) (relayed : ℕ) (guest : G) (device : X)
      : Type 0 where
    pub by : Attached
    pub view : DriverView
    pub device_view : DeviceView
    pub shadow_view : DriverView
    pub shadow_device_view : DeviceView
    pub kept : IsRelayed s plan q k words shadow_words r c guest device by view device_view shadow_view shadow_device_view
    pub live : is_rested r.stage ≡ false
    pub paced : IsPaced s (length (queue_chains plan q)) (k + 1) guest device view
    pub heard : HasRelayHeard s plan q k relayed r c device view device_view shadow_view shadow_device_view

  abbrev pub shadowing_works : (words : RingWords) (shadow_words : List ℕ) (r : State E D) (c : Counts) (relayed : ℕ) (guest : G)
      (device : X) → IsShadowing s plan q k n words shadow_words r c relayed guest device
      → Works words shadow_words r c relayed guest device
  shadowing_works words shadow_words r c relayed guest device p = record {
    by = p.by;
    view = p.view;
    device_view = p.device_view;
    shadow_view = p.shadow_view;
    shadow_device_view = p.shadow_device_view;
    kept = p.kept;
    live = p.awake.1;
    paced = p.paced;
    heard = p.heard;
  }

  abbrev pub winding_works : (words : RingWords) (shadow_words : List ℕ) (r : State E D) (c : Counts) (relayed : ℕ) (guest : G) (device : X)
      → IsWinding s plan q k n words shadow_words r c relayed guest device → Works words shadow_words r c relayed guest device
  winding_works words shadow_words r c relayed guest device p = record {
    by = p.by;
    view = p.view;
    device_view = p.device_view;
    shadow_view = p.shadow_view;
    shadow_device_view = p.shadow_device_view;
    kept = p.kept;
    live = p.winds.1;
    paced = p.paced;
    heard = p.heard;
  }

  pub works_by : (b : Bool) (words : RingWords) (shadow_words : List ℕ) (r : State E D) (c : Counts) (relayed : ℕ) (guest : G) (device : X)
      → RelayingBy b s plan q k n words shadow_words r c relayed guest device → Works words shadow_words r c relayed guest device
  works_by false words shadow_words r c relayed guest device p = shadowing_works words shadow_words r c relayed guest device p
  works_by true words shadow_words r c relayed guest device p = winding_works words shadow_words r c relayed guest device p

-- views of two turns without a step
half_moved : (st : Stage) (v v' : DriverView) (w w' : DeviceView) (sv sv' : DriverView) (sw sw' : DeviceView) → v' ≡ v → w' ≡ w
    → sv' ≡ sv → sw' ≡ sw → HalfWaits st v w sv sw → HalfWaits st v' w' sv' sw'
half_moved st v v' w w' sv sv' sw sw' a b c d h =
    subst (λ (z : DeviceView). HalfWaits st v' w' sv' z) (sym d) (subst (λ (z : DriverView). HalfWaits st v' w' z sw) (sym c)
    (subst (λ (z : DeviceView). HalfWaits st v' z sv sw) (sym b) (subst (λ (z : DriverView). HalfWaits st z w sv sw) (sym a) h)))

module _ {D E G X C : Type 0} (s : Setting D E G X C) (law : IsLawful s) (plan : Plan) (q k n a b : ℕ) (few_a : a ≤ 4) (few_b : b ≤ 4) where
  -- after the turns of guest and relay
  pub record Turned (words2 : RingWords) (shadow_words1 : List ℕ) (r1 : State E D) (c1 : Counts) (relayed : ℕ) (guest guest1 : G)
      (device : X) (by : Attached) (v : DriverView) (w : DeviceView) (sv : DriverView) (sw : DeviceView) : Type 0 where
    pub kept : IsRelayed s plan q k words2 shadow_words1 r1 c1 guest1 device by v w sv sw
    pub paced : IsPaced s (length (queue_chains plan q)) (k + 1) guest1 device v
    pub heard : HasRelayHeard s plan q k (relayed + b) r1 c1 device v w sv sw
    pub counted : s.guest.accesses guest1 ≡ s.guest.accesses guest + a

  pub turned : (words words1 words2 : RingWords) (shadow_words shadow_words1 : List ℕ) (r r1 : State E D) (c c1 : Counts) (relayed : ℕ)
      (guest guest1 : G) (device : X) (p : Works s plan q k n words shadow_words r c relayed guest device)
      → words1.ring ≡ words.ring → words2.ring ≡ words1.ring
      → (t : GuestTurn s.layout s.guest words1.words p.view p.device_view guest guest1 a)
      → (u : RelayTurn s.layout s.device s.driver p.kept.start p.kept.old (s.party.begun device) p.by words2.words shadow_words1
      t.run.view p.device_view p.shadow_view p.shadow_device_view r r1 c c1 b)
      → Turned words2 shadow_words1 r1 c1 relayed guest guest1 device p.by t.run.view u.run.view u.run.shadow_view p.shadow_device_view
  turned words words1 words2 shadow_words shadow_words1 r r1 c c1 relayed guest guest1 device p same1 same2 t u =
      let first = keeps_guest s law plan q k a words words1 shadow_words r c guest guest1 device p.by p.view p.device_view p.shadow_view
      p.shadow_device_view same1 p.kept t.run in
      let second = keeps_relay s law plan q k b words1 words2 shadow_words shadow_words1 r r1 c c1 guest1 device p.by t.run.view
      p.device_view p.shadow_view p.shadow_device_view same2 first u.run in
      let by_guest = paces_guest s law plan q k a relayed words words1 shadow_words r c guest guest1 device p.by p.view p.device_view
      p.shadow_view p.shadow_device_view few_a t.run first p.paced p.heard in
      let bounds = bounds_of s law plan q k words1 shadow_words r c guest1 device p.by t.run.view p.device_view p.shadow_view
      p.shadow_device_view first in
      record {
        kept = second;
        paced = by_guest.paced;
        heard = paces_relay s law plan q k b relayed words2 shadow_words1 r r1 c c1 guest1 device p.by t.run.view p.device_view
            p.shadow_view p.shadow_device_view few_b bounds by_guest.heard p.kept.start p.kept.old u.run second;
        counted = by_guest.counted;
      }

  -- the round of a relay that winds up and doesn't rest yet
  pub winds_on : (words words1 words2 : RingWords) (shadow_words shadow_words1 : List ℕ) (r r1 : State E D) (c c1 : Counts) (relayed : ℕ)
      (guest guest1 : G) (device : X) (p : IsWinding s plan q k n words shadow_words r c relayed guest device)
      → words1.ring ≡ words.ring → words2.ring ≡ words1.ring
      → (t : GuestTurn s.layout s.guest words1.words p.view p.device_view guest guest1 a)
      → (u : RelayTurn s.layout s.device s.driver p.kept.start p.kept.old (s.party.begun device) p.by words2.words shadow_words1
      t.run.view p.device_view p.shadow_view p.shadow_device_view r r1 c c1 b) → is_rested r1.stage ≡ false
      → IsWinding s plan q k (n + 1) words2 shadow_words1 r1 c1 (relayed + b) guest1 device
      × (steps s (relayed + b) guest1 device ≡ steps s relayed guest device + (a + b))
  winds_on words words1 words2 shadow_words shadow_words1 r r1 c c1 relayed guest guest1 device p same1 same2 t u live =
      let x = turned words words1 words2 shadow_words shadow_words1 r r1 c c1 relayed guest guest1 device
      (winding_works s plan q k n words shadow_words r c relayed guest device p) same1 same2 t u in
      let some : 1 ≤ b = elim (cases_lt 0 b) [
        | inl some ↦ omega (arith, some)
        | inr none ↦ absurd (false≢true (sym (u.quiet (omega (arith, none))).2.live ∙ p.winds.0))
      ] in
      let total : steps s (relayed + b) guest1 device ≡ steps s relayed guest device + (a + b) = omega (arith, x.counted) in (
        record {
          by = p.by;
          view = t.run.view;
          device_view = u.run.view;
          shadow_view = u.run.shadow_view;
          shadow_device_view = p.shadow_device_view;
          kept = x.kept;
          served = p.served;
          winds = (u.run.kept.0 ∙ p.winds.0, live);
          paced = x.paced;
          heard = x.heard;
          rounds = omega (arith, p.rounds, some, total);
        },
        total,
      )

  -- ---- with the device's turn

  module _ (d : ℕ) (few_d : d ≤ 4) where
    -- after the turns of all three
    pub record AllTurned (words2 : RingWords) (shadow_words2 : List ℕ) (r1 : State E D) (c1 : Counts) (relayed : ℕ) (guest guest1 : G)
        (device device1 : X) (by : Attached) (v : DriverView) (w : DeviceView) (sv : DriverView) (sw : DeviceView) : Type 0 where
      pub kept : IsRelayed s plan q k words2 shadow_words2 r1 c1 guest1 device1 by v w sv sw
      pub awake : (r1.winding ≡ false) × (is_rested r1.stage ≡ false)
      pub paced : IsPaced s (length (queue_chains plan q)) (k + 1) guest1 device1 v
      pub heard : HasRelayHeard s plan q k (relayed + b) r1 c1 device1 v w sv sw
      pub counted : steps s (relayed + b) guest1 device1 ≡ steps s relayed guest device + (a + b + d)
      pub rounds : (n + 1 ≤ 2 * steps s (relayed + b) guest1 device1) ⊎ ((n + 1 ≤ 2 * steps s (relayed + b) guest1 device1 + 1)
          × HalfWaits r1.stage v w sv sw)

    pub all_turned : (words words1 words2 : RingWords) (shadow_words shadow_words1 shadow_words2 : List ℕ) (r r1 : State E D)
        (c c1 : Counts) (relayed : ℕ) (guest guest1 : G) (device device1 : X)
        (p : IsShadowing s plan q k n words shadow_words r c relayed guest device) → words1.ring ≡ words.ring → words2.ring ≡ words1.ring
        → (t : GuestTurn s.layout s.guest words1.words p.view p.device_view guest guest1 a)
        → (u : RelayTurn s.layout s.device s.driver p.kept.start p.kept.old (s.party.begun device) p.by words2.words shadow_words1
        t.run.view p.device_view p.shadow_view p.shadow_device_view r r1 c c1 b)
        → (x : DeviceTurn s.layout s.party shadow_words2 u.run.shadow_view p.shadow_device_view device device1 d)
        → AllTurned words2 shadow_words2 r1 c1 relayed guest guest1 device device1 p.by t.run.view u.run.view u.run.shadow_view x.run.view
    all_turned words words1 words2 shadow_words shadow_words1 shadow_words2 r r1 c c1 relayed guest guest1 device device1 p same1
        same2 t u x =
        let y = turned words words1 words2 shadow_words shadow_words1 r r1 c c1 relayed guest guest1 device
        (shadowing_works s plan q k n words shadow_words r c relayed guest device p) same1 same2 t u in
        let off : r1.winding ≡ false = u.run.kept.0 ∙ p.awake.0 in
        let bounds = bounds_of s law plan q k words2 shadow_words1 r1 c1 guest1 device p.by t.run.view u.run.view u.run.shadow_view
        p.shadow_device_view y.kept in
        let kept = keeps_device s law plan q k d words2 shadow_words1 shadow_words2 r1 c1 guest1 device device1 p.by t.run.view u.run.view
        u.run.shadow_view p.shadow_device_view off p.serves.attached p.serves.for_data y.kept x.run in
        let by_device = paces_device s law plan q k d (relayed + b) words2 shadow_words2 r1 c1 guest1 device device1 p.by t.run.view
        u.run.view u.run.shadow_view p.shadow_device_view few_d p.serves.attached p.serves.for_data bounds x.run kept y.paced y.heard in
        let counted : steps s (relayed + b) guest1 device1 ≡ steps s relayed guest device + (a + b + d) =
        omega (arith, y.counted, by_device.counted) in
        record {
          kept = kept;
          awake = (off, u.run.awake p.awake.0);
          paced = by_device.paced;
          heard = by_device.heard;
          counted = counted;
          rounds = elim (cases_lt 0 (a + b + d)) [
            | inl some ↦ elim p.rounds [
              | inl le ↦ inl (omega (arith, le, counted, some))
              | inr half ↦ inl (omega (arith, half.0, counted, some))
            ]
            | inr none ↦ (
                let guest_quiet = t.quiet (omega (arith, none)) in
                let relay_quiet = u.quiet (omega (arith, none)) in
                let device_quiet = x.quiet (omega (arith, none)) in
                let looked = relay_quiet.2 in
                let now : HalfWaits r1.stage t.run.view u.run.view u.run.shadow_view x.run.view =
                half_moved r1.stage t.run.view t.run.view p.device_view u.run.view p.shadow_view u.run.shadow_view p.shadow_device_view
                x.run.view Rattle.std.proofs.Common.refl relay_quiet.0 relay_quiet.1 device_quiet.0 looked.half in
                elim p.rounds [
                  | inl le ↦ inr (omega (arith, le, counted), now)
                  | inr half ↦ (
                      let before : HalfWaits r.stage t.run.view u.run.view u.run.shadow_view x.run.view =
                      half_moved r.stage p.view t.run.view p.device_view u.run.view p.shadow_view u.run.shadow_view p.shadow_device_view
                      x.run.view guest_quiet.0 relay_quiet.0 relay_quiet.1 device_quiet.0 half.1 in
                      let still : s.guest.is_done guest1 ⊎ DriverWaits t.run.view u.run.view =
                      subst (λ (z : DeviceView). s.guest.is_done guest1 ⊎ DriverWaits t.run.view z) (sym relay_quiet.0) guest_quiet.1 in
                      absurd (no_sleep s law plan q k words2 shadow_words2 r1 c1 guest1 device1 p.by t.run.view u.run.view
                      u.run.shadow_view x.run.view r.stage kept x.run.holds (x.run.served.attached ∙ p.serves.attached) looked.turn off
                      looked.guest_idle still
                      (both_ends r.stage r1.stage t.run.view u.run.view u.run.shadow_view x.run.view looked.turn before now) device_quiet.1)
                      )
                ]
                )
          ];
        }

    -- the round after which the device isn't done
    pub shadows_on : (words words1 words2 : RingWords) (shadow_words shadow_words1 shadow_words2 : List ℕ) (r r1 : State E D)
        (c c1 : Counts) (relayed : ℕ) (guest guest1 : G) (device device1 : X)
        (p : IsShadowing s plan q k n words shadow_words r c relayed guest device) → words1.ring ≡ words.ring → words2.ring ≡ words1.ring
        → (t : GuestTurn s.layout s.guest words1.words p.view p.device_view guest guest1 a)
        → (u : RelayTurn s.layout s.device s.driver p.kept.start p.kept.old (s.party.begun device) p.by words2.words shadow_words1
        t.run.view p.device_view p.shadow_view p.shadow_device_view r r1 c c1 b)
        → (x : DeviceTurn s.layout s.party shadow_words2 u.run.shadow_view p.shadow_device_view device device1 d)
        → (s.party.is_done device1 → ⊥)
        → IsShadowing s plan q k (n + 1) words2 shadow_words2 r1 c1 (relayed + b) guest1 device1
        × (steps s (relayed + b) guest1 device1 ≡ steps s relayed guest device + (a + b + d))
    shadows_on words words1 words2 shadow_words shadow_words1 shadow_words2 r r1 c c1 relayed guest guest1 device device1 p same1
        same2 t u x live =
        let y = all_turned words words1 words2 shadow_words shadow_words1 shadow_words2 r r1 c c1 relayed guest guest1 device device1 p
        same1 same2 t u x in (
          record {
            by = p.by;
            view = t.run.view;
            device_view = u.run.view;
            shadow_view = u.run.shadow_view;
            shadow_device_view = x.run.view;
            kept = y.kept;
            serves = record {
              holds = x.run.holds;
              attached = x.run.served.attached ∙ p.serves.attached;
              for_data = p.serves.for_data;
              events = x.run.served.events ∙ p.serves.events;
              room = room_same s plan q device device1 x.run.served.events x.run.served.room.0 p.serves.room;
              live = live;
            };
            awake = y.awake;
            paced = y.paced;
            heard = y.heard;
            rounds = y.rounds;
          },
          y.counted,
        )
