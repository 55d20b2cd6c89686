-- A round of a lane in a shadow epoch: what the turns of its guest, its relay and its device leave, by what the three calls promise.
use Rattle.std.proofs.Common.{◌≡◌, ℕ, ◌+◌, ◌≤◌, Bool, true, false, Option, Some, None, List, length, refl, sym, ◌∙◌, subst}
use Rattle.std.proofs.lemmas.Bool.{false≢true}
use Rattle.vd_model.specs.declared.map.Mapping.{Mapping}
use Rattle.vd_words.specs.Plain.{RingWords}
use Rattle.vd_ring.specs.declared.driver.DriverView.{DriverView}
use Rattle.vd_ring.specs.declared.device.DeviceView.{DeviceView}
use Rattle.vd_ring.specs.History.{gives}
use Rattle.vd_bus.specs.Device.{IsSuspend}
use Rattle.vd_relay.specs.Moving.{Holds}
use Rattle.vd_relay.specs.Stages.{is_rested}
use Rattle.vd_relay.specs.Tie.{Start}
use Rattle.vd_switch.specs.declared.shadowing.Shadowing.{Shadowing}
use Rattle.vd_switch.specs.ShadowingLanes as switch
use Rattle.vd_machine.specs.File.{Plan}
use Rattle.vd_play.specs.declared.floor.Lane.{Lane}
use Rattle.vd_play.specs.declared.floor.Relaying.{Relaying}
use Rattle.vd_play.specs.Journal.{tree_map}
use Rattle.vd_play.specs.Progress.{steps, IsStopped, RelayingBy, InEpoch}
use Rattle.vd_play.specs.Setting.{Setting, IsLawful}
use Rattle.vd_turns.specs.RelayTurns.{RelayTurn, RelayTurns, CanRelay}
use Rattle.vd_turns.specs.Turns.{GuestTurn, GuestTurns, DeviceTurn, DeviceTurns, CanServe}
use Rattle.vd_play.proofs.ShadowKeep.{keeps_guest}
use Rattle.vd_play.proofs.ShadowPace.{bounds_of, low_of}
use Rattle.vd_play.proofs.ShadowRounds.{Works, shadowing_works, winding_works, winds_on, shadows_on}
use Rattle.vd_play.proofs.ShadowEnds.{stops}
use Rattle.vd_play.proofs.ShadowStops.{winds_from}
use Rattle.vd_play.proofs.ShadowLanes.{relaying_of, epoch_of, stopped_of, plain_of, plain_none}

-- ---- what the three calls promise, with the numbers of their steps that were no looks

-- the lane has this relay, and its guest has had its turn
pub record GuestTurned {L D E G X C : Type 0} (s : Setting D E G X C) (lane : Lane L D E) (x : Relaying L D E) (words1 : RingWords)
    (guest guest1 : G) (a : ℕ) : Type 0 where
  pub is : lane.relaying ≡ Some x
  pub few : a ≤ 4
  pub ring : words1.ring ≡ lane.words.ring
  pub turns : GuestTurns s.layout s.guest lane.words.words words1.words guest guest1 a

-- then the relay has had its own, and has become another
pub record RelayTurned {L D E G X C : Type 0} (s : Setting D E G X C) (ms : List Mapping) (words1 words2 : RingWords)
    (x x1 : Relaying L D E) (b : ℕ) : Type 0 where
  pub few : b ≤ 4
  pub ring : words2.ring ≡ words1.ring
  pub plain : x1.lane.relay.control ≡ None
  pub turns : RelayTurns s.layout s.device s.driver ms words1.words words2.words x.words.words x1.words.words x.lane.relay.state
      x1.lane.relay.state x.lane.relay.counts x1.lane.relay.counts b

-- then the device
pub record DeviceTurned {D E G X C : Type 0} (s : Setting D E G X C) (shadow1 shadow2 : RingWords) (device device1 : X) (d : ℕ)
    : Type 0 where
  pub few : d ≤ 4
  pub turns : DeviceTurns s.layout s.party shadow1.words shadow2.words device device1 d

-- ---- the guest's

module _ {L D E G X C : Type 0} {s : Setting D E G X C} (law : IsLawful s) {plan : Plan} {q : ℕ} {on : Bool} {k n : ℕ} {lane : Lane L D E}
    {guest : G} {device : X} (h : InEpoch s plan q on k n lane guest device) {ms : List Mapping} (tree : ms ≡ tree_map plan)
    {x : Relaying L D E} {words1 : RingWords} {guest1 : G} {a : ℕ} (t : GuestTurned s lane x words1 guest guest1 a) where
  pub is_plain : x.lane.relay.control ≡ None
  is_plain = plain_of x lane.relaying t.is h.plain

  abbrev By : Bool → Type 0
  By w = RelayingBy w s plan q k n lane.words x.words.words x.lane.relay.state x.lane.relay.counts lane.relayed guest device

  abbrev winds : Bool
  winds = x.lane.relay.state.winding

  held : (on ≡ true) × (lane.still ≡ None) × By winds
  held = relaying_of s plan q k n lane.words x lane.relayed guest device on lane.still lane.relaying t.is h.held

  abbrev works : (w : Bool) → By w
      → Works s plan q k n lane.words x.words.words x.lane.relay.state x.lane.relay.counts lane.relayed guest device
  works false p = shadowing_works s plan q k n lane.words x.words.words x.lane.relay.state x.lane.relay.counts lane.relayed guest device p
  works true p = winding_works s plan q k n lane.words x.words.words x.lane.relay.state x.lane.relay.counts lane.relayed guest device p

  abbrev guest_at : (w : Bool) (p : By w)
      → GuestTurn s.layout s.guest words1.words (works w p).view (works w p).device_view guest guest1 a
  guest_at w p = t.turns (works w p).view (works w p).device_view (works w p).kept.driven.ring (works w p).kept.driven.part.holds

  -- the relay's part after it
  ready : (w : Bool) (p : By w) → (ms ≡ (works w p).kept.start.map)
      × switch.IsShadowing s.device s.driver s.layout (works w p).kept.start (works w p).kept.old x.lane.relay.state (s.party.begun device)
      (works w p).by words1.words x.words.words (guest_at w p).run.view (works w p).device_view (works w p).shadow_view
      (works w p).shadow_device_view
      × Holds s.device s.driver (works w p).kept.start x.lane.relay.state x.lane.relay.counts (works w p).device_view
      (works w p).shadow_view
  ready w p =
      let y = works w p in
      let first = keeps_guest s law plan q k a lane.words words1 x.words.words x.lane.relay.state x.lane.relay.counts guest guest1 device
      y.by y.view y.device_view y.shadow_view y.shadow_device_view t.ring y.kept (guest_at w p).run in
      (tree ∙ sym y.kept.moves, first.lane, first.holds)

  pub can_relay : CanRelay s.layout s.device s.driver ms words1.words x.words.words x.lane.relay.state x.lane.relay.counts
  can_relay =
      let p : By winds = held.2 in
      let y = works winds p in
      let z = ready winds p in (
        y.kept.start,
        y.kept.old,
        s.party.begun device,
        y.by,
        (guest_at winds p).run.view,
        y.device_view,
        y.shadow_view,
        y.shadow_device_view,
        z.1,
        z.2,
        z.0,
      )

  -- the steps of all relays are far fewer than the last count
  pub few_relayed : lane.relayed ≤ 600000000
  few_relayed =
      let y = works winds held.2 in
      let r = x.lane.relay.state in
      let c = x.lane.relay.counts in
      (low_of s law plan q k lane.relayed r c device y.by y.view y.device_view y.shadow_view y.shadow_device_view
      (bounds_of s law plan q k lane.words x.words.words r c guest device y.by y.view y.device_view y.shadow_view y.shadow_device_view
      y.kept) y.heard).relayed_low

  -- ---- the relay's

  module _ {words2 : RingWords} {x1 : Relaying L D E} {b : ℕ} (u : RelayTurned s ms words1 words2 x x1 b) where
    abbrev relay_at : (w : Bool) (p : By w) → RelayTurn s.layout s.device s.driver (works w p).kept.start (works w p).kept.old
        (s.party.begun device) (works w p).by words2.words x1.words.words (guest_at w p).run.view (works w p).device_view
        (works w p).shadow_view (works w p).shadow_device_view x.lane.relay.state x1.lane.relay.state x.lane.relay.counts
        x1.lane.relay.counts b
    relay_at w p =
        let y = works w p in
        let z = ready w p in
        u.turns y.kept.start y.kept.old (s.party.begun device) y.by (guest_at w p).run.view y.device_view y.shadow_view
        y.shadow_device_view z.0 z.1 z.2

    -- it holds its ends
    pub holds_after : (z : Start) × (w : DeviceView) × (v : DriverView)
        × Holds s.device s.driver z x1.lane.relay.state x1.lane.relay.counts w v
    holds_after =
        let run = (relay_at winds held.2).run in ((works winds held.2).kept.start, run.view, run.shadow_view, run.holds)

    -- the lane is a round further, with what it keeps of the ring's end and of its relay, and so many steps were no looks
    abbrev Goes : Option E → Option (Relaying L D E) → X → ℕ → Type 0
    Goes still relaying device1 made = InEpoch s plan q on k (n + 1)
        (record { words = words2; still = still; relaying = relaying; kits = lane.kits; relayed = lane.relayed + b }) guest1 device1
        × (steps s (lane.relayed + b) guest1 device1 ≡ steps s lane.relayed guest device + made)

    rests_by : (w : Bool) → winds ≡ w → By w → is_rested x1.lane.relay.state.stage ≡ true
        → IsStopped s plan q (k + 1) (n + 1) words2 x1.lane.relay.state.guest (lane.relayed + b) guest1 device
        × (steps s (lane.relayed + b) guest1 device ≡ steps s lane.relayed guest device + (a + b))
    rests_by false off p rests = absurd (false≢true (sym ((relay_at false p).run.awake off) ∙ rests))
    rests_by true is p rests = stops s law plan q k n a b t.few u.few lane.words words1 words2 x.words.words x1.words.words
        x.lane.relay.state x1.lane.relay.state x.lane.relay.counts x1.lane.relay.counts lane.relayed guest guest1 device p t.ring u.ring
        (guest_at true p) (relay_at true p) rests

    -- it rests, and has handed the end of the guest's ring back
    pub goes_rested : (still : Option E) (relaying : Option (Relaying L D E)) → is_rested x1.lane.relay.state.stage ≡ true
        → still ≡ Some x1.lane.relay.state.guest → relaying ≡ None → Goes still relaying device (a + b)
    goes_rested still relaying rests kept gone =
        let y = rests_by winds refl held.2 rests in (
          record {
            held = stopped_of s plan q k (n + 1) words2 (lane.relayed + b) guest1 device x1.lane.relay.state.guest on still relaying kept
                gone y.0;
            kits = h.kits;
            plain = plain_none relaying gone;
          },
          y.1,
        )

    winds_by : (w : Bool) → winds ≡ w → By w → is_rested x1.lane.relay.state.stage ≡ false → x1.lane.relay.state.winding ≡ true
        → RelayingBy true s plan q k (n + 1) words2 x1.words.words x1.lane.relay.state x1.lane.relay.counts (lane.relayed + b) guest1
        device × (steps s (lane.relayed + b) guest1 device ≡ steps s lane.relayed guest device + (a + b))
    winds_by false off p live winding = absurd (false≢true (sym ((relay_at false p).run.kept.0 ∙ off) ∙ winding))
    winds_by true is p live winding = winds_on s law plan q k n a b t.few u.few lane.words words1 words2 x.words.words x1.words.words
        x.lane.relay.state x1.lane.relay.state x.lane.relay.counts x1.lane.relay.counts lane.relayed guest guest1 device p t.ring u.ring
        (guest_at true p) (relay_at true p) live

    -- a lane that goes on with a relay
    goes_with : (x2 : Relaying L D E) (w : Bool) (device1 : X) (made : ℕ) → x2.lane.relay.control ≡ None → x2.lane.relay.state.winding ≡ w
        → RelayingBy w s plan q k (n + 1) words2 x2.words.words x2.lane.relay.state x2.lane.relay.counts (lane.relayed + b) guest1 device1
        → steps s (lane.relayed + b) guest1 device1 ≡ steps s lane.relayed guest device + made → Goes lane.still (Some x2) device1 made
    goes_with x2 w device1 made plain is p counted = (
      record {
        held = epoch_of s plan q k (n + 1) words2 x2 (lane.relayed + b) guest1 device1 on lane.still (Some x2) held.0 held.1 refl
            (subst (λ (z : Bool). RelayingBy z s plan q k (n + 1) words2 x2.words.words x2.lane.relay.state x2.lane.relay.counts
            (lane.relayed + b) guest1 device1) (sym is) p);
        kits = h.kits;
        plain = plain;
      },
      counted,
    )

    -- it winds up still
    pub goes_winding : is_rested x1.lane.relay.state.stage ≡ false → x1.lane.relay.state.winding ≡ true
        → Goes lane.still (Some x1) device (a + b)
    goes_winding live winding =
        let y = winds_by winds refl held.2 live winding in goes_with x1 true device (a + b) u.plain winding y.0 y.1

    -- ---- the device's, of a relay that doesn't wind up

    module _ (off : x1.lane.relay.state.winding ≡ false) where
      -- nor did it before
      shadows_by : (w : Bool) → winds ≡ w → By w → By false
      shadows_by false is p = p
      shadows_by true is p = absurd (false≢true (sym off ∙ (relay_at true p).run.kept.0 ∙ is))

      shadows : By false
      shadows = shadows_by winds refl held.2

      pub is_live : s.party.is_done device → ⊥
      is_live = shadows.serves.live

      pub can_serve : CanServe s.layout s.party x1.words.words device
      can_serve =
          let run = (relay_at false shadows).run in
          (run.shadow_view, shadows.shadow_device_view, run.lane.shadow_ring, shadows.serves.holds)

      module _ {shadow2 : RingWords} {device1 : X} {d : ℕ} (z : DeviceTurned s x1.words shadow2 device device1 d) where
        device_at : DeviceTurn s.layout s.party shadow2.words (relay_at false shadows).run.shadow_view shadows.shadow_device_view device
            device1 d
        device_at = z.turns (relay_at false shadows).run.shadow_view shadows.shadow_device_view
            (relay_at false shadows).run.lane.shadow_ring shadows.serves.holds

        pub device_holds : (w : DeviceView) × s.party.holds device1 w
        device_holds = (device_at.run.view, device_at.run.holds)

        pub device_carries : (s.party.carried device1 ≡ s.party.carried device) × (s.party.faults device1 ≡ s.party.faults device)
        device_carries = (device_at.run.served.carried, device_at.run.served.faults)

        -- it isn't done
        pub goes_shadowing : (s.party.is_done device1 → ⊥)
            → Goes lane.still (Some (record { lane = x1.lane; words = shadow2 })) device1 (a + b + d)
        goes_shadowing live =
            let y = shadows_on s law plan q k n a b t.few u.few d z.few lane.words words1 words2 x.words.words x1.words.words
            shadow2.words x.lane.relay.state x1.lane.relay.state x.lane.relay.counts x1.lane.relay.counts lane.relayed guest guest1 device
            device1 shadows t.ring u.ring (guest_at false shadows) (relay_at false shadows) device_at live in
            goes_with (record { lane = x1.lane; words = shadow2 }) false device1 (a + b + d) u.plain off y.0 y.1

        -- it is done, and suspended; its relay begins to wind up
        pub goes_done : (lane2 : Shadowing L D E) (device2 : X) → s.party.is_done device1
            → ((end : E) × IsSuspend s.device s.party device1 device2 end) → lane2.relay.control ≡ None
            → ((z : Start) (w : DeviceView) (v : DriverView) → Holds s.device s.driver z x1.lane.relay.state x1.lane.relay.counts w v
            → Holds s.device s.driver z lane2.relay.state lane2.relay.counts w v)
            → is_rested lane2.relay.state.stage ≡ false → lane2.relay.state.winding ≡ true
            → ((sw : DeviceView) → s.party.holds device1 sw → lane2.relay.state.target ≡ length (gives sw.done))
            → lane2.relay.counts ≡ x1.lane.relay.counts
            → Goes lane.still (Some (record { lane = lane2; words = shadow2 })) device2 (a + b + d)
        goes_done lane2 device2 done suspended plain holds live winding target counts =
            let y = winds_from s law plan q k n a b t.few u.few d z.few lane.words words1 words2 x.words.words x1.words.words
            shadow2.words x.lane.relay.state x1.lane.relay.state lane2.relay.state x.lane.relay.counts x1.lane.relay.counts
            lane2.relay.counts lane.relayed guest guest1 device device1 device2 suspended.0 shadows t.ring u.ring (guest_at false shadows)
            (relay_at false shadows) device_at done suspended.1 holds live winding target counts in
            goes_with (record { lane = lane2; words = shadow2 }) true device2 (a + b + d) plain winding y.0 y.1
