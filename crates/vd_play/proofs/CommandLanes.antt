-- The control queue's lane in a round, by what it holds: what a stop left, or a relay.
use Rattle.std.proofs.Common.{◌≡◌, ℕ, ◌+◌, ◌≤◌, Bool, true, false, Option, Some, None, is_some, List, refl, subst}
use Rattle.std.proofs.lemmas.Option.{same_Some}
use Rattle.vd_words.specs.Plain.{RingWords}
use Rattle.vd_layout.specs.declared.device.DeviceEnd as device_end
use Rattle.vd_layout.specs.declared.driver.DriverEnd as driver_end
use Rattle.vd_layout.specs.declared.layout.Layout as layout
use Rattle.vd_control.specs.declared.settings.Settings.{Settings}
use Rattle.vd_relay.specs.declared.control.Control.{Control}
use Rattle.vd_relay.specs.declared.counts.Counts.{Counts}
use Rattle.vd_relay.specs.declared.state.State.{State}
use Rattle.vd_switch.specs.declared.still.Still.{Still}
use Rattle.vd_turns.specs.Turns.{CanDrive, GuestTurns}
use Rattle.vd_machine.specs.File.{Plan}
use Rattle.vd_play.specs.declared.floor.Relaying.{Relaying}
use Rattle.vd_play.specs.CommandProgress.{Next, IsCommandShadowing, CommandRelayingBy, IsCommandRelaying, InCommandRoundWith}
use Rattle.vd_play.specs.CommandProgress.Next.{guests, relays}
use Rattle.vd_play.specs.CommandRounds.{is_replayed}
use Rattle.vd_play.specs.Progress.{steps}
use Rattle.vd_play.specs.Setting.{Setting, IsLawful}
use Rattle.vd_play.proofs.CommandGuests.{guest_shadows, guest_winds, guest_stops}

module _ {D E G X C : Type 0} (s : Setting D E G X C) (plan : Plan) (k n : ℕ) (words : RingWords) (relayed : ℕ) (guest : G)
    (device : X) where
  -- it is one of a control queue
  pub control_of : (next : Next) (o : Option Control) (w : Bool) (shadow_words : List ℕ) (r : State E D) (settings : Settings) (c : Counts)
      → CommandRelayingBy o w s plan next k n words shadow_words r settings c relayed guest device → (y : Control) × (o ≡ Some y)
  control_of next (Some y) w shadow_words r settings c p = (y, refl)
  control_of next None w shadow_words r settings c p = absurd p

  pub shadowing_of : (next : Next) (o : Option Control) (w : Bool) (y : Control) (shadow_words : List ℕ) (r : State E D)
      (settings : Settings) (c : Counts) → o ≡ Some y → w ≡ false
      → CommandRelayingBy o w s plan next k n words shadow_words r settings c relayed guest device
      → IsCommandShadowing s plan next k n words shadow_words r y settings c relayed guest device
  shadowing_of next (Some z) false y shadow_words r settings c is off p =
      subst (λ (u : Control). IsCommandShadowing s plan next k n words shadow_words r u settings c relayed guest device)
      (same_Some z y is) p
  shadowing_of next (Some z) true y shadow_words r settings c is off p = absurd (cc)
  shadowing_of next None w y shadow_words r settings c is off p = absurd (cc)

  -- ---- the guest, beside a relay

  pub drive_by : (o : Option Control) (w : Bool) (shadow_words : List ℕ) (r : State E D) (settings : Settings) (c : Counts)
      → CommandRelayingBy o w s plan guests k n words shadow_words r settings c relayed guest device
      → CanDrive s.layout s.guest words.words guest
  drive_by (Some y) false shadow_words r settings c p = (p.view, p.device_view, p.kept.driven.ring, p.kept.driven.part.holds)
  drive_by (Some y) true shadow_words r settings c p = (p.view, p.device_view, p.kept.driven.ring, p.kept.driven.part.holds)
  drive_by None w shadow_words r settings c p = absurd p

  module _ (law : IsLawful s) (a : ℕ) (few : a ≤ 4) (words1 : RingWords) (guest1 : G) (same : words1.ring ≡ words.ring)
      (turns : GuestTurns s.layout s.guest words.words words1.words guest guest1 a) where
    pub guest_by : (o : Option Control) (w : Bool) (shadow_words : List ℕ) (r : State E D) (settings : Settings) (c : Counts)
        → CommandRelayingBy o w s plan guests k n words shadow_words r settings c relayed guest device
        → CommandRelayingBy o w s plan relays k n words1 shadow_words r settings c relayed guest1 device
        × (steps s relayed guest1 device ≡ steps s relayed guest device + a)
    guest_by (Some y) false shadow_words r settings c p =
        guest_shadows s law plan k n a few words words1 guest guest1 device same shadow_words r y settings c relayed p
        (turns p.view p.device_view p.kept.driven.ring p.kept.driven.part.holds)
    guest_by (Some y) true shadow_words r settings c p =
        guest_winds s law plan k n a few words words1 guest guest1 device same shadow_words r y settings c relayed p
        (turns p.view p.device_view p.kept.driven.ring p.kept.driven.part.holds)
    guest_by None w shadow_words r settings c p = absurd p

module _ {L D E G X C : Type 0} {i : layout.Ghosts L D E} {j : driver_end.Ghosts D} {h : device_end.Ghosts E} (s : Setting D E G X C)
    (plan : Plan) (k n : ℕ) (words : RingWords) (relayed : ℕ) (guest : G) (device : X) where
  -- ---- a relay in it

  pub relaying_of : (next : Next) (on : Bool) (still : Option (Still L D E i j h)) (o : Option (Relaying L D E)) (x : Relaying L D E)
      → o ≡ Some x → InCommandRoundWith s plan next on k n words still o relayed guest device
      → (on ≡ true) × (still ≡ None) × IsCommandRelaying s plan next k n words x relayed guest device
  relaying_of next true None (Some y) x is p = (
    refl,
    refl,
    subst (λ (z : Relaying L D E). IsCommandRelaying s plan next k n words z relayed guest device) (same_Some y x is) p,
  )
  relaying_of next false None (Some y) x is p = absurd p
  relaying_of next on (Some end) (Some y) x is p = absurd p
  relaying_of next on still None x is p = absurd (cc)

  pub round_of : (next : Next) (on : Bool) (still : Option (Still L D E i j h)) (x : Relaying L D E) → on ≡ true → still ≡ None
      → IsCommandRelaying s plan next k n words x relayed guest device
      → InCommandRoundWith s plan next on k n words still (Some x) relayed guest device
  round_of next true None x on none p = p
  round_of next false still x on none p = absurd (cc)
  round_of next true (Some end) x on none p = absurd (cc)

  -- a lane that is still has no relay, so it has nothing to replay
  pub still_replayed : (next : Next) (on : Bool) (still : Option (Still L D E i j h)) (o : Option (Relaying L D E))
      → is_some still ≡ true → InCommandRoundWith s plan next on k n words still o relayed guest device → is_replayed o ≡ true
  still_replayed next on (Some end) None some p = refl
  still_replayed next on (Some end) (Some x) some p = absurd p
  still_replayed next on None o some p = absurd (cc)

  -- ---- the guest

  pub can_drive : (on : Bool) (still : Option (Still L D E i j h)) (o : Option (Relaying L D E))
      → InCommandRoundWith s plan guests on k n words still o relayed guest device → CanDrive s.layout s.guest words.words guest
  can_drive true None (Some x) p =
      drive_by s plan k n words relayed guest device x.lane.relay.control x.lane.relay.state.winding x.words.words x.lane.relay.state
      x.lane.relay.settings x.lane.relay.counts p
  can_drive false None (Some x) p = absurd p
  can_drive on (Some y) None p = (p.view, p.device_view, p.kept.driven.ring, p.kept.driven.part.holds)
  can_drive on None None p = absurd p
  can_drive on (Some y) (Some x) p = absurd p

  module _ (law : IsLawful s) (a : ℕ) (few : a ≤ 4) (words1 : RingWords) (guest1 : G) (same : words1.ring ≡ words.ring)
      (turns : GuestTurns s.layout s.guest words.words words1.words guest guest1 a) where
    pub guest_goes : (on : Bool) (still : Option (Still L D E i j h)) (o : Option (Relaying L D E))
        → InCommandRoundWith s plan guests on k n words still o relayed guest device
        → InCommandRoundWith s plan relays on k n words1 still o relayed guest1 device
        × (steps s relayed guest1 device ≡ steps s relayed guest device + a)
    guest_goes true None (Some x) p =
        guest_by s plan k n words relayed guest device law a few words1 guest1 same turns x.lane.relay.control
        x.lane.relay.state.winding x.words.words x.lane.relay.state x.lane.relay.settings x.lane.relay.counts p
    guest_goes false None (Some x) p = absurd p
    guest_goes on (Some y) None p =
        guest_stops s law plan (k + 1) n a few words words1 guest guest1 device same y.end y.control y.settings relayed p
        (turns p.view p.device_view p.kept.driven.ring p.kept.driven.part.holds)
    guest_goes on None None p = absurd p
    guest_goes on (Some y) (Some x) p = absurd p
