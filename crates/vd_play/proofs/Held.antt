-- A lane by what it holds: an end, a relay, or neither.
use Rattle.std.proofs.Common.{◌≡◌, ℕ, ◌+◌, ◌≤◌, is_some, Bool, true, false, Option, Some, None, List, refl, subst}
use Rattle.std.proofs.lemmas.Bool.{false≢true}
use Rattle.vd_words.specs.Plain.{RingWords}
use Rattle.vd_relay.specs.declared.counts.Counts.{Counts}
use Rattle.vd_relay.specs.declared.state.State.{State}
use Rattle.vd_machine.specs.File.{Plan}
use Rattle.vd_play.specs.declared.floor.Relaying.{Relaying}
use Rattle.vd_play.specs.Progress.{IsStopped, IsPassing, RelayingBy, InEpochWith, steps}
use Rattle.vd_play.specs.Rounds.{IsSuspended}
use Rattle.vd_play.specs.Setting.{Setting, IsLawful}
use Rattle.vd_turns.specs.Turns.{CanDrive, GuestTurn, GuestTurns, DeviceTurn}
use Rattle.vd_play.proofs.Going.{stops, waits}
use Rattle.vd_play.proofs.Lists.{some_same}

-- also beside a relay the guest holds its end
drive_relaying : {D E G X C : Type 0} (s : Setting D E G X C) (plan : Plan) (q : ℕ) (winding : Bool) (k r : ℕ) (words : RingWords)
    (shadow_words : List ℕ) (state : State E D) (counts : Counts) (relayed : ℕ) (guest : G) (device : X)
    → RelayingBy winding s plan q k r words shadow_words state counts relayed guest device → CanDrive s.layout s.guest words.words guest
drive_relaying s plan q false k r words shadow_words state counts relayed guest device p =
    (p.view, p.device_view, p.kept.driven.ring, p.kept.driven.part.holds)
drive_relaying s plan q true k r words shadow_words state counts relayed guest device p =
    (p.view, p.device_view, p.kept.driven.ring, p.kept.driven.part.holds)

module _ {L D E G X C : Type 0} (s : Setting D E G X C) (plan : Plan) (q : ℕ) where
  -- the device is live where the lane holds neither
  pub passing_of : (on : Bool) (k r : ℕ) (words : RingWords) (still : Option E) (relaying : Option (Relaying L D E)) (relayed : ℕ)
      (guest : G) (device : X) → is_some still ≡ false → relaying ≡ None
      → InEpochWith s plan q on k r words still relaying relayed guest device
      → (on ≡ true) × IsPassing s plan q k r words relayed guest device
  passing_of true k r words None None relayed guest device is alone p = (refl, p)
  passing_of false k r words None None relayed guest device is alone p = absurd p
  passing_of on k r words None (Some x) relayed guest device is alone p = absurd (cc)
  passing_of on k r words (Some end) relaying relayed guest device is alone p = absurd (cc)

  pub in_epoch_none : (on : Bool) (k r : ℕ) (words : RingWords) (still : Option E) (relaying : Option (Relaying L D E)) (relayed : ℕ)
      (guest : G) (device : X) → is_some still ≡ false → relaying ≡ None → on ≡ true
      → IsPassing s plan q k r words relayed guest device → InEpochWith s plan q on k r words still relaying relayed guest device
  in_epoch_none true k r words None None relayed guest device is alone o p = p
  in_epoch_none false k r words None None relayed guest device is alone o p = absurd (false≢true o)
  in_epoch_none on k r words None (Some x) relayed guest device is alone o p = absurd (cc)
  in_epoch_none on k r words (Some end) relaying relayed guest device is alone o p = absurd (cc)

  -- it is still where it holds an end
  pub in_epoch_stopped : (on : Bool) (k r : ℕ) (words : RingWords) (still : Option E) (relaying : Option (Relaying L D E)) (relayed : ℕ)
      (guest : G) (device : X) (end : E) → still ≡ Some end → relaying ≡ None
      → IsStopped s plan q (k + 1) r words end relayed guest device
      → InEpochWith s plan q on k r words still relaying relayed guest device
  in_epoch_stopped on k r words None relaying relayed guest device end is alone p = absurd (cc)
  in_epoch_stopped on k r words (Some x) None relayed guest device end is alone p =
      subst (λ (z : E). IsStopped s plan q (k + 1) r words z relayed guest device) (some_same end x (Some x) is refl) p
  in_epoch_stopped on k r words (Some x) (Some y) relayed guest device end is alone p = absurd (cc)

  -- at any time the guest holds its end on the lane's ring
  pub can_drive : (on : Bool) (k r : ℕ) (words : RingWords) (still : Option E) (relaying : Option (Relaying L D E)) (relayed : ℕ)
      (guest : G) (device : X) → InEpochWith s plan q on k r words still relaying relayed guest device
      → CanDrive s.layout s.guest words.words guest
  can_drive true k r words None None relayed guest device p = (p.view, p.device_view, p.kept.driven.ring, p.kept.driven.part.holds)
  can_drive false k r words None None relayed guest device p = absurd p
  can_drive true k r words None (Some x) relayed guest device p =
      drive_relaying s plan q x.lane.relay.state.winding k r words x.words.words x.lane.relay.state x.lane.relay.counts relayed guest
      device p
  can_drive false k r words None (Some x) relayed guest device p = absurd p
  can_drive on k r words (Some end) None relayed guest device p =
      (p.view, p.device_view, p.kept.driven.ring, p.kept.driven.part.holds)
  can_drive on k r words (Some end) (Some x) relayed guest device p = absurd p

  pub waits_with : (law : IsLawful s) (on : Bool) (k r a : ℕ) → a ≤ 4 → (words words1 : RingWords) (still : Option E)
      (relaying : Option (Relaying L D E)) (relayed : ℕ) (guest guest1 : G) (device : X) → is_some still ≡ true
      → words1.ring ≡ words.ring → InEpochWith s plan q on k r words still relaying relayed guest device
      → GuestTurns s.layout s.guest words.words words1.words guest guest1 a
      → InEpochWith s plan q on k (r + 1) words1 still relaying relayed guest1 device
      × (steps s relayed guest1 device ≡ steps s relayed guest device + a)
  waits_with law on k r a few words words1 None relaying relayed guest guest1 device is same p t = absurd (cc)
  waits_with law on k r a few words words1 (Some end) None relayed guest guest1 device is same p t =
      waits s law plan q (k + 1) r a few words words1 end relayed guest guest1 device p same
      (t p.view p.device_view p.kept.driven.ring p.kept.driven.part.holds)
  waits_with law on k r a few words words1 (Some end) (Some x) relayed guest guest1 device is same p t = absurd p

  -- the device is suspended, and its end kept in the lane
  pub suspends : (law : IsLawful s) (k r a b : ℕ) → a ≤ 4 → b ≤ 4 → (words words1 words2 : RingWords) (still : Option E)
      (relaying : Option (Relaying L D E)) (relayed : ℕ) (guest guest1 : G) (device device2 device3 : X) (on : Bool)
      (p : IsPassing s plan q k r words relayed guest device) → words1.ring ≡ words.ring → words2.ring ≡ words1.ring
      → (t : GuestTurn s.layout s.guest words1.words p.view p.device_view guest guest1 a)
      → (u : DeviceTurn s.layout s.party words2.words t.run.view p.device_view device device2 b) → s.party.is_done device2
      → relaying ≡ None → IsSuspended s.device s.party device2 device3 still
      → InEpochWith s plan q on k (r + 1) words2 still relaying relayed guest1 device3
      × (steps s relayed guest1 device3 ≡ steps s relayed guest device + (a + b))
  suspends law k r a b few_a few_b words words1 words2 still relaying relayed guest guest1 device device2 device3 on p same1 same2 t u
      done alone z =
      let x = stops s law plan q k r a b few_a few_b words words1 words2 relayed guest guest1 device device2 device3 z.0 p same1 same2 t u
      done z.2 in
      (in_epoch_stopped on k (r + 1) words2 still relaying relayed guest1 device3 z.0 z.1 alone x.0, x.1)
