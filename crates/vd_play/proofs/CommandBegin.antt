-- The control queue's lane before its device is attached: what its device has set, what is to be replayed, and the room that is there.
use Rattle.std.proofs.Common.{◌≡◌, ℕ, ◌+◌, ◌<◌, ◌≤◌, ◌^◌, Bool, true, false, if◌then◌else◌, Some, None, List, [], ◌∷◌, ◌++◌, length, length-append, map, slice_get, refl, sym, ◌∙◌, ap, subst, arith}
use Rattle.std.specs.List.{All}
use Rattle.std.proofs.lemmas.List.{length-map, get_or-map}
use Rattle.std.proofs.lemmas.List.Elements.{All-nil}
use Rattle.vd_model.specs.declared.base.Base.{Base}
use Rattle.vd_words.specs.Plain.{RingWords}
use Rattle.vd_ring.specs.declared.frame.Used.{Used}
use Rattle.vd_ring.specs.History.{used_at}
use Rattle.vd_bus.specs.declared.event.Event.{Event}
use Rattle.vd_bus.specs.declared.event.Event.TheVariants.{Reset}
use Rattle.vd_bus.specs.Device.{DeviceParty}
use Rattle.vd_control.specs.declared.settings.Settings.{Settings}
use Rattle.vd_control.specs.Settings.{default, folded, replay}
use Rattle.vd_control_lane.proofs.Macs.{IsByte}
use Rattle.vd_control_lane.proofs.Spelled.{folds_spelled}
use Rattle.vd_relay.specs.Modes.{replays_for}
use Rattle.vd_switch.specs.Account.{IsBegunBefore}
use Rattle.vd_switch.specs.CommandLanes.{IsSpelled}
use Rattle.vd_machine.specs.File.{Plan}
use Rattle.vd_play.specs.CommandLane.{command_events_before, command_resets}
use Rattle.vd_play.specs.CommandProgress.{IsCommandStopped}
use Rattle.vd_play.specs.Commands.{control_commands, control_epochs}
use Rattle.vd_play.specs.ControlJournal.{epoch_commands, commands_before, journalled_at, command_attach, command_suspend, command_events, control_events}
use Rattle.vd_play.specs.Epochs.{Epoch, renewed_at}
use Rattle.vd_play.specs.Renewing.{IsRenewed}
use Rattle.vd_play.specs.Setting.{Setting}
use Rattle.vd_play.proofs.Bounds.{flat_more, many_epochs}
use Rattle.vd_play.proofs.CommandBounds.{IsEpochOf, epoch_of, work_few}
use Rattle.vd_play.proofs.ControlRooms.{control_events_many}
use Rattle.vd_play.proofs.Lists.{length_le}
use Rattle.vd_play.proofs.NoCommands.{replay_default}
use Rattle.vd_play.proofs.Renewals.{Renews}
use Rattle.vd_play.proofs.Rooms.{front_of}

-- ---- a renewal

-- its device has set what was set, or the default
pub set_renewed : {X C : Type 0} (m : DeviceParty X C) (b : Bool) (was : Settings) (x y : X) → m.settings x ≡ was → IsRenewed m b x y
    → m.settings y ≡ (if b then default else was)
set_renewed m true was x y is h = h.settings
set_renewed m false was x y is h = ap m.settings h ∙ is

-- what is replayed can be spelled
pub again_spelled : (b : Bool) (s : Settings) (strings : List (List ℕ)) → All (All IsByte) strings → s ≡ folded strings
    → All IsSpelled (replay (replays_for b s))
again_spelled true s strings small is = subst (λ (z : Settings). All IsSpelled (replay z)) (sym is) (folds_spelled strings small)
again_spelled false s strings small is = subst (All IsSpelled) (sym replay_default) (All-nil IsSpelled)

-- ---- commands begun, each with the length of its ack

abbrev pub with_ack : List ℕ → List ℕ × ℕ
with_ack b = (b, 1)

pub acked_ones : (cs : List (List ℕ)) → All (λ y. y.1 ≡ 1) (map with_ack cs)
acked_ones cs i d low = ap (λ (y : List ℕ × ℕ). y.1) (get_or-map with_ack cs i [] d (omega (arith, low, length-map cs with_ack)))

acked_bytes : (cs : List (List ℕ)) → map (λ (x : List ℕ × ℕ). x.0) (map with_ack cs) ≡ cs
acked_bytes [] = refl
acked_bytes (c ∷ cs) = ap (λ xs. c ∷ xs) (acked_bytes cs)

-- what was given back of them, each with one byte
pub acked_before : (cs : List (List ℕ)) (us : List Used) → ((j : ℕ) → j < length us → (used_at us j).number < length cs)
    → ((j : ℕ) → j < length us → (used_at us j).len ≡ 1) → IsBegunBefore (map with_ack cs) cs us
acked_before cs us inside ones = record {
  chains = acked_bytes cs;
  inside = λ j low. omega (arith, inside j low, length-map cs with_ack);
  lens = λ j d low. ap (λ (y : List ℕ × ℕ). y.1) (get_or-map with_ack cs (used_at us j).number [] d (inside j low)) ∙ sym (ones j low);
}

-- ---- the room

-- epoch k has its reset, its attach and its suspension
epoch_many : (b c : Bool) (n m : ℕ) (x y : Event) → b ≡ c
    → length ((if b then Reset n ∷ [] else []) ++ x ∷ y ∷ []) ≡ length (if c then Reset m ∷ [] else []) + 2
epoch_many true true n m x y same = refl
epoch_many true false n m x y same = absurd (cc)
epoch_many false true n m x y same = absurd (cc)
epoch_many false false n m x y same = refl

-- what an attach to begin so many commands asks of the device
pub record AsksCommands {X C : Type 0} (m : DeviceParty X C) (device : X) (count : ℕ) : Type 0 where
  pub free : m.attached device ≡ None
  pub events : 2 ≤ m.event_room device
  pub chains : count ≤ m.chain_room device
  pub few : length (m.begun device) + count < 2 ^ 32

-- so many are begun in epoch k
abbrev pub IsCount : Plan → ℕ → ℕ → Type 0
IsCount plan k count = (ep : Epoch) → slice_get (control_epochs plan) k ≡ Some ep → count ≡ length (epoch_commands plan ep)

module _ {D E G X C : Type 0} (s : Setting D E G X C) (plan : Plan) (k r : ℕ) (words : RingWords) (end : E) (control : Bool)
    (settings : Settings) (relayed : ℕ) (guest : G) (device : X)
    (p : IsCommandStopped s plan k r words end control settings relayed guest device) (less : k < length plan.switches + 2) where
  pub this_epoch : IsEpochOf s.layout plan p.kept.driven.queue k
  this_epoch =
      epoch_of s.layout plan p.kept.driven.queue k (omega (arith, less, many_epochs plan (length (control_commands plan))))

  -- for the epoch's events
  pub command_room_before : length (command_resets plan k) + 2 ≤ s.party.event_room device
  command_room_before =
      let bases : ℕ → Base = p.rests.events.bases in
      let f : Epoch → List Event = command_events s.layout plan bases in
      let es : List Epoch = control_epochs plan in
      let ep : Epoch = this_epoch.bound.epoch in
      let at = p.kept.driven.queue.numbered.at k ep this_epoch.bound.is in
      omega (
        arith,
        p.rests.room,
        ap length p.rests.events.events,
        length-append (command_events_before s.layout plan bases k) [],
        length_le (command_events_before s.layout plan bases (k + 1)) (control_events s.layout plan bases) (front_of f es (k + 1)),
        ap length (flat_more f es k ep this_epoch.bound.is),
        length-append (command_events_before s.layout plan bases k) (f ep),
        epoch_many ep.renewed (renewed_at plan k) (journalled_at plan ep.number) (journalled_at plan k) (command_attach s.layout plan ep)
            (command_suspend plan bases ep) at.2,
        control_events_many s.layout plan bases,
      )

  -- its device can be reset, where the epoch begins with a renewal
  pub command_can_reset : (s.party.attached device ≡ None) × (1 ≤ s.party.event_room device)
  command_can_reset = (p.rests.free, omega (arith, command_room_before))

  pub counted_to : (count : ℕ) → IsCount plan k count → journalled_at plan k + count ≡ journalled_at plan (k + 1)
  counted_to count many = omega (
    arith,
    many this_epoch.bound.epoch this_epoch.bound.is,
    this_epoch.many,
    ap length this_epoch.begun,
    length-append (commands_before plan k) (epoch_commands plan this_epoch.bound.epoch),
  )

  pub asks_commands : (device1 : X) (count : ℕ) → Renews s.party (command_resets plan k) device device1 → IsCount plan k count
      → AsksCommands s.party device1 count
  asks_commands device1 count n many =
      let begun : length (s.party.begun device1) ≡ journalled_at plan k = ap length n.begun ∙ p.rests.begun in
      let to = counted_to count many in
      record {
        free = n.attached ∙ p.rests.free;
        events = omega (arith, command_room_before, n.event_room);
        chains = omega (arith, to, this_epoch.low, p.kept.reserved.room, n.chain_room, p.rests.begun);
        few = omega (arith, begun, to, this_epoch.low, work_few s.layout plan p.kept.driven.queue);
      }
