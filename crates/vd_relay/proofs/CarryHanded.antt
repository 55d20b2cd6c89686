-- A command that was taken and carried is in hand.
use Rattle.std.proofs.Common.{◌≡◌, ℕ, ◌+◌, ◌<◌, ◌≤◌, false, Option, List, [], ◌∷◌, length, if◌then◌else◌, refl, sym, ◌∙◌, ap, subst, arith, inl}
use Rattle.std.specs.List.{Contains}
use Rattle.std.proofs.lemmas.List.{get_or_push}
use Rattle.vd_model.specs.declared.chain.Piece.{Piece}
use Rattle.vd_model.specs.Chains.{readable, readable_len}
use Rattle.vd_ring.specs.declared.frame.Frame.{Frame}
use Rattle.vd_ring.specs.declared.device.DeviceDone.{DeviceDone}
use Rattle.vd_ring.specs.declared.device.DeviceDone.TheVariants.{Take}
use Rattle.vd_ring.specs.declared.device.DeviceNow.TheVariants as device
use Rattle.vd_ring.specs.declared.device.DeviceView.{DeviceView}
use Rattle.vd_ring.specs.declared.driver.DriverView.{DriverView}
use Rattle.vd_ring.specs.History.{offers, free, heads, takes, running, taken_head, chain_at, next_head}
use Rattle.vd_ring.proofs.Counts.{occurs_push, one_same, Contains_from}
use Rattle.vd_ring.proofs.Rooms.{sum_map}
use Rattle.vd_layout.specs.Begun.{DriverOp}
use Rattle.vd_layout.specs.Driver.{DriverModel}
use Rattle.vd_layout.specs.Device.{DeviceModel}
use Rattle.vd_layout.specs.Layout.{LayoutModel, IsLawfulLayout}
use Rattle.vd_control.specs.declared.settings.Settings.{Settings}
use Rattle.vd_commands.specs.Loads.{command_loads}
use Rattle.vd_table.specs.declared.Command.{Command}
use Rattle.vd_relay.specs.declared.carry.Carry.{Carry}
use Rattle.vd_relay.specs.declared.carry.Carry.TheVariants as carry
use Rattle.vd_relay.specs.declared.carry.Found.{Found}
use Rattle.vd_relay.specs.declared.commander.Commander.{Commander}
use Rattle.vd_relay.specs.declared.stage.Stage.{Stage}
use Rattle.vd_relay.specs.declared.stage.Stage.TheVariants as stage
use Rattle.vd_relay.specs.declared.state.State.{State}
use Rattle.vd_relay.specs.Stages.{BeforeRest, OfferIs, is_rested, is_shadow}
use Rattle.vd_relay.specs.Pace.{guest_owes, shadow_owes}
use Rattle.vd_relay.specs.Carrying.{IsCommandAt}
use Rattle.vd_relay.specs.Ways.{bare}
use Rattle.vd_relay.specs.Tie.{guests}
use Rattle.vd_relay.specs.Relay.{Stands}
use Rattle.vd_relay.specs.Carriers.{IsHanded}
use Rattle.vd_relay.specs.Commanders.{commander}
use Rattle.vd_relay.specs.Commanding.{Takeover, carries, IsCarried, AreCarried}
use Rattle.vd_relay.specs.Underway.{IsToOffer, IsFound, Commanding, owed, due}
use Rattle.vd_relay.proofs.Ops.{guest_idle}
use Rattle.vd_relay.proofs.CarryPlaces.{is_command_at}
use Rattle.vd_relay.proofs.CarryChains.{readable_is}
use Rattle.vd_relay.proofs.CarryStands.{IsBusy}
use Rattle.vd_relay.proofs.CarryTakes.{loads_new, carried_taken}
use Rattle.vd_relay.proofs.CarryWords.{commanding, all_carried}

-- until its end rests a relay's acts are all
pub live_acts : (st : Stage) (s t : List DeviceDone) → is_rested st ≡ false → BeforeRest st s t → t ≡ s
live_acts (stage.Offering n h) s t live b = b
live_acts stage.Taking s t live b = b
live_acts (stage.Collecting n) s t live b = b
live_acts stage.Giving s t live b = b
live_acts stage.ArmingGuest s t live b = b
live_acts stage.ArmingShadow s t live b = b
live_acts stage.HearingGuest s t live b = b
live_acts stage.HearingShadow s t live b = b
live_acts stage.DisarmingGuest s t live b = b
live_acts stage.DisarmingShadow s t live b = b
live_acts stage.Resting s t live b = b
live_acts stage.Rested s t live b = absurd (cc live)

-- a chain is as long without its addresses
readable_bare : (c : List Piece) → readable (bare c) ≡ readable c
readable_bare c = sum_map readable_len (λ (p : Piece). record p { addr = 0 }) c

pub same_readable : (c x : List Piece) → bare x ≡ bare c → readable x ≡ readable c
same_readable c x is = sym (readable_bare x) ∙ ap (λ (y : List Piece). readable y) is ∙ readable_bare c

-- ---- the chain taken last

module _ (s : List DeviceDone) (c : List Piece) (h : ℕ) where
  chain_last : chain_at (takes (Take c h ∷ s)) (length (takes s)) ≡ c
  chain_last = get_or_push (takes s) c [] (length (takes s)) refl

  head_last : length (heads s) ≡ length (takes s) → taken_head (Take c h ∷ s) (length (takes s)) ≡ h
  head_last even = get_or_push (heads s) h 0 (length (takes s)) even

  runs_last : Contains (running (Take c h ∷ s)) (length (takes s))
  runs_last = Contains_from (length (takes s)) (running (Take c h ∷ s)) (omega (
    arith,
    occurs_push (length (takes s)) (running s) (length (takes s)),
    one_same (length (takes s)) (length (takes s)) refl,
  ))

module _ {E D : Type 0} (l : LayoutModel) (e : DeviceModel E) (d : DriverModel D) (lay : IsLawfulLayout d e l) (z : Takeover)
    (r r' : State E D) (t : List (Option Command)) (settings : Settings) (x x' : Commander) (w w' : DeviceView) (v : DriverView)
    (h : Commanding l e d z r carry.None t settings w v) (live : is_rested r.stage ≡ false) (idle : d.begun r.shadow ≡ DriverOp.idle)
    (frame : w'.frame ≡ w.frame) (stands : Stands e d (carries z) r' w' v)
    (k : IsHanded (commander l) e d (carries z).way x x' r' w w' v) (has_free : 1 ≤ length (free v.frame v.done)) where
  busy : IsBusy r'.stage
  busy = inl (k.number, next_head v.frame v.done, k.next)

  even : length (heads w.done) ≡ length (takes w.done)
  even = (lay.device_end.runs r.guest w h.stands.serves).as_many

  abbrev pub found : Found
  found = record {
    number = length (takes w.done);
    place = e.words.command w.frame k.head;
    ack_place = e.words.ack w.frame k.head;
    count = readable k.chain;
  }

  new_number : length (takes w.done) ≡ guests (carries z) (length (offers v.done))
  new_number = sym k.numbered ∙ (subst (λ (y : Stage). OfferIs y (guests (carries z)) v.frame v.done) k.next
      stands.offer).0

  below : (j : ℕ) → IsCarried z v.done j → guests (carries z) j < length (takes w.done)
  below j c = omega (arith, new_number, c.not_replayed, c.offered)

  carried_next : AreCarried z t settings (e.words.ack w'.frame) w'.done v.frame v.done
  carried_next =
      let now = subst (λ (a : List DeviceDone). AreCarried z t settings (e.words.ack w.frame) a v.frame v.done)
      (sym (live_acts r.stage h.stands.acts w.done live h.stands.before)) h.carried in
      subst (λ (a : List DeviceDone). AreCarried z t settings (e.words.ack w'.frame) a v.frame v.done) (sym k.done)
      (subst (λ (f : Frame). AreCarried z t settings (e.words.ack f) (Take k.chain k.head ∷ w.done) v.frame v.done) (sym frame)
      (carried_taken z t settings (e.words.ack w.frame) w.done v.frame v.done k.chain k.head even below
      (all_carried l e d z r t settings lay.driver_end w v h.stands) now))

  at : IsCommandAt (e.words.command w.frame k.head) (e.words.ack w.frame k.head) k.chain
  at = is_command_at l d e lay w k.head (lay.device_framed r.guest w h.stands.serves) h.stands.paired.guest_control k.taken.inside k.chain
      k.taken

  few : readable k.chain ≤ 10
  few =
      let c = k.taken.control h.stands.paired.guest_control in
      omega (arith, readable_is (e.words.command w.frame k.head) (e.words.ack w.frame k.head) k.chain c, c.most)

  to_offer : IsToOffer e d r' w' v (length (takes w.done))
  to_offer = record {
    stage = k.next ∙ ap (λ (n : ℕ). stage.Offering n (next_head v.frame v.done)) k.numbered;
    chain = k.offered;
    begun = k.begun;
    bytes = same_readable k.chain k.offered k.carried.carries
        ∙ ap (λ (y : List Piece). readable y) (sym (chain_last w.done k.chain k.head))
        ∙ ap (λ (y : List DeviceDone). readable (chain_at (takes y) (length (takes w.done)))) (sym k.done);
    room = has_free;
    runs = subst (λ (y : List DeviceDone). Contains (running y) (length (takes w.done))) (sym k.done) (runs_last w.done k.chain k.head);
  }

  is_found : IsFound e w' found
  is_found =
      let same : taken_head w'.done (length (takes w.done)) ≡ k.head
      = ap (λ (y : List DeviceDone). taken_head y (length (takes w.done))) k.done ∙ head_last w.done k.chain k.head even in
      record {
        place = ap (λ (f : Frame). e.words.command f k.head) (sym frame) ∙ ap (λ (q : ℕ). e.words.command w'.frame q) (sym same);
        ack = ap (λ (f : Frame). e.words.ack f k.head) (sym frame) ∙ ap (λ (q : ℕ). e.words.ack w'.frame q) (sym same);
        bytes = ap (λ (y : List Piece). readable y) (sym (chain_last w.done k.chain k.head))
            ∙ ap (λ (y : List DeviceDone). readable (chain_at (takes y) (length (takes w.done)))) (sym k.done);
        few = few;
      }

  hand_is : x'.hand ≡ carry.First found
  hand_is = k.carried.took.1 (e.words.command w.frame k.head) (e.words.ack w.frame k.head) at ∙ ap (λ (n : ℕ). carry.First (record {
    number = n;
    place = e.words.command w.frame k.head;
    ack_place = e.words.ack w.frame k.head;
    count = readable k.chain;
  })) k.numbered

  guest_still : w'.doing ≡ device.Idle
  guest_still = lay.device_end.at_rest r'.guest w' stands.serves
      (guest_idle r'.stage (e.begun r'.guest) (ap is_shadow k.next) stands.guest)

  -- it stands so, with the first load due
  pub handed : Commanding l e d z r' x'.hand t settings w' v
  handed = subst (λ (y : Carry). Commanding l e d z r' y t settings w' v) (sym hand_is)
      (commanding l e d z r' t settings (carry.First found) w' v busy stands h.ring carried_next (
        to_offer,
        is_found,
        ap (λ (y : List DeviceDone). command_loads y (length (takes w.done))) k.done ∙ loads_new w.done k.chain k.head,
      )
      (guest_still, lay.driver_end.at_rest r.shadow v h.stands.drives idle))

  -- and what it owes is paid for by the take: four accesses, and those of the offer
  pub handed_paid : d.left r'.shadow ≤ 38 → owed e d r' x'.hand w' v + 1 ≤ 64
  handed_paid short = omega (
    arith,
    short,
    ap due hand_is,
    ap (λ (y : Stage). if is_shadow y then shadow_owes r'.winding y (d.begun r'.shadow) v.doing w'.shown v.shown (d.left r'.shadow)
        else guest_owes r'.winding y (e.begun r'.guest) w'.doing w'.shown v.shown (e.left r'.guest)) k.next,
    ap (λ (o : DriverOp). shadow_owes r'.winding (stage.Offering k.number (next_head v.frame v.done)) o v.doing w'.shown v.shown
        (d.left r'.shadow)) k.begun,
  )
