-- A relay of a control queue after an access of a command or ack word.
use Rattle.std.proofs.Common.{◌≡◌, ℕ, ◌≤◌, false, Option, List, [], ◌∷◌, length, slice_set, refl, sym, ◌∙◌, ap, subst, arith, inl}
use Rattle.vd_ring.specs.declared.frame.Frame.{Frame}
use Rattle.vd_ring.specs.declared.device.DeviceDone.{DeviceDone}
use Rattle.vd_ring.specs.declared.device.DeviceDone.TheVariants.{LoadCommand}
use Rattle.vd_ring.specs.declared.device.DeviceView.{DeviceView}
use Rattle.vd_ring.specs.declared.driver.DriverDone.TheVariants.{StoreCommand}
use Rattle.vd_ring.specs.declared.driver.DriverView.{DriverView}
use Rattle.vd_ring.specs.History.{offers, open_at, next_head, occurs}
use Rattle.vd_ring.proofs.HeldPlaces.{open_below}
use Rattle.vd_layout.specs.Driver.{DriverModel, IsLawfulDriver}
use Rattle.vd_layout.specs.Device.{DeviceModel}
use Rattle.vd_layout.specs.Layout.{LayoutModel}
use Rattle.vd_control.specs.declared.settings.Settings.{Settings}
use Rattle.vd_commands.specs.Loads.{CommandLoad, loaded}
use Rattle.vd_table.specs.declared.Command.{Command}
use Rattle.vd_relay.specs.declared.carry.Carry.{Carry}
use Rattle.vd_relay.specs.declared.carry.Carry.TheVariants as carry
use Rattle.vd_relay.specs.declared.carry.Found.{Found}
use Rattle.vd_relay.specs.declared.stage.Stage.{Stage}
use Rattle.vd_relay.specs.declared.state.State.{State}
use Rattle.vd_relay.specs.Stages.{OfferIs}
use Rattle.vd_relay.specs.Tie.{guests}
use Rattle.vd_relay.specs.Relay.{Stands}
use Rattle.vd_relay.specs.Replays.{IsShadowRing}
use Rattle.vd_relay.specs.Commanding.{Takeover, carries, IsCarried, AreCarried}
use Rattle.vd_relay.specs.Underway.{IsToOffer, IsFound, HandIs, IsStill, Commanding}
use Rattle.vd_relay.proofs.CarryStands.{IsBusy, acts_done, stands_loaded, stands_stored}
use Rattle.vd_relay.proofs.CarryTies.{loads_here, stored_here, stored_first, carried_loaded, carried_stored}

module _ {E D : Type 0} (l : LayoutModel) (e : DeviceModel E) (d : DriverModel D) (z : Takeover) (r : State E D)
    (t : List (Option Command)) (s : Settings) where
  -- while a command is in hand the relay's end doesn't rest: its acts are all
  pub carried_now : (hand : Carry) (w : DeviceView) (v : DriverView) → IsBusy r.stage → Commanding l e d z r hand t s w v
      → AreCarried z t s (e.words.ack w.frame) w.done v.frame v.done
  carried_now hand w v busy h = subst (λ (a : List DeviceDone). AreCarried z t s (e.words.ack w.frame) a v.frame v.done)
      (sym (acts_done r.stage h.stands.acts w.done busy h.stands.before)) h.carried

  pub commanding : (hand : Carry) (w : DeviceView) (v : DriverView) → IsBusy r.stage → Stands e d (carries z) r w v → IsShadowRing l v.frame
      → AreCarried z t s (e.words.ack w.frame) w.done v.frame v.done → HandIs e d z r w v hand → IsStill hand w v
      → Commanding l e d z r hand t s w v
  commanding hand w v busy stands ring carried in_hand still = record {
    stands = stands;
    ring = ring;
    carried = subst (λ (a : List DeviceDone). AreCarried z t s (e.words.ack w.frame) a v.frame v.done)
        (acts_done r.stage stands.acts w.done busy stands.before) carried;
    in_hand = in_hand;
    still = still;
  }

  to_offer : (w : DeviceView) (v : DriverView) (number : ℕ) → IsToOffer e d r w v number → IsBusy r.stage
  to_offer w v number h = inl (number, next_head v.frame v.done, h.stage)

  -- the number of the command in hand
  pub number_is : (w : DeviceView) (v : DriverView) (number : ℕ) → Stands e d (carries z) r w v → IsToOffer e d r w v number
      → number ≡ guests (carries z) (length (offers v.done))
  number_is w v number h o = (subst (λ (x : Stage). OfferIs x (guests (carries z)) v.frame v.done) o.stage h.offer).0

  pub all_carried : IsLawfulDriver d → (w : DeviceView) (v : DriverView) → Stands e d (carries z) r w v → (k : ℕ)
      → 1 ≤ occurs k (open_at v.done) → IsCarried z v.done k
  all_carried law w v h k some = record {
    not_replayed = h.tied.follows.closed k some;
    offered = open_below v.frame v.done k (law.places r.shadow v h.drives) some;
  }

  module _ (w : DeviceView) (v : DriverView) where
    ring_on : (u : DriverView) → u.frame ≡ v.frame → IsShadowRing l v.frame → IsShadowRing l u.frame
    ring_on u is h = subst (λ (f : Frame). IsShadowRing l f) (sym is) h

    offered_on : (number k i x : ℕ) → IsToOffer e d r w v number
        → IsToOffer e d r (record w { done = LoadCommand k i x ∷ w.done }) v number
    offered_on number k i x h = record {
      stage = h.stage;
      chain = h.chain;
      begun = h.begun;
      bytes = h.bytes;
      room = h.room;
      runs = h.runs;
    }

    found_on : (f : Found) (k i x : ℕ) → IsFound e w f → IsFound e (record w { done = LoadCommand k i x ∷ w.done }) f
    found_on f k i x h = record { place = h.place; ack = h.ack; bytes = h.bytes; few = h.few }

    pub first_loaded : IsLawfulDriver d → (f : Found) (x : ℕ) → Commanding l e d z r (carry.First f) t s w v
        → e.stands r.guest (record w { done = LoadCommand f.number 0 x ∷ w.done })
        → Commanding l e d z r (carry.Second f x) t s (record w { done = LoadCommand f.number 0 x ∷ w.done }) v
    first_loaded law f x h serves =
        let busy = to_offer w v f.number h.in_hand.0 in
        let u : DeviceView = record w { done = LoadCommand f.number 0 x ∷ w.done } in
        commanding (carry.Second f x) u v busy (stands_loaded e d z r w v h.stands busy u f.number 0 x refl serves) h.ring
        (carried_loaded z t s (e.words.ack w.frame) w.done v.frame v.done (carried_now (carry.First f) w v busy h) f.number 0 x
        (number_is w v f.number h.stands h.in_hand.0) (all_carried law w v h.stands)) (
          offered_on f.number f.number 0 x h.in_hand.0,
          found_on f f.number 0 x h.in_hand.1,
          loads_here w.done f.number 0 x ∙ ap (λ (ls : List CommandLoad). loaded 0 x ∷ ls) h.in_hand.2,
        ) h.still

    pub second_loaded : IsLawfulDriver d → (f : Found) (c : Command) (a x : ℕ) → c.number ≡ f.number → c.ack_place ≡ f.ack_place
        → c.count ≡ f.count → c.first ≡ a → c.second ≡ x → c.late ≡ false → Commanding l e d z r (carry.Second f a) t s w v
        → e.stands r.guest (record w { done = LoadCommand f.number 1 x ∷ w.done })
        → Commanding l e d z r (carry.StoreFirst c) t s (record w { done = LoadCommand f.number 1 x ∷ w.done }) v
    second_loaded law f c a x same ack count first second early h serves =
        let busy = to_offer w v f.number h.in_hand.0 in
        let u : DeviceView = record w { done = LoadCommand f.number 1 x ∷ w.done } in
        commanding (carry.StoreFirst c) u v busy (stands_loaded e d z r w v h.stands busy u f.number 1 x refl serves) h.ring
        (carried_loaded z t s (e.words.ack w.frame) w.done v.frame v.done (carried_now (carry.Second f a) w v busy h) f.number 1 x
        (number_is w v f.number h.stands h.in_hand.0) (all_carried law w v h.stands))
        (record {
          number = f.number;
          taken = offered_on f.number f.number 1 x h.in_hand.0;
          loaded = record {
            numbered = same;
            ack = ack ∙ h.in_hand.1.ack;
            bytes = count ∙ h.in_hand.1.bytes;
            few = omega (arith, count, h.in_hand.1.few);
            words = loads_here w.done f.number 1 x ∙ ap (λ (ls : List CommandLoad). loaded 1 x ∷ ls) h.in_hand.2
                ∙ ap (λ (y : ℕ). loaded 1 x ∷ loaded 0 y ∷ []) (sym first)
                ∙ ap (λ (y : ℕ). loaded 1 y ∷ loaded 0 c.first ∷ []) (sym second);
          };
          early = early;
        }) h.still

    -- the command words on the shadow ring
    offer_stored : (number p q i x : ℕ) → IsToOffer e d r w v number
        → IsToOffer e d r w (record v { done = StoreCommand q i x ∷ v.done; stored = slice_set v.stored p x }) number
    offer_stored number p q i x h = record {
      stage = h.stage;
      chain = h.chain;
      begun = h.begun;
      bytes = h.bytes;
      room = h.room;
      runs = h.runs;
    }

    pub first_stored : (c : Command) (p : ℕ) → Commanding l e d z r (carry.StoreFirst c) t s w v
        → d.stands r.shadow
        (record v { done = StoreCommand (next_head v.frame v.done) 0 c.first ∷ v.done; stored = slice_set v.stored p c.first })
        → Commanding l e d z r (carry.StoreSecond c) t s w
        (record v { done = StoreCommand (next_head v.frame v.done) 0 c.first ∷ v.done; stored = slice_set v.stored p c.first })
    first_stored c p h drives =
        let busy = to_offer w v h.in_hand.number h.in_hand.taken in
        let q : ℕ = next_head v.frame v.done in
        let u : DriverView = record v { done = StoreCommand q 0 c.first ∷ v.done; stored = slice_set v.stored p c.first } in
        commanding (carry.StoreSecond c) w u busy (stands_stored e d z r w v h.stands busy u p q 0 c.first refl drives)
        (ring_on u refl h.ring)
        (carried_stored z t s (e.words.ack w.frame) w.done v.frame v.done (carried_now (carry.StoreFirst c) w v busy h) q 0 c.first) (
          record { number = h.in_hand.number; taken = offer_stored h.in_hand.number p q 0 c.first h.in_hand.taken; loaded = h.in_hand.loaded; early = h.in_hand.early },
          stored_here v.done q 0 c.first,
        ) h.still

    pub second_stored : (c : Command) (p : ℕ) → Commanding l e d z r (carry.StoreSecond c) t s w v
        → d.stands r.shadow
        (record v { done = StoreCommand (next_head v.frame v.done) 1 c.second ∷ v.done; stored = slice_set v.stored p c.second })
        → Commanding l e d z r (carry.Offer c) t s w
        (record v { done = StoreCommand (next_head v.frame v.done) 1 c.second ∷ v.done; stored = slice_set v.stored p c.second })
    second_stored c p h drives =
        let held = h.in_hand.0 in
        let busy = to_offer w v held.number held.taken in
        let q : ℕ = next_head v.frame v.done in
        let u : DriverView = record v { done = StoreCommand q 1 c.second ∷ v.done; stored = slice_set v.stored p c.second } in
        commanding (carry.Offer c) w u busy (stands_stored e d z r w v h.stands busy u p q 1 c.second refl drives) (ring_on u refl h.ring)
        (carried_stored z t s (e.words.ack w.frame) w.done v.frame v.done (carried_now (carry.StoreSecond c) w v busy h) q 1 c.second) (
          record { number = held.number; taken = offer_stored held.number p q 1 c.second held.taken; loaded = held.loaded; early = held.early },
          stored_first v.done q c.second ∙ h.in_hand.1,
          stored_here v.done q 1 c.second,
        ) tt
