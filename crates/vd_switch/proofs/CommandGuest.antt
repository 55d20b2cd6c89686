-- What an access of the guest leaves of its commands, and what an access of the relay on the guest's ring leaves of the acks there.
use Rattle.std.proofs.Common.{◌≡◌, ◌⊎◌, ℕ, ◌<◌, ◌≤◌, List, [], ◌∷◌, ◌++◌, length, take, refl, sym, ◌∙◌, ap, arith, inl, inr}
use Rattle.std.proofs.lemmas.Bool.{ne_eqb, le-ltb}
use Rattle.std.proofs.lemmas.List.{length_push, append_cancel_left, append-nil, take-append-le}
use Rattle.vd_model.specs.Chains.{readable}
use Rattle.vd_ring.specs.declared.driver.DriverDone.{DriverDone}
use Rattle.vd_ring.specs.declared.driver.DriverDone.TheVariants.{Offer, Collect, StoreCommand, LoadAck}
use Rattle.vd_ring.specs.declared.driver.DriverView.{DriverView}
use Rattle.vd_ring.specs.declared.device.DeviceDone.{DeviceDone}
use Rattle.vd_ring.specs.declared.device.DeviceDone.TheVariants.{Take, Give, Rest, StoreAck, LoadCommand}
use Rattle.vd_ring.specs.declared.device.DeviceView.{DeviceView}
use Rattle.vd_ring.specs.declared.frame.Frame.{Frame}
use Rattle.vd_ring.specs.declared.frame.Used.{Used}
use Rattle.vd_ring.specs.Control.{ack_of, command_of}
use Rattle.vd_ring.specs.History.{offers, gives, chain, numbers, occurs}
use Rattle.vd_ring.proofs.Counts.{one_other}
use Rattle.vd_ring.proofs.HeldPlaces.{chain_before}
use Rattle.vd_bus.specs.Acts.{IsOneActMore}
use Rattle.vd_commands.specs.Words.{ack_byte}
use Rattle.vd_relay.specs.Settling.{bytes_of}
use Rattle.vd_switch.specs.CommandLanes.{AreAnsweredTo, guest_commands}
use Rattle.vd_switch.proofs.CommandLists.{front, commands_count, command_at}
use Rattle.vd_switch.proofs.CommandWords.{same_bytes}

-- ---- the guest's commands

bytes_at : (f : Frame) (o : List DriverDone) (act : DriverDone) (k : ℕ) → k < length (offers o) → bytes_of f (act ∷ o) k ≡ bytes_of f o k
bytes_at f o (Offer c) k low =
    let ne : length (offers o) ≡ k → ⊥ = λ e. absurd (omega (arith, e, low)) in
    same_bytes (readable (chain (Offer c ∷ o) k)) (readable (chain o k)) (command_of f (Offer c ∷ o) k 0) (command_of f o k 0)
    (command_of f (Offer c ∷ o) k 1) (command_of f o k 1) (ap readable (chain_before o c k low))
    (rw (ne_eqb (length (offers o)) k ne) refl) (rw (ne_eqb (length (offers o)) k ne) refl)
bytes_at f o (Collect us) k low = refl
bytes_at f o (StoreCommand h i x) k low = refl
bytes_at f o (LoadAck j x) k low = refl

module _ (v v' : DriverView) (same : v'.frame ≡ v.frame) (acts : IsOneActMore v.done v'.done) where
  -- the bytes of a command that was offered stay
  pub bytes_stay : (k : ℕ) → k < length (offers v.done) → bytes_of v'.frame v'.done k ≡ bytes_of v.frame v.done k
  bytes_stay k low = ap (λ (f : Frame). bytes_of f v'.done k) same ∙ elim acts as (λ _. bytes_of v.frame v'.done k ≡ bytes_of v.frame v.done k) [
    | inl is ↦ ap (λ (o : List DriverDone). bytes_of v.frame o k) is
    | inr more ↦ ap (λ (o : List DriverDone). bytes_of v.frame o k) more.1 ∙ bytes_at v.frame v.done more.0 k low
  ]

  grown : (act : DriverDone) → length (offers v.done) ≤ length (offers (act ∷ v.done))
  grown (Offer c) = omega (arith, length_push (offers v.done) c)
  grown (Collect us) = omega arith
  grown (StoreCommand h i x) = omega arith
  grown (LoadAck j x) = omega arith

  pub more_offers : length (offers v.done) ≤ length (offers v'.done)
  more_offers = elim acts as (λ _. length (offers v.done) ≤ length (offers v'.done)) [
    | inl is ↦ omega (arith, ap (λ (o : List DriverDone). length (offers o)) is)
    | inr more ↦ omega (arith, ap (λ (o : List DriverDone). length (offers o)) more.1, grown more.0)
  ]

  -- and so do the first of them
  pub commands_stay : (n : ℕ) → n ≤ length (offers v.done) → take n (guest_commands v') ≡ take n (guest_commands v)
  commands_stay n low =
      let was = front (guest_commands v) (guest_commands v') (omega (arith, commands_count v, commands_count v', more_offers))
      (λ i x below.
      let inside : i < length (offers v.done) = omega (arith, below, commands_count v) in
      command_at v i x inside ∙ sym (bytes_stay i inside) ∙ sym (command_at v' i x (omega (arith, inside, more_offers)))) in
      ap (take n) (sym was.1) ∙ take-append-le n (guest_commands v) was.0 (omega (arith, low, commands_count v))

  pub answers_stay : (w : DeviceView) (n : ℕ) → n ≤ length (offers v.done) → AreAnsweredTo n v w → AreAnsweredTo n v' w
  answers_stay w n low h = λ k below. h k below ∙ ap ack_byte (sym (bytes_stay k (omega (arith, below, low))))

-- ---- the acks on the guest's ring

-- a give of none of the first n chains leaves their acks
ack_at : (s : List DeviceDone) (act : DeviceDone) (k : ℕ) → ((us : List Used) → act ≡ Give us → occurs k (numbers us) ≡ 0)
    → ack_of (act ∷ s) k ≡ ack_of s k
ack_at s (Take c h) k none = refl
ack_at s (Give us) k none = rw (le-ltb 0 (occurs k (numbers us)) (omega (arith, none us refl))) refl
ack_at s Rest k none = refl
ack_at s (StoreAck h x) k none = refl
ack_at s (LoadCommand j i x) k none = refl

pub acks_stay : (s s' : List DeviceDone) (k : ℕ) → IsOneActMore s s'
    → ((gives s' ≡ gives s) ⊎ ((u : Used) × (gives s' ≡ gives s ++ u ∷ []) × (u.number ≡ k → ⊥))) → ack_of s' k ≡ ack_of s k
acks_stay s s' k (inl is) gave = ap (λ (x : List DeviceDone). ack_of x k) is
acks_stay s s' k (inr more) gave = ap (λ (x : List DeviceDone). ack_of x k) more.1 ∙ ack_at s more.0 k (none more.0 more.1)
  where
    none : (act : DeviceDone) → s' ≡ act ∷ s → (us : List Used) → act ≡ Give us → occurs k (numbers us) ≡ 0
    none act is us give =
        let now : gives s' ≡ gives s ++ us = ap gives is ∙ ap (λ (x : DeviceDone). gives (x ∷ s)) give in
        elim gave as (λ _. occurs k (numbers us) ≡ 0) [
          | inl same ↦ (
              let empty : us ≡ [] = append_cancel_left (gives s) us [] (sym now ∙ same ∙ sym (append-nil (gives s))) in
              ap (λ (x : List Used). occurs k (numbers x)) empty
              )
          | inr one ↦ (
              let is_one : us ≡ one.0 ∷ [] = append_cancel_left (gives s) us (one.0 ∷ []) (sym now ∙ one.1) in
              ap (λ (x : List Used). occurs k (numbers x)) is_one ∙ omega (arith, one_other one.0.number k one.2)
              )
        ]
