-- What was taken and loaded on a control ring, before a rest too, and the bytes of two words.
use Rattle.std.proofs.Common.{◌≡◌, ℕ, ◌<◌, ◌≤◌, Bool, Some, List, [], ◌∷◌, length, if◌then◌else◌, ◌∙◌, ap, subst, arith, inl, inr}
use Rattle.std.proofs.lemmas.Bool.{cases_lt, cases_eq, ne_eqb}
use Rattle.std.proofs.lemmas.List.{get_or_append_left, get_or_push, get_or-take, get_or_past, length_push, length-take}
use Rattle.vd_model.specs.declared.chain.Piece.{Piece}
use Rattle.vd_ring.specs.declared.driver.DriverDone.{DriverDone}
use Rattle.vd_ring.specs.declared.driver.DriverDone.TheVariants.{Offer, Collect, StoreCommand, LoadAck}
use Rattle.vd_ring.specs.declared.device.DeviceDone.{DeviceDone}
use Rattle.vd_ring.specs.declared.device.DeviceDone.TheVariants.{Take, Give, Rest, StoreAck, LoadCommand}
use Rattle.vd_ring.specs.History.{takes, gives, chain_at, numbers, occurs}
use Rattle.vd_ring.specs.Lists.{AreTakes}
use Rattle.vd_ring.specs.Control.{AcksAgree}
use Rattle.vd_control.specs.declared.command.Command.{Command}
use Rattle.vd_control.specs.Commands.{spelled}
use Rattle.vd_commands.specs.Loads.{ack_load}
use Rattle.vd_commands.specs.Words.{command_word, word_bytes}
use Rattle.vd_commands.proofs.Filled.{bytes_come_back}
use Rattle.vd_relay.proofs.ReplayChains.{spelled_few}
use Rattle.vd_switch.specs.CommandLanes.{IsSpelled}

-- each chain taken is the one offered with its number
pub ever_at : (cs : List (List Piece)) (ps : List (List ℕ)) (s : List DeviceDone) → AreTakes cs ps s → (k : ℕ) → k < length (takes s)
    → (k < length cs) × (chain_at (takes s) k ≡ chain_at cs k)
ever_at cs ps [] h k low = absurd (omega arith)
ever_at cs ps (Take c q ∷ s) h k low = elim (cases_lt k (length (takes s))) [
  | inl a ↦ (
      let was = ever_at cs ps s h.3 k a in
      (was.0, get_or_append_left (takes s) (c ∷ []) [] k a ∙ was.1)
      )
  | inr b ↦ (
      let e : length (takes s) ≡ k = omega (arith, length_push (takes s) c) in
      (omega (arith, h.0, e), get_or_push (takes s) c [] k e ∙ h.1 ∙ ap (chain_at cs) e)
      )
]
ever_at cs ps (Give us ∷ s) h k low = ever_at cs ps s h k low
ever_at cs ps (Rest ∷ s) h k low =
    let given : k < length (gives s) = omega (arith, length-take (length (gives s)) (takes s)) in
    let was = ever_at cs ps s h k (omega (arith, length-take (length (gives s)) (takes s))) in
    (was.0, get_or-take (length (gives s)) (takes s) k [] given ∙ was.1)
ever_at cs ps (StoreAck q x ∷ s) h k low = ever_at cs ps s h k low
ever_at cs ps (LoadCommand j i x ∷ s) h k low = ever_at cs ps s h k low

-- a chain whose ack was loaded was given
pub load_given : (o : List DriverDone) (s : List DeviceDone) (k x : ℕ) → AcksAgree o s → ack_load o k ≡ Some x
    → 1 ≤ occurs k (numbers (gives s))
load_given [] s k x agree is = absurd cc
load_given (Offer c ∷ o) s k x agree is = load_given o s k x agree is
load_given (Collect us ∷ o) s k x agree is = load_given o s k x agree is
load_given (StoreCommand h i y ∷ o) s k x agree is = load_given o s k x agree is
load_given (LoadAck l y ∷ o) s k x agree is = elim (cases_eq l k) [
  | inl e ↦ subst (λ (j : ℕ). 1 ≤ occurs j (numbers (gives s))) e agree.0
  | inr ne ↦ load_given o s k x agree.2
      (subst (λ (b : Bool). (if b then Some y else ack_load o k) ≡ Some x) (ne_eqb l k ne) is)
]

pub same_bytes : (n m a b x y : ℕ) → n ≡ m → a ≡ b → x ≡ y → word_bytes n a x ≡ word_bytes m b y
same_bytes n m a b x y e f g = ap (λ (k : ℕ). word_bytes k a x) e ∙ ap (λ (k : ℕ). word_bytes m k x) f ∙ ap (λ (k : ℕ). word_bytes m b k) g

-- the bytes of a command come back from its words
pub spelled_back : (c : Command) → IsSpelled c
    → word_bytes (length (spelled c)) (command_word (spelled c) 0) (command_word (spelled c) 1) ≡ spelled c
spelled_back c h = bytes_come_back (spelled c) (omega (arith, (spelled_few c h.lawful).1)) (λ i. elim (cases_lt i (length (spelled c))) [
  | inl low ↦ h.bytes i 0 low
  | inr past ↦ omega (arith, get_or_past {X = ℕ} (spelled c) i 0 past)
])
