-- What an access of a command or ack word leaves of what was carried.
use Rattle.std.proofs.Common.{◌≡◌, ℕ, ◌<◌, ◌≤◌, Some, Option, List, [], ◌∷◌, length, refl, sym, ◌∙◌, ap, arith}
use Rattle.std.proofs.lemmas.Bool.{eq-eqb, ne_eqb}
use Rattle.vd_ring.specs.declared.frame.Frame.{Frame}
use Rattle.vd_ring.specs.declared.driver.DriverDone.{DriverDone}
use Rattle.vd_ring.specs.declared.driver.DriverDone.TheVariants.{StoreCommand, LoadAck}
use Rattle.vd_ring.specs.declared.device.DeviceDone.{DeviceDone}
use Rattle.vd_ring.specs.declared.device.DeviceDone.TheVariants.{LoadCommand, StoreAck}
use Rattle.vd_ring.specs.History.{offers, open_at, occurs}
use Rattle.vd_ring.specs.Control.{last_command, last_ack}
use Rattle.vd_control.specs.declared.settings.Settings.{Settings}
use Rattle.vd_commands.specs.Loads.{CommandLoad, command_loads, loaded, AreLoaded, ack_load}
use Rattle.vd_table.specs.declared.Command.{Command}
use Rattle.vd_relay.specs.Tie.{guests}
use Rattle.vd_relay.specs.Commanding.{Takeover, carries, IsCarried, IsLoaded, AreCarried}

-- chains of the shadow ring stand for different ones of the guest's
pub guests_apart : (z : Takeover) (k n : ℕ) → z.replayed ≤ k → k < n → guests (carries z) n ≡ guests (carries z) k → ⊥
guests_apart z k n own below is = absurd (omega (arith, is))

pub loads_other : (s : List DeviceDone) (number j i x : ℕ) → (number ≡ j → ⊥)
    → command_loads (LoadCommand number i x ∷ s) j ≡ command_loads s j
loads_other s number j i x ne = rw (ne_eqb number j ne) refl

pub loads_here : (s : List DeviceDone) (number i x : ℕ)
    → command_loads (LoadCommand number i x ∷ s) number ≡ loaded i x ∷ command_loads s number
loads_here s number i x = rw (eq-eqb number number refl) refl

loaded_other : (at_ack : ℕ → ℕ) (s : List DeviceDone) (number j i x : ℕ) (c : Command) → (number ≡ j → ⊥) → IsLoaded at_ack s j c
    → IsLoaded at_ack (LoadCommand number i x ∷ s) j c
loaded_other at_ack s number j i x c ne h = record {
  numbered = h.numbered;
  ack = h.ack;
  bytes = h.bytes;
  few = h.few;
  words = loads_other s number j i x ne ∙ h.words;
}

pub loaded_acked : (at_ack : ℕ → ℕ) (s : List DeviceDone) (j q x : ℕ) (c : Command) → IsLoaded at_ack s j c
    → IsLoaded at_ack (StoreAck q x ∷ s) j c
loaded_acked at_ack s j q x c h = record { numbered = h.numbered; ack = h.ack; bytes = h.bytes; few = h.few; words = h.words }

module _ (z : Takeover) (table : List (Option Command)) (settings : Settings) (at_ack : ℕ → ℕ) (s : List DeviceDone) (g : Frame)
    (o : List DriverDone) (h : AreCarried z table settings at_ack s g o) where
  -- a word is loaded of the command that is offered next
  pub carried_loaded : (number i x : ℕ) → number ≡ guests (carries z) (length (offers o))
      → ((k : ℕ) → 1 ≤ occurs k (open_at o) → IsCarried z o k) → AreCarried z table settings at_ack (LoadCommand number i x ∷ s) g o
  carried_loaded number i x is all = record {
    passed = λ k c.
        let p = h.passed k c in
        record {
          bytes = p.bytes;
          words = loads_other s number (guests (carries z) k) i x (other k c) ∙ p.words;
        };
    answered = h.answered;
    keeps = record {
      sized = h.keeps.sized;
      stored = λ k some.
          let q = h.keeps.stored k some in
          (q.0, q.1, loaded_other at_ack s number (guests (carries z) k) i x q.0 (other k (all k some)) q.2, q.3);
      only = h.keeps.only;
    };
    settled = h.settled;
  }
    where
      other : (k : ℕ) → IsCarried z o k → number ≡ guests (carries z) k → ⊥
      other k c e = guests_apart z k (length (offers o)) c.not_replayed c.offered (sym is ∙ e)

  pub carried_acked : (q x : ℕ) → AreCarried z table settings at_ack (StoreAck q x ∷ s) g o
  carried_acked q x = record {
    passed = λ k c. let p = h.passed k c in record { bytes = p.bytes; words = p.words };
    answered = h.answered;
    keeps = record {
      sized = h.keeps.sized;
      stored = λ k some.
          let r = h.keeps.stored k some in
          (r.0, r.1, loaded_acked at_ack s (guests (carries z) k) q x r.0 r.2, r.3);
      only = h.keeps.only;
    };
    settled = h.settled;
  }

  pub carried_stored : (q i x : ℕ) → AreCarried z table settings at_ack s g (StoreCommand q i x ∷ o)
  carried_stored q i x = record {
    passed = λ k c.
        let p = h.passed k (record { not_replayed = c.not_replayed; offered = c.offered }) in
        record { bytes = p.bytes; words = p.words };
    answered = λ k c given. h.answered k (record { not_replayed = c.not_replayed; offered = c.offered }) given;
    keeps = record {
      sized = h.keeps.sized;
      stored = λ k some.
          let c = h.keeps.stored k some in
          (c.0, c.1, c.2, record { none = c.3.none; late = c.3.late });
      only = h.keeps.only;
    };
    settled = h.settled;
  }

-- ---- single words

pub stored_here : (o : List DriverDone) (q i x : ℕ) → last_command (StoreCommand q i x ∷ o) q i ≡ x
stored_here o q i x = rw (eq-eqb q q refl) (rw (eq-eqb i i refl) refl)

pub stored_first : (o : List DriverDone) (q x : ℕ) → last_command (StoreCommand q 1 x ∷ o) q 0 ≡ last_command o q 0
stored_first o q x = rw (eq-eqb q q refl) refl

pub answered_here : (o : List DriverDone) (k x : ℕ) → ack_load (LoadAck k x ∷ o) k ≡ Some x
answered_here o k x = rw (eq-eqb k k refl) refl

pub acked_here : (s : List DeviceDone) (q x : ℕ) → last_ack (StoreAck q x ∷ s) q ≡ x
acked_here s q x = rw (eq-eqb q q refl) refl

-- the words that were loaded for a command are one pair
pub words_same : (ls : List CommandLoad) (a b c d : ℕ) → AreLoaded ls a b → AreLoaded ls c d → (a ≡ c) × (b ≡ d)
words_same ls a b c d h k = (ap second_word (sym h ∙ k), ap first_word (sym h ∙ k))
  where
    first_word : List CommandLoad → ℕ
    first_word [] = 0
    first_word (x ∷ xs) = x.word

    second_word : List CommandLoad → ℕ
    second_word [] = 0
    second_word (x ∷ xs) = first_word xs
