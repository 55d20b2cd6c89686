-- What a take and a give on the guest's ring leave of what was carried.
use Rattle.std.proofs.Common.{◌≡◌, ℕ, ◌<◌, ◌≤◌, Some, Option, List, [], ◌∷◌, ◌++◌, length, refl, sym, ◌∙◌, ap, arith, inl, inr}
use Rattle.std.proofs.lemmas.Bool.{cases_lt, eq-eqb, ne_eqb, lt-ltb, le-ltb}
use Rattle.vd_model.specs.declared.chain.Piece.{Piece}
use Rattle.vd_model.specs.Chains.{readable}
use Rattle.vd_ring.specs.declared.frame.Frame.{Frame}
use Rattle.vd_ring.specs.declared.frame.Used.{Used}
use Rattle.vd_ring.specs.declared.driver.DriverDone.{DriverDone}
use Rattle.vd_ring.specs.declared.device.DeviceDone.{DeviceDone}
use Rattle.vd_ring.specs.declared.device.DeviceDone.TheVariants.{Take, Give}
use Rattle.vd_ring.specs.History.{open_at, heads, takes, gives, taken_head, chain_at, numbers, occurs}
use Rattle.vd_ring.specs.Control.{last_ack}
use Rattle.vd_ring.proofs.Counts.{occurs-append}
use Rattle.std.proofs.lemmas.List.{get_or_append_left}
use Rattle.vd_control.specs.declared.settings.Settings.{Settings}
use Rattle.vd_commands.specs.Loads.{command_loads, ack_load}
use Rattle.vd_table.specs.declared.Command.{Command}
use Rattle.vd_relay.specs.Tie.{guests}
use Rattle.vd_relay.specs.Commanding.{Takeover, carries, IsCarried, IsLoaded, AreCarried}

-- ---- a take

-- what is known of an earlier chain
loads_taken : (s : List DeviceDone) (c : List Piece) (h j : ℕ) → j < length (takes s)
    → command_loads (Take c h ∷ s) j ≡ command_loads s j
loads_taken s c h j below = rw (ne_eqb (length (takes s)) j (λ e. absurd (omega (arith, e, below)))) refl

-- nothing is loaded yet of the new one
pub loads_new : (s : List DeviceDone) (c : List Piece) (h : ℕ) → command_loads (Take c h ∷ s) (length (takes s)) ≡ []
loads_new s c h = rw (eq-eqb (length (takes s)) (length (takes s)) refl) refl

chain_taken : (s : List DeviceDone) (c : List Piece) (h j : ℕ) → j < length (takes s)
    → chain_at (takes (Take c h ∷ s)) j ≡ chain_at (takes s) j
chain_taken s c h j below = get_or_append_left (takes s) (c ∷ []) [] j below

pub head_taken : (s : List DeviceDone) (c : List Piece) (h j : ℕ) → length (heads s) ≡ length (takes s) → j < length (takes s)
    → taken_head (Take c h ∷ s) j ≡ taken_head s j
head_taken s c h j even below = get_or_append_left (heads s) (h ∷ []) 0 j (omega (arith, even, below))

loaded_taken : (at_ack : ℕ → ℕ) (s : List DeviceDone) (c : List Piece) (h j : ℕ) (x : Command) → length (heads s) ≡ length (takes s)
    → j < length (takes s) → IsLoaded at_ack s j x → IsLoaded at_ack (Take c h ∷ s) j x
loaded_taken at_ack s c h j x even below l = record {
  numbered = l.numbered;
  ack = l.ack ∙ ap at_ack (sym (head_taken s c h j even below));
  bytes = l.bytes ∙ ap readable (sym (chain_taken s c h j below));
  few = l.few;
  words = loads_taken s c h j below ∙ l.words;
}

pub carried_taken : (z : Takeover) (table : List (Option Command)) (settings : Settings) (at_ack : ℕ → ℕ) (s : List DeviceDone) (g : Frame)
    (o : List DriverDone) (c : List Piece) (h : ℕ) → length (heads s) ≡ length (takes s)
    → ((k : ℕ) → IsCarried z o k → guests (carries z) k < length (takes s)) → ((k : ℕ) → 1 ≤ occurs k (open_at o) → IsCarried z o k)
    → AreCarried z table settings at_ack s g o → AreCarried z table settings at_ack (Take c h ∷ s) g o
carried_taken z table settings at_ack s g o c h even below all t = record {
  passed = λ k is.
      let p = t.passed k is in
      let low = below k is in
      record {
        bytes = p.bytes ∙ ap readable (sym (chain_taken s c h (guests (carries z) k) low));
        words = loads_taken s c h (guests (carries z) k) low ∙ p.words;
      };
  answered = t.answered;
  keeps = record {
    sized = t.keeps.sized;
    stored = λ k some.
        let q = t.keeps.stored k some in
        (q.0, q.1, loaded_taken at_ack s c h (guests (carries z) k) q.0 even (below k (all k some)) q.2, q.3);
    only = t.keeps.only;
  };
  settled = t.settled;
}

-- ---- a give

loaded_given : (at_ack : ℕ → ℕ) (s : List DeviceDone) (us : List Used) (j : ℕ) (x : Command) → IsLoaded at_ack s j x
    → IsLoaded at_ack (Give us ∷ s) j x
loaded_given at_ack s us j x l = record { numbered = l.numbered; ack = l.ack; bytes = l.bytes; few = l.few; words = l.words }

numbers_append : (us vs : List Used) → numbers (us ++ vs) ≡ numbers us ++ numbers vs
numbers_append [] vs = refl
numbers_append (u ∷ us) vs = ap (λ (ks : List ℕ). u.number ∷ ks) (numbers_append us vs)

-- each command that is given has the ack that was loaded for it
pub carried_given : (z : Takeover) (table : List (Option Command)) (settings : Settings) (at_ack : ℕ → ℕ) (s : List DeviceDone) (g : Frame)
    (o : List DriverDone) (us : List Used)
    → ((k : ℕ) → IsCarried z o k → 1 ≤ occurs (guests (carries z) k) (numbers us)
    → ack_load o k ≡ Some (last_ack s (taken_head s (guests (carries z) k))))
    → AreCarried z table settings at_ack s g o → AreCarried z table settings at_ack (Give us ∷ s) g o
carried_given z table settings at_ack s g o us acked t = record {
  passed = λ k is. let p = t.passed k is in record { bytes = p.bytes; words = p.words };
  answered = λ k is some.
      let n : ℕ = guests (carries z) k in
      elim (cases_lt 0 (occurs n (numbers us))) [
        | inl now ↦ rw (lt-ltb 0 (occurs n (numbers us)) now) (acked k is now)
        | inr none ↦
            let before : 1 ≤ occurs n (numbers (gives s)) = omega (
              arith,
              some,
              none,
              ap (occurs n) (numbers_append (gives s) us),
              occurs-append n (numbers (gives s)) (numbers us),
            ) in
            rw (le-ltb 0 (occurs n (numbers us)) none) (t.answered k is before)
      ];
  keeps = record {
    sized = t.keeps.sized;
    stored = λ k some.
        let q = t.keeps.stored k some in
        (q.0, q.1, loaded_given at_ack s us (guests (carries z) k) q.0 q.2, q.3);
    only = t.keeps.only;
  };
  settled = t.settled;
}
