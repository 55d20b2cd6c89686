-- Which armed positions a published range signals.
use Rattle.std.proofs.Common.{◌≡◌, ℕ, ◌+◌, ◌-◌, ◌/◌, ◌%◌, ◌<◌, ◌≤◌, ◌⊎◌, Bool, true, false, Some, refl, sym, subst, arith, inl, inr}
use Rattle.std.proofs.lemmas.Bool.Decides.{nat_tests}
use Rattle.vd_bits.specs.Lanes.{is_even}
use Rattle.vd_event.specs.declared.rule.EventRule.{EventRule}
use Rattle.vd_event.specs.declared.rule.EventRule.TheVariants.{SplitFlags, SplitIndex, Packed}
use Rattle.vd_event.specs.Words.{packed_word, offset_of, wrap_of, flags_of, arm_word, off_word, reach, IsArmable, IsOn}
use Rattle.vd_event.specs.Rings.{HasPlace, Rings, period}
use Rattle.vd_event.proofs.LapLaws.{apart}
use Rattle.vd_event.proofs.Among.{packed_rings, rings_packed}

-- the parts of a packed word
pub flags-packed : (o f : ℕ) (w : Bool) → o < 32768 → f < 4 → flags_of (packed_word o w f) ≡ f
flags-packed o f true h k = omega arith
flags-packed o f false h k = omega arith

pub offset-packed : (o f : ℕ) (w : Bool) → o < 32768 → offset_of (packed_word o w f) ≡ o
offset-packed o f true h = omega arith
offset-packed o f false h = omega arith

pub wrap-packed : (o f : ℕ) (w : Bool) → o < 32768 → wrap_of (packed_word o w f) ≡ w
wrap-packed o f true h = grind (arith, nat_tests)
wrap-packed o f false h = grind (arith, nat_tests)

-- a side that waits for a position of the range is told
pub rings_armed : (rule : EventRule) (old new s : ℕ) → IsArmable rule → new - old ≤ reach rule → old ≤ s → s < new
    → Rings rule old new (arm_word rule s)
rings_armed SplitFlags old new s a near low high = refl
rings_armed SplitIndex old new s a near low high = grind (arith, nat_tests)
rings_armed (Packed n) old new s a near low high =
    let o : s % n < 32768 = omega (arith, a.0, a.1) in
    rings_packed n old new (arm_word (Packed n) s) (inr (
      flags-packed (s % n) 2 (is_even (s / n)) o (omega arith),
      (s, low, high, sym (offset-packed (s % n) 2 (is_even (s / n)) o), sym (wrap-packed (s % n) 2 (is_even (s / n)) o)),
    ))

-- one that waits for a position outside it, less than a period away, isn't
pub quiet_apart : (rule : EventRule) (old new s : ℕ) → IsArmable rule → old < new → new - old ≤ reach rule → new ≤ s + period rule
    → s < old + period rule
    → (s < old) ⊎ (new ≤ s) → Rings rule old new (arm_word rule s) → ⊥
quiet_apart SplitFlags old new s a some near low high side r = omega arith
quiet_apart SplitIndex old new s a some near low high side r = grind (arith, nat_tests)
quiet_apart (Packed n) old new s a some near low high side r =
    let o : s % n < 32768 = omega (arith, a.0, a.1) in
    let f : flags_of (packed_word (s % n) (is_even (s / n)) 2) ≡ 2 = flags-packed (s % n) 2 (is_even (s / n)) o (omega arith) in
    elim (packed_rings n old new (arm_word (Packed n) s) (omega arith) r) [
      | inl none ↦ absurd (omega (arith, f, none))
      | inr named ↦ apart n old new s (omega (arith, a.0)) low high side
          (let P : ℕ → Type 0 = λ x. HasPlace n old new x (is_even (s / n)) in
          let Q : Bool → Type 0 = λ w. HasPlace n old new (offset_of (packed_word (s % n) (is_even (s / n)) 2)) w in
          subst P (offset-packed (s % n) 2 (is_even (s / n)) o) (subst Q (wrap-packed (s % n) 2 (is_even (s / n)) o) named.1))
    ]

-- a side that wants no signal gets none
pub quiet_off : (rule : EventRule) (old new word : ℕ) → off_word rule ≡ Some word → Rings rule old new word → ⊥
quiet_off SplitFlags old new word e r = grind (arith, nat_tests)
quiet_off SplitIndex old new word e r = cc
quiet_off (Packed n) old new word e r = grind (arith, nat_tests)

-- a side that wants every signal gets it
pub rings_on : (rule : EventRule) (old new word : ℕ) → IsOn rule word → Rings rule old new word
rings_on SplitFlags old new word e = grind (arith, nat_tests)
rings_on SplitIndex old new word e = absurd e
rings_on (Packed n) old new word e = rings_packed n old new word (inl (omega (arith, e)))
