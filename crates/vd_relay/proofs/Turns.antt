-- At either end, a turn that worked or handled a chain is no sleep, as its answer is none.
use Rattle.std.proofs.Common.{◌≡◌, ◌≢◌, ◌↔◌}
use Rattle.vd_relay.specs.declared.counts.Turn.TheVariants.{Worked, Handled, Slept}

pub worked_only : {A : Type 0} {asleep : A} (answer : A) → answer ≢ asleep → (Worked ≡ Slept) ↔ (answer ≡ asleep)
worked_only answer n = ((λ y. absurd (cc y)), λ y. absurd (n y))

pub handled_only : {A : Type 0} {asleep : A} (answer : A) → answer ≢ asleep → (Handled ≡ Slept) ↔ (answer ≡ asleep)
handled_only answer n = ((λ y. absurd (cc y)), λ y. absurd (n y))
