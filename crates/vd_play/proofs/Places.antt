-- The places of a machine's queues on its bus.
use Rattle.std.proofs.Common.{◌≡◌, ℕ, ◌<◌, ◌≤◌, ◌==◌, ◌&&◌, ◌||◌, Bool, true, false, nat_lt, if◌then◌else◌, length, is_some, ◌⊎◌, inl, inr, refl, sym, subst, arith}
use Rattle.std.proofs.lemmas.Bool.{lt-ltb, le-ltb, cases_eq, false≢true}
use Rattle.vd_bus.specs.Bus.{BusState, control_queue, queue_count}
use Rattle.vd_machine.specs.File.{Plan}
use Rattle.vd_play.specs.Places.{HasControl, queue_total, control_place}

-- the queue of the number n stands at the place p
pub record IsAt (plan : Plan) (n p : ℕ) : Type 0 where
  pub there : (nat_lt n (length plan.queues) || (n == control_queue && is_some plan.control)) ≡ true
  pub place : (if nat_lt n (length plan.queues) then n else length plan.queues) ≡ p
  pub within : p < queue_total plan

below_count : (n q : ℕ) (c : Bool) → q < n → q < queue_count n c
below_count n q true low = omega (arith, low)
below_count n q false low = low

pub data_within : (plan : Plan) (q : ℕ) → q < length plan.queues → q < queue_total plan
data_within plan q low = below_count (length plan.queues) q (is_some plan.control) low

pub data_at : (plan : Plan) (q : ℕ) → q < length plan.queues → IsAt plan q q
data_at plan q low = record {
  there = rw (lt-ltb q (length plan.queues) low) refl;
  place = rw (lt-ltb q (length plan.queues) low) refl;
  within = data_within plan q low;
}

behind : (n : ℕ) (c : Bool) → c ≡ true → n < queue_count n c
behind n true has = omega arith
behind n false has = absurd (false≢true has)

pub control_within : (plan : Plan) → HasControl plan → control_place plan < queue_total plan
control_within plan has = behind (length plan.queues) (is_some plan.control) has

pub control_at : (plan : Plan) → length plan.queues ≤ control_queue → HasControl plan → IsAt plan control_queue (control_place plan)
control_at plan few has = record {
  there = rw (le-ltb control_queue (length plan.queues) few) has;
  place = rw (le-ltb control_queue (length plan.queues) few) refl;
  within = control_within plan has;
}

either : (n p : ℕ) (c : Bool) → p < queue_count n c → (p < n) ⊎ ((c ≡ true) × (p ≡ n))
either n p true below = elim (cases_eq p n) [
  | inl e ↦ inr (refl, e)
  | inr other ↦ inl (omega (arith, below, other))
]
either n p false below = inl below

-- what holds of each data queue, and of the control queue where there is one, holds at each place
pub each_place : (plan : Plan) (P : ℕ → Type 0) → ((q : ℕ) → q < length plan.queues → P q) → (HasControl plan → P (control_place plan))
    → (p : ℕ) → p < queue_total plan → P p
each_place plan P each control p below = elim (either (length plan.queues) p (is_some plan.control) below) [
  | inl low ↦ each p low
  | inr it ↦ subst P (sym it.1) (control it.0)
]

by_control : (c : Bool) (P : BusState → Type 0) (x b : BusState) → (c ≡ true → P x) → (c ≡ false → P b) → P (if c then x else b)
by_control true P x b on off = on refl
by_control false P x b on off = off refl

-- a bus that is another one where there is a control queue
pub where_control : (plan : Plan) (P : BusState → Type 0) (x b c : BusState) → c ≡ (if is_some plan.control then x else b)
    → (HasControl plan → P x) → (is_some plan.control ≡ false → P b) → P c
where_control plan P x b c is on off = subst P (sym is) (by_control (is_some plan.control) P x b on off)
