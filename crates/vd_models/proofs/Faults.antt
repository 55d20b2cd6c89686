-- How many attaches were asked of a faulty device.
use Rattle.std.proofs.Common.{◌≡◌, ◌≢◌, ℕ, ◌+◌, ◌-◌, ◌<◌, ◌≤◌, Bool, true, false, List, [], ◌∷◌, ◌++◌, length, drop, nat_lt, if◌then◌else◌, Result, Ok, Err, MatchResult, refl, sym, ◌∙◌, ap, arith, inl, inr}
use Rattle.std.proofs.lemmas.Bool.{cases_eq, cases_lt, lt-ltb, ltb-true}
use Rattle.std.proofs.lemmas.List.{drop-append-le, length_push}
use Rattle.vd_bus.specs.declared.event.Event.{Event}
use Rattle.vd_bus.specs.declared.event.Event.TheVariants.{Attach, Suspend, Reset}
use Rattle.vd_models.specs.declared.refusal.Refusal.{Refusal}
use Rattle.vd_bus.specs.Pace.{attaches}
use Rattle.vd_models.specs.Faulty.{asked, refused, was_refused}

attaches_push : (es : List Event) (e : Event) → attaches (es ++ e ∷ []) ≡ attaches es + attaches (e ∷ [])
attaches_push [] e = omega arith
attaches_push (Attach at ring base mode settings map ∷ es) e = omega (arith, attaches_push es e)
attaches_push (Suspend at base ∷ es) e = attaches_push es e
attaches_push (Reset at ∷ es) e = attaches_push es e

-- an event more
pub asked_push : (r : Refusal) (es es' : List Event) (e : Event) (n : ℕ) → r.after ≤ length es → es' ≡ es ++ e ∷ []
    → asked r es' n ≡ asked r es n + attaches (e ∷ [])
asked_push r es es' e n low is = omega (
  arith,
  ap (λ zs. attaches (drop r.after zs)) is ∙ ap attaches
      (drop-append-le r.after es (e ∷ []) low) ∙ attaches_push (drop r.after es) e,
)

pub after_push : (r : Refusal) (es es' : List Event) (e : Event) → r.after ≤ length es → es' ≡ es ++ e ∷ [] → r.after ≤ length es'
after_push r es es' e low is = omega (arith, ap length is, length_push es e)

-- the test of a number
not_below : (n m : ℕ) → m ≤ n → nat_lt n m ≡ false
not_below n m h = at (nat_lt n m) refl
  where
    at : (b : Bool) → nat_lt n m ≡ b → b ≡ false
    at false e = refl
    at true e = absurd (omega (arith, ltb-true n m e))

pub record Count (number left : ℕ) : Type 0 where
  pub none : number ≡ 0 → was_refused number left ≡ 0
  pub before : 0 < left → was_refused number left ≡ 0
  pub after : 0 < number → left ≡ 0 → was_refused number left ≡ 1

pub count : (number left : ℕ) → Count number left
count number left = record {
  none = λ e. ap {B = ℕ} (λ b. if b then (if nat_lt 0 left then 0 else 1) else 0) (not_below 0 number (omega arith));
  before = λ h. at (nat_lt 0 number) (nat_lt 0 left) (lt-ltb 0 left h);
  after = λ h e. ap {B = ℕ} (λ b. if b then (if nat_lt 0 left then 0 else 1) else 0) (lt-ltb 0 number h) ∙ ap {B = ℕ}
      (λ b. if b then 0 else 1) (not_below 0 left (omega arith));
}
  where
    at : (a b : Bool) → b ≡ true → ◌≡◌ {A = ℕ} (if a then (if b then 0 else 1) else 0) 0
    at true true e = refl
    at true false e = absurd (cc)
    at false b e = refl

pub refused_at : (number asked left : ℕ) → left ≡ number - asked → was_refused number left ≡ refused number asked
refused_at number asked left is = elim (cases_lt 0 number) [
  | inl some ↦ elim (cases_lt asked number) [
    | inl low ↦ (count number left).before (omega arith) ∙ sym
        (ap {B = ℕ} (λ b. if b then (if nat_lt asked number then 0 else 1) else 0) (lt-ltb 0 number some) ∙ ap {B = ℕ}
        (λ b. if b then 0 else 1) (lt-ltb asked number low))
    | inr high ↦ (count number left).after some (omega arith) ∙ sym
        (ap {B = ℕ} (λ b. if b then (if nat_lt asked number then 0 else 1) else 0) (lt-ltb 0 number some) ∙ ap {B = ℕ}
        (λ b. if b then 0 else 1) (not_below asked number high))
  ]
  | inr zero ↦ (count number left).none (omega arith) ∙ sym
      (ap {B = ℕ} (λ b. if b then (if nat_lt asked number then 0 else 1) else 0) (not_below 0 number zero))
]

-- an attach more, where the next one isn't the one of the number
pub one_more : (number left a : ℕ) → left ≢ 1 → left ≡ number - (a + was_refused number left)
    → left - 1 ≡ number - (a + 1 + was_refused number (left - 1))
one_more number left a next is = elim (cases_eq left 0) [
  | inl none ↦ (let e : left - 1 ≡ left = omega arith in omega (arith, ap (was_refused number) e))
  | inr some ↦ omega (arith, (count number left).before (omega arith), (count number (left - 1)).before (omega arith))
]

pub accepted : {T E : Type 0} (r : Result T E) (A : T → Type 0) (B : E → Type 0) → MatchResult r A B → ((x : E) → B x → ⊥) → (x : T) × A x
accepted (Ok x) A B h n = (x, h)
accepted (Err x) A B h n = absurd (n x h)
