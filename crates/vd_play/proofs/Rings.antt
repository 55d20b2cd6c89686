-- How many epochs before another are of the mode shadow.
use Rattle.std.proofs.Common.{◌≡◌, inl, inr, ℕ, zero, suc, add-one, ◌+◌, ◌-◌, ◌<◌, ◌≤◌, List, [], ◌∷◌, length, drop, get_or, refl, ◌∙◌, ap, arith}
use Rattle.std.proofs.lemmas.Bool.{cases_lt}
use Rattle.std.proofs.lemmas.List.{drop_more, drop_all}
use Rattle.vd_model.specs.declared.base.Mode.{Mode}
use Rattle.vd_model.specs.declared.base.Mode.TheVariants.{Pass, Shadow}
use Rattle.vd_machine.specs.File.{Plan}
use Rattle.vd_machine.specs.declared.machine.Switch.{Switch}
use Rattle.vd_play.specs.Epochs.{mode_after, mode_from, mode_at}
use Rattle.vd_play.specs.Rings.{shadow_count, shadows_from, shadows, shadows_before}

pub shadow_count_few : (m : Mode) → shadow_count m ≤ 1
shadow_count_few Pass = omega arith
shadow_count_few Shadow = omega arith

pub shadows_before_none : (plan : Plan) → shadows_before plan 0 ≡ 0
shadows_before_none plan = refl

-- epoch k is one more, where it is of the mode shadow
pub shadows_before_more : (plan : Plan) (k : ℕ) → shadows_before plan (k + 1) ≡ shadows_before plan k + shadow_count (mode_at plan k)
shadows_before_more plan k = ap (shadows_before plan) (add-one k)

pub shadows_before_pass : (plan : Plan) (k : ℕ) → mode_at plan k ≡ Pass → shadows_before plan (k + 1) ≡ shadows_before plan k
shadows_before_pass plan k m = omega (arith, shadows_before_more plan k, ap shadow_count m)

pub shadows_before_shadow : (plan : Plan) (k : ℕ) → mode_at plan k ≡ Shadow → shadows_before plan (k + 1) ≡ shadows_before plan k + 1
shadows_before_shadow plan k m = omega (arith, shadows_before_more plan k, ap shadow_count m)

after_more : (plan : Plan) (k more : ℕ) → shadows_before plan k ≤ shadows_before plan (k + more)
after_more plan k zero = let same : k + zero ≡ k = omega arith in omega (arith, ap (shadows_before plan) same)
after_more plan k (suc more) =
    let same : k + suc more ≡ k + more + 1 = omega arith in
    omega (arith, after_more plan k more, shadows_before_more plan (k + more), ap (shadows_before plan) same)

-- at most one for each epoch
pub shadows_before_low : (plan : Plan) (k : ℕ) → shadows_before plan k ≤ k
shadows_before_low plan zero = omega arith
shadows_before_low plan (suc k) = omega (arith, shadows_before_low plan k, shadow_count_few (mode_at plan k))

-- it never falls
pub shadows_before_rises : (plan : Plan) (j k : ℕ) → j ≤ k → shadows_before plan j ≤ shadows_before plan k
shadows_before_rises plan j k le =
    let same : j + (k - j) ≡ k = omega arith in omega (arith, after_more plan j (k - j), ap (shadows_before plan) same)

-- ---- all of them

abbrev before_from : List Switch → Mode → ℕ → ℕ
before_from ss m zero = 0
before_from ss m (suc k) = before_from ss m k + shadow_count (mode_from ss m k)

before_same : (plan : Plan) (k : ℕ) → shadows_before plan k ≡ before_from plan.switches plan.start k
before_same plan zero = refl
before_same plan (suc k) = ap (λ n. n + shadow_count (mode_at plan k)) (before_same plan k)

before_cons : (s : Switch) (ss : List Switch) (m : Mode) (k : ℕ)
    → before_from (s ∷ ss) m (suc k) ≡ shadow_count m + before_from ss (mode_after m s.to) k
before_cons s ss m zero = omega arith
before_cons s ss m (suc k) = omega (arith, before_cons s ss m k)

before_last : (m : Mode) (k : ℕ) → before_from [] m (suc k) ≡ shadow_count m
before_last m zero = omega arith
before_last m (suc k) = omega (arith, before_last m k)

before_all : (ss : List Switch) (m : Mode) (k : ℕ) → length ss < k → before_from ss m k ≡ shadows_from ss m
before_all ss m zero h = absurd (omega arith)
before_all [] m (suc k) h = before_last m k
before_all (s ∷ ss) m (suc k) h =
    before_cons s ss m k ∙ ap (λ n. shadow_count m + n) (before_all ss (mode_after m s.to) k (omega arith))

pub shadows_before_all : (plan : Plan) → shadows_before plan (length plan.switches + 2) ≡ shadows plan
shadows_before_all plan =
    let n : ℕ = length plan.switches + 2 in before_same plan n ∙ before_all plan.switches plan.start n (omega arith)

-- before any epoch there are no more than in all
pub shadows_before_most : (plan : Plan) (k : ℕ) → shadows_before plan k ≤ shadows plan
shadows_before_most plan k = elim (cases_lt (length plan.switches) k) [
  | inl h ↦ omega (arith, before_same plan k ∙ before_all plan.switches plan.start k h)
  | inr h ↦ omega (arith, shadows_before_rises plan k (length plan.switches + 2) (omega arith), shadows_before_all plan)
]

pub shadows_from_few : (ss : List Switch) (m : Mode) → shadows_from ss m ≤ length ss + 1
shadows_from_few [] m = omega (arith, shadow_count_few m)
shadows_from_few (s ∷ ss) m = omega (arith, shadow_count_few m, shadows_from_few ss (mode_after m s.to))

pub shadows_few : (plan : Plan) → shadows plan ≤ length plan.switches + 1
shadows_few plan = shadows_from_few plan.switches plan.start

-- before an epoch of the mode shadow there are fewer than in all
pub shadows_before_fewer : (plan : Plan) (k : ℕ) → k < length plan.switches + 2 → mode_at plan k ≡ Shadow
    → shadows_before plan k < shadows plan
shadows_before_fewer plan k h m = omega (
  arith,
  shadows_before_shadow plan k m,
  shadows_before_rises plan (k + 1) (length plan.switches + 2) (omega arith),
  shadows_before_all plan,
)

-- ---- as the code counts them

-- what was counted, and what the switches that are left add, is all
pub record IsCounting (all count : ℕ) (m : Mode) (ss : List Switch) : Type 0 where
  pub sum : count + shadows_from ss m ≡ all

pub counts_more : (all count count' : ℕ) (m m' : Mode) (ss : List Switch) (i : ℕ) (d : Switch) → i < length ss
    → count' ≡ count + shadow_count m → m' ≡ mode_after m (get_or ss i d).to → IsCounting all count m (drop i ss)
    → IsCounting all count' m' (drop (i + 1) ss)
counts_more all count count' m m' ss i d below more next h = record {
  sum = omega (
    arith,
    more,
    h.sum,
    ap (λ (xs : List Switch). shadows_from xs m) (drop_more ss i d below),
    ap (λ x. shadows_from (drop (i + 1) ss) x) next,
  );
}

pub counts_all : (all count : ℕ) (m : Mode) (ss : List Switch) (i : ℕ) → length ss ≤ i → IsCounting all count m (drop i ss)
    → count + shadow_count m ≡ all
counts_all all count m ss i end h = omega (arith, h.sum, ap (λ (xs : List Switch). shadows_from xs m) (drop_all i ss end))
