-- The bag of a ring's chains, and its steps. The bag has the state of each number from 0 on.
use Rattle.std.specs.Prelude.{◌≡◌, ℕ, ◌<◌, ◌≤◌, Bool, true, List, [], ◌∷◌, ◌++◌, length, map, slice_index_or, slice_set}
use Rattle.std.specs.List.{All}
use Rattle.vd_ring.specs.declared.frame.Used.{Used}
use Rattle.vd_ring.specs.History.{used_at, numbers, occurs}

pub data State : Type 0 where
  offered : State
  running : State
  returned : ℕ → State

abbrev pub state : List State → ℕ → State
state b k = slice_index_or b k offered

-- adds, as offered, the number that equals the count of numbers
abbrev pub IsOffer : ℕ → List State → List State → Type 0
IsOffer k b b' = (k ≡ length b) × (b' ≡ b ++ offered ∷ [])

-- turns one offered number into running
abbrev pub IsBegin : ℕ → List State → List State → Type 0
IsBegin k b b' = (k < length b) × (state b k ≡ offered) × (b' ≡ slice_set b k running)

-- turns these running numbers, one after the other, into returned with their lengths
abbrev pub Ends : List Used → List State → List State → Type 0
Ends [] b b' = b' ≡ b
Ends (u ∷ us) b b' = (u.number < length b) × (state b u.number ≡ running) × Ends us (slice_set b u.number (returned u.len)) b'

-- turns one or more running numbers into returned, each with its length; more than one only under IN_ORDER, and then they are the
-- lowest running ones
pub record IsEnd (in_order : Bool) (us : List Used) (b b' : List State) : Type 0 where
  pub some : 1 ≤ length us
  pub ends : Ends us b b'
  pub ordered : 1 < length us → in_order ≡ true
  pub lowest : 1 < length us → (k : ℕ) → k < length b → state b k ≡ running → occurs k (numbers us) ≡ 0 → All (λ u. u.number < k) us

abbrev pub back : State → State
back offered = offered
back running = offered
back (returned len) = returned len

-- turns every running number into offered again
abbrev pub IsTakeBack : List State → List State → Type 0
IsTakeBack b b' = b' ≡ map back b

-- the numbers not begun are offered, those begun and not given are running, those given are returned with their lengths
pub record Stands (offers begun : ℕ) (g : List Used) (b : List State) : Type 0 where
  pub all : length b ≡ offers
  pub waits : (k : ℕ) → begun ≤ k → k < offers → state b k ≡ offered
  pub runs : (k : ℕ) → k < begun → occurs k (numbers g) ≡ 0 → state b k ≡ running
  pub done : (j : ℕ) → j < length g → state b (used_at g j).number ≡ returned (used_at g j).len
