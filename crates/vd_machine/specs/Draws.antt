-- The numbers that are drawn from a seed, one after the other.
use Rattle.std.specs.Prelude.{ℕ, zero, suc, ◌+◌, ◌*◌, ◌^◌, ◌/◌, ◌%◌, List, [], ◌∷◌}

-- the number after x
abbrev pub next_number : ℕ → ℕ
next_number x = (x * 6364136223846793005 + 1442695040888963407) % 2 ^ 64

-- what is drawn from x: the number after it without its lower 33 bits
abbrev pub draw : ℕ → ℕ
draw x = next_number x / 2 ^ 33

-- so many things, each drawn from the number that the one before leaves: they and the number that the last leaves
unfoldable pub several : {A : Type 0} → (ℕ → A × ℕ) → ℕ → ℕ → List A × ℕ
several one zero x = ([], x)
several one (suc n) x = ((one x).0 ∷ (several one n (one x).1).0, (several one n (one x).1).1)
