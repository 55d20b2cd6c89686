-- The numbers that are drawn from a seed.
use Rattle.std.specs.Prelude.{ℕ, ◌+◌, ◌*◌, ◌^◌, ◌/◌, ◌%◌}

-- the number after x
abbrev pub next_number : ℕ → ℕ
next_number x = (x * 6364136223846793005 + 1442695040888963407) % 2 ^ 64

-- how many steps it gives
abbrev pub drawn : ℕ → ℕ
drawn x = 1 + (next_number x / 2 ^ 33) % 4
