-- The test of the event index, on numbers modulo 65,536.
use Rattle.std.specs.Prelude.{ℕ, ◌+◌, ◌-◌, ◌%◌, Bool, nat_lt}

-- the difference modulo 65,536
abbrev pub apart : ℕ → ℕ → ℕ
apart a b = (a + (65536 - b)) % 65536

-- (new - event - 1) mod 65,536 is below (new - old) mod 65,536 (VIRTIO 1.2, 2.7.10)
abbrev pub need_event : ℕ → ℕ → ℕ → Bool
need_event event new old = nat_lt (apart (apart new event) 1) (apart new old)
