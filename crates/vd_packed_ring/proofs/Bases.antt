-- The bases of positions.
use Rattle.std.proofs.Common.{◌≡◌, ℕ, ◌+◌, ◌*◌, ◌/◌, ◌%◌, ◌<◌, ◌≤◌, nat_lt, true, refl, arith}
use Rattle.std.proofs.lemmas.Bool.{lt-ltb}
use Rattle.std.proofs.lemmas.Nat.{mod_below}
use native.Mathlib.Nat.{mod-eq_of_lt, div-eq_of_lt}
use Rattle.vd_packed_ring.specs.PackedWords.{wrap_bit, base_at, is_base}

half_low : (n q : ℕ) → 0 < n → n ≤ 32768 → (q % n < n) × (wrap_bit n q ≤ 1)
half_low n q pos few = (mod_below q n pos, omega arith)

lower : (h w n : ℕ) → h < n → n ≤ 32768 → w ≤ 1 → (65537 * (h + 32768 * w)) % 32768 ≡ h
lower h w n a b c = omega arith

upper : (h w n : ℕ) → h < n → n ≤ 32768 → w ≤ 1 → ((65537 * (h + 32768 * w)) / 65536) % 32768 ≡ h
upper h w n a b c = omega arith

-- the base at a position is one of the ring's
pub lawful_base : (n q : ℕ) → 2 ≤ n → n ≤ 32768 → is_base n (base_at n q) ≡ true
lawful_base n q least most =
    let low = half_low n q (omega arith) most in
    let a : nat_lt (base_at n q % 32768) n ≡ true =
    lt-ltb (base_at n q % 32768) n (omega (arith, lower (q % n) (wrap_bit n q) n low.0 most low.1, low.0)) in
    let b : nat_lt ((base_at n q / 65536) % 32768) n ≡ true =
    lt-ltb ((base_at n q / 65536) % 32768) n (omega (arith, upper (q % n) (wrap_bit n q) n low.0 most low.1, low.0)) in
    rw (a, b) refl

pub fresh_base : (n : ℕ) → 2 ≤ n → base_at n 0 ≡ 2147516416
fresh_base n least = let d : 0 / n ≡ 0 = div-eq_of_lt (let x : 0 < n = omega arith in x) in let m : 0 % n ≡ 0 =
    mod-eq_of_lt (let x : 0 < n = omega arith in x) in omega arith
