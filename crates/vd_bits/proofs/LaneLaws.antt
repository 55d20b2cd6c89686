-- What setting a lane does to the lanes.
use Rattle.std.proofs.Common.{◌≡◌, ◌≢◌, ℕ, zero, suc, ◌<◌, arith, refl}
use Rattle.vd_bits.specs.Lanes.{lane16, set_lane16, lane32, set_lane32}

pub set_same : (w i v : ℕ) → v < 65536 → i < 4 → lane16 (set_lane16 w i v) i ≡ v
set_same w zero v b h = omega arith
set_same w (suc zero) v b h = omega arith
set_same w (suc (suc zero)) v b h = omega arith
set_same w (suc (suc (suc i))) v b h = omega arith

pub set_other : (w i j v : ℕ) → v < 65536 → i < 4 → j < 4 → j ≢ i → lane16 (set_lane16 w i v) j ≡ lane16 w j
set_other w zero zero v b h k n = absurd (n refl)
set_other w zero (suc zero) v b h k n = omega arith
set_other w zero (suc (suc zero)) v b h k n = omega arith
set_other w zero (suc (suc (suc j))) v b h k n = omega arith
set_other w (suc zero) zero v b h k n = omega arith
set_other w (suc zero) (suc zero) v b h k n = absurd (n refl)
set_other w (suc zero) (suc (suc zero)) v b h k n = omega arith
set_other w (suc zero) (suc (suc (suc j))) v b h k n = omega arith
set_other w (suc (suc zero)) zero v b h k n = omega arith
set_other w (suc (suc zero)) (suc zero) v b h k n = omega arith
set_other w (suc (suc zero)) (suc (suc zero)) v b h k n = absurd (n refl)
set_other w (suc (suc zero)) (suc (suc (suc j))) v b h k n = omega arith
set_other w (suc (suc (suc i))) zero v b h k n = omega arith
set_other w (suc (suc (suc i))) (suc zero) v b h k n = omega arith
set_other w (suc (suc (suc i))) (suc (suc zero)) v b h k n = omega arith
set_other w (suc (suc (suc i))) (suc (suc (suc j))) v b h k n = let e : suc (suc (suc j)) ≡ suc (suc (suc i)) = omega arith in absurd (n e)

pub lane_small : (w i : ℕ) → lane16 w i < 65536
lane_small w zero = omega arith
lane_small w (suc zero) = omega arith
lane_small w (suc (suc zero)) = omega arith
lane_small w (suc (suc (suc i))) = omega arith

pub set_small : (w i v : ℕ) → w < 18446744073709551616 → v < 65536 → i < 4 → set_lane16 w i v < 18446744073709551616
set_small w zero v s b h = omega arith
set_small w (suc zero) v s b h = omega arith
set_small w (suc (suc zero)) v s b h = omega arith
set_small w (suc (suc (suc i))) v s b h = omega arith

pub half_same : (w i v : ℕ) → v < 4294967296 → lane32 (set_lane32 w i v) i ≡ v
half_same w zero v b = omega arith
half_same w (suc i) v b = omega arith

pub low_high : (w v : ℕ) → v < 4294967296 → lane32 (set_lane32 w 0 v) 1 ≡ lane32 w 1
low_high w v b = omega arith

pub high_low : (w v : ℕ) → lane32 (set_lane32 w 1 v) 0 ≡ lane32 w 0
high_low w v = omega arith

pub half_small : (w i v : ℕ) → w < 18446744073709551616 → v < 4294967296 → set_lane32 w i v < 18446744073709551616
half_small w zero v s b = omega arith
half_small w (suc i) v s b = omega arith

-- the halves and the lanes of the low half
pub low_lane : (w v i : ℕ) → i < 2 → lane16 (set_lane32 w 1 v) i ≡ lane16 w i
low_lane w v zero h = omega arith
low_lane w v (suc zero) h = omega arith
low_lane w v (suc (suc i)) h = absurd (omega arith)

pub lane_high : (w v : ℕ) → v < 65536 → lane32 (set_lane16 w 1 v) 1 ≡ lane32 w 1
lane_high w v b = omega arith
