-- A chain has 16 descriptors at most, so a position is at most 16 times the number of chains before it.
use Rattle.std.proofs.Common.{ℕ, suc, ◌*◌, ◌<◌, ◌≤◌, Bool, true, false, List, [], ◌∷◌, length, nat_lt, if◌then◌else◌, arith}
use Rattle.std.specs.List.{sum_by}
use Rattle.std.proofs.lemmas.List.Sums.{sum_by-cons}
use Rattle.vd_model.specs.declared.chain.Piece.{Piece}
use Rattle.vd_model.specs.Chains.{IsChain, needs}
use Rattle.vd_ring.specs.declared.frame.Frame.{Frame}
use Rattle.vd_ring.specs.declared.frame.Used.{Used}
use Rattle.vd_ring.specs.declared.driver.DriverDone.{DriverDone}
use Rattle.vd_ring.specs.Frames.{limit}
use Rattle.vd_ring.specs.History.{offers, chain, chain_at}
use Rattle.vd_ring.specs.Places.{Places}
use Rattle.vd_ring.proofs.HeldPlaces.{chain_fits}
use Rattle.vd_packed_ring.specs.PackedPositions.{offer_position}

pub few_each : (g : List Piece → ℕ) (cs : List (List Piece)) → ((k : ℕ) → k < length cs → g (chain_at cs k) ≤ 16)
    → sum_by g cs ≤ 16 * length cs
few_each g [] each = omega arith
few_each g (c ∷ cs) each = omega (arith, sum_by-cons g c cs, each 0 (omega arith), few_each g cs (λ k low. each (suc k) (omega arith)))

pub few_used : (g : Used → ℕ) (us : List Used) → ((u : Used) → g u ≤ 16) → sum_by g us ≤ 16 * length us
few_used g [] each = omega arith
few_used g (u ∷ us) each = omega (arith, sum_by-cons g u us, each u, few_used g us each)

-- a chain takes 16 places at most
pub needs_few : (f : Frame) (c : List Piece) → IsChain c → needs f.features c ≤ 16
needs_few f c is = at f.features.indirect
  where
    at : (b : Bool) → (if b then 1 else length c) ≤ 16
    at true = omega arith
    at false = is.1

-- the driver's position
pub offer_position_few : (f : Frame) (o : List DriverDone) → Places f o → offer_position f o ≤ 16 * length (offers o)
offer_position_few f o p = few_each (needs f.features) (offers o) (λ k low. needs_few f (chain o k) (chain_fits f o k p low).chain)

-- a ring's limit has 32 bits
pub limit_small : (f : Frame) → limit f ≤ 4294967295
limit_small f = least f.ring
  where
    either : (b : Bool) → (if b then 4000000000 else 4294967295) ≤ 4294967295
    either true = omega arith
    either false = omega arith

    least : (n : ℕ) → (if nat_lt n 16 then 4000000000 else 4294967295) ≤ 4294967295
    least n = either (nat_lt n 16)
