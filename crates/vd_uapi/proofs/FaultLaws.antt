-- Bytes that spell a structure are not refused.
use Rattle.std.proofs.Common.{◌≡◌, ℕ, ◌≤◌, List, length, Some, None, arith}
use Rattle.std.proofs.lemmas.Bool.Decides.{nat_tests}
use Rattle.vd_uapi.specs.Bytes.{number_at}
use Rattle.vd_uapi.specs.Faults.{short_fault, msg_fault, perm_in, kind_in}
use Rattle.vd_uapi.specs.declared.fault.UapiFault.{UapiFault}

pub not_short : (need : ℕ) (bs : List ℕ) (e : UapiFault) → need ≤ length bs → Some e ≡ short_fault need bs → ⊥
not_short need bs e h f = grind (arith, nat_tests)

pub no_fault : (bs : List ℕ) (e : UapiFault) → 72 ≤ length bs → number_at 4 0 bs ≡ 2 → (1 ≤ kind_in bs) × (kind_in bs ≤ 6)
    → (kind_in bs ≡ 2 → (1 ≤ perm_in bs) × (perm_in bs ≤ 3)) → Some e ≡ msg_fault bs → ⊥
no_fault bs e h v k p f = grind (arith, nat_tests)

-- what stands in bytes that are not refused
pub version_is : (bs : List ℕ) → None ≡ msg_fault bs → number_at 4 0 bs ≡ 2
version_is bs f = grind (arith, nat_tests)

pub long_enough : (bs : List ℕ) → None ≡ msg_fault bs → 72 ≤ length bs
long_enough bs f = grind (arith, nat_tests)
