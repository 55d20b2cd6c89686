-- The modes of epochs.
use Rattle.std.proofs.Common.{◌≡◌, ℕ, zero, suc, ◌+◌, ◌*◌, ◌-◌, ◌<◌, Bool, false, Some, List, [], ◌∷◌, ◌++◌, length, slice_get, min, refl, sym, ◌∙◌, ap, arith}
use Rattle.vd_model.specs.declared.base.Mode.{Mode}
use Rattle.vd_model.specs.declared.base.Mode.TheVariants.{Pass, Shadow}
use Rattle.std.specs.Option.{option_map_or}
use Rattle.std.proofs.lemmas.Bool.{lt-ltb, le-ltb}
use Rattle.vd_bus.specs.Orders.{mode_of}
use Rattle.vd_play.specs.Journal.{ring_in}
use Rattle.vd_machine.specs.File.{Plan}
use Rattle.vd_machine.specs.declared.machine.Switch.{Switch}
use Rattle.vd_play.specs.Epochs.{Epoch, epochs, epochs_from, closing, mode_after, mode_from, mode_at, is_renewal, renewed_at}
use Rattle.vd_play.proofs.Lists.{some_same}

pub mode_first : (ss : List Switch) (m : Mode) → mode_from ss m 0 ≡ m
mode_first [] m = refl
mode_first (s ∷ ss) m = refl

-- the mode after one switch more
pub mode_next : (ss : List Switch) (m : Mode) (k : ℕ) (s : Switch) → slice_get ss k ≡ Some s
    → mode_from ss m (k + 1) ≡ mode_after (mode_from ss m k) s.to
mode_next [] m k s at = absurd (cc)
mode_next (x ∷ ss) m zero s at = mode_first ss (mode_after m x.to) ∙ ap (λ (z : Switch). mode_after m z.to) (some_same x s (Some x) refl at)
mode_next (x ∷ ss) m (suc k) s at =
    let e : suc k + 1 ≡ suc (k + 1) = omega arith in
    ap (mode_from (x ∷ ss) m) e ∙ mode_next ss (mode_after m x.to) k s at

-- behind all switches
pub mode_behind : (ss : List Switch) (m : Mode) (k : ℕ) → length ss < k → mode_from ss m k ≡ Pass
mode_behind ss m zero h = absurd (omega (arith, h))
mode_behind [] m (suc k) h = refl
mode_behind (s ∷ ss) m (suc k) h = mode_behind ss (mode_after m s.to) k (omega (arith, h))

-- the ring of a data queue has a number that tells the mode
pub mode_in : (m : Mode) (k q : ℕ) → q < 16 → mode_of (ring_in m k q) ≡ m
mode_in Pass k q low = rw (lt-ltb q 16 low) refl
mode_in Shadow k q low = rw (le-ltb (16 * (k + 1) + q) 16 (omega arith)) refl

-- each epoch has the mode of its number
from_mode : (e : ℕ) (ss : List Switch) (m : Mode) (renewed : Bool) (first n j k : ℕ) (ep : Epoch)
    → slice_get (epochs_from e ss m renewed first n ++ closing j n ∷ []) k ≡ Some ep → ep.mode ≡ mode_from ss m k
from_mode e [] m renewed first n j zero ep at =
    sym (ap (λ (z : Epoch). z.mode) (some_same _ ep (Some _) refl at))
from_mode e [] m renewed first n j (suc zero) ep at =
    sym (ap (λ (z : Epoch). z.mode) (some_same (closing j n) ep (Some (closing j n)) refl at))
from_mode e [] m renewed first n j (suc (suc k)) ep at = absurd (cc)
from_mode e (s ∷ ss) m renewed first n j zero ep at =
    sym (ap (λ (z : Epoch). z.mode) (some_same _ ep (Some _) refl at))
from_mode e (s ∷ ss) m renewed first n j (suc k) ep at =
    from_mode (e + 1) ss (mode_after m s.to) (is_renewal s.to) (min s.after n) n j k ep at

pub epoch_mode : (plan : Plan) (n k : ℕ) (ep : Epoch) → slice_get (epochs plan n) k ≡ Some ep → ep.mode ≡ mode_at plan k
epoch_mode plan n k ep at = from_mode 0 plan.switches plan.start false 0 n (length plan.switches + 1) k ep at

-- ---- renewals

pub renewed_first : (plan : Plan) (k : ℕ) → k ≡ 0 → renewed_at plan k ≡ false
renewed_first plan zero is = refl
renewed_first plan (suc k) is = absurd (omega (arith, is))

pub renewed_later : (plan : Plan) (k : ℕ) → (k ≡ 0 → ⊥)
    → renewed_at plan k ≡ option_map_or (λ (s : Switch). is_renewal s.to) (slice_get plan.switches (k - 1)) false
renewed_later plan zero other = absurd (other refl)
renewed_later plan (suc k) other =
    let e : k ≡ suc k - 1 = omega arith in
    ap (λ j. option_map_or (λ (s : Switch). is_renewal s.to) (slice_get plan.switches j) false) e
