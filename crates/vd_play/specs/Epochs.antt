-- The epochs that a machine orders for a queue.
use Rattle.std.specs.Prelude.{◌≡◌, ℕ, zero, suc, ◌+◌, ◌≤◌, min, Bool, true, false, List, [], ◌∷◌, ◌++◌, length, slice_get, Some}
use Rattle.std.specs.Option.{option_map_or}
use Rattle.vd_model.specs.declared.base.Mode.{Mode}
use Rattle.vd_model.specs.declared.base.Mode.TheVariants as mode
use Rattle.vd_machine.specs.File.{Plan}
use Rattle.vd_machine.specs.declared.machine.Switch.{Switch}
use Rattle.vd_machine.specs.declared.machine.To.{To}
use Rattle.vd_machine.specs.declared.machine.To.TheVariants as to

-- the epoch's number; how the queue is served, whether the epoch begins with a renewal, and which chains are begun in it: from the
-- one number to the other, which isn't included
pub record Epoch : Type 0 where
  pub number : ℕ
  pub mode : Mode
  pub renewed : Bool
  pub first : ℕ
  pub end : ℕ

-- a renewal keeps the mode before
abbrev pub mode_after : Mode → To → Mode
mode_after m to.Pass = mode.Pass
mode_after m to.Shadow = mode.Shadow
mode_after m to.Renew = m

abbrev pub is_renewal : To → Bool
is_renewal to.Renew = true
is_renewal _ = false

-- the epochs of a queue of n chains from number e and chain number `first` on: each switch ends one, where `after` chains are begun
-- or none is left
abbrev pub epochs_from : ℕ → List Switch → Mode → Bool → ℕ → ℕ → List Epoch
epochs_from e [] m renewed first n = record { number = e; mode = m; renewed = renewed; first = first; end = n } ∷ []
epochs_from e (s ∷ ss) m renewed first n =
    record { number = e; mode = m; renewed = renewed; first = first; end = min s.after n }
    ∷ epochs_from (e + 1) ss (mode_after m s.to) (is_renewal s.to) (min s.after n) n

-- the epochs in which the n chains of a queue are begun
abbrev pub working_epochs : Plan → ℕ → List Epoch
working_epochs plan n = epochs_from 0 plan.switches plan.start false 0 n

-- the closing epoch: it serves the guest's ring, and has no chains
abbrev pub closing : ℕ → ℕ → Epoch
closing e n = record { number = e; mode = mode.Pass; renewed = false; first = n; end = n }

-- all epochs, the closing one last
abbrev pub epochs : Plan → ℕ → List Epoch
epochs plan n = working_epochs plan n ++ closing (length plan.switches + 1) n ∷ []

-- the mode of epoch k, where the first of these has the mode m; the closing one is of the mode pass
abbrev pub mode_from : List Switch → Mode → ℕ → Mode
mode_from ss m zero = m
mode_from [] m (suc k) = mode.Pass
mode_from (s ∷ ss) m (suc k) = mode_from ss (mode_after m s.to) k

abbrev pub mode_at : Plan → ℕ → Mode
mode_at plan k = mode_from plan.switches plan.start k

-- whether epoch k begins with a renewal
abbrev pub renewed_at : Plan → ℕ → Bool
renewed_at plan zero = false
renewed_at plan (suc k) = option_map_or (λ (s : Switch). is_renewal s.to) (slice_get plan.switches k) false

-- how many chains are begun before epoch k
abbrev pub begun_before : List Epoch → ℕ → ℕ
begun_before es zero = 0
begun_before es (suc k) = option_map_or (λ ep. ep.end) (slice_get es k) 0

-- each epoch begins where the one before it ends, and all n chains are begun in them
pub record AreChained (n : ℕ) (es : List Epoch) : Type 0 where
  pub at : (k : ℕ) (ep : Epoch) → slice_get es k ≡ Some ep → (ep.first ≡ begun_before es k) × (ep.first ≤ ep.end) × (ep.end ≤ n)
  pub whole : begun_before es (length es) ≡ n

-- each has its number and its mode, and begins with a renewal where the switch before it is one
pub record AreNumbered (plan : Plan) (es : List Epoch) : Type 0 where
  pub at : (k : ℕ) (ep : Epoch) → slice_get es k ≡ Some ep
      → (ep.number ≡ k) × (ep.mode ≡ mode_at plan k) × (ep.renewed ≡ renewed_at plan k)
