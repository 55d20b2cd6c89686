-- What one access of a party does to a lane's bag: to the states of the chains that its guest has offered. They are begun as the
-- lane's devices began them, and returned as they were given back on the guest's ring.
use Rattle.std.specs.Prelude.{◌≡◌, ◌⊎◌, Bool, ℕ, ◌+◌, List, [], ◌∷◌, ◌++◌}
use Rattle.vd_ring.specs.declared.frame.Used.{Used}
use Rattle.vd_ring.specs.Bag.{State, IsOffer, IsBegin, Stands}
use Rattle.vd_ring.specs.OneEnd.{EndsOne}

-- the next chain is offered
pub record OffersOne (offered begun : ℕ) (g : List Used) (b : List State) : Type 0 where
  pub bag : List State
  pub offers : IsOffer offered b bag
  pub stands : Stands (offered + 1) begun g bag

-- the next chain is begun
pub record BeginsOne (offered begun : ℕ) (g : List Used) (b : List State) : Type 0 where
  pub bag : List State
  pub begins : IsBegin begun b bag
  pub stands : Stands offered (begun + 1) g bag

-- nothing, or one chain is offered, whatever bag stands for the lane
abbrev pub MayOfferOne : ℕ → ℕ → List Used → ℕ → Type 0
MayOfferOne offered begun g offered' = (offered' ≡ offered)
    ⊎ ((offered' ≡ offered + 1) × ((b : List State) → Stands offered begun g b → OffersOne offered begun g b))

-- nothing, or one chain is begun
abbrev pub MayBeginOne : ℕ → ℕ → List Used → ℕ → Type 0
MayBeginOne offered begun g begun' = (begun' ≡ begun)
    ⊎ ((begun' ≡ begun + 1) × ((b : List State) → Stands offered begun g b → BeginsOne offered begun g b))

-- nothing, or one chain ends, with the length that was given
abbrev pub MayEndOne : ℕ → ℕ → List Used → List Used → Type 0
MayEndOne offered begun g g' = (g' ≡ g)
    ⊎ ((u : Used) × (g' ≡ g ++ u ∷ [])
    × ((in_order : Bool) (b : List State) → Stands offered begun g b → EndsOne in_order offered begun g u b))
