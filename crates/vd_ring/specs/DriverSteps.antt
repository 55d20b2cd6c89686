-- What an answer of a driver's step says of its acts.
use Rattle.std.specs.Prelude.{◌≡◌, ◌⊎◌, ℕ, List, ◌∷◌, length}
use Rattle.vd_model.specs.declared.chain.Piece.{Piece}
use Rattle.vd_ring.specs.declared.act.DriverAct.{DriverAct}
use Rattle.vd_ring.specs.declared.act.DriverAct.TheVariants as act
use Rattle.vd_ring.specs.declared.frame.Used.{Used}
use Rattle.vd_ring.specs.declared.driver.DriverDone.{DriverDone}
use Rattle.vd_ring.specs.declared.driver.DriverDone.TheVariants.{Offer, Collect, StoreCommand, LoadAck}
use Rattle.vd_ring.specs.History.{offers, entry, last_used}

-- a control access was made
abbrev pub IsControlAct : List DriverDone → List DriverDone → Type 0
IsControlAct o o' = ((h i x : ℕ) × (o' ≡ StoreCommand h i x ∷ o)) ⊎ ((k x : ℕ) × (o' ≡ LoadAck k x ∷ o))

-- the acts before an access and after it, where it answers so: Offered offers a chain, whose number is the count of chains offered,
-- Collected collects entries of which the last is its chain's; a control access and no other moves and adds an act of its own
abbrev pub DriverDid : DriverAct → List DriverDone → List DriverDone → Type 0
DriverDid (act.Offered k) o o' = (k ≡ length (offers o)) × ((c : List Piece) × (o' ≡ Offer c ∷ o))
DriverDid (act.Collected k l h) o o' = (us : List Used) × (o' ≡ Collect us ∷ o) × (last_used us ≡ entry k l)
DriverDid act.Moved o o' = (o' ≡ o) ⊎ IsControlAct o o'
DriverDid _ o o' = o' ≡ o
