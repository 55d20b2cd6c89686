-- One chain's end in the bag of a ring's chains.
use Rattle.std.specs.Prelude.{ℕ, Bool, List, [], ◌∷◌, ◌++◌}
use Rattle.vd_ring.specs.declared.frame.Used.{Used}
use Rattle.vd_ring.specs.Bag.{State, IsEnd, Stands}

-- a bag in which one more entry is given, after those given before: it is the end of that chain, with the length that was given
pub record EndsOne (in_order : Bool) (offered begun : ℕ) (g : List Used) (u : Used) (b : List State) : Type 0 where
  pub bag : List State
  pub ends : IsEnd in_order (u ∷ []) b bag
  pub stands : Stands offered begun (g ++ u ∷ []) bag
