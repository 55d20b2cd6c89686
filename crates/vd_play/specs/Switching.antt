-- Which switches a machine may have.
use Rattle.std.specs.Prelude.{ℕ, ◌≤◌, List, [], ◌∷◌, length}
use Rattle.vd_machine.specs.File.{Plan}
use Rattle.vd_machine.specs.declared.machine.Switch.{Switch}

-- each is made where as many chains are begun as at the one before it, or more; at the first, where `least` are begun or more
abbrev pub ascend : ℕ → List Switch → Type 0
ascend least [] = Unit {0}
ascend least (s ∷ ss) = (least ≤ s.after) × ascend s.after ss

-- 16 at most, which go on in the order of the chains
pub record IsSwitched (plan : Plan) : Type 0 where
  pub few : length plan.switches ≤ 16
  pub ascending : ascend 0 plan.switches
