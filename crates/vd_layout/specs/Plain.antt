-- Plain words that meet the ring invariant: a port onto them is each end's own, and a step of one end keeps the invariant with
-- the other side's view unchanged.
use Rattle.std.specs.Prelude.{◌≡◌, ℕ, List}
use Rattle.vd_words.specs.declared.access.Access.{Access}
use Rattle.vd_words.specs.declared.access.Op.{Op}
use Rattle.vd_words.specs.Model.{PortModel}
use Rattle.vd_words.specs.Own.{SideModel}
use Rattle.vd_words.specs.Step.{answered, written}

-- the port is a plain one, onto words that meet the relation with the view
pub record IsPlainOn {P V : Type 0} (port : PortModel P) (ring : List ℕ → V → Type 0) (p : P) (v : V) : Type 0 where
  pub words : List ℕ
  pub plain : port.plain p words
  pub meets : ring words v

-- after one access of the side that was next: the port is onto the words after it, which meet the relation with the view after it
pub record PlainStep {P V : Type 0} (port : PortModel P) (side : SideModel V) (ring : List ℕ → V → Type 0) (p q : P) (ws : List ℕ)
    (v : V) (op : Op) (a : Access) (r : ℕ) : Type 0 where
  pub plain : port.plain q (written ws a)
  pub answer : r ≡ answered ws a
  pub meets : ring (written ws a) (side.after v op a r)
  pub told : side.tells v op a r
  pub same : port.same p q
