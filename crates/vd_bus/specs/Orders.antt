-- What an order says.
use Rattle.std.specs.Prelude.{◌≡◌, ◌≢◌, ◌↔◌, ℕ, true, List, nat_lt, if◌then◌else◌}
use Rattle.vd_model.specs.declared.base.Base.{Base}
use Rattle.vd_model.specs.declared.base.Mode.{Mode}
use Rattle.vd_model.specs.declared.base.Mode.TheVariants.{Pass, Shadow}
use Rattle.vd_model.specs.declared.features.Features.{Features}
use Rattle.vd_model.specs.declared.map.Mapping.{Mapping}
use Rattle.vd_ring.specs.declared.frame.Frame.{Frame}

-- the queue's number, of the control queue 15; the ring's number; the base from which it is served; how many chains are begun
-- under the order; the ring's size and features; the map in force
pub record Terms : Type 0 where
  pub queue : ℕ
  pub ring : ℕ
  pub base : Base
  pub count : ℕ
  pub size : ℕ
  pub features : Features
  pub map : List Mapping

-- guests' rings have numbers below 16
abbrev pub mode_of : ℕ → Mode
mode_of ring = if nat_lt ring 16 then Pass else Shadow

-- the number of a data queue: the control queue's is 15
abbrev pub IsData : ℕ → Type 0
IsData queue = queue ≢ 15

abbrev pub IsControl : ℕ → Type 0
IsControl queue = queue ≡ 15

-- a control ring is the control queue's
abbrev pub FitsQueue : Terms → Frame → Type 0
FitsQueue t f = (f.control ≡ true) ↔ (t.queue ≡ 15)
