-- Where the queues of a machine stand on its bus: the data queues by number, and behind them the control queue, where there is one.
use Rattle.std.specs.Prelude.{◌≡◌, ◌==◌, ℕ, true, length, is_some, if◌then◌else◌}
use Rattle.vd_model.specs.declared.base.Mode.TheVariants.{Shadow}
use Rattle.vd_bus.specs.Bus.{control_queue, queue_count}
use Rattle.vd_machine.specs.File.{Plan}
use Rattle.vd_play.specs.Journal.{ring_in}

abbrev pub HasControl : Plan → Type 0
HasControl plan = is_some plan.control ≡ true

-- how many they are
abbrev pub queue_total : Plan → ℕ
queue_total plan = queue_count (length plan.queues) (is_some plan.control)

-- where the control queue stands
abbrev pub control_place : Plan → ℕ
control_place plan = length plan.queues

-- where the queue of this number stands
abbrev pub place_of : Plan → ℕ → ℕ
place_of plan q = if q == control_queue then control_place plan else q

-- the ring that its device serves in epoch k: a shadow ring in every epoch, whatever its mode is
abbrev pub control_ring : ℕ → ℕ
control_ring k = ring_in Shadow k control_queue
