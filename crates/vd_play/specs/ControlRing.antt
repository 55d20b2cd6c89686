-- How the ring of one queue is set on the bus of a machine, that of the control queue among them, and the order to serve that ring.
use Rattle.std.specs.Prelude.{ℕ, if◌then◌else◌, is_some}
use Rattle.vd_model.specs.declared.base.Mode.{Mode}
use Rattle.vd_layout.specs.Layout.{LayoutModel}
use Rattle.vd_bus.specs.Bus.{BusState, control_queue}
use Rattle.vd_bus.specs.BusRings.{after_num, after_addr, after_base}
use Rattle.vd_bus.specs.Orders.{Terms}
use Rattle.vd_machine.specs.File.{Plan}
use Rattle.vd_play.specs.Journal.{map_in}
use Rattle.vd_play.specs.Places.{control_ring}
use Rattle.vd_play.specs.Setup.{ring_addr}

-- the queue of this number has the ring of this number, at its address
abbrev pub with_addr : Plan → ℕ → ℕ → BusState → BusState
with_addr plan n ring b = after_addr b (ring_addr plan.packed plan.size n ring)

-- and its number of places too
abbrev pub with_ring : Plan → ℕ → ℕ → BusState → BusState
with_ring plan n ring b = with_addr plan n ring (after_num b (record { index = n; num = plan.size }))

-- ---- the control queue, where there is one

-- it has its ring of epoch k, as the bus is brought up
abbrev pub with_control_ring : Plan → ℕ → BusState → BusState
with_control_ring plan k b = if is_some plan.control then with_ring plan control_queue (control_ring k) b else b

-- and in a switch
abbrev pub with_control_addr : Plan → ℕ → BusState → BusState
with_control_addr plan k b = if is_some plan.control then with_addr plan control_queue (control_ring k) b else b

-- the base from which it is served
abbrev pub with_control_base : Plan → ℕ → BusState → BusState
with_control_base plan base b = if is_some plan.control then after_base b (record { index = control_queue; num = base }) else b

-- its shadow ring of epoch k, which is of this mode, is served from its begin, and `count` commands are begun
abbrev pub control_order : LayoutModel → Plan → Mode → ℕ → ℕ → Terms
control_order l plan m k count = record {
  queue = control_queue;
  ring = control_ring k;
  base = record { 0 = l.fresh_base };
  count = count;
  size = plan.size;
  features = plan.features;
  map = map_in plan m;
}
