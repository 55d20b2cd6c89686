-- By what a lane's device is attached.
use Rattle.std.specs.Prelude.{◌≡◌, ℕ, ◌+◌, ◌*◌, ◌<◌, ◌≤◌, ◌^◌, List, length, min, slice_get, Option, None, IsSomeAnd}
use Rattle.std.specs.Option.{option_map_or}
use Rattle.vd_layout.specs.Device.{DeviceModel, IsStill}
use Rattle.vd_layout.specs.Layout.{LayoutModel}
use Rattle.vd_model.specs.declared.base.Mode.TheVariants.{Shadow}
use Rattle.vd_bus.specs.declared.event.Event.{Event}
use Rattle.vd_bus.specs.declared.event.Event.TheVariants.{Attach}
use Rattle.vd_bus.specs.Device.{DeviceParty}
use Rattle.vd_bus.specs.Orders.{Terms}
use Rattle.vd_machine.specs.File.{Plan}
use Rattle.vd_machine.specs.declared.machine.Switch.{Switch}
use Rattle.vd_play.specs.Commands.{settings_at}
use Rattle.vd_play.specs.Journal.{pass_map, shadow_map}

-- the guest's ring is served from where its end rests, and `count` chains are begun
abbrev pub pass_order : {E : Type 0} → DeviceModel E → Plan → ℕ → ℕ → E → Terms
pass_order e plan q count end = record {
  queue = q;
  ring = q;
  base = record { 0 = e.base end };
  count = count;
  size = plan.size;
  features = plan.features;
  map = pass_map plan;
}

-- the shadow ring of epoch k is served from its begin, and `count` chains are begun
abbrev pub shadow_order : LayoutModel → Plan → ℕ → ℕ → ℕ → Terms
shadow_order l plan k q count = record {
  queue = q;
  ring = 16 * (k + 1) + q;
  base = record { 0 = l.fresh_base };
  count = count;
  size = plan.size;
  features = plan.features;
  map = shadow_map plan;
}

-- the device is attached to the shadow ring of epoch k after `at` chains, with what the commands begun before that epoch have set
abbrev pub shadow_attach : LayoutModel → Plan → ℕ → ℕ → ℕ → Event
shadow_attach l plan q k at =
    Attach at (16 * (k + 1) + q) (record { 0 = l.fresh_base }) Shadow (settings_at plan k) (shadow_map plan)

-- where epoch k of a queue of n chains ends
abbrev pub stop_of : List Switch → ℕ → ℕ → ℕ
stop_of switches k n = option_map_or (λ s. min s.after n) (slice_get switches k) n

-- the lane of a data queue keeps a still end, and its device can be attached to begin `count` chains
pub record CanAttach {E X C : Type 0} (e : DeviceModel E) (m : DeviceParty X C) (q count : ℕ) (still : Option E) (device : X) : Type 0 where
  pub low : q < 8
  pub still_end : IsSomeAnd still (λ end. IsStill e end)
  pub free : m.attached device ≡ None
  pub events : 2 ≤ m.event_room device
  pub chains : count ≤ m.chain_room device
  pub few : length (m.begun device) + count < 2 ^ 32
