-- What a machine orders of each queue's device, and what comes back to its guest.
use Rattle.std.specs.Prelude.{◌≡◌, ℕ, Bool, true, false, List, [], ◌∷◌, length, map, take, flat_map, slice_get, slice_index_or, Some, if◌then◌else◌, nat_lt, ◌+◌, ◌-◌, ◌*◌, ◌++◌, drop, None}
use Rattle.std.specs.List.{All}
use Rattle.vd_model.specs.declared.base.Base.{Base}
use Rattle.vd_model.specs.declared.base.Mode.{Mode}
use Rattle.vd_model.specs.declared.base.Mode.TheVariants.{Pass, Shadow}
use Rattle.std.specs.Option.{unwrap_or}
use Rattle.vd_iova.specs.Holes.{laid}
use Rattle.vd_iova.specs.Trees.{added_all}
use Rattle.vd_model.specs.Moved.{moved}
use Rattle.vd_model.specs.declared.chain.Piece.{Piece}
use Rattle.vd_model.specs.declared.map.Mapping.{Mapping}
use Rattle.vd_model.specs.declared.record.Return.{Return}
use Rattle.vd_model.specs.declared.record.Script.{Script}
use Rattle.vd_ring.specs.declared.frame.Frame.{Frame}
use Rattle.vd_ring.specs.History.{occurs, upto}
use Rattle.vd_layout.specs.Both.{plain_frame}
use Rattle.vd_layout.specs.Device.{DeviceModel}
use Rattle.vd_layout.specs.Layout.{LayoutModel}
use Rattle.vd_bus.specs.declared.event.Event.{Event}
use Rattle.vd_bus.specs.declared.event.Event.TheVariants.{Attach, Suspend, Reset}
use Rattle.vd_bus.specs.Scripts.{chains}
use Rattle.vd_machine.specs.File.{Plan}
use Rattle.vd_machine.specs.Queues.{script}
use Rattle.vd_machine.specs.declared.regions.Region.{Region}
use Rattle.vd_play.specs.Commands.{settings_at}
use Rattle.vd_play.specs.Epochs.{Epoch, epochs}
use Rattle.vd_play.specs.Returned.{returned_numbers}

-- what the guest of a queue offers
abbrev pub queue_script : Plan → ℕ → Script
queue_script plan q = slice_index_or plan.queues q (script [])

abbrev pub queue_chains : Plan → ℕ → List (List Piece)
queue_chains plan q = chains (queue_script plan q)

-- in the mode pass a device finds each region at its own address, in file order
abbrev pub own_address : Region → Mapping
own_address r = record { iova = r.addr; size = r.size; guest = r.addr }

abbrev pub pass_map : Plan → List Mapping
pass_map plan = map own_address plan.regions

-- the guest's ring of a data queue has the queue's number, and each piece of its chains lies in the map of the mode pass
abbrev pub guest_frame : LayoutModel → Plan → ℕ → Frame
guest_frame l plan q = plain_frame l q plan.size plan.features false (Some (pass_map plan))

-- the base of the guest's ring after the first k chains
abbrev pub base_at : {E : Type 0} → DeviceModel E → LayoutModel → Plan → ℕ → ℕ → Base
base_at e l plan q k = record { 0 = e.base_of (guest_frame l plan q) (take k (queue_chains plan q)) }

-- for epoch k the device is attached to the guest's ring after `at` chains, with what the commands begun before that epoch have set
abbrev pub attach_event : {E : Type 0} → DeviceModel E → LayoutModel → Plan → ℕ → ℕ → ℕ → Event
attach_event e l plan q k at = Attach at q (base_at e l plan q at) Pass (settings_at plan k) (pass_map plan)

-- it is suspended after k chains
abbrev pub suspend_event : {E : Type 0} → DeviceModel E → LayoutModel → Plan → ℕ → ℕ → Event
suspend_event e l plan q k = Suspend k (base_at e l plan q k)

abbrev pub queue_epochs : Plan → ℕ → List Epoch
queue_epochs plan q = epochs plan (length (queue_chains plan q))

-- ---- epoch by epoch

-- the one in the mode pass, the other in the mode shadow
abbrev pub by_mode : {A : Type 0} → Mode → A → A → A
by_mode Pass a b = a
by_mode Shadow a b = b

-- the ring that the device serves: the guest's own, or the epoch's shadow ring
abbrev pub ring_of : ℕ → Epoch → ℕ
ring_of q ep = by_mode ep.mode q (16 * (ep.number + 1) + q)

-- in the mode shadow a device finds each region at the lowest iovas that those before it leave
abbrev pub shadow_map : Plan → List Mapping
shadow_map plan =
    unwrap_or (laid (map (λ (r : Region). (r.addr, r.size)) plan.regions)
    (record { first = plan.first; last = plan.last; mappings = [] })) []

-- the same in order of iova, as a tree keeps it
abbrev pub tree_map : Plan → List Mapping
tree_map plan = (added_all (shadow_map plan) (record { first = plan.first; last = plan.last; mappings = [] })).mappings

-- the map of an epoch of this mode
abbrev pub map_in : Plan → Mode → List Mapping
map_in plan m = by_mode m (pass_map plan) (shadow_map plan)

-- the ring that queue q's device serves in epoch k of this mode
abbrev pub ring_in : Mode → ℕ → ℕ → ℕ
ring_in m k q = by_mode m q (16 * (k + 1) + q)

-- a shadow ring has no bounds
abbrev pub shadow_frame : LayoutModel → Plan → ℕ → Frame
shadow_frame l plan ring = plain_frame l ring plan.size plan.features false None

-- the script's chains that are begun in the epoch, and where the device finds them
abbrev pub own_chains : Plan → ℕ → Epoch → List (List Piece)
own_chains plan q ep = take (ep.end - ep.first) (drop ep.first (queue_chains plan q))

abbrev pub epoch_chains : Plan → ℕ → Epoch → List (List Piece)
epoch_chains plan q ep = by_mode ep.mode (own_chains plan q ep) (map (moved (shadow_map plan)) (own_chains plan q ep))

-- how the device is attached and suspended: in a shadow epoch to a fresh ring, which has the epoch's chains at the end. Its settings are
-- those that the control queue's device has as the epoch begins
abbrev pub epoch_attach : {E : Type 0} → DeviceModel E → LayoutModel → Plan → ℕ → Epoch → Event
epoch_attach e l plan q ep =
    by_mode ep.mode (attach_event e l plan q ep.number ep.first)
    (Attach ep.first (ring_of q ep) (record { 0 = l.fresh_base }) Shadow (settings_at plan ep.number) (shadow_map plan))

abbrev pub epoch_suspend : {E : Type 0} → DeviceModel E → LayoutModel → Plan → ℕ → Epoch → Event
epoch_suspend e l plan q ep =
    by_mode ep.mode (suspend_event e l plan q ep.end)
    (Suspend ep.end (record { 0 = e.base_of (shadow_frame l plan (ring_of q ep)) (epoch_chains plan q ep) }))

-- the device is reset where the epoch begins with a renewal; it is attached, and suspended once the epoch's chains are begun
abbrev pub epoch_events : {E : Type 0} → DeviceModel E → LayoutModel → Plan → ℕ → Epoch → List Event
epoch_events e l plan q ep =
    (if ep.renewed then Reset ep.first ∷ [] else []) ++ epoch_attach e l plan q ep ∷ epoch_suspend e l plan q ep ∷ []

-- the events of a queue's device, and the chains that it begins
abbrev pub journal_events : {E : Type 0} → DeviceModel E → LayoutModel → Plan → ℕ → List Event
journal_events e l plan q = flat_map (epoch_events e l plan q) (queue_epochs plan q)

abbrev pub journal_chains : Plan → ℕ → List (List Piece)
journal_chains plan q = flat_map (epoch_chains plan q) (queue_epochs plan q)

-- ---- what comes back

-- a chain that was begun came back with the length that was given for it, and without an acknowledgement
pub record HasLen (lens : List ℕ) (r : Return) : Type 0 where
  pub given : slice_get lens r.number ≡ Some r.len
  pub ack : r.ack ≡ 0

-- each of the chains came back once, with its length; in the order in which they were offered, where that was agreed on
pub record IsReturned (in_order : Bool) (lens : List ℕ) (list : List Return) : Type 0 where
  pub as_many : length list ≡ length lens
  pub once : (k : ℕ) → occurs k (returned_numbers list) ≡ (if nat_lt k (length lens) then 1 else 0)
  pub each : All (HasLen lens) list
  pub ordered : in_order ≡ true → returned_numbers list ≡ upto (length lens)
