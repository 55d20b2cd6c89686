-- What a machine orders of a queue before an epoch.
use Rattle.std.specs.Prelude.{ℕ, ◌++◌, List, [], ◌∷◌, take, flat_map, if◌then◌else◌}
use Rattle.vd_model.specs.declared.chain.Piece.{Piece}
use Rattle.vd_layout.specs.Device.{DeviceModel}
use Rattle.vd_layout.specs.Layout.{LayoutModel}
use Rattle.vd_bus.specs.declared.event.Event.{Event}
use Rattle.vd_bus.specs.declared.event.Event.TheVariants.{Reset}
use Rattle.vd_machine.specs.File.{Plan}
use Rattle.vd_play.specs.Epochs.{Epoch, begun_before, renewed_at}
use Rattle.vd_play.specs.Journal.{queue_epochs, epoch_chains, epoch_events}

-- the events of the first k epochs
abbrev pub events_before : {E : Type 0} → DeviceModel E → LayoutModel → Plan → ℕ → ℕ → List Event
events_before e l plan q k = flat_map (epoch_events e l plan q) (take k (queue_epochs plan q))

-- the chains that are begun in them, where the device finds them
abbrev pub chains_before : Plan → ℕ → ℕ → List (List Piece)
chains_before plan q k = flat_map (epoch_chains plan q) (take k (queue_epochs plan q))

-- and the first m of an epoch's own
abbrev pub chains_within : Plan → ℕ → ℕ → Epoch → ℕ → List (List Piece)
chains_within plan q k ep m = chains_before plan q k ++ take m (epoch_chains plan q ep)

-- how many are begun before epoch k
abbrev pub begun_at : Plan → ℕ → ℕ → ℕ
begun_at plan q k = begun_before (queue_epochs plan q) k

-- before it is attached for epoch k the device is reset, where the epoch begins with a renewal
abbrev pub resets : Plan → ℕ → ℕ → List Event
resets plan q k = if renewed_at plan k then Reset (begun_at plan q k) ∷ [] else []
