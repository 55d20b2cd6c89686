-- What a machine orders of the control queue's device, epoch by epoch: the commands that it begins, those of a replay counted, and the
-- events between them.
use Rattle.std.specs.Prelude.{◌≡◌, ◌∷◌, ◌++◌, ◌+◌, ◌≤◌, ℕ, true, false, List, [], length, take, flat_map, slice_get, Some, if◌then◌else◌}
use Rattle.std.specs.List.{All}
use Rattle.vd_model.specs.declared.base.Base.{Base}
use Rattle.vd_model.specs.declared.base.Mode.TheVariants.{Shadow}
use Rattle.vd_model.specs.declared.chain.Piece.{Piece}
use Rattle.vd_control.specs.Settings.{default}
use Rattle.vd_layout.specs.Device.{DeviceModel}
use Rattle.vd_layout.specs.Layout.{LayoutModel}
use Rattle.vd_bus.specs.declared.event.Event.{Event}
use Rattle.vd_bus.specs.declared.event.Event.TheVariants.{Attach, Suspend, Reset}
use Rattle.vd_machine.specs.File.{Plan}
use Rattle.vd_play.specs.Commands.{control_epochs, own_commands, replayed_commands}
use Rattle.vd_play.specs.ControlRings.{control_ring, control_shadow_frame}
use Rattle.vd_play.specs.Epochs.{Epoch}
use Rattle.vd_play.specs.Journal.{map_in}

-- ---- the commands

-- after a renewal what was set is set again, then come the epoch's own
abbrev pub epoch_commands : Plan → Epoch → List (List ℕ)
epoch_commands plan ep = replayed_commands plan ep ++ own_commands plan ep

-- those of the first k epochs
abbrev pub commands_before : Plan → ℕ → List (List ℕ)
commands_before plan k = flat_map (epoch_commands plan) (take k (control_epochs plan))

-- how many the journal has before epoch k, those of replays counted
abbrev pub journalled_at : Plan → ℕ → ℕ
journalled_at plan k = length (commands_before plan k)

-- all that the device begins
abbrev pub journal_commands : Plan → List (List ℕ)
journal_commands plan = flat_map (epoch_commands plan) (control_epochs plan)

-- ---- the events, by the bases that the shadow rings have at their epochs' ends

-- the device is attached to the epoch's shadow ring from its begin, with the default settings and the map of the epoch's mode
abbrev pub command_attach : LayoutModel → Plan → Epoch → Event
command_attach l plan ep =
    Attach (journalled_at plan ep.number) (control_ring ep.number) (record { 0 = l.fresh_base }) Shadow default (map_in plan ep.mode)

abbrev pub command_suspend : Plan → (ℕ → Base) → Epoch → Event
command_suspend plan bases ep = Suspend (journalled_at plan (ep.number + 1)) (bases ep.number)

abbrev pub command_events : LayoutModel → Plan → (ℕ → Base) → Epoch → List Event
command_events l plan bases ep = (if ep.renewed then Reset (journalled_at plan ep.number) ∷ [] else [])
    ++ command_attach l plan ep ∷ command_suspend plan bases ep ∷ []

abbrev pub control_events : LayoutModel → Plan → (ℕ → Base) → List Event
control_events l plan bases = flat_map (command_events l plan bases) (control_epochs plan)

-- ---- the bases

-- a control chain: the piece of its command, of 3 to 10 bytes, and the piece of its ack
pub record IsControlChain (chain : List Piece) : Type 0 where
  pub command : Piece
  pub ack : Piece
  pub is : chain ≡ command ∷ ack ∷ []
  pub reads : (command.write ≡ false) × (3 ≤ command.len) × (command.len ≤ 10)
  pub writes : (ack.write ≡ true) × (ack.len ≡ 1)

-- the base of a ring after so many control chains. At which heads they stand is not the file's matter, nor the base's: how many places
-- each takes decides it, and so they are some control chains
pub record IsCommandBase {E : Type 0} (e : DeviceModel E) (l : LayoutModel) (plan : Plan) (k count : ℕ) (base : Base) : Type 0 where
  pub chains : List (List Piece)
  pub many : length chains ≡ count
  pub each : All IsControlChain chains
  pub is : base ≡ record { 0 = e.base_of (control_shadow_frame l plan k) chains }

-- each shadow ring has all commands of its epoch at the end
abbrev pub AreCommandBases : {E : Type 0} → DeviceModel E → LayoutModel → Plan → (ℕ → Base) → Type 0
AreCommandBases e l plan bases = (k : ℕ) (ep : Epoch) → slice_get (control_epochs plan) k ≡ Some ep
    → IsCommandBase e l plan k (length (epoch_commands plan ep)) (bases k)
