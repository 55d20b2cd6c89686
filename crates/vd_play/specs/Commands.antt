-- The control queue of a machine: its commands, which are begun epoch by epoch, what they set, and what comes back to its guest.
use Rattle.std.specs.Prelude.{◌≡◌, ℕ, ◌-◌, Bool, true, List, [], length, map, take, drop, slice_get, Some, unwrap_or, if◌then◌else◌, nat_lt}
use Rattle.std.specs.List.{All}
use Rattle.vd_model.specs.declared.record.Return.{Return}
use Rattle.vd_model.specs.declared.record.Script.{Script}
use Rattle.vd_ring.specs.History.{occurs, upto}
use Rattle.vd_control.specs.declared.settings.Settings.{Settings}
use Rattle.vd_control.specs.Commands.{spelled}
use Rattle.vd_control.specs.Settings.{folded, replay}
use Rattle.vd_commands.specs.Words.{ack_byte}
use Rattle.vd_bus.specs.GuestCommands.{commands}
use Rattle.vd_machine.specs.File.{Plan}
use Rattle.vd_machine.specs.Queues.{script}
use Rattle.vd_play.specs.Epochs.{Epoch, epochs, begun_before}
use Rattle.vd_play.specs.Returned.{returned_numbers}

-- what its guest offers; nothing, where there is no control queue
abbrev pub control_queue : Plan → Script
control_queue plan = unwrap_or plan.control (script [])

-- the bytes of each command
abbrev pub control_commands : Plan → List (List ℕ)
control_commands plan = commands (control_queue plan)

-- the epochs in which they are begun
abbrev pub control_epochs : Plan → List Epoch
control_epochs plan = epochs plan (length (control_commands plan))

-- how many of them are begun before epoch k
abbrev pub sent_at : Plan → ℕ → ℕ
sent_at plan k = begun_before (control_epochs plan) k

-- what those begun before epoch k have set, from the default on; the default where there is no control queue
abbrev pub settings_at : Plan → ℕ → Settings
settings_at plan k = folded (take (sent_at plan k) (control_commands plan))

-- what all of them have set
abbrev pub settings_of : Plan → Settings
settings_of plan = folded (control_commands plan)

-- ---- epoch by epoch

-- the commands that are begun in the epoch
abbrev pub own_commands : Plan → Epoch → List (List ℕ)
own_commands plan ep = take (ep.end - ep.first) (drop ep.first (control_commands plan))

-- a renewal has reset the device: what was set before is set again first
abbrev pub replayed_commands : Plan → Epoch → List (List ℕ)
replayed_commands plan ep = if ep.renewed then map spelled (replay (settings_at plan ep.number)) else []

-- ---- what comes back

-- a command came back with the one byte that its device wrote: OK for a command, ERR for any other bytes
pub record IsAnswered (sent : List (List ℕ)) (r : Return) : Type 0 where
  pub len : r.len ≡ 1
  pub bytes : List ℕ
  pub is : slice_get sent r.number ≡ Some bytes
  pub ack : r.ack ≡ ack_byte bytes

-- each of the commands came back once, with its ack; in the order in which they were offered, where that was agreed on
pub record AreAnswered (in_order : Bool) (sent : List (List ℕ)) (list : List Return) : Type 0 where
  pub as_many : length list ≡ length sent
  pub once : (k : ℕ) → occurs k (returned_numbers list) ≡ (if nat_lt k (length sent) then 1 else 0)
  pub each : All (IsAnswered sent) list
  pub ordered : in_order ≡ true → returned_numbers list ≡ upto (length sent)
