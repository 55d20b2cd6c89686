-- How much a machine with a control queue has to do, and at most how many steps its play has. Where there is none this is the work of its
-- data queues.
use Rattle.std.specs.Prelude.{ℕ, ◌+◌, ◌*◌, length, flat_map, is_some}
use Rattle.vd_machine.specs.File.{Plan}
use Rattle.vd_machine.specs.Words.{control_count}
use Rattle.vd_play.specs.Commands.{control_commands, control_epochs, replayed_commands}
use Rattle.vd_play.specs.Progress.{work, rings}
use Rattle.vd_play.specs.Renewing.{renewals}

-- how many commands are replayed in all
abbrev pub replayed_count : Plan → ℕ
replayed_count plan = length (flat_map (replayed_commands plan) (control_epochs plan))

-- how many commands the control queue's device begins: the guest's own, and those of each replay
abbrev pub command_work : Plan → ℕ
command_work plan = length (control_commands plan) + replayed_count plan

-- how many rings the control queue has: its guest's, and a shadow ring for every epoch
abbrev pub command_rings : Plan → ℕ
command_rings plan = control_count (is_some plan.control) plan.switches

abbrev pub all_work : Plan → ℕ
all_work plan = work plan + command_work plan

abbrev pub all_rings : Plan → ℕ
all_rings plan = rings plan + command_rings plan

abbrev pub most_steps_of_all : Plan → ℕ
most_steps_of_all plan = 1024 * (all_work plan + all_rings plan * plan.size)

-- for how many events and commands the journal of the control queue's device needs room
abbrev pub command_events_room : Plan → ℕ
command_events_room plan = 2 * (length plan.switches + 2) + renewals plan.switches

abbrev pub commands_room : Plan → ℕ
commands_room plan = command_work plan
