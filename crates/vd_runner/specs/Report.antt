-- The report, line by line. Every line ends with a line feed, and numbers are decimal.
use Rattle.std.specs.Prelude.{ℕ, ◌+◌, Bool, List, [], ◌∷◌, ◌++◌, length, map, sum, take, codes, decimal, if◌then◌else◌, is_some}
use Rattle.std.specs.List.{sum_by}
use Rattle.vd_model.specs.declared.base.Mode.{Mode}
use Rattle.vd_model.specs.declared.base.Mode.TheVariants.{Pass, Shadow}
use Rattle.vd_bus.specs.Device.{DeviceParty, lens_of}
use Rattle.vd_machine.specs.File.{Plan}
use Rattle.vd_play.specs.Commands.{control_commands, settings_of}
use Rattle.vd_play.specs.Epochs.{Epoch, working_epochs}
use Rattle.vd_play.specs.declared.bench.Bench.{Bench}
use Rattle.vd_runner.specs.CommandReport.{command_lines, settings_lines}

-- `queue q chains N bytes B`
unfoldable pub queue_line : ℕ → ℕ → ℕ → List ℕ
queue_line q chains bytes =
    codes "queue " ++ decimal q ++ codes " chains " ++ decimal chains ++ codes " bytes " ++ decimal bytes ++ codes "\n"

-- `chain q k len`
unfoldable pub chain_line : ℕ → ℕ → ℕ → List ℕ
chain_line q k len = codes "chain " ++ decimal q ++ codes " " ++ decimal k ++ codes " " ++ decimal len ++ codes "\n"

abbrev pub mode_word : Mode → List ℕ
mode_word Pass = codes "pass"
mode_word Shadow = codes "shadow"

-- `epoch q e mode from to`
unfoldable pub epoch_line : ℕ → ℕ → Mode → ℕ → ℕ → List ℕ
epoch_line q e mode from to =
    codes "epoch " ++ decimal q ++ codes " " ++ decimal e ++ codes " " ++ mode_word mode ++ codes " " ++ decimal from ++ codes " "
    ++ decimal to ++ codes "\n"

-- `drained N`
unfoldable pub drained_line : ℕ → List ℕ
drained_line chains = codes "drained " ++ decimal chains ++ codes "\n"

-- the chains of a queue, from number k on, with these lengths
abbrev pub chain_lines : ℕ → ℕ → List ℕ → List ℕ
chain_lines q k [] = []
chain_lines q k (len ∷ lens) = chain_line q k len ++ chain_lines q (k + 1) lens

-- the epochs of a queue, from number e on
abbrev pub epoch_lines : ℕ → ℕ → List Epoch → List ℕ
epoch_lines q e [] = []
epoch_lines q e (ep ∷ eps) = epoch_line q e ep.mode ep.first ep.end ++ epoch_lines q (e + 1) eps

-- a queue whose chains were given these lengths: where the report is brief, without a line for each chain; the closing epoch
-- has none
abbrev pub queue_lines : Plan → Bool → ℕ → List ℕ → List ℕ
queue_lines plan brief q lens =
    queue_line q (length lens) (sum lens)
    ++ ((if brief then [] else chain_lines q 0 lens) ++ epoch_lines q 0 (working_epochs plan (length lens)))

-- the queues, from number q on
abbrev pub all_queue_lines : Plan → Bool → ℕ → List (List ℕ) → List ℕ
all_queue_lines plan brief q [] = []
all_queue_lines plan brief q (lens ∷ more) = queue_lines plan brief q lens ++ all_queue_lines plan brief (q + 1) more

-- how many chains came back in all
abbrev pub drained : List (List ℕ) → ℕ
drained all = sum_by (λ (lens : List ℕ). length lens) all

-- where there is a control queue, its commands with their acks and what they have set, also where the report is brief
abbrev pub control_lines : Plan → List ℕ
control_lines plan =
    if is_some plan.control then command_lines 0 (control_commands plan) ++ settings_lines (settings_of plan) else []

-- the report of a machine, with the lengths that were given on each of its data queues, whose chains alone are counted at its end
unfoldable pub report : Plan → Bool → List (List ℕ) → List ℕ
report plan brief all = all_queue_lines plan brief 0 all ++ (control_lines plan ++ drained_line (drained all))

-- the lengths that stand in the journal of each data queue's device
abbrev pub all_lens : {G X C : Type 0} → DeviceParty X C → Plan → Bench G X → List (List ℕ)
all_lens m plan bench = map (λ x. lens_of (m.begun x)) (take (length plan.queues) bench.devices.items)
