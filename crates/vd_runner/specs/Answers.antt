-- Which answers have done what, and the answer that is expected.
use Rattle.std.specs.Prelude.{◌≡◌, ◌⊎◌, ℕ, ◌+◌, Bool, true, false, ◌&&◌, List, length, nat_le, nat_lt, if◌then◌else◌, Option, Some, None}
use Rattle.std.specs.Option.{option_map_or}
use Rattle.vd_stream.specs.declared.reading.TheConstants.{MOST_BYTES}
use Rattle.vd_machine.specs.File.{Plan, first, means}
use Rattle.vd_machine.specs.declared.machine.MachineFault.{MachineFault}
use Rattle.vd_runner.specs.declared.status.Status.{Status}
use Rattle.vd_runner.specs.declared.status.Status.TheVariants as status

-- whether a command with this answer has begun to write
abbrev pub has_written : Status → Bool
has_written status.Ok = true
has_written status.WriteFault = true
has_written _ = false

-- whether it has begun to play
abbrev pub has_played : Status → Bool
has_played status.Ok = true
has_played status.WriteFault = true
has_played (status.DeviceFault q) = true
has_played _ = false

-- whether it may have loaded guests and made room in journals
abbrev pub has_prepared : Status → Bool
has_prepared status.Memory = true
has_prepared s = has_played s

-- how many queues the bytes order
abbrev pub need : List ℕ → ℕ
need bytes = option_map_or (λ (plan : Plan). length plan.queues) (means bytes) 0

-- by the first broken rule, and by how many parties are needed and there
abbrev pub verdict : Option MachineFault → ℕ → ℕ → ℕ → Status
verdict (Some rule) n guests devices = status.Machine rule
verdict None n guests devices = if nat_le n guests && nat_le n devices then status.Ok else status.TooFewParties n guests devices

-- the answer of `play` to a source of these bytes, with so many guests and devices, where nothing fails
abbrev pub expected : List ℕ → ℕ → ℕ → Status
expected bytes guests devices =
    if nat_lt MOST_BYTES (length bytes) then status.TooLarge (MOST_BYTES + 1) else verdict (first bytes) (need bytes) guests devices

-- this answer, or want of memory
abbrev pub IsOrMemory : Status → Status → Type 0
IsOrMemory wanted given = (given ≡ wanted) ⊎ (given ≡ status.Memory)
