-- A command's bytes in the two command words of its head, and what its device answers and sets.
use Rattle.std.specs.Prelude.{ℕ, ◌*◌, List, ◌++◌, Option, Some, None, take, drop, replicate, fold}
use Rattle.std.specs.List.{filter_map}
use Rattle.std.specs.Int.{w64, to_le_bytes, from_le_bytes}
use Rattle.vd_control.specs.declared.command.Command.{Command}
use Rattle.vd_control.specs.declared.settings.Settings.{Settings}
use Rattle.vd_control.specs.Commands.{command}
use Rattle.vd_control.specs.Settings.{applied}

-- word 0 or 1 of the bytes, the lowest byte first, filled up with zeros
abbrev pub command_word : List ℕ → ℕ → ℕ
command_word bytes half = from_le_bytes w64 (take 8 (drop (8 * half) (bytes ++ replicate 16 0)))

-- the first so many bytes of two words
abbrev pub word_bytes : ℕ → ℕ → ℕ → List ℕ
word_bytes count first second = take count (to_le_bytes w64 first ++ to_le_bytes w64 second)

-- OK, 0, for the bytes of a command; ERR, 1, for any other bytes (VIRTIO 1.2, 5.1.6.5)
abbrev pub ack_for : Option Command → ℕ
ack_for (Some c) = 0
ack_for None = 1

abbrev pub ack_byte : List ℕ → ℕ
ack_byte bytes = ack_for (command bytes)

-- the settings after the commands among these byte strings, in order
abbrev pub set_by : Settings → List (List ℕ) → Settings
set_by s strings = fold applied s (filter_map command strings)
