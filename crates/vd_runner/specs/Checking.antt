-- What a command that writes the canonical text leaves.
use Rattle.std.specs.Prelude.{◌≡◌, ℕ, List, Option}
use Rattle.std.specs.Io.KnownBytes.{Appends}
use Rattle.vd_stream.specs.Causes.{Rose}
use Rattle.vd_stream.specs.Sinks.{AppendsFront}
use Rattle.vd_machine.specs.Canon.{canon}
use Rattle.vd_runner.specs.Reading.{OfMachine, RefusesToRead}
use Rattle.vd_runner.specs.declared.status.Status.{Status}
use Rattle.vd_runner.specs.declared.status.Status.TheVariants as status

-- on Ok the canonical text of the machine that was read is written, after a fault of the sink a front of it; else nothing is
abbrev pub ChecksTo : Option (List ℕ) → Option (List ℕ) → ℕ → ℕ → Option (List ℕ) → Option (List ℕ) → ℕ → ℕ → Status → Type 0
ChecksTo left rest before now held given was is status.Ok = OfMachine left rest (λ plan. Appends held given (canon plan))
ChecksTo left rest before now held given was is status.WriteFault =
    OfMachine left rest (λ plan. AppendsFront held given (canon plan)) × Rose was is
ChecksTo left rest before now held given was is s = RefusesToRead left rest before now s × (given ≡ held)
