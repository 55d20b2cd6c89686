-- What was read of a source, and why no machine was.
use Rattle.std.specs.Prelude.{◌≡◌, ℕ, ◌+◌, List, length, Option, Some, None, ⊤}
use Rattle.std.specs.Io.KnownBytes.{Consumes}
use Rattle.vd_stream.specs.Causes.{ReadsWhole, Rose}
use Rattle.vd_stream.specs.declared.reading.TheConstants.{MOST_BYTES}
use Rattle.vd_machine.specs.File.{Plan, first, means}
use Rattle.vd_machine.specs.declared.machine.MachineFault.{MachineFault}
use Rattle.vd_runner.specs.declared.status.Status.{Status}
use Rattle.vd_runner.specs.declared.status.Status.TheVariants as status

-- the source was read to its end, and this is the first rule that its bytes break
pub record BreaksFirst (left rest : Option (List ℕ)) (rule : MachineFault) : Type 0 where
  pub bytes : List ℕ
  pub read : ReadsWhole left rest bytes
  pub broken : first bytes ≡ Some rule

-- one byte more was read than a file may have
pub record ReadsTooMuch (left rest : Option (List ℕ)) : Type 0 where
  pub bytes : List ℕ
  pub taken : Consumes left rest bytes
  pub large : length bytes ≡ MOST_BYTES + 1

-- the source was read to its end, its bytes break no rule, and they mean this machine
pub record ReadsMachine (left rest : Option (List ℕ)) (plan : Plan) : Type 0 where
  pub bytes : List ℕ
  pub read : ReadsWhole left rest bytes
  pub unbroken : first bytes ≡ None
  pub means : means bytes ≡ Some plan

-- why no machine was read: by the bytes read, or where a fault came
abbrev pub RefusesToRead : Option (List ℕ) → Option (List ℕ) → ℕ → ℕ → Status → Type 0
RefusesToRead left rest before now (status.Machine rule) = BreaksFirst left rest rule
RefusesToRead left rest before now (status.TooLarge n) = (n ≡ MOST_BYTES + 1) × ReadsTooMuch left rest
RefusesToRead left rest before now status.ReadFault = Rose before now
RefusesToRead left rest before now status.Memory = ⊤
RefusesToRead left rest before now _ = ⊥

-- the source was read to its end, and so it is with the machine that its bytes mean
pub record OfMachine (left rest : Option (List ℕ)) (P : Plan → Type 0) : Type 0 where
  pub plan : Plan
  pub read : ReadsMachine left rest plan
  pub holds : P plan
