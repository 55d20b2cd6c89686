-- When a fault may come, and what was read to the end.
use Rattle.std.specs.Prelude.{◌≡◌, ℕ, ◌+◌, ◌-◌, ◌^◌, ◌≤◌, min, List, length, OnOk, OnErr, Option, Result}
use Rattle.std.specs.Io.KnownBytes.{Consumes, IsAtEnd}
use Rattle.vd_stream.specs.declared.reading.ReadFault.{ReadFault}
use Rattle.vd_stream.specs.declared.reading.TheConstants.{MOST_BYTES}
use Rattle.vd_stream.specs.declared.reading.ReadFault.TheVariants as fault

-- a count that went up by one, or stands still at the last number
abbrev pub raised : ℕ → ℕ
raised before = min (before + 1) (2 ^ 64 - 1)

-- the count rose, or stands at the last number
abbrev pub Rose : ℕ → ℕ → Type 0
Rose before now = raised before ≤ now

-- the count of faults is as it was where the call is Ok, and went up by one where it failed
pub record HasCause {T E : Type 0} (before now : ℕ) (result : Result T E) : Type 0 where
  pub later : before ≤ now
  pub ok : OnOk result (now ≡ before)
  pub failed : OnErr result (now ≡ raised before)

-- what of the source's bytes was read: these, and no more than the limit
pub record ReadsWhole (left rest : Option (List ℕ)) (bytes : List ℕ) : Type 0 where
  pub taken : Consumes left rest bytes
  pub end : IsAtEnd rest
  pub small : length bytes ≤ MOST_BYTES

-- when each fault of reading comes; the count of faults went up by one where a take failed, and else is as it was
abbrev pub ReadsFaulty : Option (List ℕ) → Option (List ℕ) → ℕ → ℕ → ReadFault → Type 0
ReadsFaulty left rest before now fault.Failed = now ≡ raised before
ReadsFaulty left rest before now fault.TooLarge = (bytes : List ℕ) × Consumes left rest bytes × (length bytes ≡ MOST_BYTES + 1)
    × (now ≡ before)
ReadsFaulty left rest before now fault.Memory = now ≡ before
