-- How a party's steps are counted, and at what pace it makes them.
use Rattle.std.specs.Prelude.{ℕ, ◌+◌, ◌*◌, ◌-◌, ◌^◌, ◌<◌, ◌≤◌, min, List, [], ◌∷◌}
use Rattle.vd_layout.specs.declared.moves.Move.{Move}
use Rattle.vd_layout.specs.declared.moves.Move.TheVariants as move
use Rattle.vd_bus.specs.declared.event.Event.{Event}
use Rattle.vd_bus.specs.declared.event.Event.TheVariants.{Attach}

-- the value at which a count stands still
abbrev pub last_count : ℕ
last_count = 2 ^ 64 - 1

-- a count that went up by so many
abbrev pub raised : ℕ → ℕ → ℕ
raised k n = min (n + k) last_count

-- how many accesses a party makes at most for each chain, entry, bell or attach
abbrev pub accesses_each : ℕ
accesses_each = 64

-- the pace of a party that has done so much, for counts below the last
abbrev pub KeepsPace : ℕ → ℕ → ℕ → Type 0
KeepsPace accesses heard did = accesses < last_count → heard < last_count → accesses ≤ accesses_each * did

-- 1 for a step that was no look of a sleeper
abbrev pub worked : Move → ℕ
worked move.Looked = 0
worked _ = 1

-- how many attaches were made
abbrev pub attaches : List Event → ℕ
attaches [] = 0
attaches (Attach at ring base mode settings map ∷ es) = attaches es + 1
attaches (_ ∷ es) = attaches es
