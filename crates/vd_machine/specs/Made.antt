-- The machine that is made from a seed: large work for a play, of which the same seed makes the same again.
use Rattle.std.specs.Prelude.{ℕ, ◌+◌, ◌*◌, ◌%◌, ◌==◌, true, false, List, [], ◌∷◌, ◌++◌, Some}
use Rattle.arrayvec.specs.ArrayVec.{ArrayVec}
use Rattle.vd_model.specs.declared.base.Mode.TheVariants as mode
use Rattle.vd_model.specs.declared.chain.Piece.{Piece}
use Rattle.vd_model.specs.declared.features.Features.{Features}
use Rattle.vd_model.specs.declared.record.Run.{Run}
use Rattle.vd_machine.specs.Commands.{command_with, control_script}
use Rattle.vd_machine.specs.Draws.{next_number, draw, several}
use Rattle.vd_machine.specs.File.{Plan}
use Rattle.vd_machine.specs.Queues.{script}
use Rattle.vd_machine.specs.declared.machine.Switch.{Switch}
use Rattle.vd_machine.specs.declared.machine.To.TheVariants as to
use Rattle.vd_machine.specs.declared.regions.Region.{Region}

-- a readable piece: its address is drawn, and then its length
abbrev pub readable_piece : ℕ → Piece × ℕ
readable_piece x = (
  record { addr = 1048576 + 8 * (draw x % 65536); len = 16 + draw (next_number x) % 1024; write = false },
  next_number (next_number x),
)

-- a writable piece of 16 bytes: its address is drawn
abbrev pub writable_piece : ℕ → Piece × ℕ
writable_piece x = (record { addr = 4194304 + 8 * (draw x % 65536); len = 16; write = true }, next_number x)

-- one to three readable pieces, how many is drawn first
abbrev pub readable_pieces : ℕ → List Piece × ℕ
readable_pieces x = several readable_piece (1 + draw x % 3) (next_number x)

-- these and a writable one are a chain, 200 times
unfoldable pub made_run : ℕ → Run × ℕ
made_run x = (
  record { count = 200; chain = (readable_pieces x).0 ++ (writable_piece (readable_pieces x).1).0 ∷ [] },
  (writable_piece (readable_pieces x).1).1,
)

-- the runs of 1,000 texts
unfoldable pub made_runs : ℕ → List Run × ℕ
made_runs x = several made_run 1000 x

-- tables, EVENT_IDX and IN_ORDER
abbrev pub all_features : Features
all_features = record { indirect = true; event_idx = true; in_order = true }

-- 1 MiB that the device reads, and 2 MiB that it writes
abbrev pub made_regions : List Region
made_regions = record { addr = 1048576; size = 1048576 } ∷ record { addr = 4194304; size = 2097152 } ∷ []

-- each quarter of the chains in another way
abbrev pub made_switches : List Switch
made_switches =
    record { after = 50000; to = to.Shadow } ∷ record { after = 100000; to = to.Renew } ∷ record { after = 150000; to = to.Pass } ∷ []

-- the commands 0101525400123456 (the MAC address) and 02000700 (the VLAN 7 is added)
abbrev pub made_commands : List (ArrayVec ℕ)
made_commands =
    command_with (0x01 ∷ 0x01 ∷ 0x52 ∷ 0x54 ∷ 0x00 ∷ 0x12 ∷ 0x34 ∷ 0x56 ∷ []) ∷ command_with (0x02 ∷ 0x00 ∷ 0x07 ∷ 0x00 ∷ []) ∷ []

-- the machine of a seed: its layout is drawn (split where that draw is even), then its window, then its runs
unfoldable pub made : ℕ → Plan
made seed = record {
  packed = draw seed % 2 == 1;
  size = 256;
  features = all_features;
  window = 1 + draw (next_number seed) % 16;
  start = mode.Pass;
  first = 4096;
  last = 281474976710655;
  regions = made_regions;
  queues = script (made_runs (next_number (next_number seed))).0 ∷ [];
  switches = made_switches;
  control = Some (control_script made_commands);
}
