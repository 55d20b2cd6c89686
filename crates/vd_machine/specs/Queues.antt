-- The queues and their chains.
use Rattle.std.specs.Prelude.{ℕ, ◌+◌, Bool, false, ◌&&◌, ◌==◌, nat_le, if◌then◌else◌, List, [], length, map, codes, Option, option_and_then, option_map, is_some}
use Rattle.std.specs.List.{list_all, list_any, sum_by}
use Rattle.std.specs.Option.{option_map_or}
use Rattle.toml.specs.Data.{Data, Members, as_str}
use Rattle.vd_model.specs.declared.chain.Piece.{Piece}
use Rattle.vd_model.specs.declared.features.Features.{Features}
use Rattle.vd_model.specs.declared.record.Run.{Run}
use Rattle.vd_model.specs.declared.record.Script.{Script}
use Rattle.vd_text.specs.Grammar.{all_some, run, run_within, is_lawful}
use Rattle.vd_machine.specs.Lookup.{items_at, list_in}
use Rattle.vd_text.specs.declared.chains.TheConstants.{MOST_PIECES}
use Rattle.vd_machine.specs.declared.limits.TheConstants.{MOST_QUEUES, MOST_CHAINS, MOST_CHAINS_OF_ALL}
use Rattle.vd_machine.specs.declared.regions.Region.{Region}

-- the value is a text that writes a chain, the readable pieces first
abbrev pub writes_chain : Data → Bool
writes_chain d = option_map_or (λ t. is_some (run t)) (as_str d) false

-- the value is a list of such texts
abbrev pub queue_writes_chains : Data → Bool
queue_writes_chains d = option_map_or (list_all writes_chain) (list_in d) false

-- each chain text has a meaning
unfoldable pub all_write_chains : Members → Bool
all_write_chains ms = list_all queue_writes_chains (items_at (codes "queues") ms)

-- how many pieces a chain may have beside the limit of every chain: the ring's size, and with tables no fewer (VIRTIO 1.2, 2.7.5.3)
abbrev pub most_pieces : Features → ℕ → ℕ
most_pieces f size = if f.indirect then MOST_PIECES else size

-- what a data queue offers
abbrev pub script : List Run → Script
script rs = record { runs = rs; commands = [] }

-- the run that a text writes, where its chain has at most so many pieces and no more bytes than a chain may have
abbrev pub run_of : ℕ → Data → Option Run
run_of most d = option_and_then (run_within most) (as_str d)

-- the script that a list of texts writes
abbrev pub script_of : ℕ → Data → Option Script
script_of most d = option_map script (option_and_then (λ ds. all_some (map (run_of most) ds)) (list_in d))

-- the queues in file order, where each text writes such a run
unfoldable pub scripts_of : ℕ → Members → Option (List Script)
scripts_of most ms = all_some (map (script_of most) (items_at (codes "queues") ms))

-- no command, and lawful runs
abbrev pub is_script : ℕ → Script → Bool
is_script most q = (length q.commands == 0) && list_all (is_lawful most) q.runs

-- each script is lawful
abbrev pub are_scripts : ℕ → List Script → Bool
are_scripts most qs = list_all (is_script most) qs

-- the region holds each byte of the piece
abbrev pub holds : Piece → Region → Bool
holds p r = nat_le r.addr p.addr && nat_le (p.addr + p.len) (r.addr + r.size)

-- one of the regions holds the piece
abbrev pub lies_in : List Region → Piece → Bool
lies_in rs p = list_any (holds p) rs

-- each piece of the chain lies in a region
abbrev pub run_lies_in : List Region → Run → Bool
run_lies_in rs r = list_all (lies_in rs) r.chain

-- each piece of a script lies in a region
abbrev pub script_lies_in : List Region → Script → Bool
script_lies_in rs q = list_all (run_lies_in rs) q.runs

-- each piece lies in one region
abbrev pub all_lie : List Region → List Script → Bool
all_lie rs qs = list_all (script_lies_in rs) qs

-- how many chains a script has
abbrev pub chains_of : Script → ℕ
chains_of q = sum_by (λ (r : Run). r.count) q.runs

-- no more chains than a queue may have
abbrev pub is_short : Script → Bool
is_short q = nat_le (chains_of q) MOST_CHAINS

-- one queue at least and eight at most, and no more chains in one queue and in all than may be
abbrev pub few : List Script → Bool
few qs = (nat_le 1 (length qs) && nat_le (length qs) MOST_QUEUES)
    && (list_all is_short qs && nat_le (sum_by chains_of qs) MOST_CHAINS_OF_ALL)
