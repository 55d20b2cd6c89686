-- What the facts that a machine keeps say of its runs, for the text of each.
use Rattle.std.proofs.Common.{◌≡◌, ℕ, ◌+◌, ◌^◌, ◌<◌, ◌≤◌, ◌==◌, Bool, true, ◌&&◌, nat_le, nat_lt, List, [], ◌∷◌, length, refl, arith}
use Rattle.std.specs.List.{list_all, sum_by}
use Rattle.std.proofs.lemmas.Bool.{and_parts, leb-true, le-leb, ltb-true}
use Rattle.std.proofs.lemmas.List.Sums.{sum_by-cons}
use Rattle.vd_model.specs.Chains.{total}
use Rattle.vd_model.specs.declared.chain.Piece.{Piece}
use Rattle.vd_model.specs.declared.record.Run.{Run}
use Rattle.vd_model.specs.declared.record.Script.{Script}
use Rattle.vd_text.specs.Grammar.{has_bytes, is_lawful, is_ordered, is_within, is_readable_first}
use Rattle.vd_text.proofs.Canonical.{fits_piece}
use Rattle.vd_text.specs.declared.chains.TheConstants.{MOST_PIECES}
use Rattle.vd_machine.specs.Queues.{is_script, are_scripts, lies_in, run_lies_in, script_lies_in, all_lie, chains_of, is_short}
use Rattle.vd_machine.specs.Regions.{is_region, are_regions}
use Rattle.vd_machine.specs.declared.limits.TheConstants.{MOST_CHAINS}
use Rattle.vd_machine.specs.declared.regions.Region.{Region}
use Rattle.vd_machine.proofs.Facts.{piece_end}

-- the run is lawful, and its numbers are those of a text
abbrev pub fits_run : ℕ → Run → Bool
fits_run most r = is_lawful most r && (nat_le r.count 0xffff_ffff && list_all fits_piece r.chain)

abbrev pub fits_script : ℕ → Script → Bool
fits_script most q = (length q.commands == 0) && list_all (fits_run most) q.runs

pub record RunParts (most : ℕ) (r : Run) : Type 0 where
  pub once : 1 ≤ r.count
  pub count : r.count ≤ 0xffff_ffff
  pub some : nat_le 1 (length r.chain) ≡ true
  pub first : is_readable_first r.chain ≡ true
  pub within : is_within most r.chain ≡ true
  pub pieces : list_all fits_piece r.chain ≡ true

pub run_parts : (most : ℕ) (r : Run) → fits_run most r ≡ true → RunParts most r
run_parts most r h =
    let parts = and_parts (is_lawful most r) (nat_le r.count 0xffff_ffff && list_all fits_piece r.chain) h in
    let numbers = and_parts (nat_le r.count 0xffff_ffff) (list_all fits_piece r.chain) parts.1 in
    let counts = and_parts (nat_le 1 r.count) (list_all has_bytes r.chain && (is_ordered r.chain && is_within most r.chain)) parts.0 in
    let bytes = and_parts (list_all has_bytes r.chain) (is_ordered r.chain && is_within most r.chain) counts.1 in
    let order = and_parts (is_ordered r.chain) (is_within most r.chain) bytes.1 in
    let ordered = and_parts (nat_le 1 (length r.chain)) (is_readable_first r.chain) order.0 in record {
      once = leb-true 1 r.count counts.0;
      count = leb-true r.count 0xffff_ffff numbers.0;
      some = ordered.0;
      first = ordered.1;
      within = order.1;
      pieces = numbers.1;
    }

pub script_parts : (most : ℕ) (q : Script) → fits_script most q ≡ true
    → ((length q.commands == 0) ≡ true) × (list_all (fits_run most) q.runs ≡ true)
script_parts most q h = and_parts (length q.commands == 0) (list_all (fits_run most) q.runs) h

pub region_fits : (r : Region) → is_region r ≡ true → (1 ≤ r.size) × (r.addr + r.size ≤ 2 ^ 63) × (r.size < 2 ^ 63)
region_fits r h =
    let parts = and_parts (nat_le 1 r.size && nat_lt r.size 0x8000_0000_0000_0000) (nat_le (r.addr + r.size) 0x8000_0000_0000_0000) h in
    let sized = and_parts (nat_le 1 r.size) (nat_lt r.size 0x8000_0000_0000_0000) parts.0 in
    (leb-true 1 r.size sized.0, leb-true (r.addr + r.size) 0x8000_0000_0000_0000 parts.1, ltb-true r.size 0x8000_0000_0000_0000 sized.1)

pieces_fit : (rs : List Region) (ps : List Piece) → are_regions rs ≡ true → list_all has_bytes ps ≡ true → list_all (lies_in rs) ps ≡ true
    → total ps ≤ 0xffff_ffff → list_all fits_piece ps ≡ true
pieces_fit rs [] regions bytes lie few = refl
pieces_fit rs (p ∷ ps) regions bytes lie few =
    let some = and_parts (has_bytes p) (list_all has_bytes ps) bytes in
    let inside = and_parts (lies_in rs p) (list_all (lies_in rs) ps) lie in
    let sum : total (p ∷ ps) ≡ p.len + total ps = sum_by-cons (λ (q : Piece). q.len) p ps in
    let least = leb-true 1 p.len some.0 in
    let end = piece_end rs p regions inside.0 in
    let addr : nat_le p.addr 0x7fff_ffff_ffff_ffff ≡ true = le-leb p.addr 0x7fff_ffff_ffff_ffff (omega (arith, least, end)) in
    let most : nat_le p.len 0xffff_ffff ≡ true = le-leb p.len 0xffff_ffff (omega (arith, sum, few)) in
    rw (addr, some.0, most) (pieces_fit rs ps regions some.1 inside.1 (omega (arith, sum, few)))

run_fits : (most : ℕ) (rs : List Region) (r : Run) → are_regions rs ≡ true → is_lawful most r ≡ true → run_lies_in rs r ≡ true
    → r.count ≤ 0xffff_ffff → fits_run most r ≡ true
run_fits most rs r regions lawful lies few =
    let counts = and_parts (nat_le 1 r.count) (list_all has_bytes r.chain && (is_ordered r.chain && is_within most r.chain)) lawful in
    let bytes = and_parts (list_all has_bytes r.chain) (is_ordered r.chain && is_within most r.chain) counts.1 in
    let order = and_parts (is_ordered r.chain) (is_within most r.chain) bytes.1 in
    let bounds = and_parts (nat_le (length r.chain) MOST_PIECES) (nat_le (length r.chain) most && nat_le (total r.chain) 0xffff_ffff)
    order.1 in
    let rest = and_parts (nat_le (length r.chain) most) (nat_le (total r.chain) 0xffff_ffff) bounds.1 in
    let pieces = pieces_fit rs r.chain regions bytes.0 lies (leb-true (total r.chain) 0xffff_ffff rest.1) in
    rw (lawful, le-leb r.count 0xffff_ffff few, pieces) refl

runs_fit : (most : ℕ) (rs : List Region) (runs : List Run) → are_regions rs ≡ true → list_all (is_lawful most) runs ≡ true
    → list_all (run_lies_in rs) runs ≡ true → sum_by (λ (r : Run). r.count) runs ≤ MOST_CHAINS → list_all (fits_run most) runs ≡ true
runs_fit most rs [] regions lawful lie few = refl
runs_fit most rs (r ∷ runs) regions lawful lie few =
    let each = and_parts (is_lawful most r) (list_all (is_lawful most) runs) lawful in
    let inside = and_parts (run_lies_in rs r) (list_all (run_lies_in rs) runs) lie in
    let sum : sum_by (λ (q : Run). q.count) (r ∷ runs) ≡ r.count + sum_by (λ (q : Run). q.count) runs =
    sum_by-cons (λ (q : Run). q.count) r runs in
    rw (run_fits most rs r regions each.0 inside.0 (omega (arith, sum, few)))
    (runs_fit most rs runs regions each.1 inside.1 (omega (arith, sum, few)))

pub scripts_fit : (most : ℕ) (rs : List Region) (qs : List Script) → are_regions rs ≡ true → are_scripts most qs ≡ true
    → all_lie rs qs ≡ true → list_all is_short qs ≡ true → list_all (fits_script most) qs ≡ true
scripts_fit most rs [] regions lawful lie short = refl
scripts_fit most rs (q ∷ qs) regions lawful lie short =
    let each = and_parts (is_script most q) (are_scripts most qs) lawful in
    let own = and_parts (length q.commands == 0) (list_all (is_lawful most) q.runs) each.0 in
    let inside = and_parts (script_lies_in rs q) (all_lie rs qs) lie in
    let few = and_parts (is_short q) (list_all is_short qs) short in
    rw (own.0, runs_fit most rs q.runs regions own.1 inside.0 (leb-true (chains_of q) MOST_CHAINS few.0))
    (scripts_fit most rs qs regions each.1 inside.1 few.1)
