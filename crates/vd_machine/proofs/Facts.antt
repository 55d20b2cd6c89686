-- What the facts that a machine keeps say of its size, its window, its regions and its queues.
use Rattle.std.proofs.Common.{◌≡◌, ℕ, ◌+◌, ◌^◌, ◌<◌, ◌≤◌, ◌==◌, Bool, true, false, ◌&&◌, ◌||◌, cond, nat_le, nat_lt, List, [], ◌∷◌, length, get_or, sym, arith, inl, inr, lit≤}
use Rattle.std.specs.List.{list_all, sum_by}
use Rattle.std.proofs.lemmas.Bool.{and_parts, leb-true, ltb-true, eqb-true, false≢true, cases_Bool}
use Rattle.std.proofs.lemmas.Bool.Decides.{nat_tests}
use Rattle.vd_model.specs.Chains.{total, needs}
use Rattle.vd_model.specs.declared.chain.Piece.{Piece}
use Rattle.vd_model.specs.declared.features.Features.{Features}
use Rattle.vd_model.specs.declared.record.Run.{Run}
use Rattle.vd_model.specs.declared.record.Script.{Script}
use Rattle.vd_text.specs.Grammar.{has_bytes, is_lawful, is_ordered, is_within}
use Rattle.vd_text.proofs.Order.{all_at}
use Rattle.vd_machine.specs.Rings.{is_power, is_lawful_size, is_window}
use Rattle.vd_machine.specs.Iovas.{is_range}
use Rattle.vd_machine.specs.Regions.{is_region, all_apart, are_regions}
use Rattle.vd_machine.specs.Queues.{most_pieces, is_script, are_scripts, holds, lies_in, run_lies_in, script_lies_in, all_lie, chains_of, is_short, few}
use Rattle.vd_model.specs.declared.map.TheConstants.Map.{MOST}
use Rattle.vd_text.specs.declared.chains.TheConstants.{MOST_PIECES}
use Rattle.vd_machine.specs.declared.limits.TheConstants.{MOST_QUEUES, MOST_CHAINS, MOST_CHAINS_OF_ALL}
use Rattle.vd_machine.specs.declared.rings.TheConstants.{MOST_PLACES, MOST_WINDOW}
use Rattle.vd_machine.specs.declared.regions.Region.{Region}

-- the size

-- a power of two from 2 to the most places
pub record IsPower (n : ℕ) : Type 0 where
  pub exponent : ℕ
  pub least : 1 ≤ exponent
  pub most : exponent ≤ 10
  pub value : n ≡ 2 ^ exponent

either : (p n : ℕ) (b : Bool) → ((p == n) || b) ≡ true → (p ≡ n → IsPower n) → (b ≡ true → IsPower n) → IsPower n
either p n b h here there = elim (cases_Bool (p == n)) [
  | inl e ↦ here (eqb-true p n e)
  | inr e ↦ there (rw e at h)
]

power : (n k : ℕ) → 1 ≤ k → k ≤ 10 → 2 ^ k ≡ n → IsPower n
power n k low high e = record { exponent = k; least = low; most = high; value = sym e }

pub is_power_of : (n : ℕ) → is_power n ≡ true → IsPower n
is_power_of n h =
    either 2 n _ h (power n 1 (lit≤ tt) (lit≤ tt)) (λ i2.
    either 4 n _ i2 (power n 2 (lit≤ tt) (lit≤ tt)) (λ i3.
    either 8 n _ i3 (power n 3 (lit≤ tt) (lit≤ tt)) (λ i4.
    either 16 n _ i4 (power n 4 (lit≤ tt) (lit≤ tt)) (λ i5.
    either 32 n _ i5 (power n 5 (lit≤ tt) (lit≤ tt)) (λ i6.
    either 64 n _ i6 (power n 6 (lit≤ tt) (lit≤ tt)) (λ i7.
    either 128 n _ i7 (power n 7 (lit≤ tt) (lit≤ tt)) (λ i8.
    either 256 n _ i8 (power n 8 (lit≤ tt) (lit≤ tt)) (λ i9.
    either 512 n _ i9 (power n 9 (lit≤ tt) (lit≤ tt)) (λ i10.
    either MOST_PLACES n _ i10 (power n 10 (lit≤ tt) (lit≤ tt)) (λ i. absurd (false≢true i)))))))))))

power_bounds : (n : ℕ) → is_power n ≡ true → (2 ≤ n) × (n ≤ MOST_PLACES)
power_bounds n h = grind (arith, nat_tests)

pub size_bounds : (packed : Bool) (n : ℕ) → is_lawful_size packed n ≡ true → (2 ≤ n) × (n ≤ MOST_PLACES)
size_bounds true n h = let parts = and_parts (nat_le 2 n) (nat_le n MOST_PLACES) h in (leb-true 2 n parts.0, leb-true n MOST_PLACES parts.1)
size_bounds false n h = power_bounds n h

pub window_bounds : (n : ℕ) → is_window n ≡ true → (1 ≤ n) × (n ≤ MOST_WINDOW)
window_bounds n h = let parts = and_parts (nat_le 1 n) (nat_le n MOST_WINDOW) h in (leb-true 1 n parts.0, leb-true n MOST_WINDOW parts.1)

-- the range of iovas

pub range_bounds : (first last : ℕ) → is_range first last ≡ true → (first ≤ last) × (last < 2 ^ 63)
range_bounds first last h =
    let parts = and_parts (nat_le first last) (nat_lt last 0x8000_0000_0000_0000) h in
    (leb-true first last parts.0, ltb-true last 0x8000_0000_0000_0000 parts.1)

-- the regions

pub region_parts : (rs : List Region) → are_regions rs ≡ true → (nat_le (length rs) MOST ≡ true) × (list_all is_region rs ≡ true)
    × (all_apart rs ≡ true)
region_parts rs h =
    let few_rest = and_parts (nat_le (length rs) MOST) (list_all is_region rs && all_apart rs) h in
    let rest = and_parts (list_all is_region rs) (all_apart rs) few_rest.1 in
    (few_rest.0, rest.0, rest.1)

pub few_regions : (rs : List Region) → are_regions rs ≡ true → length rs ≤ MOST
few_regions rs h = leb-true (length rs) MOST (region_parts rs h).0

region_fits : (r : Region) → is_region r ≡ true → (1 ≤ r.size) × (r.addr + r.size ≤ 2 ^ 63)
region_fits r h =
    let parts = and_parts (nat_le 1 r.size && nat_lt r.size 0x8000_0000_0000_0000) (nat_le (r.addr + r.size) 0x8000_0000_0000_0000) h in
    let sized = and_parts (nat_le 1 r.size) (nat_lt r.size 0x8000_0000_0000_0000) parts.0 in
    (leb-true 1 r.size sized.0, leb-true (r.addr + r.size) 0x8000_0000_0000_0000 parts.1)

pub region_bounds : (rs : List Region) (d : Region) (k : ℕ) → are_regions rs ≡ true → k < length rs
    → (1 ≤ (get_or rs k d).size) × ((get_or rs k d).addr + (get_or rs k d).size ≤ 2 ^ 63)
region_bounds rs d k h below = region_fits (get_or rs k d) (all_at is_region rs d k (region_parts rs h).1 below)

-- a piece that lies in lawful regions ends at most at 2 ^ 63
end_in : (rs : List Region) (p : Piece) → list_all is_region rs ≡ true → lies_in rs p ≡ true → p.addr + p.len ≤ 2 ^ 63
end_in [] p h lies = absurd (false≢true lies)
end_in (r ∷ rs) p h lies =
    let all = and_parts (is_region r) (list_all is_region rs) h in
    elim (cases_Bool (holds p r)) [
      | inl here ↦
          let ends = leb-true (p.addr + p.len) (r.addr + r.size)
          (and_parts (nat_le r.addr p.addr) (nat_le (p.addr + p.len) (r.addr + r.size)) here).1 in
          omega (arith, ends, (region_fits r all.0).1)
      | inr other ↦ end_in rs p all.1 (rw other at lies)
    ]

pub piece_end : (rs : List Region) (p : Piece) → are_regions rs ≡ true → lies_in rs p ≡ true → p.addr + p.len ≤ 2 ^ 63
piece_end rs p h lies = end_in rs p (region_parts rs h).1 lies

-- the queues

pub few_parts : (qs : List Script) → few qs ≡ true → (nat_le 1 (length qs) ≡ true) × (nat_le (length qs) MOST_QUEUES ≡ true)
    × (list_all is_short qs ≡ true) × (nat_le (sum_by chains_of qs) MOST_CHAINS_OF_ALL ≡ true)
few_parts qs h =
    let both = and_parts (nat_le 1 (length qs) && nat_le (length qs) MOST_QUEUES)
    (list_all is_short qs && nat_le (sum_by chains_of qs) MOST_CHAINS_OF_ALL) h in
    let queues = and_parts (nat_le 1 (length qs)) (nat_le (length qs) MOST_QUEUES) both.0 in
    let chains = and_parts (list_all is_short qs) (nat_le (sum_by chains_of qs) MOST_CHAINS_OF_ALL) both.1 in
    (queues.0, queues.1, chains.0, chains.1)

pub few_queues : (qs : List Script) → few qs ≡ true → length qs ≤ MOST_QUEUES
few_queues qs h = leb-true (length qs) MOST_QUEUES (few_parts qs h).1

pub queue_is_short : (qs : List Script) (d : Script) (k : ℕ) → few qs ≡ true → k < length qs → chains_of (get_or qs k d) ≤ MOST_CHAINS
queue_is_short qs d k h below = leb-true (chains_of (get_or qs k d)) MOST_CHAINS (all_at is_short qs d k (few_parts qs h).2 below)

pub all_chains : (qs : List Script) → few qs ≡ true → sum_by chains_of qs ≤ MOST_CHAINS_OF_ALL
all_chains qs h = leb-true (sum_by chains_of qs) MOST_CHAINS_OF_ALL (few_parts qs h).3

pub queue_has_no_commands : (most : ℕ) (qs : List Script) (d : Script) (k : ℕ) → are_scripts most qs ≡ true → k < length qs
    → length (get_or qs k d).commands ≡ 0
queue_has_no_commands most qs d k h below =
    let q = get_or qs k d in
    eqb-true (length q.commands) 0
    (and_parts (length q.commands == 0) (list_all (is_lawful most) q.runs) (all_at (is_script most) qs d k h below)).0

-- one chain or more, of at most so many pieces, each in one region
pub record IsRunIn (most : ℕ) (rs : List Region) (r : Run) : Type 0 where
  pub once : 1 ≤ r.count
  pub pieces : length r.chain ≤ MOST_PIECES
  pub within : length r.chain ≤ most
  pub bytes : total r.chain ≤ 0xffff_ffff
  pub some : list_all has_bytes r.chain ≡ true
  pub inside : list_all (lies_in rs) r.chain ≡ true

run_in : (most : ℕ) (rs : List Region) (r : Run) → is_lawful most r ≡ true → run_lies_in rs r ≡ true → IsRunIn most rs r
run_in most rs r h lies =
    let counts = and_parts (nat_le 1 r.count) (list_all has_bytes r.chain && (is_ordered r.chain && is_within most r.chain)) h in
    let pieces = and_parts (list_all has_bytes r.chain) (is_ordered r.chain && is_within most r.chain) counts.1 in
    let order = and_parts (is_ordered r.chain) (is_within most r.chain) pieces.1 in
    let bounds = and_parts (nat_le (length r.chain) MOST_PIECES) (nat_le (length r.chain) most && nat_le (total r.chain) 0xffff_ffff)
    order.1 in
    let rest = and_parts (nat_le (length r.chain) most) (nat_le (total r.chain) 0xffff_ffff) bounds.1 in
    record {
      once = leb-true 1 r.count counts.0;
      pieces = leb-true (length r.chain) MOST_PIECES bounds.0;
      within = leb-true (length r.chain) most rest.0;
      bytes = leb-true (total r.chain) 0xffff_ffff rest.1;
      some = pieces.0;
      inside = lies;
    }

pub run_at : (most : ℕ) (rs : List Region) (qs : List Script) (d : Script) (e : Run) (k j : ℕ) → are_scripts most qs ≡ true
    → all_lie rs qs ≡ true → k < length qs → j < length (get_or qs k d).runs → IsRunIn most rs (get_or (get_or qs k d).runs j e)
run_at most rs qs d e k j h lie below within =
    let q = get_or qs k d in
    let runs = (and_parts (length q.commands == 0) (list_all (is_lawful most) q.runs) (all_at (is_script most) qs d k h below)).1 in
    run_in most rs (get_or q.runs j e) (all_at (is_lawful most) q.runs e j runs within)
    (all_at (run_lies_in rs) q.runs e j (all_at (script_lies_in rs) qs d k lie below) within)

needs_by : (b : Bool) (size : ℕ) (ps : List Piece) → 2 ≤ size → length ps ≤ cond b MOST_PIECES size → cond b 1 (length ps) ≤ size
needs_by true size ps low h = omega arith
needs_by false size ps low h = h

-- a chain takes no more descriptors than the ring has
pub needs_within : (f : Features) (packed : Bool) (size : ℕ) (ps : List Piece) → is_lawful_size packed size ≡ true
    → length ps ≤ most_pieces f size → needs f ps ≤ size
needs_within f packed size ps lawful h = needs_by f.indirect size ps (size_bounds packed size lawful).0 h
