-- The runs that are made are lawful, and each of their pieces lies in a region.
use Rattle.std.proofs.Common.{◌≡◌, ℕ, ◌+◌, ◌*◌, ◌%◌, ◌<◌, ◌≤◌, ◌==◌, Bool, true, false, not, ◌&&◌, nat_le, List, [], ◌∷◌, ◌++◌, length, refl, ap, sym, ◌∙◌, arith}
use Rattle.std.specs.List.{list_all, sum_by}
use Rattle.std.proofs.lemmas.Bool.{and_parts, le-leb, lt-leb, not-true}
use Rattle.std.proofs.lemmas.List.{length-append}
use Rattle.std.proofs.lemmas.List.Folds.{list_all-append}
use Rattle.std.proofs.lemmas.List.Sums.{sum_by-append}
use Rattle.vd_model.specs.Chains.{total}
use Rattle.vd_model.specs.declared.chain.Piece.{Piece}
use Rattle.vd_model.specs.declared.record.Run.{Run}
use Rattle.vd_text.specs.Grammar.{has_bytes, is_readable_first, is_lawful}
use Rattle.vd_machine.specs.Draws.{next_number, draw, several}
use Rattle.vd_machine.specs.Made.{readable_piece, writable_piece, readable_pieces, made_run, made_runs, made_regions}
use Rattle.vd_machine.specs.Queues.{lies_in, run_lies_in}
use Rattle.vd_machine.proofs.Drawing.{AreDrawn, all_drawn, so_many, sum_at_most, sum_of_same}

-- the pieces

pub readable_has_bytes : (x : ℕ) → has_bytes (readable_piece x).0 ≡ true
readable_has_bytes x = le-leb 1 (readable_piece x).0.len (omega arith)

pub readable_lies : (x : ℕ) → lies_in made_regions (readable_piece x).0 ≡ true
readable_lies x =
    let p = (readable_piece x).0 in
    rw (le-leb 1048576 p.addr (omega arith), le-leb (p.addr + p.len) 2097152 (omega arith)) refl

pub writable_lies : (x : ℕ) → lies_in made_regions (writable_piece x).0 ≡ true
writable_lies x =
    let p = (writable_piece x).0 in
    rw (
      le-leb 1048576 p.addr (omega arith),
      lt-leb (p.addr + p.len) 2097152 (omega arith),
      le-leb 4194304 p.addr (omega arith),
      le-leb (p.addr + p.len) 6291456 (omega arith),
    ) refl

-- readable pieces and then a writable one
first_then : (rs : List Piece) (w : Piece) → list_all (λ (p : Piece). not p.write) rs ≡ true → w.write ≡ true
    → is_readable_first (rs ++ w ∷ []) ≡ true
first_then [] w reads is = rw is refl
first_then (r ∷ rs) w reads is =
    let parts = and_parts (not r.write) (list_all (λ (p : Piece). not p.write) rs) reads in
    rw (not-true r.write parts.0) (first_then rs w parts.1 is)

-- a chain

abbrev pub reads : ℕ → List Piece
reads x = (readable_pieces x).0

abbrev pub write : ℕ → Piece
write x = (writable_piece (readable_pieces x).1).0

-- the chain of what was drawn
module _ (x n y : ℕ) (found : List Piece) (few : n ≡ 1 + draw x % 3) (d : AreDrawn readable_piece n (next_number x) y found) where
  pub chain_is : (items : List Piece) (w : Piece) → items ≡ found ++ w ∷ [] → w ≡ (writable_piece y).0
      → items ≡ reads x ++ write x ∷ []
  chain_is items w is last =
      is ∙ ap (λ (ps : List Piece). ps ++ w ∷ []) (d.items ∙ ap (λ k. (several readable_piece k (next_number x)).0) few)
      ∙ ap (λ (p : Piece). reads x ++ p ∷ [])
      (last ∙ ap (λ k. (writable_piece k).0) (d.next ∙ ap (λ k. (several readable_piece k (next_number x)).1) few))

  pub next_is : (z : ℕ) → z ≡ (writable_piece y).1 → z ≡ (writable_piece (readable_pieces x).1).1
  next_is z last =
      last ∙ ap (λ k. (writable_piece k).1) (d.next ∙ ap (λ k. (several readable_piece k (next_number x)).1) few)

pub reads_few : (x : ℕ) → length (reads x) ≡ 1 + draw x % 3
reads_few x = so_many readable_piece (1 + draw x % 3) (next_number x)

pub chain_first : (x : ℕ) → is_readable_first (reads x ++ write x ∷ []) ≡ true
chain_first x =
    first_then (reads x) (write x)
    (all_drawn readable_piece (λ (p : Piece). not p.write) (λ y. refl) (1 + draw x % 3) (next_number x)) refl

chain_passes : (p : Piece → Bool) → ((x : ℕ) → p (readable_piece x).0 ≡ true) → ((x : ℕ) → p (writable_piece x).0 ≡ true) → (x : ℕ)
    → list_all p (reads x ++ write x ∷ []) ≡ true
chain_passes p each last x =
    list_all-append p (reads x) (write x ∷ [])
    ∙ rw (all_drawn readable_piece p each (1 + draw x % 3) (next_number x), last (readable_pieces x).1) refl

pub chain_len : (x : ℕ) → length (reads x ++ write x ∷ []) ≡ 2 + draw x % 3
chain_len x = let sum = length-append (reads x) (write x ∷ []) in omega (arith, sum, reads_few x)

chain_total : (x : ℕ) → total (reads x ++ write x ∷ []) ≤ 4000
chain_total x =
    let sum = sum_by-append (λ (p : Piece). p.len) (reads x) (write x ∷ []) in
    let most = sum_at_most readable_piece (λ (p : Piece). p.len) 1039 (λ y. omega arith) (1 + draw x % 3) (next_number x) in
    omega (arith, sum, most)

-- a run

pub run_is_lawful : (x : ℕ) → is_lawful 16 (made_run x).0 ≡ true
unfolding made_run
run_is_lawful x =
    let some = le-leb 1 (length (reads x ++ write x ∷ [])) (omega (arith, chain_len x)) in
    let few = le-leb (length (reads x ++ write x ∷ [])) 16 (omega (arith, chain_len x)) in
    let short = le-leb (total (reads x ++ write x ∷ [])) 0xffff_ffff (omega (arith, chain_total x)) in
    rw (chain_passes has_bytes readable_has_bytes (λ y. refl) x, some, chain_first x, few, short) refl

pub run_lies : (x : ℕ) → run_lies_in made_regions (made_run x).0 ≡ true
unfolding made_run
run_lies x = chain_passes (lies_in made_regions) readable_lies writable_lies x

run_count : (x : ℕ) → (made_run x).0.count ≡ 200
unfolding made_run
run_count x = refl

-- the runs

pub runs_are_lawful : (x : ℕ) → list_all (is_lawful 16) (made_runs x).0 ≡ true
unfolding made_runs
runs_are_lawful x = all_drawn made_run (is_lawful 16) run_is_lawful 1000 x

pub runs_lie : (x : ℕ) → list_all (run_lies_in made_regions) (made_runs x).0 ≡ true
unfolding made_runs
runs_lie x = all_drawn made_run (run_lies_in made_regions) run_lies 1000 x

pub runs_count : (x : ℕ) → sum_by (λ (r : Run). r.count) (made_runs x).0 ≡ 200000
unfolding made_runs
runs_count x = sum_of_same made_run (λ (r : Run). r.count) 200 run_count 1000 x
