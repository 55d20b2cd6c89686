-- Steps through a script.
use Rattle.std.proofs.Common.{◌≡◌, ℕ, zero, suc, ◌+◌, ◌-◌, ◌<◌, ◌≤◌, Some, None, List, [], ◌∷◌, ◌++◌, length, drop, replicate, slice_get, slice_index_or, refl, sym, ◌∙◌, ap, subst, arith}
use Rattle.std.proofs.lemmas.List.{drop_more, drop_all, length-append, length-replicate}
use Rattle.std.proofs.lemmas.List.Sums.{sum_by-cons}
use Rattle.vd_model.specs.declared.chain.Piece.{Piece}
use Rattle.vd_model.specs.declared.record.Run.{Run}
use Rattle.vd_bus.specs.Scripts.{run_chains, run_count}
use Rattle.vd_models.specs.declared.cursor.Cursor.{Cursor}
use Rattle.vd_models.specs.Cursors.{left_of, left_at, next_at, HasFirst, IsSettled}

left_whole : (rs : List Run) → left_of rs 0 ≡ run_chains rs
left_whole [] = refl
left_whole (r ∷ rs) = ap (λ n. replicate n r.chain ++ run_chains rs) (let e : r.count - 0 ≡ r.count = omega arith in e)

left_used : (r : Run) (rs : List Run) (used : ℕ) → r.count ≤ used → left_of (r ∷ rs) used ≡ run_chains rs
left_used r rs used h = ap (λ n. replicate n r.chain ++ run_chains rs) (let e : r.count - used ≡ 0 = omega arith in e)

-- a run that is offered whole is passed over
pub passed : (runs : List Run) (run used : ℕ) (r : Run) → run < length runs → r ≡ slice_index_or runs run r → r.count ≤ used
    → left_of (drop (run + 1) runs) 0 ≡ left_of (drop run runs) used
passed runs run used r inside is whole =
    let split : drop run runs ≡ r ∷ drop (run + 1) runs = drop_more runs run r inside ∙ ap (λ x. x ∷ drop (run + 1) runs) (sym is) in
    left_whole (drop (run + 1) runs) ∙ sym (left_used r (drop (run + 1) runs) used whole) ∙ ap (λ rs. left_of rs used) (sym split)

pub settled_end : (runs : List Run) (run used : ℕ) → length runs ≤ run → HasFirst (drop run runs) used
settled_end runs run used h = subst (λ rs. HasFirst rs used) (sym (drop_all run runs h)) tt

pub settled_here : (runs : List Run) (run used : ℕ) (r : Run) → run < length runs → r ≡ slice_index_or runs run r → used < r.count
    → HasFirst (drop run runs) used
settled_here runs run used r inside is h = subst (λ rs. HasFirst rs used) (sym (drop_more runs run r inside
    ∙ ap (λ x. x ∷ drop (run + 1) runs) (sym is))) h

more_first : (n : ℕ) (c : List Piece) (cs : List (List Piece)) → 0 < n → replicate n c ++ cs ≡ c ∷ (replicate (n - 1) c ++ cs)
more_first zero c cs h = absurd (omega arith)
more_first (suc n) c cs h = ap (λ m. c ∷ (replicate m c ++ cs)) (let e : n ≡ suc n - 1 = omega arith in e)

-- the next chain, and those left after it
first_left : (rs : List Run) (used : ℕ) (c : List Piece) → HasFirst rs used → slice_get (left_of rs used) 0 ≡ Some c
    → left_of rs used ≡ c ∷ left_of rs (used + 1)
first_left [] used c h is = absurd (cc)
first_left (r ∷ rs) used c h is =
    let split = more_first (r.count - used) r.chain (run_chains rs) (omega arith) in
    let same : r.chain ≡ c = some_same (sym (ap (λ cs. slice_get cs 0) split) ∙ is) in
    split ∙ ap (λ x. x ∷ (replicate (r.count - used - 1) r.chain ++ run_chains rs)) same ∙ ap
    (λ n. c ∷ (replicate n r.chain ++ run_chains rs)) (let e : r.count - used - 1 ≡ r.count - (used + 1) = omega arith in e)
  where
    some_same : Some r.chain ≡ Some c → r.chain ≡ c
    some_same e = cc

pub next_left : (runs : List Run) (at : Cursor) (c : List Piece) → IsSettled runs at → next_at runs at ≡ Some c
    → left_at runs at ≡ c ∷ left_at runs (record { run = at.run; used = at.used + 1 })
next_left runs at c h is = first_left (drop at.run runs) at.used c h is

-- what the code reads for the next chain
pub next_is : (runs : List Run) (at : Cursor) (r : Run) → at.run < length runs → r ≡ slice_index_or runs at.run r → IsSettled runs at
    → Some r.chain ≡ next_at runs at
next_is runs at r inside is h =
    let split : drop at.run runs ≡ r ∷ drop (at.run + 1) runs = drop_more runs at.run r inside ∙ ap (λ x. x ∷ drop (at.run + 1) runs)
    (sym is) in
    let less : at.used < r.count = subst (λ rs. HasFirst rs at.used) split h in
    sym (ap (λ rs. slice_get (left_of rs at.used) 0) split ∙ ap (λ cs. slice_get cs 0)
    (more_first (r.count - at.used) r.chain (run_chains (drop (at.run + 1) runs)) (omega arith)))

pub next_none : (runs : List Run) (at : Cursor) → length runs ≤ at.run → None ≡ next_at runs at
next_none runs at h = sym (ap (λ rs. slice_get (left_of rs at.used) 0) (drop_all at.run runs h))

pub chains_count : (rs : List Run) → length (run_chains rs) ≡ run_count rs
chains_count [] = refl
chains_count (r ∷ rs) = length-append (replicate r.count r.chain) (run_chains rs) ∙ omega
    (arith, length-replicate r.count r.chain, chains_count rs, sum_by-cons (λ (x : Run). x.count) r rs)

pub start_left : (runs : List Run) → left_at runs (record { run = 0; used = 0 }) ≡ run_chains runs
start_left runs = left_whole runs
