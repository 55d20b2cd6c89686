-- the payload of eight bytes is the six from the third on
use Rattle.std.proofs.Common.{◌≡◌, ℕ, List, [], ◌∷◌, length, drop, slice_index_or, rules, arith}
use Rattle.std.proofs.lemmas.List.{drop_more, drop_all}
use Rattle.vd_control.specs.Commands.{command}
use Rattle.vd_control.proofs.command.Command.read.Goals as goal

six_left : (bytes : List ℕ) → length bytes ≡ 8 → slice_index_or bytes 2 0 ∷ slice_index_or bytes 3 0 ∷ slice_index_or bytes 4 0
    ∷ slice_index_or bytes 5 0 ∷ slice_index_or bytes 6 0 ∷ slice_index_or bytes 7 0 ∷ [] ≡ drop 2 bytes
six_left bytes is =
    let at = λ (i : ℕ). slice_index_or bytes i 0 in
    let a : drop 2 bytes ≡ at 2 ∷ drop 3 bytes = drop_more bytes 2 0 (omega arith) in
    let b : drop 3 bytes ≡ at 3 ∷ drop 4 bytes = drop_more bytes 3 0 (omega arith) in
    let c : drop 4 bytes ≡ at 4 ∷ drop 5 bytes = drop_more bytes 4 0 (omega arith) in
    let d : drop 5 bytes ≡ at 5 ∷ drop 6 bytes = drop_more bytes 5 0 (omega arith) in
    let e : drop 6 bytes ≡ at 6 ∷ drop 7 bytes = drop_more bytes 6 0 (omega arith) in
    let f : drop 7 bytes ≡ at 7 ∷ drop 8 bytes = drop_more bytes 7 0 (omega arith) in
    let g : drop 8 bytes ≡ [] = drop_all 8 bytes (omega arith) in
    cc

pub returns-in-1-clause-value : goal.returns-in-1-clause-value
unfolding command
returns-in-1-clause-value c =
    rw (six_left c.args.bytes.now (omega arith)) (search rules)
