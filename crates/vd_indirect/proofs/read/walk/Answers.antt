use Rattle.std.proofs.Common.{◌/◌, length, sym, arith}
use Rattle.std.proofs.lemmas.Result.{err_from_is_err_and}
use Rattle.vd_indirect.proofs.Walk.{first_refused, first_taken, ended, broken, goes, refused, appended, length-taken}
use Rattle.vd_indirect.proofs.read.walk.Goals as goal

pub returns-in_err-first_piece : goal.returns-in_err-first_piece
returns-in_err-first_piece c =
    let p = err_from_is_err_and c.from_residual.result c.from_residual.ensures.1 in
    rw (p.1, p.2) (sym (first_refused c.args.kind c.args.words.now (length c.args.words.now / 2) c.in_err-first_piece.field-0.0
    c.requires.some c.in_err-first_piece.ensures))

pub loop-count-init : goal.loop-count-init
loop-count-init c =
    rw c.new-chain.ensures (first_taken c.args.kind c.args.words.now (length c.args.words.now / 2) c.in_ok-first_piece.field-0
    c.requires.some c.in_ok-first_piece.ensures)

pub returns-in_err-next_place : goal.returns-in_err-next_place
returns-in_err-next_place c =
    let p = err_from_is_err_and c.from_residual-in_err-next_place.result c.from_residual-in_err-next_place.ensures.1 in
    let w = c.loop-count.invariant in
    rw (p.1, p.2) (sym (broken c.args.kind c.args.words.now (length c.args.words.now / 2) c.loop-count.count c.loop-count.place
    c.loop-count.chain c.in_err-next_place.field-0.0 w w.within (sym c.in_err-next_place.ensures.value)))

pub returns-in-None : goal.returns-in-None
returns-in-None c =
    let w = c.loop-count.invariant in
    sym (ended c.args.kind c.args.words.now (length c.args.words.now / 2) c.loop-count.count c.loop-count.place c.loop-count.chain w
    w.within (rw c.in-None.is at (sym c.in_ok-next_place.ensures.value)))

pub append-requires-clause-room : goal.append-requires-clause-room
append-requires-clause-room c =
    let w = c.loop-count.invariant in
    let long = length-taken c.args.kind c.args.words.now (length c.args.words.now / 2) c.loop-count.count c.loop-count.place
    c.loop-count.chain w in
    let g = goes c.args.kind c.args.words.now (length c.args.words.now / 2) c.loop-count.count c.loop-count.place c.in-Some.next
    c.loop-count.chain w w.within (rw c.in-Some.is at (sym c.in_ok-next_place.ensures.value)) in
    omega arith

pub returns-in_err-append : goal.returns-in_err-append
returns-in_err-append c =
    let p = err_from_is_err_and c.from_residual-in_err-append.result c.from_residual-in_err-append.ensures.1 in
    let w = c.loop-count.invariant in
    let g = goes c.args.kind c.args.words.now (length c.args.words.now / 2) c.loop-count.count c.loop-count.place c.in-Some.next
    c.loop-count.chain w w.within (rw c.in-Some.is at (sym c.in_ok-next_place.ensures.value)) in
    rw (p.1, p.2) (sym (refused c.args.kind c.args.words.now (length c.args.words.now / 2) c.loop-count.count c.loop-count.place
    c.in-Some.next c.loop-count.chain c.in_err-append.field-0.0 w g (sym c.in_err-append.ensures.value)))

pub loop-count-preserved : goal.loop-count-preserved
loop-count-preserved c =
    let w = c.loop-count.invariant in
    let g = goes c.args.kind c.args.words.now (length c.args.words.now / 2) c.loop-count.count c.loop-count.place c.in-Some.next
    c.loop-count.chain w w.within (rw c.in-Some.is at (sym c.in_ok-next_place.ensures.value)) in
    let low = rw c.in-Some.is at c.in_ok-next_place.ensures.low in
    rw c.in_ok-append.ensures.ok (appended c.args.kind c.args.words.now (length c.args.words.now / 2) c.loop-count.count
    c.loop-count.place c.in-Some.next c.loop-count.chain w g (omega arith) (sym c.in_ok-append.ensures.value))
