use Rattle.std.proofs.Common.{◌≡◌, ℕ, ◌+◌, ◌-◌, ◌%◌, List, [], ◌∷◌, ◌++◌, length, ap, ◌∙◌, arith}
use Rattle.std.proofs.lemmas.List.{length-append}
use Rattle.std.proofs.lemmas.List.Elements.{All-push}
use Rattle.vd_model.specs.Chains.{IsPiece}
use Rattle.vd_model.specs.declared.chain.Piece.{Piece}
use Rattle.vd_model.specs.declared.record.Run.{Run}
use Rattle.vd_text.proofs.Order.{readable_first}
use Rattle.vd_text.specs.Grammar.{is_readable_first}
use Rattle.vd_machine.specs.Made.{readable_piece, made_run}
use Rattle.vd_machine.proofs.Drawing.{left_less, left_none}
use Rattle.vd_machine.proofs.Made.{chain_first, chain_is, chain_len, next_is}
use Rattle.vd_machine.proofs.making.made_run.Goals as goal

pub loop-preserved : goal.loop-preserved
loop-preserved c =
    let p = c.readable_piece.result in
    let sum = length-append c.loop.pieces.items (p ∷ []) in
    rw c.push.ensures.items (record {
      left = left_less readable_piece _ _ (1 + c.draw.result % 3 - c.loop.counter) c.loop.draws.last c.loop.pieces.items p
          c.readable_piece.new.draws.last (1 + c.draw.result % 3 - (c.loop.counter + 1)) (omega arith) c.readable_piece.ensures.value
          c.readable_piece.ensures.next c.loop.invariant.left;
      count = omega (arith, sum, c.loop.invariant.count);
      fits = All-push IsPiece c.loop.pieces.items p c.loop.invariant.fits (omega arith, omega arith);
    })

pub of-requires : goal.of-requires
of-requires c =
    let x = c.args.draws.now.last in
    let few = ap (λ (n : ℕ). 1 + n % 3) c.draw.ensures.value in
    let d = left_none readable_piece _ _ (1 + c.draw.result % 3 - c.loop.counter) c.loop.draws.last c.loop.pieces.items (omega arith)
    c.loop.invariant.left in
    let chain = chain_is x _ _ c.loop.pieces.items few d c.push-2.new.self.items c.writable_piece.result c.push-2.ensures.items
    c.writable_piece.ensures.value in
    let long = ap (λ (ps : List Piece). length ps) chain ∙ chain_len x in
    let first = ap is_readable_first chain ∙ chain_first x in (
      omega (arith, long),
      omega (arith, long),
      readable_first c.push-2.new.self.items first,
      rw c.push-2.ensures.items
          (All-push IsPiece c.loop.pieces.items c.writable_piece.result c.loop.invariant.fits (omega arith, omega arith)),
    )

pub returns-clause-value : goal.returns-clause-value
unfolding made_run
returns-clause-value c =
    let x = c.args.draws.now.last in
    let few = ap (λ (n : ℕ). 1 + n % 3) c.draw.ensures.value in
    let d = left_none readable_piece _ _ (1 + c.draw.result % 3 - c.loop.counter) c.loop.draws.last c.loop.pieces.items (omega arith)
    c.loop.invariant.left in
    let chain = chain_is x _ _ c.loop.pieces.items few d c.push-2.new.self.items c.writable_piece.result c.push-2.ensures.items
    c.writable_piece.ensures.value in
    let run : List Piece → Run = λ ps. record { count = 200; chain = ps } in
    ap run (c.of.ensures ∙ chain)

pub returns-clause-next : goal.returns-clause-next
unfolding made_run
returns-clause-next c =
    let x = c.args.draws.now.last in
    let few = ap (λ (n : ℕ). 1 + n % 3) c.draw.ensures.value in
    let d = left_none readable_piece _ _ (1 + c.draw.result % 3 - c.loop.counter) c.loop.draws.last c.loop.pieces.items (omega arith)
    c.loop.invariant.left in
    next_is x _ _ c.loop.pieces.items few d c.writable_piece.new.draws.last c.writable_piece.ensures.next
