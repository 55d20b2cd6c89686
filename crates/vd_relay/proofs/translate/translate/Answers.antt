use Rattle.std.proofs.Common.{◌≡◌, ℕ, suc, ◌+◌, ◌<◌, ◌^◌, List, length, Some, slice_set, slice_index_or, sym, ◌∙◌, ap, subst, arith}
use Rattle.vd_model.specs.declared.chain.Piece.{Piece}
use Rattle.vd_model.specs.Chains.{blank, IsChain}
use Rattle.vd_model.specs.Maps.{to}
use Rattle.vd_model.specs.Moved.{at_address}
use Rattle.vd_model.proofs.Addressed.{is_chain_addressed}
use Rattle.vd_relay.proofs.Translation.{moved_to, next_moved, next_piece, as_many}
use Rattle.vd_relay.proofs.translate.translate.Goals as goal

pub loop-i-preserved : goal.loop-i-preserved
loop-i-preserved c =
    let ms = c.args.tree.now.mappings in
    let i = c.loop-i.i in
    let x = c.args.chain.now in
    let at : slice_index_or c.pieces.result.now i blank ≡ slice_index_or x i blank =
    ap (λ (y : List Piece). slice_index_or y i blank) (c.pieces.ensures.value ∙ c.loop-i.invariant.moved) ∙ next_piece ms i x blank in
    let found : to ms (slice_index_or x i blank).addr (slice_index_or x i blank).len ≡ Some c.in-Some.addr =
    ap (λ (p : Piece). to ms p.addr p.len) (sym at) ∙ sym c.in-Some.ensures.value in
    let same : length c.loop-i.chain ≡ length x = ap (λ (y : List Piece). length y) c.loop-i.invariant.moved ∙ as_many ms i x in
    let small : c.in-Some.addr < 2 ^ 64 = omega (arith, c.in-Some.ensures.within, c.in-Some.ensures.kept.range.1) in
    let next : suc i ≡ i + 1 = omega arith in
    record {
      moved = c.set_addr.ensures ∙ ap (λ (y : List Piece). slice_set y i (at_address y i c.in-Some.addr)) c.loop-i.invariant.moved
          ∙ next_moved ms i x c.in-Some.addr (omega (arith, c.loop-i.invariant.many)) found ∙ ap (λ (k : ℕ). moved_to ms k x) next;
      many = c.loop-i.invariant.many;
      lawful = subst (λ (y : List Piece). IsChain y) (sym c.set_addr.ensures)
          (is_chain_addressed c.loop-i.chain i c.in-Some.addr
          (omega (arith, same, c.loop-i.invariant.many)) small c.loop-i.invariant.lawful);
    }
