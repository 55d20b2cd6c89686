use Rattle.std.proofs.Common.{◌≡◌, ◌≤◌, true, length, sym, ◌∙◌, ap, rules}
use Rattle.vd_text.specs.declared.chains.TheConstants.{MOST_PIECES}
use Rattle.vd_text.specs.Grammar.{is_readable_first}
use Rattle.vd_text.proofs.Order.{readable_first}
use Rattle.vd_text.proofs.chains.read_run.Goals as goal

pub of-chain-requires : goal.of-chain-requires
of-chain-requires c =
    let few : length c.in_ok-pieces.pieces.items ≤ MOST_PIECES = search rules in
    let first : is_readable_first c.in_ok-pieces.pieces.items ≡ true =
    sym (c.if-is_readable_first.ensures ∙ ap is_readable_first c.deref.ensures.0) in
    (c.in_ok-pieces.ensures.some, few, readable_first c.in_ok-pieces.pieces.items first, c.in_ok-pieces.ensures.fits)
