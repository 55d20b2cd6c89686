use Rattle.std.proofs.Common.{◌<◌, List, length, sym, subst}
use Rattle.vd_model.specs.declared.chain.Piece.{Piece}
use Rattle.vd_model.proofs.Addressed.{is_chain_written}
use Rattle.vd_model.proofs.chain.Chain.set_addr.Goals as goal

pub invariant_of-self : goal.invariant_of-self
invariant_of-self c = is_chain_written c.self.inside.pieces.items c.deref_mut.result.now c.args.i c.args.addr c.deref_mut.ensures.value
    (subst (λ (x : List Piece). c.args.i < length x) (sym c.self.view_is) c.requires) c.ranges.addr.fits c.self.invariant
