use Rattle.std.proofs.Common.{◌≡◌, ap, Some, None, sym, subst, arith}
use Rattle.vd_iova.specs.Trees.{Tree, IsKept}
use Rattle.vd_iova.proofs.Holes.{answered, hole_from, walk_stops, walk_ends, walk_fails}
use Rattle.vd_iova.proofs.tree.IovaTree.lowest_hole.Goals as goal

pub returns-then-size-saturating_sub-clause-lowest :
    goal.returns-then-size-saturating_sub-clause-lowest
returns-then-size-saturating_sub-clause-lowest c =
    let t = c.args.self.now in
    let l = c.loop-mapping in
    answered t c.args.size l.iova l.mapping-iterator (Some l.iova) c.requires (subst IsKept c.self.view_is c.self.invariant.kept)
    l.invariant.same
    (walk_stops t.last c.args.size l.iova l.mapping-iterator c.in-Some.mapping.now _ c.in-Some.ensures.steps (omega arith))

pub returns-then-size-saturating_sub-clause-is : goal.returns-then-size-saturating_sub-clause-is
returns-then-size-saturating_sub-clause-is c =
    sym (hole_from c.args.self.now c.args.size (Some c.loop-mapping.iova) c.requires (returns-then-size-saturating_sub-clause-lowest c))

pub returns-then-size-saturating_sub-2-clause-lowest :
    goal.returns-then-size-saturating_sub-2-clause-lowest
returns-then-size-saturating_sub-2-clause-lowest c =
    let t = c.args.self.now in
    let l = c.loop-mapping in
    let last : c.self.inside.last ≡ t.last = ap (λ (s : Tree). s.last) c.self.view_is in
    answered t c.args.size l.iova l.mapping-iterator (Some l.iova) c.requires (subst IsKept c.self.view_is c.self.invariant.kept)
    l.invariant.same
    (walk_ends t.last c.args.size l.iova l.mapping-iterator c.in-None.ensures.steps.0 (omega arith))

pub returns-then-size-saturating_sub-2-clause-is :
    goal.returns-then-size-saturating_sub-2-clause-is
returns-then-size-saturating_sub-2-clause-is c =
    sym (hole_from c.args.self.now c.args.size (Some c.loop-mapping.iova) c.requires (returns-then-size-saturating_sub-2-clause-lowest c))

pub returns-else-size-saturating_sub-2-clause-full :
    goal.returns-else-size-saturating_sub-2-clause-full
returns-else-size-saturating_sub-2-clause-full c =
    let t = c.args.self.now in
    let l = c.loop-mapping in
    let last : c.self.inside.last ≡ t.last = ap (λ (s : Tree). s.last) c.self.view_is in
    answered t c.args.size l.iova l.mapping-iterator None c.requires (subst IsKept c.self.view_is c.self.invariant.kept) l.invariant.same
    (walk_fails t.last c.args.size l.iova l.mapping-iterator c.in-None.ensures.steps.0 (omega arith))

pub returns-else-size-saturating_sub-2-clause-is :
    goal.returns-else-size-saturating_sub-2-clause-is
returns-else-size-saturating_sub-2-clause-is c =
    sym (hole_from c.args.self.now c.args.size None c.requires (returns-else-size-saturating_sub-2-clause-full c))
