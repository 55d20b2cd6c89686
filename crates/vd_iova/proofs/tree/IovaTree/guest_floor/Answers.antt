use Rattle.vd_iova.specs.Trees.{IsWithin}
use Rattle.vd_iova.proofs.Keyed.{floor_within}
use Rattle.vd_iova.proofs.tree.IovaTree.guest_floor.Goals as goal

pub returns-clause-within : goal.returns-clause-within
returns-clause-within c =
    let t = c.self.inside in
    rw (← c.self.view_is) (floor_within (IsWithin t.first t.last) (λ m. m.guest) _ _ _ c.self.invariant.kept.within
    (c.floor.ensures (λ m. m.guest) _ c.self.invariant.guest))
