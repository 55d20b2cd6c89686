use Rattle.vd_iova.specs.Trees.{IsWithin}
use Rattle.vd_iova.proofs.Keyed.{floor_within, iova_index}
use Rattle.vd_iova.proofs.tree.IovaTree.iova_floor.Goals as goal

pub returns-clause-floor : goal.returns-clause-floor
returns-clause-floor c =
    let t = c.self.inside in
    rw (← c.self.view_is) (c.floor.ensures (λ m. m.iova) _
    (iova_index t.first t.last t.by_iova c.self.invariant.keyed c.self.invariant.kept))

pub returns-clause-within : goal.returns-clause-within
returns-clause-within c =
    let t = c.self.inside in
    rw (← c.self.view_is) (floor_within (IsWithin t.first t.last) (λ m. m.iova) _ _ _ c.self.invariant.kept.within
    (c.floor.ensures (λ m. m.iova) _ (iova_index t.first t.last t.by_iova c.self.invariant.keyed c.self.invariant.kept)))
