use Rattle.std.proofs.Common.{ap, sym, ◌∙◌}
use Rattle.vd_model.specs.declared.features.Features.{Features}
use Rattle.vd_models.proofs.Holding.{may_give}
use Rattle.vd_models.proofs.serving.begin_next.Goals as goal

pub begin_give-requires-clause-may : goal.begin_give-requires-clause-may
begin_give-requires-clause-may g c =
    let r = c.requires in
    let law = g.met.L.Layout.lawful.device_end in
    let v = r.2.serves in
    let same = c.features.ensures ∙ (law.sized c.args.session.now.end r.1 v.stands).1 in (
      r.1,
      v.stands,
      may_give r.0.items c.args.session.now.by c.args.session.now.held.items r.1.frame r.1.done c.features.result.in_order
          c.next-next.result (sym (ap (λ (f : Features). f.in_order) same)) v.held c.next-next.ensures,
    )
