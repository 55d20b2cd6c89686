use Rattle.std.proofs.Common.{length, slice_get, arith, sym, ap, ◌∙◌}
use Rattle.std.proofs.lemmas.Option.{slice_get-get_or}
use Rattle.vd_machine.specs.File.{view, Plan}
use Rattle.vd_machine.specs.declared.regions.Region.{Region}
use Rattle.vd_play.specs.Journal.{map_in}
use Rattle.vd_play.proofs.Mapped.{shadow_some, shadow_iova, pass_at}
use Rattle.vd_play.proofs.messages.mapping_of.Goals as goal

pub unreachable-requires : goal.unreachable-requires
unreachable-requires c =
    let none : Region = record { addr = 0; size = 0 } in
    let here = ap (λ zs. slice_get zs c.args.i) (sym c.as_slice.ensures)
    ∙ slice_get-get_or c.as_slice.result.now c.args.i none (omega (arith, ap length c.as_slice.ensures, c.requires.inside)) in
    let h = shadow_some (view c.args.m.now) c.args.tree.now c.args.i _ c.requires.tree c.translate.ensures.kept here in
    cc (h.1, c.translate.ensures.value, c.in-None.is)

pub returns-in-Pass : goal.returns-in-Pass
returns-in-Pass c =
    let plan : Plan = view c.args.m.now in
    let none : Region = record { addr = 0; size = 0 } in
    let here = ap (λ zs. slice_get zs c.args.i) (sym c.as_slice.ensures)
    ∙ slice_get-get_or c.as_slice.result.now c.args.i none (omega (arith, ap length c.as_slice.ensures, c.requires.inside)) in
    ap (λ z. slice_get (map_in plan z) c.args.i) c.in-Pass.is ∙ pass_at plan c.args.i _ here

pub returns-in-Some : goal.returns-in-Some
returns-in-Some c =
    let plan : Plan = view c.args.m.now in
    let none : Region = record { addr = 0; size = 0 } in
    let here = ap (λ zs. slice_get zs c.args.i) (sym c.as_slice.ensures)
    ∙ slice_get-get_or c.as_slice.result.now c.args.i none (omega (arith, ap length c.as_slice.ensures, c.requires.inside)) in
    ap (λ z. slice_get (map_in plan z) c.args.i) c.in-Shadow.is
    ∙ shadow_iova plan c.args.tree.now c.args.i c.in-Some.iova _ c.requires.tree c.translate.ensures.kept here
    (sym c.translate.ensures.value ∙ c.in-Some.is)
