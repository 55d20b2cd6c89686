use Rattle.std.proofs.Common.{◌≡◌, ◌+◌, drop, Err, ap, ◌∙◌}
use Rattle.vd_iova.specs.declared.fault.MapFault.TheVariants.{NoHole}
use Rattle.vd_machine.specs.Iovas.{are_laid}
use Rattle.vd_machine.proofs.Laid.{ranges, midway_start, midway_first, first_has_bytes, first_is_unmet, first_has_no_hole, first_is_mapped}
use Rattle.vd_machine.proofs.iovas.are_laid.Goals as goal

pub loop-region-init : goal.loop-region-init
loop-region-init c =
    midway_start c.args.iovas.first c.args.iovas.last c.new-tree.result c.args.regions.now c.new-tree.ensures c.requires.regions

pub returns-in-Err-NoHole : goal.returns-in-Err-NoHole
returns-in-Err-NoHole c =
    let is : c.map.result ≡ Err (NoHole c.in-Err-NoHole.field-0-0) = c.in-Err-NoHole.is ∙ ap Err c.in-Err-NoHole.field-0-is in
    let size = ((c.map.ensures.no_hole c.in-Err-NoHole.field-0-0).0 is).0 in
    let i = c.loop-region.region-index in
    let rs = c.args.regions.now in
    let w = are_laid c.args.iovas.first c.args.iovas.last rs in
    first_has_no_hole w c.loop-region.tree _ (drop (i + 1) rs)
    (midway_first w c.loop-region.tree rs i c.loop-region-test.true c.loop-region.invariant)
    (c.map.ensures.not_laid (is ∙ ap (λ n. Err (NoHole n)) size) (ranges (drop (i + 1) rs)))

pub returns-in-Err-Empty : goal.returns-in-Err-Empty
returns-in-Err-Empty c =
    let i = c.loop-region.region-index in
    let rs = c.args.regions.now in
    let w = are_laid c.args.iovas.first c.args.iovas.last rs in
    absurd (first_has_bytes w c.loop-region.tree _ (drop (i + 1) rs)
    (midway_first w c.loop-region.tree rs i c.loop-region-test.true c.loop-region.invariant)
    (c.map.ensures.empty.0 (c.in-Err-Empty.is ∙ ap Err c.in-Err-Empty.field-0-is)))

pub returns-in-Err-Overlap : goal.returns-in-Err-Overlap
returns-in-Err-Overlap c =
    let i = c.loop-region.region-index in
    let rs = c.args.regions.now in
    let w = are_laid c.args.iovas.first c.args.iovas.last rs in
    absurd (first_is_unmet w c.loop-region.tree _ (drop (i + 1) rs)
    (midway_first w c.loop-region.tree rs i c.loop-region-test.true c.loop-region.invariant) c.in-Err-Overlap.field-0-0
    ((c.map.ensures.overlap c.in-Err-Overlap.field-0-0).0 (c.in-Err-Overlap.is ∙ ap Err c.in-Err-Overlap.field-0-is)).1)

pub loop-region-preserved : goal.loop-region-preserved
loop-region-preserved c =
    let i = c.loop-region.region-index in
    let rs = c.args.regions.now in
    let w = are_laid c.args.iovas.first c.args.iovas.last rs in
    first_is_mapped w c.loop-region.tree _ (drop (i + 1) rs)
    (midway_first w c.loop-region.tree rs i c.loop-region-test.true c.loop-region.invariant)
    c.in-Ok.field-0 c.map.new.self c.in-Ok.ensures.tree (c.in-Ok.ensures.laid (ranges (drop (i + 1) rs)))
