use Rattle.std.proofs.Common.{◌≡◌, ◌/◌, length, sym, ap, ◌∙◌, arith}
use Rattle.std.proofs.lemmas.Bool.{le-leb}
use Rattle.vd_indirect.specs.Tables.{walked}
use Rattle.vd_indirect.proofs.Walk.{length_passes}
use Rattle.vd_indirect.proofs.read.read_table.Goals as goal

pub returns : goal.returns
returns c =
    let few = rw (le-leb c.args.len 256 (omega arith)) at c.requires in
    let places : length c.args.words.now / 2 ≡ c.args.len / 16 = omega arith in
    c.walk.ensures ∙ ap (walked c.args.kind c.args.words.now) places
    ∙ sym (length_passes c.args.len (walked c.args.kind c.args.words.now (c.args.len / 16)) (omega arith) (omega arith) (omega arith))
