use Rattle.std.proofs.Common.{◌<◌, ◌≤◌, ◌%◌, ◌∙◌, sym, not, ap, arith}
use Rattle.std.proofs.lemmas.Bool.{ltb-true, lt-ltb, both_ways}
use Rattle.vd_event.proofs.LapLaws.{here, only_here, next, only_next, same_wrap, other_wrap, is_same, is_other}
use Rattle.vd_event.proofs.due.has_place.Goals as goal

pub returns-then-wrap_bit-wrap : goal.returns-then-wrap_bit-wrap
returns-then-wrap_bit-wrap c =
    let a = c.args in
    let first : a.old % a.size ≤ a.offset = omega arith in (
      λ t. here a.size a.old a.new a.offset a.wrap_bit c.if-size-offset.false first (omega (arith, ltb-true _ _ t))
          (same_wrap _ _ c.if-wrap_bit-wrap.true ∙ c.wrap.ensures),
      λ f. lt-ltb _ _ (omega (
        arith,
        (only_here a.size a.old a.new a.offset a.wrap_bit c.if-size-offset.false first c.requires.some c.requires.near f).0,
      )),
    )

pub returns-else-wrap_bit-wrap : goal.returns-else-wrap_bit-wrap
returns-else-wrap_bit-wrap c =
    let a = c.args in
    let first : a.old % a.size ≤ a.offset = omega arith in (
      λ t. absurd (both_ways _ c.if-wrap_bit-wrap.false t),
      λ f. is_same _ _ ((only_here a.size a.old a.new a.offset a.wrap_bit c.if-size-offset.false first c.requires.some c.requires.near
          f).1 ∙ sym c.wrap.ensures),
    )

pub returns-then-wrap_bit-wrap-2 : goal.returns-then-wrap_bit-wrap-2
returns-then-wrap_bit-wrap-2 c =
    let a = c.args in
    let first : a.offset < a.old % a.size = omega arith in
    let small : a.old % a.size < a.size = omega arith in (
      λ t. next a.size a.old a.new a.offset a.wrap_bit c.if-size-offset.false first small (omega (arith, ltb-true _ _ t))
          (other_wrap _ _ c.if-wrap_bit-wrap-2.true ∙ ap not c.wrap-else-first-offset.ensures),
      λ f. lt-ltb _ _ (omega (
        arith,
        (only_next a.size a.old a.new a.offset a.wrap_bit c.if-size-offset.false first small c.requires.some c.requires.near f).0,
      )),
    )

pub returns-else-wrap_bit-wrap-2 : goal.returns-else-wrap_bit-wrap-2
returns-else-wrap_bit-wrap-2 c =
    let a = c.args in
    let first : a.offset < a.old % a.size = omega arith in
    let small : a.old % a.size < a.size = omega arith in (
      λ t. absurd (both_ways _ c.if-wrap_bit-wrap-2.false t),
      λ f. is_other _ _
          ((only_next a.size a.old a.new a.offset a.wrap_bit c.if-size-offset.false first small c.requires.some c.requires.near f).1
          ∙ ap not (sym c.wrap-else-first-offset.ensures)),
    )
