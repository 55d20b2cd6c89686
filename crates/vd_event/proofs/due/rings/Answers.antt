use Rattle.std.proofs.Common.{arith, inl, inr}
use Rattle.vd_event.proofs.Among.{as_packed, of_packed}
use Rattle.vd_event.proofs.due.rings.Goals as goal

pub returns-in-2 : goal.returns-in-2
returns-in-2 c =
    let a = c.args in (
      λ t. of_packed a.rule c.in-Packed.size a.old a.new a.word c.in-Packed.is (inr (c.in-2.is, c.has_place.ensures.0 t)),
      λ r. elim (as_packed a.rule c.in-Packed.size a.old a.new a.word c.in-Packed.is (omega (arith, c.requires.some)) r) [
        | inl on ↦ absurd (omega (arith, c.in-2.is, on))
        | inr named ↦ c.has_place.ensures.1 named.1
      ],
    )
