use Rattle.std.proofs.Common.{refl}
use Rattle.vd_machine.proofs.listing.feature_texts.Goals as goal

pub returns-in-false-true-true : goal.returns-in-false-true-true
returns-in-false-true-true c = rw (c.in-false-true-true.is-0, c.in-false-true-true.is-1, c.in-false-true-true.is-2) refl
