use Rattle.vd_switch.proofs.PassingSteps.{starts}
use Rattle.vd_switch.proofs.laws.passing_start_law.Goals as goal

pub returns : goal.returns
returns g c = λ old begun by words v w ring serves from even before.
    starts g.L.Layout.layout old begun by words v w ring serves from even before
