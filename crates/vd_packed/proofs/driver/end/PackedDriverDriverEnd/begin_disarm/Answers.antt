use Rattle.std.proofs.Common.{refl}
use Rattle.vd_packed.specs.declared.driver.DriverStep.TheVariants as step
use Rattle.vd_packed.specs.laws.DriverLaws.{begins}
use Rattle.vd_packed.proofs.driver.end.PackedDriverDriverEnd.begin_disarm.Goals as goal

pub returns-clause-stands : goal.returns-clause-stands
returns-clause-stands c = λ v st. begins c.args.self.now v step.Disarm c.requires.idle st (λ is. is) c.requires.armed refl
