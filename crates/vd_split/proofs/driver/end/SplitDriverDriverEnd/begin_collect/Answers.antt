use Rattle.std.proofs.Common.{refl}
use Rattle.vd_split.specs.declared.driver.DriverStep.TheVariants as step
use Rattle.vd_split.specs.laws.DriverLaws.{begins}
use Rattle.vd_split.proofs.driver.end.SplitDriverDriverEnd.begin_collect.Goals as goal

pub returns-clause-stands : goal.returns-clause-stands
returns-clause-stands c = λ v st. begins c.args.self.now v step.Look c.requires.idle st (λ is. is) c.requires.unarmed refl
