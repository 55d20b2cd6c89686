use Rattle.std.proofs.Common.{refl}
use Rattle.vd_split.specs.declared.device.DeviceStep.TheVariants as step
use Rattle.vd_split.specs.laws.DeviceLaws.{begins}
use Rattle.vd_split.proofs.device.end.SplitDeviceDeviceEnd.begin_disarm.Goals as goal

pub returns-clause-stands : goal.returns-clause-stands
returns-clause-stands c = λ v st. begins c.args.self.now v step.Disarm c.requires.idle st (λ is. is) c.requires.armed refl
