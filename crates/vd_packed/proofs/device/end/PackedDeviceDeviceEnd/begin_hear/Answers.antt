use Rattle.std.proofs.Common.{refl}
use Rattle.vd_packed.specs.declared.device.DeviceStep.TheVariants as step
use Rattle.vd_packed.specs.laws.DeviceLaws.{begins}
use Rattle.vd_packed.proofs.device.end.PackedDeviceDeviceEnd.begin_hear.Goals as goal

pub returns-clause-stands : goal.returns-clause-stands
returns-clause-stands c = λ v st. begins c.args.self.now v step.Hear c.requires.idle st (λ is. is) c.requires.armed refl
