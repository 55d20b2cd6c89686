use Rattle.std.proofs.Common.{arith}
use Rattle.vd_models.proofs.Parties.{running_within}
use Rattle.vd_models.proofs.device.ModelDevice.window.Goals as goal

pub returns-clause-holds : goal.returns-clause-holds
returns-clause-holds g c = λ w h.
    let m = c.args.self.now in
    omega (arith, m.sized, running_within g.L.Device.DeviceEnd.device m.phase m.journal m.counts m.settings w h)
