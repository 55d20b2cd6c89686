use Rattle.std.proofs.Common.{arith}
use Rattle.vd_models.proofs.Parties.{attaches_more}
use Rattle.vd_models.proofs.device.ModelDeviceDevice.reset.Goals as goal

pub invariant_of-self : goal.invariant_of-self
invariant_of-self g c =
    let m = c.args.self.now in
    record {
      some = m.some;
      sized = m.sized;
      lens = m.lens;
      paced = λ n few fewer. omega
          (arith, m.paced n few fewer, attaches_more m.journal.events.items c.push.new.self.items _ c.push.ensures.items);
    }
