use Rattle.std.proofs.Common.{◌*◌}
use Rattle.vd_words.specs.declared.access.Access.TheVariants.{Load}
use Rattle.vd_words.specs.declared.access.Op.TheVariants as op
use Rattle.vd_ring.specs.declared.act.DeviceAct.TheVariants as act
use Rattle.vd_split.specs.declared.device.SplitDevice.{SplitDevice}
use Rattle.vd_split.specs.declared.device.DeviceStep.TheVariants as step
use Rattle.vd_split.specs.laws.DeviceSteps.{made}
use Rattle.vd_split.specs.laws.DeviceTaking.{address_goes}
use Rattle.vd_split.proofs.device.SplitDevice.address.Goals as goal

pub returns : goal.returns
returns g c = λ v st own.
    let e : SplitDevice = c.args.self.now in
    made g.P.Port.port c.args.port.now c.access-self.new.self e
    (record e { addr = c.access-self.result; doing = step.Second c.args.word c.args.head c.args.place }) v op.Take
    (Load (2 * c.args.place)) c.access-self.result act.Moved
    (address_goes e v c.args.word c.args.head c.args.place c.access-self.result c.requires.now st) c.access-self.ensures
