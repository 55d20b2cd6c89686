use Rattle.std.proofs.Common.{◌*◌, true, false, sym, ◌∙◌}
use Rattle.vd_words.specs.declared.access.Access.TheVariants.{Load}
use Rattle.vd_words.specs.declared.access.Op.TheVariants as op
use Rattle.vd_ring.specs.declared.act.DeviceAct.TheVariants as act
use Rattle.vd_packed.specs.declared.device.PackedDevice.{PackedDevice}
use Rattle.vd_packed.specs.declared.device.DeviceStep.TheVariants as step
use Rattle.vd_packed.specs.laws.DeviceGiving.{made}
use Rattle.vd_packed.specs.laws.DeviceBells.{check_goes}
use Rattle.vd_packed.proofs.device.PackedDevice.check.Goals as goal

pub returns-then-asks-clause-did : goal.returns-then-asks-clause-did
returns-then-asks-clause-did g c = λ v st own.
    let e : PackedDevice = c.args.self.now in
    made g.P.Port.port c.args.port.now c.access-word.new.self e (record e { doing = step.Ring }) v op.Give
    (Load (2 * e.size)) c.access-word.result act.Moved
    (check_goes e v c.args.count c.access-word.result true c.requires.now st (sym c.if-asks.true ∙ c.asks.ensures)) c.access-word.ensures

pub returns-clause-did : goal.returns-clause-did
returns-clause-did g c = λ v st own.
    let e : PackedDevice = c.args.self.now in
    made g.P.Port.port c.args.port.now c.access-word.new.self e (record e { doing = step.Idle }) v op.Give
    (Load (2 * e.size)) c.access-word.result act.Moved
    (check_goes e v c.args.count c.access-word.result false c.requires.now st (sym c.if-asks.false ∙ c.asks.ensures)) c.access-word.ensures
