use Rattle.std.proofs.Common.{◌+◌, ◌*◌, true, false, sym, ◌∙◌}
use Rattle.vd_words.specs.declared.access.Access.TheVariants.{Load}
use Rattle.vd_words.specs.declared.access.Op.TheVariants as op
use Rattle.vd_ring.specs.declared.act.DriverAct.TheVariants as act
use Rattle.vd_packed.specs.declared.driver.PackedDriver.{PackedDriver}
use Rattle.vd_packed.specs.declared.driver.DriverStep.TheVariants as step
use Rattle.vd_packed.specs.laws.DriverSteps.{made}
use Rattle.vd_packed.specs.laws.DriverBells.{check_goes}
use Rattle.vd_packed.proofs.driver.PackedDriver.check.Goals as goal

pub returns-then-asks : goal.returns-then-asks
returns-then-asks g c = λ v st own.
    let e : PackedDriver = c.args.self.now in
    made g.P.Port.port c.args.port.now c.access-word.new.self e (record e { doing = step.Ring }) v op.Offer
    (Load (2 * e.size + 1)) c.access-word.result act.Moved
    (check_goes e v c.args.count c.access-word.result true c.requires.now st (sym c.if-asks.true ∙ c.asks.ensures)) c.access-word.ensures

pub returns : goal.returns
returns g c = λ v st own.
    let e : PackedDriver = c.args.self.now in
    made g.P.Port.port c.args.port.now c.access-word.new.self e (record e { doing = step.Idle }) v op.Offer
    (Load (2 * e.size + 1)) c.access-word.result act.Moved
    (check_goes e v c.args.count c.access-word.result false c.requires.now st (sym c.if-asks.false ∙ c.asks.ensures)) c.access-word.ensures
