use Rattle.std.proofs.Common.{sym, ◌∙◌, arith}
use Rattle.vd_machine.specs.File.{view}
use Rattle.vd_play.proofs.Setups.{set_anew, set_on}
use Rattle.vd_play.proofs.renewing.renew.Goals as goal

pub returns-then-not-is_renewed-clause-bus : goal.returns-then-not-is_renewed-clause-bus
returns-then-not-is_renewed-clause-bus g c =
    set_on (view c.args.m.now) c.args.epoch c.args.bus.now c.requires.before (sym c.is_renewed.ensures ∙ c.if-not-is_renewed.true)

pub reset_all-requires-clause-devices : goal.reset_all-requires-clause-devices
reset_all-requires-clause-devices g c = λ q x below hx.
    c.requires.devices (sym c.is_renewed.ensures ∙ c.if-not-is_renewed.false) q x (omega (arith, below, c.len.ensures)) hx

pub returns-clause-bus : goal.returns-clause-bus
returns-clause-bus g c = set_anew (view c.args.m.now) c.args.epoch c.args.bus.now c.set_status.new.bus c.requires.before
    (sym c.is_renewed.ensures ∙ c.if-not-is_renewed.false) c.set_status.ensures
