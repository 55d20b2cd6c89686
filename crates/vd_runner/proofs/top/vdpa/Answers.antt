use Rattle.std.proofs.Common.{List, ℕ, Option, subst, sym, ◌∙◌}
use Rattle.vd_runner.specs.Checking.{ChecksTo}
use Rattle.vd_runner.specs.declared.chosen.ModeWord.TheVariants.{Play}
use Rattle.vd_runner.proofs.Outcome.{check_expected}
use Rattle.vd_runner.proofs.Twice.{mode_is}
use Rattle.vd_runner.proofs.top.vdpa.Goals as goal

pub returns-in-Play-clause-few : goal.returns-in-Play-clause-few
returns-in-Play-clause-few g c need guests devices is = (
  mode_is _ c.in-Some.options Play (sym c.options.ensures ∙ c.in-Some.is) c.in-Play.is,
  c.play_command.ensures.few need guests devices is,
)

pub returns-in-Play-clause-device_fault : goal.returns-in-Play-clause-device_fault
returns-in-Play-clause-device_fault g c q is = (
  mode_is _ c.in-Some.options Play (sym c.options.ensures ∙ c.in-Some.is) c.in-Play.is,
  c.play_command.ensures.device_fault q is,
)

pub returns-in-Check-clause-complete_check : goal.returns-in-Check-clause-complete_check
returns-in-Check-clause-complete_check g c bytes told mode calm quiet =
    let rest = g.S.Source.left c.check.new.source in
    let before = g.S.Source.faults c.args.source.now in
    let after = g.S.Source.faults c.check.new.source in
    let held = g.K.Sink.held c.args.sink.now in
    let given = g.K.Sink.held c.check.new.sink in
    let was = g.K.Sink.faults c.args.sink.now in
    let is = g.K.Sink.faults c.check.new.sink in
    check_expected bytes rest before after held given was is c.check.result calm quiet
    (subst (λ (left : Option (List ℕ)). ChecksTo left rest before after held given was is c.check.result) told c.check.ensures)
