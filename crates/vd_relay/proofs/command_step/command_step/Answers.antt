use Rattle.vd_relay.proofs.command_step.command_step.Goals as goal

pub returns-then-is_due-clause-step : goal.returns-then-is_due-clause-step
returns-then-is_due-clause-step g c = λ z w v h own other. c.word_step.ensures.step z w v h

pub returns-else-is_due-clause-step : goal.returns-else-is_due-clause-step
returns-else-is_due-clause-step g c = λ z w v h own other. c.ring_step.ensures z c.args.settings.now w v h own other
