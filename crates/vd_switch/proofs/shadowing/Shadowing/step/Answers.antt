use Rattle.vd_switch.proofs.shadowing.Shadowing.step.Goals as goal

pub returns-clause-step : goal.returns-clause-step
returns-clause-step g c = c.step.ensures.step

pub returns-clause-commands : goal.returns-clause-commands
returns-clause-commands g c = c.step.ensures.control
