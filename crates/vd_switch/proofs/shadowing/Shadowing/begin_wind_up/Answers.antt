use Rattle.vd_switch.proofs.shadowing.Shadowing.begin_wind_up.Goals as goal

pub returns-clause-holds : goal.returns-clause-holds
returns-clause-holds g c = c.begin_wind_up.ensures.holds

pub returns-clause-commands : goal.returns-clause-commands
returns-clause-commands g c = c.begin_wind_up.ensures.control
