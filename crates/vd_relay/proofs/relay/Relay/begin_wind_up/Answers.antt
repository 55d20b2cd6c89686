use Rattle.vd_relay.specs.Tie.{moves}
use Rattle.vd_relay.proofs.relay.Relay.begin_wind_up.Goals as goal

pub returns-in-None-clause-holds : goal.returns-in-None-clause-holds
returns-in-None-clause-holds g c = λ plain z w v h. c.wind_up.ensures.holds (moves z) c.args.self.now.counts w v h
