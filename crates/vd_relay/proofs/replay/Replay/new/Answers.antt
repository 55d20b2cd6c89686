use Rattle.vd_relay.proofs.ReplayControl.{opened}
use Rattle.vd_relay.proofs.replay.Replay.new.Goals as goal

pub returns-clause-holds : goal.returns-clause-holds
returns-clause-holds g c = λ v h.
    rw c.between.ensures
    (opened g.L.Layout.layout g.L.Driver.DriverEnd.driver g.met.L.Layout.lawful.driver_end c.args.shadow.now v c.args.settings
    c.replay_len-count.result c.requires c.replay_len-count.ensures.value c.replay_len-count.ensures.most h)
