use Rattle.vd_switch.proofs.ShadowingLanes.{journal}
use Rattle.vd_switch.proofs.laws.journal_law.Goals as goal

pub returns : goal.returns
returns g c = λ z old r begun by words shadow_words v w sv sw h.
    journal g.L.Device.DeviceEnd.device g.L.Driver.DriverEnd.driver g.L.Layout.layout g.met.L.Layout.lawful z old r begun by words
    shadow_words v w sv sw h
