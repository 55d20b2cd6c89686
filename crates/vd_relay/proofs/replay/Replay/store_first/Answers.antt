use Rattle.std.proofs.Common.{arith}
use Rattle.vd_relay.proofs.ReplayWords.{may_store}
use Rattle.vd_relay.proofs.ReplayControl.{next_first, store_first, word_of}
use Rattle.vd_relay.proofs.replay.Replay.store_first.Goals as goal

pub access-requires : goal.access-requires
access-requires g c =
    let o = c.requires.own in
    let l = g.L.Layout.layout in
    let d = g.L.Driver.DriverEnd.driver in
    let e = g.L.Device.DeviceEnd.device in
    let lay = g.met.L.Layout.lawful in
    let n = next_first g.Q.Port.port l d e lay c.args.port.now c.args.port.now c.args.self.now c.args.shadow.now o.0 o.1 c.requires.at in
    o.2.may _ _ (may_store l d e lay c.args.shadow.now o.0 n 0 c.command_place-place.result c.words_of-words.result.first (omega arith)
    (omega (arith, c.command_place-place.ensures.value o.0 n)))

pub returns-clause-turn : goal.returns-clause-turn
returns-clause-turn g c = λ v h own.
    let l = g.L.Layout.layout in
    let d = g.L.Driver.DriverEnd.driver in
    let e = g.L.Device.DeviceEnd.device in
    let lay = g.met.L.Layout.lawful in
    let n = next_first g.Q.Port.port l d e lay c.args.port.now c.access.new.self c.args.self.now c.args.shadow.now v h c.requires.at in
    store_first g.Q.Port.port l d e lay c.args.port.now c.access.new.self c.args.self.now c.args.shadow.now v h
    c.command_place-place.result c.words_of-words.result.first c.access.result c.requires.at (c.command_place-place.ensures.value v n)
    (λ a is. word_of c.args.self.now 0 c.replay_at.result a c.write.result.items c.as_slice.result.now c.words_of-words.result.first
    c.replay_at.ensures.value is c.write.ensures.bytes c.as_slice.ensures.value c.words_of-words.ensures.first) c.access.ensures
