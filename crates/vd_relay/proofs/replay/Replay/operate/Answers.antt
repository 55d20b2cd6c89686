use Rattle.std.proofs.Common.{refl}
use Rattle.vd_relay.proofs.Replaying.{moved_on, offered, collected, found_none, found_again}
use Rattle.vd_relay.proofs.ReplayWaking.{armed, armed_winding, awake_at, slept, woken_at}
use Rattle.vd_relay.proofs.replay.Replay.operate.Goals as goal

pub returns-in-Offered-clause-turn : goal.returns-in-Offered-clause-turn
returns-in-Offered-clause-turn g c = λ v h own.
    let k = c.begin.ensures.begun v h.replays in
    offered g.Q.Port.port g.L.Layout.layout g.L.Driver.DriverEnd.driver g.met.L.Layout.lawful.driver_end c.args.port.now c.step.new.port
    c.args.self.now c.args.shadow.now c.begin.new.shadow v c.step.new.self k.replays k.owes _
    (c.in-Offered.ensures v k.replays.drives own)

pub returns-in-Collected-clause-turn : goal.returns-in-Collected-clause-turn
returns-in-Collected-clause-turn g c = λ v h own.
    let k = c.begin.ensures.begun v h.replays in
    collected g.Q.Port.port g.L.Layout.layout g.L.Driver.DriverEnd.driver g.met.L.Layout.lawful.driver_end c.args.port.now c.step.new.port
    c.args.self.now c.args.shadow.now c.begin.new.shadow v c.step.new.self k.replays k.owes _ _ _
    (c.in-Collected.ensures v k.replays.drives own)

pub returns-then-self-clause-turn : goal.returns-then-self-clause-turn
returns-then-self-clause-turn g c = λ v h own.
    let k = c.begin.ensures.begun v h.replays in
    found_again g.Q.Port.port g.L.Layout.layout g.L.Driver.DriverEnd.driver g.met.L.Layout.lawful.driver_end c.args.port.now c.step.new.port
    c.args.self.now c.args.shadow.now c.begin.new.shadow v c.step.new.self k.replays k.owes c.if-self.true own
    (c.in-Nothing.ensures v k.replays.drives own)

pub returns-else-self-clause-turn : goal.returns-else-self-clause-turn
returns-else-self-clause-turn g c = λ v h own.
    let k = c.begin.ensures.begun v h.replays in
    found_none g.Q.Port.port g.L.Layout.layout g.L.Driver.DriverEnd.driver g.met.L.Layout.lawful.driver_end c.args.port.now c.step.new.port
    c.args.self.now c.args.shadow.now c.begin.new.shadow v c.step.new.self k.replays k.owes c.if-self.false own
    (c.in-Nothing.ensures v k.replays.drives own)

pub returns-then-self-2-clause-turn : goal.returns-then-self-2-clause-turn
returns-then-self-2-clause-turn g c = λ v h own.
    let k = c.begin.ensures.begun v h.replays in
    armed_winding g.Q.Port.port g.L.Layout.layout g.L.Driver.DriverEnd.driver g.met.L.Layout.lawful.driver_end c.args.port.now
    c.step.new.port
    c.args.self.now c.args.shadow.now c.begin.new.shadow v c.step.new.self k.replays k.owes c.if-self-2.true
    (c.in-Armed.ensures v k.replays.drives own)

pub returns-else-self-2-clause-turn : goal.returns-else-self-2-clause-turn
returns-else-self-2-clause-turn g c = λ v h own.
    let k = c.begin.ensures.begun v h.replays in
    armed g.Q.Port.port g.L.Layout.layout g.L.Driver.DriverEnd.driver g.met.L.Layout.lawful.driver_end c.args.port.now c.step.new.port
    c.args.self.now c.args.shadow.now c.begin.new.shadow v c.step.new.self k.replays k.owes c.if-self-2.false
    (c.in-Armed.ensures v k.replays.drives own)

pub returns-in-Awake-clause-turn : goal.returns-in-Awake-clause-turn
returns-in-Awake-clause-turn g c = λ v h own.
    let k = c.begin.ensures.begun v h.replays in
    rw c.waking-turn.ensures
    (woken_at g.Q.Port.port g.L.Layout.layout g.L.Driver.DriverEnd.driver g.met.L.Layout.lawful.driver_end c.args.port.now c.step.new.port
    c.args.self.now c.args.shadow.now c.begin.new.shadow v c.step.new.self k.replays k.owes
    (c.in-Awake.ensures v k.replays.drives own))

pub returns-in-Asleep-clause-turn : goal.returns-in-Asleep-clause-turn
returns-in-Asleep-clause-turn g c = λ v h own.
    let k = c.begin.ensures.begun v h.replays in
    let at = c.in-Asleep.ensures v k.replays.drives own in
    slept g.Q.Port.port g.L.Layout.layout g.L.Driver.DriverEnd.driver g.met.L.Layout.lawful.driver_end c.args.port.now c.step.new.port
    c.args.self.now c.args.shadow.now c.begin.new.shadow v c.step.new.self k.replays k.owes
    (awake_at g.Q.Port.port g.L.Layout.layout g.L.Driver.DriverEnd.driver g.met.L.Layout.lawful.driver_end c.args.port.now c.step.new.port
    c.args.self.now c.args.shadow.now c.begin.new.shadow v c.step.new.self k.replays k.owes h c.begin.ensures.was at c.args.self.now.winding
    refl) at

pub returns-in-Moved-clause-turn : goal.returns-in-Moved-clause-turn
returns-in-Moved-clause-turn g c = λ v h own.
    let k = c.begin.ensures.begun v h.replays in
    moved_on g.Q.Port.port g.L.Layout.layout g.L.Driver.DriverEnd.driver g.met.L.Layout.lawful.driver_end c.args.port.now c.step.new.port
    c.args.self.now c.args.shadow.now c.begin.new.shadow v c.step.new.self k.replays k.owes c.requires.at
    (c.in-Moved.ensures v k.replays.drives own)
