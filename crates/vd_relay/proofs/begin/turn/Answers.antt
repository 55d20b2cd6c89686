use Rattle.std.proofs.Common.{sym, ◌∙◌, ap}
use Rattle.vd_relay.specs.Stages.{is_rested, is_hearing, is_offering}
use Rattle.vd_relay.proofs.Offerings.{roused_none}
use Rattle.vd_relay.proofs.Calm.{turns, roused_live, roused_deaf, roused_takes, roused_arms}
use Rattle.vd_relay.proofs.begin.turn.Goals as goal

pub returns-then-idle-2-clause-stays : goal.returns-then-idle-2-clause-stays
returns-then-idle-2-clause-stays g c = λ z w v h.
    let law = g.met.L.Layout.lawful in
    turns g.L.Device.DeviceEnd.device g.L.Driver.DriverEnd.driver law.device_end law.driver_end z c.args.state.now w v
    c.after_sleep-state.result h c.if-state.true (sym c.is_open.ensures ∙ c.if-is_open.true) (c.idle.ensures.0 c.if-idle.true)
    (c.idle-then-idle.ensures.0 c.if-idle-2.true) (c.after_sleep-state.ensures.roused w v h.serves h.drives)

pub returns-then-idle-2-clause-live : goal.returns-then-idle-2-clause-live
returns-then-idle-2-clause-live g c =
    let r = c.requires.own in
    let a = c.after_sleep-state.ensures.roused r.1 r.2 r.3.serves r.3.drives in
    ap is_rested a.is ∙ roused_live _ _ _ a.finished

pub returns-then-idle-2-clause-hearing : goal.returns-then-idle-2-clause-hearing
returns-then-idle-2-clause-hearing g c = λ is.
    let r = c.requires.own in
    let a = c.after_sleep-state.ensures.roused r.1 r.2 r.3.serves r.3.drives in
    absurd (roused_deaf _ _ _ a.finished (sym (ap is_hearing a.is) ∙ is))

pub returns-then-idle-2-clause-turned : goal.returns-then-idle-2-clause-turned
returns-then-idle-2-clause-turned g c = λ on is idle.
    let r = c.requires.own in
    let a = c.after_sleep-state.ensures.roused r.1 r.2 r.3.serves r.3.drives in
    roused_takes _ _ _ a.finished on (sym a.is ∙ is)

pub returns-then-idle-2-clause-guest_arms : goal.returns-then-idle-2-clause-guest_arms
returns-then-idle-2-clause-guest_arms g c = λ on is idle.
    let r = c.requires.own in
    let a = c.after_sleep-state.ensures.roused r.1 r.2 r.3.serves r.3.drives in
    (roused_arms _ _ _ a.finished).0 (sym a.is ∙ is)

pub returns-then-idle-2-clause-shadow_arms : goal.returns-then-idle-2-clause-shadow_arms
returns-then-idle-2-clause-shadow_arms g c = λ on is idle.
    let r = c.requires.own in
    let a = c.after_sleep-state.ensures.roused r.1 r.2 r.3.serves r.3.drives in
    (roused_arms _ _ _ a.finished).1 (sym a.is ∙ is)

pub returns-then-idle-2-clause-other : goal.returns-then-idle-2-clause-other
returns-then-idle-2-clause-other g c = λ off.
    let r = c.requires.own in
    let a = c.after_sleep-state.ensures.roused r.1 r.2 r.3.serves r.3.drives in
    ap is_offering a.is ∙ roused_none _ _ _ a.finished
