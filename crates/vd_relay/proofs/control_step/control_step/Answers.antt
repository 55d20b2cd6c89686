use Rattle.std.proofs.Common.{sym, ◌∙◌, ap, refl, subst, inl, inr}
use Rattle.vd_relay.specs.declared.control.Mode.{Mode}
use Rattle.vd_relay.specs.declared.control.Mode.TheVariants.{Replaying, Leaving}
use Rattle.vd_relay.specs.Modes.{carries_from}
use Rattle.vd_relay.specs.ModeSteps.{Becomes}
use Rattle.vd_relay.proofs.Modes.{carrying_of}
use Rattle.vd_relay.proofs.ModeCarries.{carried_step, control_pace}
use Rattle.vd_relay.proofs.control_step.control_step.Goals as goal

pub returns-in-Replaying-clause-step : goal.returns-in-Replaying-clause-step
returns-in-Replaying-clause-step g c = λ z w v h own other.
    let at = c.in-Replaying.is in
    let t = c.replay_step.ensures in
    let m = c.turn.ensures.holds z c.args.settings.now c.args.counts.now w v h in
    let o = t.made z w v m other in
    record {
      by = Replaying;
      begins = subst (λ (x : Mode). Becomes c.args.control.now.mode x) at c.turn.ensures.becomes;
      ends = tt;
      same = λ off. sym at ∙ c.turn.ensures.same off;
      far = λ n. absurd (n refl);
      over = λ was on. t.over z w v m other refl on;
      made = inr (refl, (λ x. cc x), o);
      kept = t.kept;
      quiet = t.quiet;
      finished = ((λ i. absurd (t.works i)), λ i. absurd (cc (i, t.live)));
      still = λ i. (t.still i, refl);
      pace = control_pace g.L.Layout.layout g.L.Device.DeviceEnd.device g.L.Driver.DriverEnd.driver z _ _ _ _ w _ o.holds;
    }

pub returns-in-Carrying-clause-step : goal.returns-in-Carrying-clause-step
returns-in-Carrying-clause-step g c = λ z w v h own other.
    let l = g.L.Layout.layout in
    let e = g.L.Device.DeviceEnd.device in
    let d = g.L.Driver.DriverEnd.driver in
    let at = c.in-Carrying.is in
    let k = c.turn.new.self in
    let r = c.args.state.now in
    let s = c.args.settings.now in
    let n = c.args.counts.now in
    let m = c.turn.ensures.holds z s n w v h in
    carried_step g.P.Port.port g.Q.Port.port l e d z c.args.guest_port.now c.command_step.new.guest_port c.args.shadow_port.now
    c.command_step.new.shadow_port r c.command_step.new.state k c.command_step.new.commander s c.command_step.new.settings n
    c.command_step.new.counts w v c.command_step.result c.args.control.now m at c.turn.ensures.becomes c.turn.ensures.same
    c.turn.ensures.next (c.turn.ensures.over z s n w v h)
    (c.command_step.ensures.step (carries_from z k.replay.next) w v (carrying_of l e d z r k s n w v m at) own other)

pub returns-in-Leaving-clause-step : goal.returns-in-Leaving-clause-step
returns-in-Leaving-clause-step g c = λ z w v h own other.
    let at = c.in-Leaving.is in
    let t = c.leave_step.ensures in
    let m = c.turn.ensures.holds z c.args.settings.now c.args.counts.now w v h in
    let o = t.made z w v m own in
    record {
      by = Leaving;
      begins = subst (λ (x : Mode). Becomes c.args.control.now.mode x) at c.turn.ensures.becomes;
      ends = at;
      same = λ off. sym at ∙ c.turn.ensures.same off;
      far = λ n. (at, c.turn.ensures.next);
      over = λ was on. absurd (cc (sym at ∙ on));
      made = inl (refl, refl, (λ x. cc x), o);
      kept = t.kept;
      quiet = λ on x is. sym (ap g.L.Driver.DriverEnd.driver.begun t.shadow) ∙ is;
      finished = t.finished;
      still = λ i. absurd (t.awake i);
      pace = control_pace g.L.Layout.layout g.L.Device.DeviceEnd.device g.L.Driver.DriverEnd.driver z _ _ _ _ _ v o.holds;
    }
