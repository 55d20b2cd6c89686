use Rattle.std.proofs.Common.{refl, sym, subst, ap, ◌∙◌, inl}
use Rattle.vd_layout.specs.Device.{MayGive}
use Rattle.vd_relay.specs.declared.counts.Turn.TheVariants.{Worked, Slept}
use Rattle.vd_relay.specs.Pace.{waking, repeating}
use Rattle.vd_relay.specs.Tie.{guests}
use Rattle.vd_relay.specs.Stages.{is_offering}
use Rattle.vd_relay.proofs.Offerings.{roused_none, none_next_none, hears_none, repeats, wakes}
use Rattle.vd_relay.proofs.Tellings.{moved_on, ended, none_of, wakes_none}
use Rattle.vd_relay.proofs.Origins.{is_some, same_origin, number_is}
use Rattle.vd_relay.proofs.ShadowMoves.{went_on}
use Rattle.vd_relay.proofs.ShadowNothing.{none_collected}
use Rattle.vd_relay.proofs.ShadowAgain.{again_collected}
use Rattle.vd_relay.proofs.ShadowArmed.{armed_both, armed_winding}
use Rattle.vd_relay.proofs.ShadowHearing.{slept_at}
use Rattle.vd_relay.proofs.ShadowWoken.{woken_at}
use Rattle.vd_relay.proofs.ShadowRows.{put_inside, put_free}
use Rattle.vd_relay.proofs.ShadowOffering.{offered}
use Rattle.vd_relay.proofs.ShadowCollecting.{stored_there, stored_inside, may_give_it, may_collect, collected}
use Rattle.vd_relay.proofs.shadow_side.shadow_turn.Goals as goal

pub returns-in-Moved-clause-turn : goal.returns-in-Moved-clause-turn
returns-in-Moved-clause-turn g c = λ z w v h own.
    let law = g.met.L.Layout.lawful in
    let s = c.in-Moved.ensures v h.drives own in (
      went_on g.Q.Port.port g.L.Device.DeviceEnd.device g.L.Driver.DriverEnd.driver law.device_end law.driver_end z c.args.port.now
          c.step.new.port
          c.args.state.now w v c.step.new.self c.requires.side h s,
      inl (refl, moved_on g.L.Driver.DriverEnd.driver c.args.state.now c.step.new.self h.shadow s.says.0),
    )

pub returns-then-state-clause-turn : goal.returns-then-state-clause-turn
returns-then-state-clause-turn g c = λ z w v h own.
    let law = g.met.L.Layout.lawful in
    let s = c.in-Nothing.ensures v h.drives own in
    let a = c.after_sleep-state.ensures.roused w _ h.serves s.now_stands in
    rw c.repeating.ensures (
      again_collected g.Q.Port.port g.L.Device.DeviceEnd.device g.L.Driver.DriverEnd.driver law.device_end law.driver_end z
          c.args.port.now c.step.new.port c.args.state.now w v c.step.new.self c.after_sleep-state.result c.if-state.true h own s a,
      inl (
        refl,
        ended g.L.Driver.DriverEnd.driver c.args.state.now _ (repeating c.after_sleep-state.result)
            (repeats c.after_sleep-state.result) refl h.shadow (λ x i. cc (i, s.says.0))
            (ap is_offering a.is ∙ roused_none _ _ _ a.finished),
      ),
    )

pub returns-else-state-clause-turn : goal.returns-else-state-clause-turn
returns-else-state-clause-turn g c = λ z w v h own.
    let law = g.met.L.Layout.lawful in
    let s = c.in-Nothing.ensures v h.drives own in
    rw c.after_nothing-state.ensures (
      none_collected g.Q.Port.port g.L.Device.DeviceEnd.device g.L.Driver.DriverEnd.driver law.device_end law.driver_end z
          c.args.port.now c.step.new.port c.args.state.now w v c.step.new.self c.if-state.false h own s,
      inl (
        refl,
        ended g.L.Driver.DriverEnd.driver c.args.state.now _ Worked refl refl h.shadow (λ x i. cc (i, s.says.0))
            (none_next_none c.args.state.now.stage),
      ),
    )

pub returns-then-state-2-clause-turn : goal.returns-then-state-2-clause-turn
returns-then-state-2-clause-turn g c = λ z w v h own.
    let law = g.met.L.Layout.lawful in
    let s = c.in-Armed.ensures v h.drives own in
    let a = c.after_sleep-state-then-state-2.ensures.roused w _ h.serves s.now_stands in (
      armed_winding g.Q.Port.port g.L.Device.DeviceEnd.device g.L.Driver.DriverEnd.driver law.device_end law.driver_end z c.args.port.now
          c.step.new.port c.args.state.now w v c.step.new.self c.after_sleep-state-then-state-2.result c.if-state-2.true h s a,
      inl (
        refl,
        ended g.L.Driver.DriverEnd.driver c.args.state.now _ Worked refl refl h.shadow (λ x i. cc (i, s.says.0))
            (ap is_offering a.is ∙ roused_none _ _ _ a.finished),
      ),
    )

pub returns-else-state-2-clause-turn : goal.returns-else-state-2-clause-turn
returns-else-state-2-clause-turn g c = λ z w v h own.
    let law = g.met.L.Layout.lawful in
    let s = c.in-Armed.ensures v h.drives own in (
      armed_both g.Q.Port.port g.L.Device.DeviceEnd.device g.L.Driver.DriverEnd.driver law.device_end law.driver_end z c.args.port.now
          c.step.new.port c.args.state.now w v c.step.new.self c.if-state-2.false h s,
      inl (
        refl,
        ended g.L.Driver.DriverEnd.driver c.args.state.now _ Worked refl refl h.shadow (λ x i. cc (i, s.says.0)) refl,
      ),
    )

pub returns-in-Awake-clause-turn : goal.returns-in-Awake-clause-turn
returns-in-Awake-clause-turn g c = λ z w v h own.
    let law = g.met.L.Layout.lawful in
    let s = c.in-Awake.ensures v h.drives own in
    let a = c.after_sleep-state-in-Awake.ensures.roused w _ h.serves s.now_stands in
    rw c.waking-turn.ensures (
      woken_at g.Q.Port.port g.L.Device.DeviceEnd.device g.L.Driver.DriverEnd.driver law.device_end law.driver_end z c.args.port.now
          c.step.new.port c.args.state.now w v c.step.new.self c.after_sleep-state-in-Awake.result h s a,
      inl (
        refl,
        ended g.L.Driver.DriverEnd.driver c.args.state.now _ (waking c.args.state.now.stage) (wakes c.args.state.now.stage) refl h.shadow
            (wakes_none _ s.says.0) (ap is_offering a.is ∙ roused_none _ _ _ a.finished),
      ),
    )

pub returns-in-Asleep-clause-turn : goal.returns-in-Asleep-clause-turn
returns-in-Asleep-clause-turn g c = λ z w v h own.
    let law = g.met.L.Layout.lawful in
    let s = c.in-Asleep.ensures v h.drives own in
    rw c.hear_next-state.ensures (
      slept_at g.Q.Port.port g.L.Device.DeviceEnd.device g.L.Driver.DriverEnd.driver law.device_end law.driver_end z c.args.port.now
          c.step.new.port c.args.state.now w v c.step.new.self h s,
      inl (
        refl,
        ended g.L.Driver.DriverEnd.driver c.args.state.now _ Slept refl refl h.shadow (λ x i. cc (i, s.says.0))
            (hears_none c.args.state.now.stage (none_of c.args.state.now.stage _ h.shadow (λ x i. cc (i, s.says.0)))),
      ),
    )

pub put-requires-clause-inside : goal.put-requires-clause-inside
put-requires-clause-inside g c =
    let law = g.met.L.Layout.lawful in
    let o = c.requires.own in
    put_inside g.Q.Port.port g.L.Device.DeviceEnd.device g.L.Driver.DriverEnd.driver law.device_end law.driver_end o.0 c.args.port.now
    c.step.new.port c.args.state.now o.1 o.2 c.step.new.self c.in-Offering.number c.in-Offering.head c.in-Offered.field-0 c.in-Offering.is
    o.3
    (c.in-Offered.ensures o.2 o.3.drives o.5)

pub put-requires-clause-free : goal.put-requires-clause-free
put-requires-clause-free g c =
    let law = g.met.L.Layout.lawful in
    let o = c.requires.own in
    put_free g.Q.Port.port g.L.Device.DeviceEnd.device g.L.Driver.DriverEnd.driver law.device_end law.driver_end o.0 c.args.port.now
    c.step.new.port c.args.state.now o.1 o.2 c.step.new.self c.in-Offering.number c.in-Offering.head c.in-Offered.field-0 c.in-Offering.is
    o.3
    (c.in-Offered.ensures o.2 o.3.drives o.5)

pub returns-in-Offering-clause-turn : goal.returns-in-Offering-clause-turn
returns-in-Offering-clause-turn g c = λ z w v h own.
    let law = g.met.L.Layout.lawful in
    rw c.put.ensures
    (offered g.Q.Port.port g.L.Device.DeviceEnd.device g.L.Driver.DriverEnd.driver law.device_end law.driver_end z c.args.port.now
    c.step.new.port c.args.state.now w v c.step.new.self g.C.Carrier.carrier c.args.carrier.now c.offered.new.self
    c.in-Offering.number c.in-Offering.head c.in-Offered.field-0 c.in-Offering.is h
    (c.in-Offered.ensures v h.drives own) c.offered.ensures)

pub offered-requires : goal.offered-requires
offered-requires g c = c.requires.own.4.offer c.in-Offering.number c.in-Offering.head c.in-Offering.is

pub collected-requires : goal.collected-requires
collected-requires g c =
    let law = g.met.L.Layout.lawful in
    let o = c.requires.own in
    may_collect g.Q.Port.port g.L.Device.DeviceEnd.device g.L.Driver.DriverEnd.driver law.device_end law.driver_end o.0 c.args.port.now
    c.step.new.port c.args.state.now o.1 o.2 c.step.new.self g.C.Carrier.carrier c.args.carrier.now _ _ _ o.4
    (c.in-Collected.ensures o.2 o.3.drives o.5)

pub take-requires-clause-inside : goal.take-requires-clause-inside
take-requires-clause-inside g c =
    let law = g.met.L.Layout.lawful in
    let o = c.requires.own in
    stored_inside g.Q.Port.port g.L.Device.DeviceEnd.device g.L.Driver.DriverEnd.driver law.device_end law.driver_end o.0 c.args.port.now
    c.step.new.port c.args.state.now o.1 o.2 c.step.new.self _ _ _ o.3 (c.in-Collected.ensures o.2 o.3.drives o.5)

pub take-requires-clause-there : goal.take-requires-clause-there
take-requires-clause-there g c =
    let law = g.met.L.Layout.lawful in
    let o = c.requires.own in
    is_some _ _ (stored_there g.Q.Port.port g.L.Device.DeviceEnd.device g.L.Driver.DriverEnd.driver law.device_end law.driver_end o.0
    c.args.port.now c.step.new.port c.args.state.now o.1 o.2 c.step.new.self _ _ _ o.3 (c.in-Collected.ensures o.2 o.3.drives o.5))

pub begin_give-requires-clause-may : goal.begin_give-requires-clause-may
begin_give-requires-clause-may g c =
    let law = g.met.L.Layout.lawful in
    let o = c.requires.own in
    let s = c.in-Collected.ensures o.2 o.3.drives o.5 in
    let at = stored_there g.Q.Port.port g.L.Device.DeviceEnd.device g.L.Driver.DriverEnd.driver law.device_end law.driver_end o.0
    c.args.port.now c.step.new.port c.args.state.now o.1 o.2 c.step.new.self _ _ _ o.3 s in
    let is = number_is c.in-Guest.number c.in-Guest.ack_place (guests o.0 c.in-Collected.number)
    (same_origin _ _ _ c.in-Guest.ensures.item at) in (
      o.1,
      o.3.serves,
      subst (λ k. MayGive o.1.frame o.1.done k) (sym is)
          (may_give_it g.Q.Port.port g.L.Device.DeviceEnd.device g.L.Driver.DriverEnd.driver law.device_end law.driver_end o.0
          c.args.port.now
          c.step.new.port c.args.state.now o.1 o.2 c.step.new.self _ _ _ o.3 s),
    )

pub returns-in-Guest-clause-turn : goal.returns-in-Guest-clause-turn
returns-in-Guest-clause-turn g c = λ z w v h own.
    let law = g.met.L.Layout.lawful in
    let s = c.in-Collected.ensures v h.drives own in
    let at = stored_there g.Q.Port.port g.L.Device.DeviceEnd.device g.L.Driver.DriverEnd.driver law.device_end law.driver_end z
    c.args.port.now c.step.new.port c.args.state.now w v c.step.new.self _ _ _ h s in
    let is = number_is c.in-Guest.number c.in-Guest.ack_place (guests z c.in-Collected.number)
    (same_origin _ _ _ c.in-Guest.ensures.item at) in
    rw c.take.ensures.rows
    (collected g.Q.Port.port g.L.Device.DeviceEnd.device g.L.Driver.DriverEnd.driver law.device_end law.driver_end z c.args.port.now
    c.step.new.port c.args.state.now w v c.step.new.self g.C.Carrier.carrier c.args.carrier.now c.collected.new.self _ _ _
    c.in-Guest.number c.begin_give.new.self h s is (c.begin_give.ensures.stands w h.serves) c.begin_give.ensures.begun
    c.begin_give.ensures.awake c.begin_give.ensures.left c.collected.ensures)
