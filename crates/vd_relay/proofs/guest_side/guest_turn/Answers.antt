use Rattle.std.proofs.Common.{refl, ap, ◌∙◌, inl}
use Rattle.vd_relay.specs.Stages.{is_offering}
use Rattle.vd_relay.proofs.Offerings.{none_offered, heard_none, roused_none}
use Rattle.vd_relay.proofs.GuestMoves.{went_on}
use Rattle.vd_relay.proofs.GuestNothing.{none_taken}
use Rattle.vd_relay.proofs.GuestArmed.{armed_first}
use Rattle.vd_relay.proofs.GuestHearing.{slept_at}
use Rattle.vd_relay.proofs.GuestWoken.{woken_at}
use Rattle.vd_relay.proofs.GuestResting.{rested}
use Rattle.vd_relay.proofs.GuestGiving.{gave}
use Rattle.vd_relay.proofs.GuestChains.{may_offer, may_carry, has_next}
use Rattle.vd_relay.proofs.GuestTaking.{took}
use Rattle.vd_relay.proofs.GuestKeeping.{kept}
use Rattle.vd_relay.proofs.guest_side.guest_turn.Goals as goal

pub returns-in-Moved-clause-turn : goal.returns-in-Moved-clause-turn
returns-in-Moved-clause-turn g c = λ z w v h goes own.
    let law = g.met.L.Layout.lawful in
    let t = went_on g.P.Port.port g.L.Device.DeviceEnd.device g.L.Driver.DriverEnd.driver law.device_end law.driver_end z c.args.port.now
    c.step.new.port
    c.args.state.now w v c.step.new.self c.requires.live c.requires.side h (c.in-Moved.ensures w h.serves own) in
    (t, inl (refl, none_offered c.args.state.now.stage c.requires.side))

pub returns-in-Nothing-clause-turn : goal.returns-in-Nothing-clause-turn
returns-in-Nothing-clause-turn g c = λ z w v h goes own.
    let law = g.met.L.Layout.lawful in
    let t = none_taken g.P.Port.port g.L.Device.DeviceEnd.device g.L.Driver.DriverEnd.driver law.device_end law.driver_end z c.args.port.now
    c.step.new.port
    c.args.state.now w v c.step.new.self h own (c.in-Nothing.ensures w h.serves own) in
    (t, inl (refl, refl))

pub returns-in-Armed-clause-turn : goal.returns-in-Armed-clause-turn
returns-in-Armed-clause-turn g c = λ z w v h goes own.
    let law = g.met.L.Layout.lawful in
    let t = armed_first g.P.Port.port g.L.Device.DeviceEnd.device g.L.Driver.DriverEnd.driver law.device_end law.driver_end z c.args.port.now
    c.step.new.port
    c.args.state.now w v c.step.new.self h (c.in-Armed.ensures w h.serves own) in
    (t, inl (refl, refl))

pub returns-in-Awake-clause-turn : goal.returns-in-Awake-clause-turn
returns-in-Awake-clause-turn g c = λ z w v h goes own.
    let law = g.met.L.Layout.lawful in
    let s = c.in-Awake.ensures w h.serves own in
    let a = c.after_sleep-state.ensures.roused _ v s.now_stands h.drives in
    rw c.waking-turn.ensures (
      woken_at g.P.Port.port g.L.Device.DeviceEnd.device g.L.Driver.DriverEnd.driver law.device_end law.driver_end z c.args.port.now
          c.step.new.port c.args.state.now w v c.step.new.self c.after_sleep-state.result h s
          a,
      inl (
        refl,
        ap is_offering a.is ∙ roused_none (g.L.Device.DeviceEnd.device.armed c.step.new.self)
            (g.L.Driver.DriverEnd.driver.armed c.args.state.now.shadow) c.args.state.now.winding a.finished,
      ),
    )

pub returns-in-Asleep-clause-turn : goal.returns-in-Asleep-clause-turn
returns-in-Asleep-clause-turn g c = λ z w v h goes own.
    let law = g.met.L.Layout.lawful in
    rw c.hear_next-state.ensures (
      slept_at g.P.Port.port g.L.Device.DeviceEnd.device g.L.Driver.DriverEnd.driver law.device_end law.driver_end z c.args.port.now
          c.step.new.port c.args.state.now w v c.step.new.self h
          (c.in-Asleep.ensures w h.serves own),
      inl (refl, heard_none c.args.state.now.stage c.requires.side),
    )

pub returns-in-Rested-clause-turn : goal.returns-in-Rested-clause-turn
returns-in-Rested-clause-turn g c = λ z w v h goes own.
    let law = g.met.L.Layout.lawful in
    let t = rested g.P.Port.port g.L.Device.DeviceEnd.device g.L.Driver.DriverEnd.driver law.device_end law.driver_end z c.args.port.now
    c.step.new.port
    c.args.state.now w v c.step.new.self h (c.in-Rested.ensures w h.serves own) in
    (t, inl (refl, refl))

pub returns-in-Given-clause-turn : goal.returns-in-Given-clause-turn
returns-in-Given-clause-turn g c = λ z w v h goes own.
    let law = g.met.L.Layout.lawful in
    let t = gave g.P.Port.port g.L.Device.DeviceEnd.device g.L.Driver.DriverEnd.driver law.device_end law.driver_end z c.args.port.now
    c.step.new.port
    c.args.state.now w v c.step.new.self c.in-Given.field-0 h (c.in-Given.ensures w h.serves own) in
    (t, inl (refl, refl))

pub returns-then-state-clause-turn : goal.returns-then-state-clause-turn
returns-then-state-clause-turn g c = λ z w v h goes own.
    let law = g.met.L.Layout.lawful in
    let t = kept g.P.Port.port g.L.Device.DeviceEnd.device g.L.Driver.DriverEnd.driver law.device_end law.driver_end z c.args.port.now
    c.step.new.port
    c.args.state.now w v c.step.new.self c.in-Taken.number c.in-Taken.chain h (c.in-Taken.ensures w h.serves own) c.if-state.true in
    (t, inl (refl, none_offered c.args.state.now.stage c.requires.side))

pub carry-requires : goal.carry-requires
carry-requires g c =
    let law = g.met.L.Layout.lawful in
    let o = c.requires.own in
    let h = o.3 in (
      o.0.way,
      o.1,
      o.2,
      may_carry g.P.Port.port g.L.Device.DeviceEnd.device g.L.Driver.DriverEnd.driver law.device_end law.driver_end o.0 c.args.port.now
          c.step.new.port c.args.state.now o.1 o.2 c.step.new.self g.C.Carrier.carrier g.L.Layout.layout c.args.carrier.now
          c.in-Taken.number c.in-Taken.chain (law.device_framed c.args.state.now.guest o.1 h.serves) o.4 h
          (c.in-Taken.ensures o.1 h.serves o.5),
    )

pub next_head-head-requires : goal.next_head-head-requires
next_head-head-requires g c =
    let law = g.met.L.Layout.lawful in
    let o = c.requires.own in
    let h = o.3 in (
      o.2,
      h.drives,
      has_next g.P.Port.port g.L.Device.DeviceEnd.device g.L.Driver.DriverEnd.driver law.device_end law.driver_end o.0 c.args.port.now
          c.step.new.port c.args.state.now o.1 o.2 c.step.new.self c.in-Taken.number c.in-Taken.chain h
          (c.in-Taken.ensures o.1 h.serves o.5),
    )

pub begin_offer-requires-clause-may : goal.begin_offer-requires-clause-may
begin_offer-requires-clause-may g c =
    let law = g.met.L.Layout.lawful in
    let d = g.L.Driver.DriverEnd.driver in
    let o = c.requires.own in
    let h = o.3 in
    let s = c.in-Taken.ensures o.1 h.serves o.5 in
    let may = may_carry g.P.Port.port g.L.Device.DeviceEnd.device d law.device_end law.driver_end o.0 c.args.port.now
    c.step.new.port c.args.state.now o.1 o.2 c.step.new.self g.C.Carrier.carrier g.L.Layout.layout c.args.carrier.now
    c.in-Taken.number c.in-Taken.chain (law.device_framed c.args.state.now.guest o.1 h.serves) o.4 h s in
    let carried = c.carry.ensures.carried o.0.way o.1 o.2 may in (
      o.2,
      h.drives,
      may_offer g.P.Port.port g.L.Device.DeviceEnd.device d law.device_end law.driver_end o.0 c.args.port.now c.step.new.port
          c.args.state.now o.1 o.2 c.step.new.self c.in-Taken.number c.in-Taken.chain c.carry.new.chain h s carried.carries
          c.carry.ensures.lawful carried.control,
    )

pub returns-else-state-clause-turn : goal.returns-else-state-clause-turn
returns-else-state-clause-turn g c = λ z w v h goes own.
    let law = g.met.L.Layout.lawful in
    let d = g.L.Driver.DriverEnd.driver in
    let s = c.in-Taken.ensures w h.serves own in
    let carried = c.carry.ensures.carried z.way w v (may_carry g.P.Port.port g.L.Device.DeviceEnd.device d law.device_end law.driver_end z
    c.args.port.now c.step.new.port c.args.state.now w v c.step.new.self g.C.Carrier.carrier g.L.Layout.layout c.args.carrier.now
    c.in-Taken.number c.in-Taken.chain (law.device_framed c.args.state.now.guest w h.serves) goes h s) in
    let may = may_offer g.P.Port.port g.L.Device.DeviceEnd.device d law.device_end law.driver_end z c.args.port.now c.step.new.port
    c.args.state.now w v c.step.new.self c.in-Taken.number c.in-Taken.chain c.carry.new.chain h s carried.carries
    c.carry.ensures.lawful carried.control in
    took g.P.Port.port g.L.Device.DeviceEnd.device d law.device_end law.driver_end z c.args.port.now c.step.new.port
    c.args.state.now w v c.step.new.self g.C.Carrier.carrier c.args.carrier.now c.carry.new.self c.in-Taken.number
    c.next_head-head.result c.in-Taken.chain c.carry.new.chain c.begin_offer.new.self h s carried
    (c.begin_offer.ensures.stands v h.drives may)
    c.begin_offer.ensures.begun c.begin_offer.ensures.left (c.next_head-head.ensures v h.drives)
