use Rattle.std.proofs.Common.{◌∙◌, refl, sym, ap, arith, inl, inr}
use Rattle.vd_relay.specs.Stages.{is_hearing, is_shadow, is_offering}
use Rattle.vd_relay.proofs.Ops.{guest_idle, shadow_idle}
use Rattle.vd_relay.proofs.Tellings.{may_tell_from, offers_on, gives_on}
use Rattle.vd_relay.proofs.Steps.{guest_from, shadow_from}
use Rattle.vd_relay.proofs.one_turn.make_turn.Goals as goal

pub shadow_turn-requires-clause-own : goal.shadow_turn-requires-clause-own
shadow_turn-requires-clause-own g c =
    let o = c.requires.own in
    let a = c.turn.ensures.stays o.0 o.1 o.2 o.3 in
    let at = c.begin.ensures.stage in (
      o.0,
      o.1,
      o.2,
      (c.begin.ensures.stays o.0 o.1 o.2 a.stands).stands,
      may_tell_from g.C.Carrier.carrier c.args.carrier.now c.args.state.now c.begin.new.state o.2 (λ i. at ∙ c.turn.ensures.offering i)
          (λ i. ap is_offering at ∙ c.turn.ensures.other i) o.5,
      o.7,
    )

pub returns-then-is_shadow-clause-made : goal.returns-then-is_shadow-clause-made
returns-then-is_shadow-clause-made g c = λ z w v h goes own other.
    let a = c.turn.ensures.stays z w v h in
    let b = c.begin.ensures.stays z w v a.stands in
    let k = c.turn.ensures.kept in
    let l = c.begin.ensures.kept in
    let side = sym c.is_shadow.ensures ∙ c.if-is_shadow.true in
    let at = c.begin.ensures.stage in
    let same = c.begin.ensures.guest_same (sym (ap is_shadow at) ∙ side) in
    let idle = guest_idle c.begin.new.state.stage (g.L.Device.DeviceEnd.device.begun c.begin.new.state.guest) side b.stands.guest in
    let offers = offers_on g.L.Device.DeviceEnd.device g.L.Driver.DriverEnd.driver z c.args.state.now c.turn.new.state
    c.begin.new.state w v c.turn.ensures.offering at c.turn.ensures.shadow a.stands c.begin.ensures.shadow_was in
    inr (
      refl,
      (
        ap g.L.Device.DeviceEnd.device.begun (sym c.turn.ensures.guest ∙ sym same) ∙ idle,
        λ i. cc (c.shadow_turn.ensures.calm i, idle),
      ),
      shadow_from g.Q.Port.port g.L.Device.DeviceEnd.device g.L.Driver.DriverEnd.driver z c.args.shadow_port.now
          c.shadow_turn.new.port c.args.state.now c.begin.new.state c.shadow_turn.new.state w v c.shadow_turn.result
          g.C.Carrier.carrier c.args.carrier.now c.shadow_turn.new.carrier
          (omega (arith, a.owes, b.owes)) (l.0 ∙ k.0, l.1 ∙ k.1)
          (λ i. at ∙ c.turn.ensures.hearing (sym (ap is_hearing at) ∙ i)) (same ∙ c.turn.ensures.guest) offers
          (λ i. ap is_offering at ∙ c.turn.ensures.other i) (c.shadow_turn.ensures.turn z w v b.stands other),
    )

pub returns-else-is_shadow-clause-made : goal.returns-else-is_shadow-clause-made
returns-else-is_shadow-clause-made g c = λ z w v h goes own other.
    let a = c.turn.ensures.stays z w v h in
    let b = c.begin.ensures.stays z w v a.stands in
    let side = sym c.is_shadow.ensures ∙ c.if-is_shadow.false in
    let at = c.begin.ensures.stage in
    let same = c.begin.ensures.shadow_same (sym (ap is_shadow at) ∙ side) in
    let idle = shadow_idle c.begin.new.state.stage (g.L.Driver.DriverEnd.driver.begun c.begin.new.state.shadow) side b.stands.shadow in
    inl (
      refl,
      (
        ap g.L.Driver.DriverEnd.driver.begun (sym c.turn.ensures.shadow ∙ sym same) ∙ idle,
        λ i. cc (c.guest_turn.ensures.calm i, idle),
      ),
      guest_from g.P.Port.port g.L.Device.DeviceEnd.device g.L.Driver.DriverEnd.driver z c.args.guest_port.now
          c.guest_turn.new.port c.args.state.now c.begin.new.state c.guest_turn.new.state w v c.guest_turn.result
          g.C.Carrier.carrier c.args.carrier.now c.guest_turn.new.carrier (omega (arith, a.owes, b.owes))
          (λ i. at ∙ c.turn.ensures.hearing (sym (ap is_hearing at) ∙ i))
          (gives_on g.L.Device.DeviceEnd.device g.L.Driver.DriverEnd.driver z c.args.state.now c.turn.new.state c.begin.new.state w v at
          c.turn.ensures.guest a.stands b.stands c.begin.ensures.guest_was)
          (c.guest_turn.ensures.turn z w v b.stands goes own),
    )
