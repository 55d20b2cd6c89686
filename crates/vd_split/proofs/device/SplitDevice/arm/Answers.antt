use Rattle.std.proofs.Common.{ℕ, ◌+◌, true, ap, sym, ◌∙◌, subst, arith}
use Rattle.std.proofs.lemmas.List.{get_or_read}
use Rattle.std.specs.Vec.{with_item}
use Rattle.vd_bits.specs.Lanes.{set_lane16}
use Rattle.vd_words.specs.declared.access.Access.TheVariants.{Store}
use Rattle.vd_words.specs.declared.access.Op.TheVariants as op
use Rattle.vd_ring.specs.declared.act.DeviceAct.TheVariants as act
use Rattle.vd_split.specs.declared.device.SplitDevice.{SplitDevice}
use Rattle.vd_split.specs.declared.device.DeviceStep.TheVariants as step
use Rattle.vd_split.specs.laws.DeviceSteps.{Goes, made}
use Rattle.vd_split.specs.laws.DeviceBells.{arm_goes, offset_is}
use Rattle.vd_split.proofs.device.SplitDevice.arm.Goals as goal

pub returns : goal.returns
returns g c = λ v st own.
    let e : SplitDevice = c.args.self.now in let x : ℕ = c.set_lane16-word.result in let i : ℕ = c.event_offset-i.result in
    let at = offset_is e v i st c.event_offset-i.ensures in
    let k : ℕ = c.event_lane-lane.result in
    let go = arm_goes e v c.access.result x i c.own_value-value.result k c.requires.now st c.event_offset-i.ensures
    c.own_value-value.ensures c.event_lane-lane.ensures
    (c.set_lane16-word.ensures ∙ ap (λ w. set_lane16 w k c.own_value-value.result)
    (get_or_read e.area.items i c.index.result.now (omega (arith, at.1, st.area.as_many)) c.index.ensures 0)) in
    made g.P.Port.port c.args.port.now c.access.new.self e
    (record e { area = with_item e.area i x; armed = true; doing = step.LookAgain }) v op.Arm
    (Store (c.used_area.result + i) x) c.access.result act.Moved
    (subst (λ q. Goes e (record e { area = with_item e.area i x; armed = true; doing = step.LookAgain }) v op.Arm
    (Store (q + i) x) c.access.result act.Moved) (sym c.used_area.ensures) go) c.access.ensures
