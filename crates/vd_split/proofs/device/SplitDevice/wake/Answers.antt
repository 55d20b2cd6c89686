use Rattle.std.proofs.Common.{ℕ, false, ap, sym, ◌∙◌, subst, arith}
use Rattle.std.proofs.lemmas.List.{get_or_read}
use Rattle.std.specs.Vec.{with_item}
use Rattle.vd_bits.specs.Lanes.{set_lane16}
use Rattle.vd_words.specs.declared.access.Access.TheVariants.{Store}
use Rattle.vd_ring.specs.declared.act.DeviceAct.TheVariants as act
use Rattle.vd_split.specs.declared.device.SplitDevice.{SplitDevice}
use Rattle.vd_split.specs.declared.device.DeviceStep.TheVariants as step
use Rattle.vd_split.specs.laws.DeviceSteps.{Goes, made, used_below}
use Rattle.vd_split.specs.laws.DeviceBells.{wake_goes}
use Rattle.vd_split.proofs.device.SplitDevice.wake.Goals as goal

pub returns : goal.returns
returns g c = λ v st own.
    let e : SplitDevice = c.args.self.now in let x : ℕ = c.set_lane16-word.result in
    let below = used_below e v st in
    let go = wake_goes e v c.args.op c.access.result x c.requires.now c.requires.flags st
    (c.set_lane16-word.ensures ∙ ap (λ w. set_lane16 w 0 1)
    (get_or_read e.area.items 0 c.index.result.now (omega (arith, below.2)) c.index.ensures 0)) in
    made g.P.Port.port c.args.port.now c.access.new.self e (record e { area = with_item e.area 0 x; armed = false; doing = step.Idle })
    v c.args.op (Store c.used_area.result x) c.access.result act.Awake
    (subst (λ q. Goes e (record e { area = with_item e.area 0 x; armed = false; doing = step.Idle }) v c.args.op
    (Store q x) c.access.result act.Awake) (sym c.used_area.ensures) go) c.access.ensures
