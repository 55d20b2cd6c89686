use Rattle.std.proofs.Common.{◌≡◌, ℕ, ◌+◌, ◌/◌, ◌%◌, ◌*◌, slice_index, ap, sym, ◌∙◌, arith}
use Rattle.std.proofs.lemmas.List.{get_or_read}
use Rattle.std.specs.Vec.{with_item}
use Rattle.vd_bits.specs.Lanes.{set_lane16}
use Rattle.vd_words.specs.declared.access.Access.TheVariants.{Store}
use Rattle.vd_words.specs.declared.access.Op.TheVariants as op
use Rattle.vd_ring.specs.declared.act.DriverAct.TheVariants as act
use Rattle.vd_split.specs.declared.driver.SplitDriver.{SplitDriver}
use Rattle.vd_split.specs.declared.driver.DriverStep.TheVariants as step
use Rattle.vd_split.specs.laws.DriverSteps.{made}
use Rattle.vd_split.specs.laws.DriverBells.{arm_goes, own_lane_below}
use Rattle.vd_split.proofs.driver.SplitDriver.arm.Goals as goal

pub returns : goal.returns
returns g c = λ v st own.
    let e : SplitDriver = c.args.self.now in let x : ℕ = c.set_lane16-word.result in let j : ℕ = c.own_lane-lane.result in
    let go = arm_goes e v c.access.result x j c.own_value-value.result c.requires.now st c.own_lane-lane.ensures c.own_value-value.ensures
    (c.set_lane16-word.ensures ∙ ap (λ w. set_lane16 w (j % 4) c.own_value-value.result)
    (get_or_read e.area.items (j / 4) c.index.result.now (own_lane_below e v j st c.own_lane-lane.ensures) c.index.ensures 0)) in
    made g.P.Port.port c.args.port.now c.access.new.self e
    (record e { area = with_item e.area (j / 4) x; armed = Rattle.std.proofs.Common.true; doing = step.LookAgain }) v op.Arm
    (Store (2 * e.size + j / 4) x) c.access.result act.Moved go c.access.ensures
