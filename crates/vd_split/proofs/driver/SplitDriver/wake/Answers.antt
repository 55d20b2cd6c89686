use Rattle.std.proofs.Common.{ℕ, ◌*◌, false, ap, ◌∙◌}
use Rattle.std.proofs.lemmas.List.{get_or_read}
use Rattle.std.specs.Vec.{with_item}
use Rattle.vd_bits.specs.Lanes.{set_lane16}
use Rattle.vd_words.specs.declared.access.Access.TheVariants.{Store}
use Rattle.vd_ring.specs.declared.act.DriverAct.TheVariants as act
use Rattle.vd_split.specs.declared.driver.SplitDriver.{SplitDriver}
use Rattle.vd_split.specs.declared.driver.DriverStep.TheVariants as step
use Rattle.vd_split.specs.laws.DriverSteps.{made}
use Rattle.vd_split.specs.laws.DriverPublishing.{entry_below}
use Rattle.vd_split.specs.laws.DriverBells.{wake_goes}
use Rattle.vd_split.proofs.driver.SplitDriver.wake.Goals as goal

pub returns : goal.returns
returns g c = λ v st own.
    let e : SplitDriver = c.args.self.now in let x : ℕ = c.set_lane16-word.result in
    let go = wake_goes e v c.args.op c.access.result x c.requires.now c.requires.flags st
    (c.set_lane16-word.ensures ∙ ap (λ w. set_lane16 w 0 1)
    (get_or_read e.area.items 0 c.index.result.now (entry_below e v st).1 c.index.ensures 0)) in
    made g.P.Port.port c.args.port.now c.access.new.self e (record e { area = with_item e.area 0 x; armed = false; doing = step.Idle })
    v c.args.op (Store (2 * e.size) x) c.access.result act.Awake go c.access.ensures
