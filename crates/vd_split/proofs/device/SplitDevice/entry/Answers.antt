use Rattle.std.proofs.Common.{ℕ, ◌+◌, ◌*◌, ◌/◌}
use Rattle.vd_words.specs.declared.access.Access.TheVariants.{Load}
use Rattle.vd_words.specs.declared.access.Op.TheVariants as op
use Rattle.vd_ring.specs.declared.act.DeviceAct.TheVariants as act
use Rattle.vd_split.specs.declared.device.SplitDevice.{SplitDevice}
use Rattle.vd_split.specs.declared.device.DeviceStep.TheVariants as step
use Rattle.vd_split.specs.laws.DeviceSteps.{made}
use Rattle.vd_split.specs.laws.DeviceTaking.{entry_goes}
use Rattle.vd_split.proofs.device.SplitDevice.entry.Goals as goal

pub returns : goal.returns
returns g c = λ v st own.
    let e : SplitDevice = c.args.self.now in
    let p : ℕ = 2 * e.size + (e.entry + 2) / 4 in
    let w : ℕ = c.access-entry.result in let h : ℕ = c.lane_at-head.result in
    let both = entry_goes e (record e { pieces = c.clear.new.self }) v c.args.word w h c.requires.now st c.clear.ensures
    c.lane_at-head.ensures in
    made g.P.Port.port c.args.port.now c.access-entry.new.self e
    (record e { pieces = c.clear.new.self; doing = step.Address c.args.word h h }) v op.Take (Load p) w act.Moved
    (both.1 (own.told op.Take (Load p) both.0 w c.access-entry.new.self c.access-entry.ensures)) c.access-entry.ensures
