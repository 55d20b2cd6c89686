use Rattle.std.proofs.Common.{ℕ, ◌+◌, ◌*◌, true, false, sym, ◌∙◌}
use Rattle.vd_words.specs.declared.access.Access.TheVariants.{Load}
use Rattle.vd_words.specs.declared.access.Op.TheVariants as op
use Rattle.vd_ring.specs.declared.act.DeviceAct.TheVariants as act
use Rattle.vd_packed.specs.declared.device.PackedDevice.{PackedDevice}
use Rattle.vd_packed.specs.declared.device.DeviceStep.TheVariants as step
use Rattle.vd_packed.specs.laws.DeviceGiving.{made}
use Rattle.vd_packed.specs.laws.DeviceBells.{again_next, armed_goes, awake_goes}
use Rattle.vd_packed.proofs.device.PackedDevice.look_again.Goals as goal

pub access-word-requires : goal.access-word-requires
access-word-requires g c = let e : PackedDevice = c.args.self.now in
    c.requires.own.2.may op.Arm (Load (2 * e.next.place + 1)) (again_next e c.requires.own.0 c.requires.now c.requires.own.1)

pub returns-then-not-shows_available-clause-did : goal.returns-then-not-shows_available-clause-did
returns-then-not-shows_available-clause-did g c = λ v st own.
    let e : PackedDevice = c.args.self.now in let w : ℕ = c.access-word.result in
    made g.P.Port.port c.args.port.now c.access-word.new.self e (record e { doing = step.Idle }) v op.Arm
    (Load (2 * e.next.place + 1)) w act.Armed
    (armed_goes e v w c.requires.now st (sym c.shows_available.ensures ∙ c.if-not-shows_available.true)) c.access-word.ensures

pub returns-then-self-clause-did : goal.returns-then-self-clause-did
returns-then-self-clause-did g c = λ v st own.
    let e : PackedDevice = c.args.self.now in let w : ℕ = c.access-word.result in
    made g.P.Port.port c.args.port.now c.access-word.new.self e (record e { armed = false; doing = step.Idle }) v op.Arm
    (Load (2 * e.next.place + 1)) w act.Awake
    (awake_goes e v w c.requires.now st (sym c.shows_available.ensures ∙ c.if-not-shows_available.false) true c.if-self.true)
    c.access-word.ensures

pub returns-clause-did : goal.returns-clause-did
returns-clause-did g c = λ v st own.
    let e : PackedDevice = c.args.self.now in let w : ℕ = c.access-word.result in
    made g.P.Port.port c.args.port.now c.access-word.new.self e (record e { armed = false; doing = step.WakeArming }) v op.Arm
    (Load (2 * e.next.place + 1)) w act.Moved
    (awake_goes e v w c.requires.now st (sym c.shows_available.ensures ∙ c.if-not-shows_available.false) false c.if-self.false)
    c.access-word.ensures
