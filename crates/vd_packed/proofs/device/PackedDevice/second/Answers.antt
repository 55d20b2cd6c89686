use Rattle.std.proofs.Common.{ℕ, ◌+◌, ◌*◌, sym, subst}
use Rattle.vd_words.specs.declared.access.Access.TheVariants.{Load}
use Rattle.vd_words.specs.declared.access.Op.TheVariants as op
use Rattle.vd_ring.specs.declared.act.DeviceAct.TheVariants as act
use Rattle.vd_packed.specs.declared.device.PackedDevice.{PackedDevice}
use Rattle.vd_layout.specs.Telling.{act_of}
use Rattle.vd_packed.specs.laws.DeviceGiving.{Goes, made}
use Rattle.vd_packed.specs.laws.DeviceTaking.{second_goes}
use Rattle.vd_packed.proofs.device.PackedDevice.second.Goals as goal

pub access-word-requires : goal.access-word-requires
access-word-requires g c =
    let e : PackedDevice = c.args.self.now in
    c.requires.own.2.may op.Take (Load (2 * e.at.place + 1)) (second_goes e c.requires.own.0 0 c.requires.now c.requires.own.1).next

pub returns-clause-did : goal.returns-clause-did
returns-clause-did g c = λ v st own.
    let e : PackedDevice = c.args.self.now in let x : ℕ = c.access-word.result in let s = c.loaded_second in
    made g.P.Port.port c.args.port.now c.access-word.new.self e s.new.self v op.Take (Load (2 * e.at.place + 1)) x
    (act_of s.result s.new.self.pieces.items)
    (subst (λ t. Goes e s.new.self v op.Take (Load (2 * e.at.place + 1)) x (act_of t s.new.self.pieces.items)) (sym s.ensures.moved)
    (subst (λ (h : PackedDevice). Goes e h v op.Take (Load (2 * e.at.place + 1)) x act.Moved) (sym s.ensures.second)
    (second_goes e v x c.requires.now st))) c.access-word.ensures
