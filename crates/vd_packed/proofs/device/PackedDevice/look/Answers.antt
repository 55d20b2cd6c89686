use Rattle.std.proofs.Common.{ℕ, ◌+◌, ◌*◌}
use Rattle.vd_words.specs.declared.access.Access.TheVariants.{Load}
use Rattle.vd_words.specs.declared.access.Op.TheVariants as op
use Rattle.vd_packed.specs.declared.device.PackedDevice.{PackedDevice}
use Rattle.vd_layout.specs.Telling.{act_of}
use Rattle.vd_packed.specs.laws.DeviceGiving.{made}
use Rattle.vd_packed.specs.laws.DeviceLooking.{look_next, saw_goes}
use Rattle.vd_packed.proofs.device.PackedDevice.look.Goals as goal

pub returns-clause-did : goal.returns-clause-did
returns-clause-did g c = λ v st own.
    let e : PackedDevice = c.args.self.now in let a = c.access-word in let w : ℕ = a.result in let s = c.saw in
    let tells = own.told op.Take (Load (2 * e.next.place + 1)) (look_next e v c.requires.now st).1 w a.new.self a.ensures in
    made g.P.Port.port c.args.port.now a.new.self e s.new.self v op.Take (Load (2 * e.next.place + 1)) w
    (act_of s.result s.new.self.pieces.items)
    (saw_goes e s.new.self v w s.result c.requires.now st s.ensures.nothing s.ensures.chain tells) a.ensures
