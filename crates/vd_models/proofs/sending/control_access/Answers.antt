use Rattle.std.proofs.Common.{ap}
use Rattle.vd_words.specs.declared.access.Access.TheVariants.{Load}
use Rattle.vd_models.specs.Driving.{drive}
use Rattle.vd_models.proofs.SendAccess.{acks_at}
use Rattle.vd_models.proofs.sending.control_access.Goals as goal

pub ack_place-requires : goal.ack_place-requires
ack_place-requires g c =
    let r = c.requires in (
      r.0,
      acks_at g.L.Driver.DriverEnd.driver g.L.Device.DeviceEnd.device g.L.Layout.layout g.met.L.Layout.lawful
          (drive c.args.end.now c.args.loaded.now) r.0 r.1 c.in-Ack.number c.in-Ack.len c.in-Ack.head c.in-Ack.is,
    )

pub returns-in-Ack : goal.returns-in-Ack
returns-in-Ack g c = λ v h.
    let places = acks_at g.L.Driver.DriverEnd.driver g.L.Device.DeviceEnd.device g.L.Layout.layout g.met.L.Layout.lawful
    (drive c.args.end.now c.args.loaded.now) v h c.in-Ack.number c.in-Ack.len c.in-Ack.head c.in-Ack.is in
    rw c.in-Ack.is (ap Load (c.ack_place.ensures v places))
