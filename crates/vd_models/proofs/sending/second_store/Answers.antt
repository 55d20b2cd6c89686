use Rattle.std.proofs.Common.{ℕ, List, true, ◌∙◌, ap}
use Rattle.vd_models.specs.Sent.{next_store}
use Rattle.vd_models.specs.Driving.{drive}
use Rattle.vd_models.proofs.SendAccess.{begun_first, stores_second}
use Rattle.vd_models.proofs.sending.second_store.Goals as goal

pub command_store-requires-clause-ready : goal.command_store-requires-clause-ready
command_store-requires-clause-ready g c =
    let r = c.requires.opens in (
      r.0,
      begun_first g.L.Driver.DriverEnd.driver g.L.Device.DeviceEnd.device g.L.Layout.layout g.met.L.Layout.lawful
          (drive c.args.end.now c.args.loaded.now) r.0 r.1 c.requires.first,
    )

pub returns : goal.returns
returns g c = λ v h.
    let ready = begun_first g.L.Driver.DriverEnd.driver g.L.Device.DeviceEnd.device g.L.Layout.layout g.met.L.Layout.lawful
    (drive c.args.end.now c.args.loaded.now) v h c.requires.first in
    stores_second g.L.Driver.DriverEnd.driver g.L.Device.DeviceEnd.device g.L.Layout.layout g.met.L.Layout.lawful
    (drive c.args.end.now c.args.loaded.now) v h c.requires.first c.in-Some.command.now c.command_store.result c.in-Some.ensures
    (c.command_store.ensures v ready ∙ ap (λ (z : List ℕ). next_store g.L.Driver.DriverEnd.driver v z true) c.as_slice.ensures.value)
