use Rattle.std.proofs.Common.{◌∙◌}
use Rattle.vd_seat_bench.specs.laws.Halves.{finished_device}
use Rattle.vd_seat_bench.proofs.halves.DeviceHalf.give.Goals as goal

pub finish_device-requires-clause-own : goal.finish_device-requires-clause-own
finish_device-requires-clause-own g c =
    let h = c.self.invariant in
    (h.view, c.begin_give.ensures.stands h.view h.on.stands, h.on.own)

pub invariant_of-self : goal.invariant_of-self
invariant_of-self g c =
    let h = c.self.invariant in let d = g.L.Driver.DriverEnd.driver in let e = g.L.Device.DeviceEnd.device in let l =
    g.L.Layout.layout in let law = g.met.L.Layout.lawful in
    (finished_device d e l law c.self.inside.end c.begin_give.new.self c.finish_device.new.end c.self.inside.port
    c.finish_device.new.port c.finish_device.result h (λ z. cc (z, c.begin_give.ensures.begun))
    (c.finish_device.ensures h.view (c.begin_give.ensures.stands h.view h.on.stands) h.on.own)).0

pub returns : goal.returns
returns g c =
    let h = c.self.invariant in let d = g.L.Driver.DriverEnd.driver in let e = g.L.Device.DeviceEnd.device in let l =
    g.L.Layout.layout in let law = g.met.L.Layout.lawful in
    (finished_device d e l law c.self.inside.end c.begin_give.new.self c.finish_device.new.end c.self.inside.port
    c.finish_device.new.port c.finish_device.result h (λ z. cc (z, c.begin_give.ensures.begun))
    (c.finish_device.ensures h.view (c.begin_give.ensures.stands h.view h.on.stands) h.on.own)).1 ∙ c.self.view_is
