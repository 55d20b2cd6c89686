use Rattle.std.proofs.Common.{◌∙◌}
use Rattle.vd_seat_bench.specs.laws.Halves.{finished_driver}
use Rattle.vd_seat_bench.proofs.halves.DriverHalf.collect.Goals as goal

pub finish_driver-requires-clause-own : goal.finish_driver-requires-clause-own
finish_driver-requires-clause-own g c =
    let h = c.self.invariant in
    (h.view, c.begin_collect.ensures.stands h.view h.on.stands, h.on.own)

pub invariant_of-self : goal.invariant_of-self
invariant_of-self g c =
    let h = c.self.invariant in let d = g.L.Driver.DriverEnd.driver in let e = g.L.Device.DeviceEnd.device in let l =
    g.L.Layout.layout in let law = g.met.L.Layout.lawful in
    (finished_driver d e l law c.self.inside.end c.begin_collect.new.self c.finish_driver.new.end c.self.inside.port
    c.finish_driver.new.port c.finish_driver.result h
    (c.finish_driver.ensures h.view (c.begin_collect.ensures.stands h.view h.on.stands) h.on.own)).0

pub returns : goal.returns
returns g c =
    let h = c.self.invariant in let d = g.L.Driver.DriverEnd.driver in let e = g.L.Device.DeviceEnd.device in let l =
    g.L.Layout.layout in let law = g.met.L.Layout.lawful in
    (finished_driver d e l law c.self.inside.end c.begin_collect.new.self c.finish_driver.new.end c.self.inside.port
    c.finish_driver.new.port c.finish_driver.result h
    (c.finish_driver.ensures h.view (c.begin_collect.ensures.stands h.view h.on.stands) h.on.own)).1 ∙ c.self.view_is
