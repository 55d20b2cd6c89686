use Rattle.std.proofs.Common.{rules, ◌∙◌}
use Rattle.vd_seats.specs.laws.Open.{may_offer_one}
use Rattle.vd_seat_bench.specs.laws.Halves.{finished_driver}
use Rattle.vd_seat_bench.proofs.halves.DriverHalf.offer.Goals as goal

pub finish_driver-requires-clause-own : goal.finish_driver-requires-clause-own
finish_driver-requires-clause-own g c =
    let h = c.self.invariant in let d = g.L.Driver.DriverEnd.driver in let e = g.L.Device.DeviceEnd.device in let l =
    g.L.Layout.layout in let law = g.met.L.Layout.lawful in
    let n = c.offered.ensures h.view h.on.stands in let room = c.room.ensures h.view h.on.stands in
    let may = may_offer_one d.words h.view h.bare c.requires.0 c.args.chain.now c.requires.1 c.pieces.ensures.lawful c.requires.2
    (search rules) (search rules) in
    (h.view, c.begin_offer.ensures.stands h.view h.on.stands may, h.on.own)

pub begin_offer-requires-clause-may : goal.begin_offer-requires-clause-may
begin_offer-requires-clause-may g c =
    let h = c.self.invariant in let d = g.L.Driver.DriverEnd.driver in let e = g.L.Device.DeviceEnd.device in let l =
    g.L.Layout.layout in let law = g.met.L.Layout.lawful in
    let n = c.offered.ensures h.view h.on.stands in let room = c.room.ensures h.view h.on.stands in
    let may = may_offer_one d.words h.view h.bare c.requires.0 c.args.chain.now c.requires.1 c.pieces.ensures.lawful c.requires.2
    (search rules) (search rules) in
    (h.view, h.on.stands, may)

pub invariant_of-self : goal.invariant_of-self
invariant_of-self g c =
    let h = c.self.invariant in let d = g.L.Driver.DriverEnd.driver in let e = g.L.Device.DeviceEnd.device in let l =
    g.L.Layout.layout in let law = g.met.L.Layout.lawful in
    let n = c.offered.ensures h.view h.on.stands in let room = c.room.ensures h.view h.on.stands in
    let may = may_offer_one d.words h.view h.bare c.requires.0 c.args.chain.now c.requires.1 c.pieces.ensures.lawful c.requires.2
    (search rules) (search rules) in
    (finished_driver d e l law c.self.inside.end c.begin_offer.new.self c.finish_driver.new.end c.self.inside.port
    c.finish_driver.new.port c.finish_driver.result h
    (c.finish_driver.ensures h.view (c.begin_offer.ensures.stands h.view h.on.stands may) h.on.own)).0

pub returns : goal.returns
returns g c =
    let h = c.self.invariant in let d = g.L.Driver.DriverEnd.driver in let e = g.L.Device.DeviceEnd.device in let l =
    g.L.Layout.layout in let law = g.met.L.Layout.lawful in
    let n = c.offered.ensures h.view h.on.stands in let room = c.room.ensures h.view h.on.stands in
    let may = may_offer_one d.words h.view h.bare c.requires.0 c.args.chain.now c.requires.1 c.pieces.ensures.lawful c.requires.2
    (search rules) (search rules) in
    (finished_driver d e l law c.self.inside.end c.begin_offer.new.self c.finish_driver.new.end c.self.inside.port
    c.finish_driver.new.port c.finish_driver.result h
    (c.finish_driver.ensures h.view (c.begin_offer.ensures.stands h.view h.on.stands may) h.on.own)).1 ∙ c.self.view_is
