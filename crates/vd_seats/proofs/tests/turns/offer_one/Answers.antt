use Rattle.std.proofs.Common.{rules}
use Rattle.vd_layout.specs.laws.Runs.{driver_ran}
use Rattle.vd_seats.specs.laws.Open.{may_offer_one}
use Rattle.vd_seats.proofs.tests.turns.offer_one.Goals as goal

pub begin_offer-requires-clause-may : goal.begin_offer-requires-clause-may
begin_offer-requires-clause-may g c =
    let v = c.requires.0 in let on = c.requires.1 in let d = g.E.DriverEnd.driver in
    let n = c.offered-offered.ensures v on.stands in let room = c.room.ensures v on.stands in (
      v,
      on.stands,
      may_offer_one d.words v c.requires.2 c.args.piece c.new-chain.result c.new-chain.ensures c.pieces.ensures.lawful
          (search rules) (search rules) (search rules),
    )

pub finish_driver-requires-clause-own : goal.finish_driver-requires-clause-own
finish_driver-requires-clause-own g c =
    let v = c.requires.0 in let on = c.requires.1 in let d = g.E.DriverEnd.driver in
    let n = c.offered-offered.ensures v on.stands in let room = c.room.ensures v on.stands in
    let may = may_offer_one d.words v c.requires.2 c.args.piece c.new-chain.result c.new-chain.ensures c.pieces.ensures.lawful
    (search rules) (search rules) (search rules) in
    (v, c.begin_offer.ensures.stands v on.stands may, on.own)

pub returns : goal.returns
returns g c = λ v on bare.
    let d = g.E.DriverEnd.driver in
    let n = c.offered-offered.ensures v on.stands in let room = c.room.ensures v on.stands in
    let may = may_offer_one d.words v bare c.args.piece c.new-chain.result c.new-chain.ensures c.pieces.ensures.lawful (search rules)
    (search rules) (search rules) in
    driver_ran g.P.Port.port d g.met.E.DriverEnd.driver_lawful c.args.port.now c.finish_driver.new.port v c.args.end.now
    c.begin_offer.new.self c.finish_driver.new.end c.finish_driver.result on
    (c.finish_driver.ensures v (c.begin_offer.ensures.stands v on.stands may) on.own)
