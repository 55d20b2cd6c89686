use Rattle.vd_models.proofs.SendPlaces.{ready_places, chain_at}
use Rattle.vd_models.proofs.sent.command_chain.Goals as goal

pub command_place-requires : goal.command_place-requires
command_place-requires g c =
    let r = c.requires.ready in
    (r.0, ready_places g.met.L.Layout.lawful c.next_head-head.result r.0 (c.next_head-head.ensures r.0 r.1.stands) r.1)

pub ack_place-requires : goal.ack_place-requires
ack_place-requires g c =
    let r = c.requires.ready in
    (r.0, ready_places g.met.L.Layout.lawful c.next_head-head.result r.0 (c.next_head-head.ensures r.0 r.1.stands) r.1)

pub returns : goal.returns
returns g c = λ v r.
    let at = c.next_head-head.ensures v r.stands in
    let p = ready_places g.met.L.Layout.lawful c.next_head-head.result v at r in
    chain_at g.L.Driver.DriverEnd.driver c.next_head-head.result c.command_place.result c.ack_place.result c.args.len
    c.control_chain.result v at
    (c.command_place.ensures v p) (c.ack_place.ensures v p) c.control_chain.ensures
