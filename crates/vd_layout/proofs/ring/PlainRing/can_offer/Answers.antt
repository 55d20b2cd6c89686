use Rattle.std.proofs.Common.{IsTrue, subst, rules}
use Rattle.vd_layout.specs.PlainRing.{PlainView, CanOffer}
use Rattle.vd_layout.proofs.PlainRings.{room_is, offered_is}
use Rattle.vd_layout.proofs.ring.PlainRing.can_offer.Goals as goal

pub returns : goal.returns
returns g c =
    let i = c.self.invariant in
    let room = c.room.ensures i.on.view i.on.drives in
    let count = c.offered-offered.ensures i.on.view i.on.drives in
    let same = room_is g.L.Driver.DriverEnd.driver g.L.Device.DeviceEnd.device g.L.Layout.layout g.met.L.Layout.lawful
    c.self.inside.driver c.self.inside.device c.self.inside.words c.self.inside.history.lists c.self.inside.count
    c.self.inside.limit c.self.inside.resting i c.args.c.now in
    let offered = offered_is g.L.Driver.DriverEnd.driver g.L.Device.DeviceEnd.device g.L.Layout.layout g.met.L.Layout.lawful
    c.self.inside.driver c.self.inside.device c.self.inside.words c.self.inside.history.lists c.self.inside.count
    c.self.inside.limit c.self.inside.resting i in
    let bound = i.limited in
    subst (λ (v : PlainView). (IsTrue c.room.result → CanOffer v c.args.c.now) × (CanOffer v c.args.c.now → IsTrue c.room.result))
    c.self.view_is (
      λ t. record { awake = search rules; room = same.0 (room.0 t); bytes = search rules; limited = search rules },
      λ can. room.1 (same.1 can.room),
    )
