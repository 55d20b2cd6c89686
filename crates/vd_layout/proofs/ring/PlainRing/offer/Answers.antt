use Rattle.std.proofs.Common.{◌≡◌, IsTrue, length, sym, ap, refl, subst, rules}
use Rattle.vd_ring.specs.declared.act.DriverAct.TheVariants as driver_act
use Rattle.vd_layout.specs.PlainRing.{PlainView, CanOffer, frame_at}
use Rattle.vd_layout.specs.RingLists.{RingLists, and_offered}
use Rattle.vd_layout.proofs.PlainRings.{driver_begun, driver_kept, driver_sleepless, offered_on, may_offer, driver_moved}
use Rattle.vd_layout.proofs.ring.PlainRing.offer.Goals as goal

pub begin_offer-requires-clause-may : goal.begin_offer-requires-clause-may
begin_offer-requires-clause-may g c =
    let d = g.L.Driver.DriverEnd.driver in
    let e = g.L.Device.DeviceEnd.device in
    let l = g.L.Layout.layout in
    let law = g.met.L.Layout.lawful in
    let i = c.self.invariant in
    let can = subst (λ (v : PlainView). CanOffer v c.args.c.now) (sym c.self.view_is)
    (c.can_offer.ensures.0 (let t : IsTrue c.can_offer.result = search rules in t)) in
    let may = may_offer d e l c.self.inside.driver c.self.inside.device c.self.inside.words c.self.inside.history.lists
    c.self.inside.count c.self.inside.limit c.self.inside.resting i c.args.c.now c.pieces.ensures.lawful can.room can.bytes
    can.limited in
    (i.on.view, i.on.drives, may)

pub end_driver-answer-requires-clause-on : goal.end_driver-answer-requires-clause-on
end_driver-answer-requires-clause-on g c =
    let d = g.L.Driver.DriverEnd.driver in
    let e = g.L.Device.DeviceEnd.device in
    let l = g.L.Layout.layout in
    let law = g.met.L.Layout.lawful in
    let i = c.self.invariant in
    let can = subst (λ (v : PlainView). CanOffer v c.args.c.now) (sym c.self.view_is)
    (c.can_offer.ensures.0 (let t : IsTrue c.can_offer.result = search rules in t)) in
    let may = may_offer d e l c.self.inside.driver c.self.inside.device c.self.inside.words c.self.inside.history.lists
    c.self.inside.count c.self.inside.limit c.self.inside.resting i c.args.c.now c.pieces.ensures.lawful can.room can.bytes
    can.limited in
    let stands = c.begin_offer.ensures.stands i.on.view i.on.drives may in (
      frame_at d l c.self.inside.driver c.self.inside.words,
      driver_begun d e l _ c.self.inside.driver c.begin_offer.new.self c.self.inside.device c.self.inside.words.words i.on stands,
      refl,
    )

pub invariant_of-self : goal.invariant_of-self
invariant_of-self g c =
    let d = g.L.Driver.DriverEnd.driver in
    let e = g.L.Device.DeviceEnd.device in
    let l = g.L.Layout.layout in
    let law = g.met.L.Layout.lawful in
    let i = c.self.invariant in
    let can = subst (λ (v : PlainView). CanOffer v c.args.c.now) (sym c.self.view_is)
    (c.can_offer.ensures.0 (let t : IsTrue c.can_offer.result = search rules in t)) in
    let may = may_offer d e l c.self.inside.driver c.self.inside.device c.self.inside.words c.self.inside.history.lists
    c.self.inside.count c.self.inside.limit c.self.inside.resting i c.args.c.now c.pieces.ensures.lawful can.room can.bytes
    can.limited in
    let stands = c.begin_offer.ensures.stands i.on.view i.on.drives may in
    let z = c.end_driver-answer.ensures.did (frame_at d l c.self.inside.driver c.self.inside.words)
    (driver_begun d e l _ c.self.inside.driver c.begin_offer.new.self c.self.inside.device c.self.inside.words.words i.on stands) in
    let did = offered_on d e l law c.self.inside.driver c.begin_offer.new.self c.end_driver-answer.new.driver c.self.inside.device
    c.self.inside.words c.end_driver-answer.new.words c.self.inside.history.lists c.then-self-inside.result.lists
    c.self.inside.count c.self.inside.limit c.self.inside.resting c.end_driver-answer.result i stands z c.args.c.now
    c.begin_offer.ensures.begun c.then-self-inside.ensures in
    (driver_kept d e l law c.self.inside.driver c.begin_offer.new.self c.end_driver-answer.new.driver c.self.inside.device
    c.self.inside.words c.end_driver-answer.new.words c.self.inside.history.lists c.then-self-inside.result.lists
    c.self.inside.count c.self.inside.limit c.self.inside.resting c.end_driver-answer.result i stands z
    c.end_driver-answer.ensures.ring c.end_driver-answer.ensures.idle did.1).ring

pub returns-clause-made : goal.returns-clause-made
returns-clause-made g c =
    let d = g.L.Driver.DriverEnd.driver in
    let e = g.L.Device.DeviceEnd.device in
    let l = g.L.Layout.layout in
    let law = g.met.L.Layout.lawful in
    let i = c.self.invariant in
    let can = subst (λ (v : PlainView). CanOffer v c.args.c.now) (sym c.self.view_is)
    (c.can_offer.ensures.0 (let t : IsTrue c.can_offer.result = search rules in t)) in
    let may = may_offer d e l c.self.inside.driver c.self.inside.device c.self.inside.words c.self.inside.history.lists
    c.self.inside.count c.self.inside.limit c.self.inside.resting i c.args.c.now c.pieces.ensures.lawful can.room can.bytes
    can.limited in
    let stands = c.begin_offer.ensures.stands i.on.view i.on.drives may in
    let z = c.end_driver-answer.ensures.did (frame_at d l c.self.inside.driver c.self.inside.words)
    (driver_begun d e l _ c.self.inside.driver c.begin_offer.new.self c.self.inside.device c.self.inside.words.words i.on stands) in
    let did = offered_on d e l law c.self.inside.driver c.begin_offer.new.self c.end_driver-answer.new.driver c.self.inside.device
    c.self.inside.words c.end_driver-answer.new.words c.self.inside.history.lists c.then-self-inside.result.lists
    c.self.inside.count c.self.inside.limit c.self.inside.resting c.end_driver-answer.result i stands z c.args.c.now
    c.begin_offer.ensures.begun c.then-self-inside.ensures in
    subst (λ (h : RingLists). (c.end_driver-answer.result ≡ driver_act.Offered (length h.offered))
    × (c.then-self-inside.result.lists ≡ and_offered c.args.c.now h)) (ap (λ (v : PlainView). v.lists) c.self.view_is) (
      did.0,
      c.then-self-inside.ensures,
    )

pub returns-clause-same : goal.returns-clause-same
returns-clause-same g c =
    let d = g.L.Driver.DriverEnd.driver in
    let e = g.L.Device.DeviceEnd.device in
    let l = g.L.Layout.layout in
    let law = g.met.L.Layout.lawful in
    let i = c.self.invariant in
    let can = subst (λ (v : PlainView). CanOffer v c.args.c.now) (sym c.self.view_is)
    (c.can_offer.ensures.0 (let t : IsTrue c.can_offer.result = search rules in t)) in
    let may = may_offer d e l c.self.inside.driver c.self.inside.device c.self.inside.words c.self.inside.history.lists
    c.self.inside.count c.self.inside.limit c.self.inside.resting i c.args.c.now c.pieces.ensures.lawful can.room can.bytes
    can.limited in
    let stands = c.begin_offer.ensures.stands i.on.view i.on.drives may in
    let z = c.end_driver-answer.ensures.did (frame_at d l c.self.inside.driver c.self.inside.words)
    (driver_begun d e l _ c.self.inside.driver c.begin_offer.new.self c.self.inside.device c.self.inside.words.words i.on stands) in
    let did = offered_on d e l law c.self.inside.driver c.begin_offer.new.self c.end_driver-answer.new.driver c.self.inside.device
    c.self.inside.words c.end_driver-answer.new.words c.self.inside.history.lists c.then-self-inside.result.lists
    c.self.inside.count c.self.inside.limit c.self.inside.resting c.end_driver-answer.result i stands z c.args.c.now
    c.begin_offer.ensures.begun c.then-self-inside.ensures in
    let k = driver_kept d e l law c.self.inside.driver c.begin_offer.new.self c.end_driver-answer.new.driver c.self.inside.device
    c.self.inside.words c.end_driver-answer.new.words c.self.inside.history.lists c.then-self-inside.result.lists
    c.self.inside.count c.self.inside.limit c.self.inside.resting c.end_driver-answer.result i stands z
    c.end_driver-answer.ensures.ring c.end_driver-answer.ensures.idle did.1 in
    driver_moved _ _ _ (λ (v : PlainView). d.armed c.end_driver-answer.new.driver ≡ v.driver_armed) c.self.view_is (
      record { frame = k.frame; wide = k.wide; device_armed = refl; resting = refl; base = refl },
      driver_sleepless d e l law c.self.inside.driver c.begin_offer.new.self c.end_driver-answer.new.driver c.self.inside.device
          c.self.inside.words c.end_driver-answer.new.words c.self.inside.history.lists c.then-self-inside.result.lists
          c.self.inside.count c.self.inside.limit c.self.inside.resting c.end_driver-answer.result i stands z can.awake
          (λ w. cc (w, c.begin_offer.ensures.begun)),
    )
