use Rattle.std.proofs.Common.{◌≡◌, ◌∙◌, IsTrue, sym, ap, refl, subst, rules}
use Rattle.vd_ring.specs.declared.act.DeviceAct.TheVariants as device_act
use Rattle.vd_layout.specs.PlainRing.{PlainView, CanGive, frame_at}
use Rattle.vd_layout.specs.RingLists.{RingLists, and_given}
use Rattle.vd_layout.proofs.PlainRings.{device_begun, device_kept, device_moved, device_awake, device_sleepless, given_on}
use Rattle.vd_layout.proofs.ring.PlainRing.give.Goals as goal

pub end_device-answer-requires-clause-on : goal.end_device-answer-requires-clause-on
end_device-answer-requires-clause-on g c =
    let d = g.L.Driver.DriverEnd.driver in
    let e = g.L.Device.DeviceEnd.device in
    let l = g.L.Layout.layout in
    let law = g.met.L.Layout.lawful in
    let i = c.self.invariant in
    let can = subst (λ (v : PlainView). CanGive v c.args.k) (sym c.self.view_is)
    (c.can_give.ensures.0 (let t : IsTrue c.can_give.result = search rules in t)) in
    let stands = c.begin_give.ensures.stands i.on.device_view i.on.serves in (
      frame_at d l c.self.inside.driver c.self.inside.words,
      device_begun d e l _ c.self.inside.driver c.self.inside.device c.begin_give.new.self c.self.inside.words.words i.on stands,
      refl,
    )

pub invariant_of-self : goal.invariant_of-self
invariant_of-self g c =
    let d = g.L.Driver.DriverEnd.driver in
    let e = g.L.Device.DeviceEnd.device in
    let l = g.L.Layout.layout in
    let law = g.met.L.Layout.lawful in
    let i = c.self.invariant in
    let can = subst (λ (v : PlainView). CanGive v c.args.k) (sym c.self.view_is)
    (c.can_give.ensures.0 (let t : IsTrue c.can_give.result = search rules in t)) in
    let stands = c.begin_give.ensures.stands i.on.device_view i.on.serves in
    let z = c.end_device-answer.ensures.did (frame_at d l c.self.inside.driver c.self.inside.words)
    (device_begun d e l _ c.self.inside.driver c.self.inside.device c.begin_give.new.self c.self.inside.words.words i.on stands) in
    let did = given_on d e l law c.self.inside.driver c.self.inside.device c.begin_give.new.self c.end_device-answer.new.device
    c.self.inside.words c.end_device-answer.new.words c.self.inside.history.lists c.then-self-inside.result.lists
    c.self.inside.count c.self.inside.limit c.self.inside.resting c.end_device-answer.result i stands z c.args.k c.args.len
    c.begin_give.ensures.begun c.then-self-inside.ensures in
    (device_kept d e l law c.self.inside.driver c.self.inside.device c.begin_give.new.self c.end_device-answer.new.device
    c.self.inside.words c.end_device-answer.new.words c.self.inside.history.lists c.then-self-inside.result.lists
    c.self.inside.count c.self.inside.limit c.self.inside.resting c.end_device-answer.result i stands z c.self.inside.resting
    c.end_device-answer.ensures.ring c.end_device-answer.ensures.idle
    (device_awake d e l law c.self.inside.driver c.self.inside.device c.begin_give.new.self c.end_device-answer.new.device
    c.self.inside.words c.end_device-answer.new.words c.self.inside.history.lists c.then-self-inside.result.lists
    c.self.inside.count c.self.inside.limit c.self.inside.resting c.end_device-answer.result i stands z
    (λ w. cc (w, c.begin_give.ensures.begun)) c.end_device-answer.ensures.rests ∙ sym can.at_work.awake) did.2).ring

pub returns-clause-made : goal.returns-clause-made
returns-clause-made g c =
    let d = g.L.Driver.DriverEnd.driver in
    let e = g.L.Device.DeviceEnd.device in
    let l = g.L.Layout.layout in
    let law = g.met.L.Layout.lawful in
    let i = c.self.invariant in
    let can = subst (λ (v : PlainView). CanGive v c.args.k) (sym c.self.view_is)
    (c.can_give.ensures.0 (let t : IsTrue c.can_give.result = search rules in t)) in
    let stands = c.begin_give.ensures.stands i.on.device_view i.on.serves in
    let z = c.end_device-answer.ensures.did (frame_at d l c.self.inside.driver c.self.inside.words)
    (device_begun d e l _ c.self.inside.driver c.self.inside.device c.begin_give.new.self c.self.inside.words.words i.on stands) in
    let did = given_on d e l law c.self.inside.driver c.self.inside.device c.begin_give.new.self c.end_device-answer.new.device
    c.self.inside.words c.end_device-answer.new.words c.self.inside.history.lists c.then-self-inside.result.lists
    c.self.inside.count c.self.inside.limit c.self.inside.resting c.end_device-answer.result i stands z c.args.k c.args.len
    c.begin_give.ensures.begun c.then-self-inside.ensures in
    subst (λ (h : RingLists). (c.end_device-answer.result ≡ device_act.Given c.args.k)
    × (c.then-self-inside.result.lists ≡ and_given c.args.k c.args.len h)) (ap (λ (v : PlainView). v.lists) c.self.view_is) (
      did.0,
      did.1,
    )

pub returns-clause-same : goal.returns-clause-same
returns-clause-same g c =
    let d = g.L.Driver.DriverEnd.driver in
    let e = g.L.Device.DeviceEnd.device in
    let l = g.L.Layout.layout in
    let law = g.met.L.Layout.lawful in
    let i = c.self.invariant in
    let can = subst (λ (v : PlainView). CanGive v c.args.k) (sym c.self.view_is)
    (c.can_give.ensures.0 (let t : IsTrue c.can_give.result = search rules in t)) in
    let stands = c.begin_give.ensures.stands i.on.device_view i.on.serves in
    let z = c.end_device-answer.ensures.did (frame_at d l c.self.inside.driver c.self.inside.words)
    (device_begun d e l _ c.self.inside.driver c.self.inside.device c.begin_give.new.self c.self.inside.words.words i.on stands) in
    let did = given_on d e l law c.self.inside.driver c.self.inside.device c.begin_give.new.self c.end_device-answer.new.device
    c.self.inside.words c.end_device-answer.new.words c.self.inside.history.lists c.then-self-inside.result.lists
    c.self.inside.count c.self.inside.limit c.self.inside.resting c.end_device-answer.result i stands z c.args.k c.args.len
    c.begin_give.ensures.begun c.then-self-inside.ensures in
    let k = device_kept d e l law c.self.inside.driver c.self.inside.device c.begin_give.new.self c.end_device-answer.new.device
    c.self.inside.words c.end_device-answer.new.words c.self.inside.history.lists c.then-self-inside.result.lists
    c.self.inside.count c.self.inside.limit c.self.inside.resting c.end_device-answer.result i stands z c.self.inside.resting
    c.end_device-answer.ensures.ring c.end_device-answer.ensures.idle
    (device_awake d e l law c.self.inside.driver c.self.inside.device c.begin_give.new.self c.end_device-answer.new.device
    c.self.inside.words c.end_device-answer.new.words c.self.inside.history.lists c.then-self-inside.result.lists
    c.self.inside.count c.self.inside.limit c.self.inside.resting c.end_device-answer.result i stands z
    (λ w. cc (w, c.begin_give.ensures.begun)) c.end_device-answer.ensures.rests ∙ sym can.at_work.awake) did.2 in
    device_moved _ _ _ (λ (v : PlainView). (c.self.inside.resting ≡ v.resting)
    × (e.armed c.end_device-answer.new.device ≡ v.device_armed)) c.self.view_is (
      record { frame = k.frame; wide = k.wide; driver_armed = refl },
      (
        refl,
        device_sleepless d e l law c.self.inside.driver c.self.inside.device c.begin_give.new.self c.end_device-answer.new.device
            c.self.inside.words c.end_device-answer.new.words c.self.inside.history.lists c.then-self-inside.result.lists
            c.self.inside.count c.self.inside.limit c.self.inside.resting c.end_device-answer.result i stands z can.at_work.unarmed
            (λ w. cc (w, c.begin_give.ensures.begun)) ∙ sym can.at_work.unarmed,
      ),
    )
