use Rattle.std.proofs.Common.{◌≡◌, ◌∙◌, true, false, ap, refl, subst}
use Rattle.vd_ring.specs.declared.act.DeviceAct.TheVariants as device_act
use Rattle.vd_layout.specs.Device.{is_rested}
use Rattle.vd_layout.specs.PlainRing.{PlainView, frame_at}
use Rattle.vd_layout.specs.RingLists.{RingLists, and_rested}
use Rattle.vd_layout.proofs.PlainRings.{device_begun, device_kept, device_moved_only, device_still_unarmed, rested_on}
use Rattle.vd_layout.proofs.ring.PlainRing.rest.Goals as goal

pub end_device-answer-requires-clause-on : goal.end_device-answer-requires-clause-on
end_device-answer-requires-clause-on g c =
    let d = g.L.Driver.DriverEnd.driver in
    let e = g.L.Device.DeviceEnd.device in
    let l = g.L.Layout.layout in
    let law = g.met.L.Layout.lawful in
    let i = c.self.invariant in
    let stands = c.begin_rest.ensures.stands i.on.device_view i.on.serves in (
      frame_at d l c.self.inside.driver c.self.inside.words,
      device_begun d e l _ c.self.inside.driver c.self.inside.device c.begin_rest.new.self c.self.inside.words.words i.on stands,
      refl,
    )

pub invariant_of-self : goal.invariant_of-self
invariant_of-self g c =
    let d = g.L.Driver.DriverEnd.driver in
    let e = g.L.Device.DeviceEnd.device in
    let l = g.L.Layout.layout in
    let law = g.met.L.Layout.lawful in
    let i = c.self.invariant in
    let stands = c.begin_rest.ensures.stands i.on.device_view i.on.serves in
    let z = c.end_device-answer.ensures.did (frame_at d l c.self.inside.driver c.self.inside.words)
    (device_begun d e l _ c.self.inside.driver c.self.inside.device c.begin_rest.new.self c.self.inside.words.words i.on stands) in
    let did = rested_on d e l law c.self.inside.driver c.self.inside.device c.begin_rest.new.self c.end_device-answer.new.device
    c.self.inside.words c.end_device-answer.new.words c.self.inside.history.lists c.then-self-inside.result.lists
    c.self.inside.count c.self.inside.limit c.self.inside.resting c.end_device-answer.result i stands z c.begin_rest.ensures.begun
    c.then-self-inside.ensures in
    (device_kept d e l law c.self.inside.driver c.self.inside.device c.begin_rest.new.self c.end_device-answer.new.device
    c.self.inside.words c.end_device-answer.new.words c.self.inside.history.lists c.then-self-inside.result.lists
    c.self.inside.count c.self.inside.limit c.self.inside.resting c.end_device-answer.result i stands z true
    c.end_device-answer.ensures.ring c.end_device-answer.ensures.idle (c.end_device-answer.ensures.rests ∙ ap is_rested did.0)
    did.2).ring

pub returns-clause-made : goal.returns-clause-made
returns-clause-made g c =
    let d = g.L.Driver.DriverEnd.driver in
    let e = g.L.Device.DeviceEnd.device in
    let l = g.L.Layout.layout in
    let law = g.met.L.Layout.lawful in
    let i = c.self.invariant in
    let stands = c.begin_rest.ensures.stands i.on.device_view i.on.serves in
    let z = c.end_device-answer.ensures.did (frame_at d l c.self.inside.driver c.self.inside.words)
    (device_begun d e l _ c.self.inside.driver c.self.inside.device c.begin_rest.new.self c.self.inside.words.words i.on stands) in
    let did = rested_on d e l law c.self.inside.driver c.self.inside.device c.begin_rest.new.self c.end_device-answer.new.device
    c.self.inside.words c.end_device-answer.new.words c.self.inside.history.lists c.then-self-inside.result.lists
    c.self.inside.count c.self.inside.limit c.self.inside.resting c.end_device-answer.result i stands z c.begin_rest.ensures.begun
    c.then-self-inside.ensures in
    subst (λ (h : RingLists). (c.end_device-answer.result ≡ device_act.Rested) × (c.then-self-inside.result.lists ≡ and_rested h)
    × (true ≡ true) × (e.armed c.end_device-answer.new.device ≡ false)) (ap (λ (v : PlainView). v.lists) c.self.view_is) (
      did.0,
      did.1,
      refl,
      device_still_unarmed d e l law c.self.inside.driver c.self.inside.device c.begin_rest.new.self
          c.end_device-answer.new.device c.self.inside.words c.end_device-answer.new.words c.self.inside.history.lists
          c.then-self-inside.result.lists c.self.inside.count c.self.inside.limit c.self.inside.resting c.end_device-answer.result i
          stands z (c.end_device-answer.ensures.rests ∙ ap is_rested did.0),
    )

pub returns-clause-same : goal.returns-clause-same
returns-clause-same g c =
    let d = g.L.Driver.DriverEnd.driver in
    let e = g.L.Device.DeviceEnd.device in
    let l = g.L.Layout.layout in
    let law = g.met.L.Layout.lawful in
    let i = c.self.invariant in
    let stands = c.begin_rest.ensures.stands i.on.device_view i.on.serves in
    let z = c.end_device-answer.ensures.did (frame_at d l c.self.inside.driver c.self.inside.words)
    (device_begun d e l _ c.self.inside.driver c.self.inside.device c.begin_rest.new.self c.self.inside.words.words i.on stands) in
    let did = rested_on d e l law c.self.inside.driver c.self.inside.device c.begin_rest.new.self c.end_device-answer.new.device
    c.self.inside.words c.end_device-answer.new.words c.self.inside.history.lists c.then-self-inside.result.lists
    c.self.inside.count c.self.inside.limit c.self.inside.resting c.end_device-answer.result i stands z c.begin_rest.ensures.begun
    c.then-self-inside.ensures in
    let k = device_kept d e l law c.self.inside.driver c.self.inside.device c.begin_rest.new.self c.end_device-answer.new.device
    c.self.inside.words c.end_device-answer.new.words c.self.inside.history.lists c.then-self-inside.result.lists
    c.self.inside.count c.self.inside.limit c.self.inside.resting c.end_device-answer.result i stands z true
    c.end_device-answer.ensures.ring c.end_device-answer.ensures.idle (c.end_device-answer.ensures.rests ∙ ap is_rested did.0) did.2 in
    device_moved_only _ _ _ c.self.view_is (record { frame = k.frame; wide = k.wide; driver_armed = refl })
