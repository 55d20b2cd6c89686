use Rattle.std.proofs.Common.{◌≡◌, refl, rules}
use Rattle.vd_layout.specs.PlainRing.{PlainView, frame_at}
use Rattle.vd_layout.proofs.PlainRings.{device_begun, device_moved}
use Rattle.vd_layout.proofs.ArmedDevice.{heard_device}
use Rattle.vd_layout.proofs.ring.PlainRing.hear_device.Goals as goal

pub end_device-answer-requires-clause-on : goal.end_device-answer-requires-clause-on
end_device-answer-requires-clause-on g c =
    let d = g.L.Driver.DriverEnd.driver in
    let e = g.L.Device.DeviceEnd.device in
    let l = g.L.Layout.layout in
    let law = g.met.L.Layout.lawful in
    let i = c.self.invariant in
    let stands = c.begin_hear.ensures.stands i.on.device_view i.on.serves in (
      frame_at d l c.self.inside.driver c.self.inside.words,
      device_begun d e l _ c.self.inside.driver c.self.inside.device c.begin_hear.new.self c.self.inside.words.words i.on stands,
      refl,
    )

pub invariant_of-self : goal.invariant_of-self
invariant_of-self g c =
    let i = c.self.invariant in
    let stands = c.begin_hear.ensures.stands i.on.device_view i.on.serves in
    let is = heard_device g.met.L.Layout.lawful c.end_device-answer.new.device c.end_device-answer.new.words c.end_device-answer.result i stands
    c.end_device-answer.ensures.did c.end_device-answer.ensures.ring c.end_device-answer.ensures.idle c.end_device-answer.ensures.rests
    c.begin_hear.ensures.begun in
    (is.2 (search rules)).ring

pub returns-clause-made : goal.returns-clause-made
returns-clause-made g c =
    let i = c.self.invariant in
    let stands = c.begin_hear.ensures.stands i.on.device_view i.on.serves in
    let is = heard_device g.met.L.Layout.lawful c.end_device-answer.new.device c.end_device-answer.new.words c.end_device-answer.result i stands
    c.end_device-answer.ensures.did c.end_device-answer.ensures.ring c.end_device-answer.ensures.idle c.end_device-answer.ensures.rests
    c.begin_hear.ensures.begun in
    is.0

pub returns-clause-armed : goal.returns-clause-armed
returns-clause-armed g c =
    let i = c.self.invariant in
    let stands = c.begin_hear.ensures.stands i.on.device_view i.on.serves in
    let is = heard_device g.met.L.Layout.lawful c.end_device-answer.new.device c.end_device-answer.new.words c.end_device-answer.result i stands
    c.end_device-answer.ensures.did c.end_device-answer.ensures.ring c.end_device-answer.ensures.idle c.end_device-answer.ensures.rests
    c.begin_hear.ensures.begun in
    is.1 (search rules)

pub returns-clause-same : goal.returns-clause-same
returns-clause-same g c =
    let i = c.self.invariant in
    let stands = c.begin_hear.ensures.stands i.on.device_view i.on.serves in
    let is = heard_device g.met.L.Layout.lawful c.end_device-answer.new.device c.end_device-answer.new.words c.end_device-answer.result i stands
    c.end_device-answer.ensures.did c.end_device-answer.ensures.ring c.end_device-answer.ensures.idle c.end_device-answer.ensures.rests
    c.begin_hear.ensures.begun in
    let k = is.2 (search rules) in
    device_moved _ _ _ (λ (v : PlainView). (c.self.inside.resting ≡ v.resting) × (c.self.inside.history.lists ≡ v.lists)) c.self.view_is
    (record { frame = k.frame; wide = k.wide; driver_armed = refl }, (refl, refl))
