use Rattle.std.proofs.Common.{◌≡◌, refl}
use Rattle.vd_layout.specs.PlainRing.{PlainView, frame_at}
use Rattle.vd_layout.proofs.PlainRings.{driver_begun, driver_moved}
use Rattle.vd_layout.proofs.ArmedDriver.{disarmed_driver}
use Rattle.vd_layout.proofs.ring.PlainRing.disarm_driver.Goals as goal

pub end_driver-answer-requires-clause-on : goal.end_driver-answer-requires-clause-on
end_driver-answer-requires-clause-on g c =
    let d = g.L.Driver.DriverEnd.driver in
    let e = g.L.Device.DeviceEnd.device in
    let l = g.L.Layout.layout in
    let law = g.met.L.Layout.lawful in
    let i = c.self.invariant in
    let stands = c.begin_disarm.ensures.stands i.on.view i.on.drives in (
      frame_at d l c.self.inside.driver c.self.inside.words,
      driver_begun d e l _ c.self.inside.driver c.begin_disarm.new.self c.self.inside.device c.self.inside.words.words i.on stands,
      refl,
    )

pub invariant_of-self : goal.invariant_of-self
invariant_of-self g c =
    let i = c.self.invariant in
    let stands = c.begin_disarm.ensures.stands i.on.view i.on.drives in
    let is = disarmed_driver g.met.L.Layout.lawful c.end_driver-answer.new.driver c.end_driver-answer.new.words c.end_driver-answer.result i stands
    c.end_driver-answer.ensures.did c.end_driver-answer.ensures.ring c.end_driver-answer.ensures.idle c.begin_disarm.ensures.begun in
    is.2.ring

pub returns-clause-made : goal.returns-clause-made
returns-clause-made g c =
    let i = c.self.invariant in
    let stands = c.begin_disarm.ensures.stands i.on.view i.on.drives in
    let is = disarmed_driver g.met.L.Layout.lawful c.end_driver-answer.new.driver c.end_driver-answer.new.words c.end_driver-answer.result i stands
    c.end_driver-answer.ensures.did c.end_driver-answer.ensures.ring c.end_driver-answer.ensures.idle c.begin_disarm.ensures.begun in
    (is.0, is.1)

pub returns-clause-same : goal.returns-clause-same
returns-clause-same g c =
    let i = c.self.invariant in
    let stands = c.begin_disarm.ensures.stands i.on.view i.on.drives in
    let is = disarmed_driver g.met.L.Layout.lawful c.end_driver-answer.new.driver c.end_driver-answer.new.words c.end_driver-answer.result i stands
    c.end_driver-answer.ensures.did c.end_driver-answer.ensures.ring c.end_driver-answer.ensures.idle c.begin_disarm.ensures.begun in
    driver_moved _ _ _ (λ (v : PlainView). c.self.inside.history.lists ≡ v.lists) c.self.view_is
    (record { frame = is.2.frame; wide = is.2.wide; device_armed = refl; resting = refl; base = refl }, refl)
