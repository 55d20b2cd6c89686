use Rattle.std.proofs.Common.{◌∙◌, sym, ap, rules}
use Rattle.vd_layout.specs.laws.Ended.{driver_ended_on}
use Rattle.vd_layout.proofs.ended.end_driver.Goals as goal

pub returns-clause-ring : goal.returns-clause-ring
returns-clause-ring g c =
    let h = c.requires.on in
    let z = c.driver_behind.ensures.did h.0 c.args.words.now.words (ap (λ w. w.words) c.port-port.ensures.words) h.1 in
    let name = sym (z.same.0 ∙ c.port-port.ensures.same) in
    let number = sym z.same.1.0 ∙ ap (λ w. w.ring) c.port-port.ensures.words in
    search rules

pub returns-clause-did : goal.returns-clause-did
returns-clause-did g c = λ f on.
    let z = c.driver_behind.ensures.did f c.args.words.now.words (ap (λ w. w.words) c.port-port.ensures.words) on in
    let name = sym (z.same.0 ∙ c.port-port.ensures.same) in
    let plain = z.plain in
    driver_ended_on g.L.Driver.DriverEnd.driver g.L.Device.DeviceEnd.device g.L.Layout.layout f c.args.driver.now
    c.driver_behind.new.driver c.args.device.now c.args.words.now.words z.words _ c.driver_behind.result on z.ended (search rules)
