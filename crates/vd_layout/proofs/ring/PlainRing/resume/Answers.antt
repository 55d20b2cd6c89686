use Rattle.vd_layout.proofs.PlainRings.{device_begun}
use Rattle.vd_layout.proofs.ring.PlainRing.resume.Goals as goal

pub invariant_of-self : goal.invariant_of-self
invariant_of-self g c =
    let i = c.self.invariant in record {
      on = device_begun g.L.Driver.DriverEnd.driver g.L.Device.DeviceEnd.device g.L.Layout.layout _ c.self.inside.driver
          c.self.inside.device c.resume.new.self c.self.inside.words.words i.on (c.in-Ok.ensures.stands i.on.device_view i.on.serves);
      lists = i.lists;
      driver_idle = i.driver_idle;
      device_idle = c.in-Ok.ensures.begun;
      rests = c.in-Ok.ensures.awake;
      counted = i.counted;
      limited = i.limited;
    }
