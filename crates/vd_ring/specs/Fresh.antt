-- The views of a fresh ring with n words.
use Rattle.std.specs.Prelude.{ℕ, false, [], None, replicate}
use Rattle.vd_ring.specs.declared.frame.Frame.{Frame}
use Rattle.vd_ring.specs.declared.driver.DriverNow.TheVariants as driver
use Rattle.vd_ring.specs.declared.driver.DriverView.{DriverView}
use Rattle.vd_ring.specs.declared.device.DeviceNow.TheVariants as device
use Rattle.vd_ring.specs.declared.device.DeviceView.{DeviceView}

abbrev pub fresh_driver : Frame → ℕ → DriverView
fresh_driver f n = record {
  frame = f;
  done = [];
  stored = replicate n 0;
  doing = driver.Idle;
  armed = None;
  heard = 0;
  bells = 0;
  seen = 0;
  shown = false;
}

abbrev pub fresh_device : Frame → ℕ → DeviceView
fresh_device f n = record {
  frame = f;
  done = [];
  stored = replicate n 0;
  doing = device.Idle;
  armed = None;
  heard = 0;
  bells = 0;
  seen = 0;
  shown = false;
}
