-- A whole operation on plain words: they meet the ring invariant after it, with the same view of the other side.
use Rattle.std.specs.Prelude.{ℕ, List}
use Rattle.vd_words.specs.Model.{PortModel}
use Rattle.vd_ring.specs.declared.driver.DriverView.{DriverView}
use Rattle.vd_ring.specs.declared.device.DeviceView.{DeviceView}
use Rattle.vd_layout.specs.Layout.{LayoutModel}

-- the port is a plain one onto words that meet the invariant with both views
pub record IsRingAt {P : Type 0} (port : PortModel P) (l : LayoutModel) (p : P) (v : DriverView) (w : DeviceView) : Type 0 where
  pub words : List ℕ
  pub plain : port.plain p words
  pub ring : l.ring words v w
