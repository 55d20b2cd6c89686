-- A ring on which any chain of few bytes may be offered.
use Rattle.std.specs.Prelude.{◌≡◌, true, false, List, None}
use Rattle.vd_model.specs.declared.chain.Piece.{Piece}
use Rattle.vd_ring.specs.declared.driver.DriverView.{DriverView}
use Rattle.vd_ring.specs.declared.frame.Frame.{Frame}
use Rattle.vd_ring.specs.Control.{IsControlChain}
use Rattle.vd_ring.specs.Frames.{Fits}
use Rattle.vd_ring.specs.History.{next_head}
use Rattle.vd_layout.specs.Control.{ControlWords}

-- it has no bounds, and is no control ring
pub record IsOpen (f : Frame) : Type 0 where
  pub unbounded : f.bounds ≡ None
  pub uncontrolled : f.control ≡ false

-- the chain may stand on the ring; on a control ring it is a control chain of the next head
pub record MayStand (words : ControlWords) (v : DriverView) (c : List Piece) : Type 0 where
  pub fits : Fits v.frame c
  pub control : v.frame.control ≡ true
      → IsControlChain (words.command v.frame (next_head v.frame v.done)) (words.ack v.frame (next_head v.frame v.done)) c
