-- One access of a party of a lane in a shadow epoch.
use Rattle.std.specs.Prelude.{ℕ, List, length}
use Rattle.vd_model.specs.declared.chain.Piece.{Piece}
use Rattle.vd_model.specs.declared.record.Begun.{Begun}
use Rattle.vd_ring.specs.declared.driver.DriverView.{DriverView}
use Rattle.vd_ring.specs.declared.device.DeviceView.{DeviceView}
use Rattle.vd_ring.specs.History.{offers, gives}
use Rattle.vd_words.specs.Model.{PortModel}
use Rattle.vd_layout.specs.Driver.{DriverModel}
use Rattle.vd_layout.specs.Device.{DeviceModel}
use Rattle.vd_layout.specs.Layout.{LayoutModel}
use Rattle.vd_bus.specs.declared.device.Attached.{Attached}
use Rattle.vd_relay.specs.Tie.{Start}
use Rattle.vd_relay.specs.declared.state.State.{State}
use Rattle.vd_switch.specs.LaneBag.{MayOfferOne, MayBeginOne, MayEndOne}
use Rattle.vd_switch.specs.ShadowingLanes.{IsShadowing, lane_begun}

-- ---- one step of a party, over plain words

-- the lane after one access of the relay: its ports are onto the words after it, the lane is shadowing still, and the bag is
-- unchanged or one chain has ended
pub record RelayStepped {P Q E D : Type 0} (p : PortModel P) (q : PortModel Q) (e : DeviceModel E) (d : DriverModel D) (l : LayoutModel)
    (z : Start) (old : List (List Piece × ℕ)) (r : State E D) (begun : List Begun) (by : Attached) (a : P) (b : Q) (v : DriverView)
    (w : DeviceView) (sw : DeviceView) : Type 0 where
  pub words : List ℕ
  pub shadow_words : List ℕ
  pub view : DeviceView
  pub shadow_view : DriverView
  pub plain : p.plain a words
  pub shadow_plain : q.plain b shadow_words
  pub lane : IsShadowing e d l z old r begun by words shadow_words v view shadow_view sw
  pub gave : MayEndOne (length (offers v.done)) (length (lane_begun z old begun by)) (gives w.done) (gives view.done)

-- the lane after one access of the shadow ring's device, which had begun those before: one chain is begun, or none
pub record DeviceStepped {Q E D : Type 0} (q : PortModel Q) (e : DeviceModel E) (d : DriverModel D) (l : LayoutModel) (z : Start)
    (old : List (List Piece × ℕ)) (r : State E D) (before begun : List Begun) (by : Attached) (words : List ℕ) (b : Q) (v : DriverView)
    (w : DeviceView) (sv : DriverView) (sw : DeviceView) : Type 0 where
  pub shadow_words : List ℕ
  pub plain : q.plain b shadow_words
  pub lane : IsShadowing e d l z old r begun by words shadow_words v w sv sw
  pub began : MayBeginOne (length (offers v.done)) (length (lane_begun z old before by)) (gives w.done) (length (lane_begun z old begun by))

-- the lane after one access of the guest: one chain is offered, or none
pub record GuestStepped {P E D : Type 0} (p : PortModel P) (e : DeviceModel E) (d : DriverModel D) (l : LayoutModel) (z : Start)
    (old : List (List Piece × ℕ)) (r : State E D) (begun : List Begun) (by : Attached) (shadow_words : List ℕ) (a : P)
    (old_view v : DriverView) (w : DeviceView) (sv : DriverView) (sw : DeviceView) : Type 0 where
  pub words : List ℕ
  pub plain : p.plain a words
  pub lane : IsShadowing e d l z old r begun by words shadow_words v w sv sw
  pub offered : MayOfferOne (length (offers old_view.done)) (length (lane_begun z old begun by)) (gives w.done) (length (offers v.done))
