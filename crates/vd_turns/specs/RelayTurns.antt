-- What one step and one turn of a relay leave of a lane in a shadow epoch, over plain words. The views of the guest and of the device
-- are the same.
use Rattle.std.specs.Prelude.{◌≡◌, ◌⊎◌, ◌↔◌, ℕ, ◌+◌, ◌≤◌, true, false, if◌then◌else◌, List, length}
use Rattle.vd_model.specs.declared.chain.Piece.{Piece}
use Rattle.vd_model.specs.declared.map.Mapping.{Mapping}
use Rattle.vd_model.specs.declared.record.Begun.{Begun}
use Rattle.vd_bus.specs.declared.device.Attached.{Attached}
use Rattle.vd_ring.specs.declared.driver.DriverView.{DriverView}
use Rattle.vd_ring.specs.declared.device.DeviceView.{DeviceView}
use Rattle.vd_ring.specs.History.{offers, collects, takes, gives}
use Rattle.vd_ring.specs.Sleep.{DriverWaits, DeviceWaits, driver_hearings, device_hearings}
use Rattle.vd_words.specs.Model.{PortModel}
use Rattle.vd_layout.specs.declared.moves.Move.{Move}
use Rattle.vd_layout.specs.declared.moves.Move.TheVariants as move
use Rattle.vd_layout.specs.Begun.{DeviceOp, DriverOp}
use Rattle.vd_layout.specs.Driver.{DriverModel}
use Rattle.vd_layout.specs.Device.{DeviceModel}
use Rattle.vd_layout.specs.Layout.{LayoutModel}
use Rattle.vd_bus.specs.Pace.{last_count, raised, worked}
use Rattle.vd_relay.specs.declared.counts.Counts.{Counts}
use Rattle.vd_relay.specs.declared.stage.Stage.{Stage}
use Rattle.vd_relay.specs.declared.stage.Stage.TheVariants as stage
use Rattle.vd_relay.specs.declared.state.State.{State}
use Rattle.vd_relay.specs.Moving.{Holds}
use Rattle.vd_relay.specs.Relay.{IsKept}
use Rattle.vd_relay.specs.Stages.{is_rested}
use Rattle.vd_relay.specs.Tie.{Start}
use Rattle.vd_switch.specs.ShadowingLanes.{IsShadowing}

-- ---- two looks in a row

-- a relay that has just looked at the one bell, and is to look at the other: the end of that one has no signal
abbrev pub HalfWaits : Stage → DriverView → DeviceView → DriverView → DeviceView → Type 0
HalfWaits stage.HearingShadow v w sv sw = DeviceWaits v w
HalfWaits stage.HearingGuest v w sv sw = DriverWaits sv sw
HalfWaits _ v w sv sw = ⊥

-- the one look follows the other
abbrev pub Alternates : Stage → Stage → Type 0
Alternates stage.HearingGuest to = to ≡ stage.HearingShadow
Alternates stage.HearingShadow to = to ≡ stage.HearingGuest
Alternates _ to = ⊥

-- a look: nothing has changed but whose bell is next, and no operation is in progress
pub record HasLooked {E D : Type 0} (e : DeviceModel E) (d : DriverModel D) (r r' : State E D) (c c' : Counts) (v : DriverView)
    (w : DeviceView) (sv : DriverView) (sw : DeviceView) : Type 0 where
  pub turn : Alternates r.stage r'.stage
  pub half : HalfWaits r'.stage v w sv sw
  pub guest_idle : e.begun r'.guest ≡ DeviceOp.idle
  pub shadow_idle : d.begun r'.shadow ≡ DriverOp.idle
  pub live : r.winding ≡ false
  pub counts : c' ≡ c

-- ---- chains taken, offered, collected and given

-- a rest takes back what was not given: from then on the chains that the guest offered stand for those taken
abbrev pub reached : {E D : Type 0} → State E D → DriverView → DeviceView → ℕ
reached r v w = if is_rested r.stage then length (offers v.done) else length (takes w.done)

abbrev pub did : {E D : Type 0} → State E D → DriverView → DeviceView → DriverView → ℕ
did r v w sv = reached r v w + length (gives w.done) + length (offers sv.done) + length (collects sv.done)

-- ---- one step

pub record RelayStepped {E D : Type 0} (l : LayoutModel) (e : DeviceModel E) (d : DriverModel D) (z : Start) (old : List (List Piece × ℕ))
    (begun : List Begun) (by : Attached) (words shadow : List ℕ) (v : DriverView) (w : DeviceView) (sv : DriverView)
    (sw : DeviceView) (r r' : State E D) (c c' : Counts) (answer : Move)
    : Type 0 where
  pub view : DeviceView
  pub shadow_view : DriverView
  pub lane : IsShadowing e d l z old r' begun by words shadow v view shadow_view sw
  pub holds : Holds e d z r' c' view shadow_view
  pub kept : IsKept r r'
  pub awake : r.winding ≡ false → is_rested r'.stage ≡ false
  pub finished : (answer ≡ move.Finished) ↔ (is_rested r'.stage ≡ true)
  pub looked : answer ≡ move.Looked → (view ≡ w) × (shadow_view ≡ sv) × HasLooked e d r r' c c' v w sv sw
  pub accesses : c'.accesses ≡ raised (worked answer) c.accesses
  pub heard : c'.heard + device_hearings w + driver_hearings sv ≤ c.heard + device_hearings view + driver_hearings shadow_view
  pub handled : c'.handled + did r v w sv ≤ c.handled + did r' v view shadow_view

-- over two plain ports
pub record RelayOn {P Q E D : Type 0} (port : PortModel P) (shadow_port : PortModel Q) (l : LayoutModel) (e : DeviceModel E)
    (d : DriverModel D) (z : Start) (old : List (List Piece × ℕ)) (begun : List Begun) (by : Attached) (p p' : P)
    (q q' : Q) (v : DriverView) (w : DeviceView) (sv : DriverView) (sw : DeviceView)
    (r r' : State E D) (c c' : Counts) (answer : Move) : Type 0 where
  pub words : List ℕ
  pub shadow : List ℕ
  pub plain : port.plain p' words
  pub shadow_plain : shadow_port.plain q' shadow
  pub same : port.same p p'
  pub shadow_same : shadow_port.same q q'
  pub stepped : RelayStepped l e d z old begun by words shadow v w sv sw r r' c c' answer

-- ---- a turn

-- so many steps that were no looks
pub record RelayRun {E D : Type 0} (l : LayoutModel) (e : DeviceModel E) (d : DriverModel D) (z : Start) (old : List (List Piece × ℕ))
    (begun : List Begun) (by : Attached) (words shadow : List ℕ) (v : DriverView) (w : DeviceView) (sv : DriverView)
    (sw : DeviceView) (r r' : State E D) (c c' : Counts) (made : ℕ) : Type 0 where
  pub view : DeviceView
  pub shadow_view : DriverView
  pub lane : IsShadowing e d l z old r' begun by words shadow v view shadow_view sw
  pub holds : Holds e d z r' c' view shadow_view
  pub kept : IsKept r r'
  pub awake : r.winding ≡ false → is_rested r'.stage ≡ false
  pub accesses : c.accesses + made ≤ last_count → c'.accesses ≡ c.accesses + made
  pub heard : c'.heard + device_hearings w + driver_hearings sv ≤ c.heard + device_hearings view + driver_hearings shadow_view
  pub handled : c'.handled + did r v w sv ≤ c.handled + did r' v view shadow_view

-- on the way: nothing has changed before the first
pub record RelayWay {E D : Type 0} (l : LayoutModel) (e : DeviceModel E) (d : DriverModel D) (z : Start) (old : List (List Piece × ℕ))
    (begun : List Begun) (by : Attached) (words shadow : List ℕ) (v : DriverView) (w : DeviceView) (sv : DriverView)
    (sw : DeviceView) (r r' : State E D) (c c' : Counts) (made : ℕ) : Type 0 where
  pub run : RelayRun l e d z old begun by words shadow v w sv sw r r' c c' made
  pub start : made ≡ 0 → (run.view ≡ w) × (run.shadow_view ≡ sv) × (r' ≡ r) × (c' ≡ c)

-- a turn; where it had no such step, the relay has looked
pub record RelayTurn {E D : Type 0} (l : LayoutModel) (e : DeviceModel E) (d : DriverModel D) (z : Start) (old : List (List Piece × ℕ))
    (begun : List Begun) (by : Attached) (words shadow : List ℕ) (v : DriverView) (w : DeviceView) (sv : DriverView)
    (sw : DeviceView) (r r' : State E D) (c c' : Counts) (made : ℕ) : Type 0 where
  pub run : RelayRun l e d z old begun by words shadow v w sv sw r r' c c' made
  pub quiet : made ≡ 0 → (run.view ≡ w) × (run.shadow_view ≡ sv) × HasLooked e d r r' c c' v w sv sw

-- the relay holds its ends of two rings of these words, and moves by this map
abbrev pub CanRelay : {E D : Type 0} → LayoutModel → DeviceModel E → DriverModel D → List Mapping → List ℕ → List ℕ → State E D → Counts
    → Type 0
CanRelay l e d ms words shadow r c = (z : Start) × (old : List (List Piece × ℕ)) × (begun : List Begun) × (by : Attached)
    × (v : DriverView) × (w : DeviceView) × (sv : DriverView) × (sw : DeviceView)
    × IsShadowing e d l z old r begun by words shadow v w sv sw
    × Holds e d z r c w sv × (ms ≡ z.map)

-- for all views at which it holds its ends
abbrev pub RelaySteps : {E D : Type 0} → LayoutModel → DeviceModel E → DriverModel D → List Mapping → List ℕ → List ℕ → List ℕ → List ℕ
    → State E D → State E D → Counts → Counts → Move → Type 0
RelaySteps l e d ms words words' shadow shadow' r r' c c' answer = (z : Start) (old : List (List Piece × ℕ)) (begun : List Begun)
    (by : Attached) (v : DriverView) (w : DeviceView) (sv : DriverView) (sw : DeviceView) → ms ≡ z.map
    → IsShadowing e d l z old r begun by words shadow v w sv sw → Holds e d z r c w sv
    → RelayStepped l e d z old begun by words' shadow' v w sv sw r r' c c' answer

abbrev pub RelayTurns : {E D : Type 0} → LayoutModel → DeviceModel E → DriverModel D → List Mapping → List ℕ → List ℕ → List ℕ → List ℕ
    → State E D → State E D → Counts → Counts → ℕ → Type 0
RelayTurns l e d ms words words' shadow shadow' r r' c c' made = (z : Start) (old : List (List Piece × ℕ)) (begun : List Begun)
    (by : Attached) (v : DriverView) (w : DeviceView) (sv : DriverView) (sw : DeviceView) → ms ≡ z.map
    → IsShadowing e d l z old r begun by words shadow v w sv sw → Holds e d z r c w sv
    → RelayTurn l e d z old begun by words' shadow' v w sv sw r r' c c' made
