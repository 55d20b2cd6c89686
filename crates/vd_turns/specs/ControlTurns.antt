-- What one step and one turn of a relay of a control queue leave of a lane, over plain words. The views of the guest and of the device
-- are the same.
use Rattle.std.specs.Prelude.{◌≡◌, ◌↔◌, ℕ, ◌+◌, ◌≤◌, true, false, Option, Some, IsSomeAnd, List, length}
use Rattle.vd_ring.specs.declared.driver.DriverView.{DriverView}
use Rattle.vd_ring.specs.declared.device.DeviceView.{DeviceView}
use Rattle.vd_ring.specs.History.{gives}
use Rattle.vd_ring.specs.Sleep.{DriverWaits, driver_hearings, device_hearings}
use Rattle.vd_model.specs.declared.record.Begun.{Begun}
use Rattle.vd_words.specs.Model.{PortModel}
use Rattle.vd_layout.specs.declared.moves.Move.{Move}
use Rattle.vd_layout.specs.declared.moves.Move.TheVariants as move
use Rattle.vd_layout.specs.Begun.{DriverOp}
use Rattle.vd_layout.specs.Driver.{DriverModel}
use Rattle.vd_layout.specs.Device.{DeviceModel}
use Rattle.vd_layout.specs.Layout.{LayoutModel}
use Rattle.vd_bus.specs.Pace.{last_count, raised, worked}
use Rattle.vd_control.specs.declared.settings.Settings.{Settings}
use Rattle.vd_relay.specs.declared.control.Control.{Control}
use Rattle.vd_relay.specs.declared.control.Mode.{Mode}
use Rattle.vd_relay.specs.declared.control.Mode.TheVariants.{Replaying}
use Rattle.vd_relay.specs.declared.counts.Counts.{Counts}
use Rattle.vd_relay.specs.declared.replay.ReplayStage.TheVariants.{Hearing}
use Rattle.vd_relay.specs.declared.state.State.{State}
use Rattle.vd_relay.specs.Modes.{has_replayed}
use Rattle.vd_relay.specs.Relay.{IsKept}
use Rattle.vd_relay.specs.Stages.{is_rested}
use Rattle.vd_switch.specs.CommandLanes.{AreAnsweredTo, lane_commands}
use Rattle.vd_switch.specs.CommandSettling.{AcksCount}
use Rattle.vd_switch.specs.Controlling.{ControlStart, IsControlling, replay_list, start_of}
use Rattle.vd_turns.specs.RelayTurns.{HasLooked, did}

-- the lane, and its acks are right: each that was given before the takeover is that of its command, and each that was loaded counts. A
-- wind-up comes once the shadow ring's device gave as many as are replayed
pub record IsControlLane {E D : Type 0} (l : LayoutModel) (e : DeviceModel E) (d : DriverModel D) (x : ControlStart) (begun : List Begun)
    (now : Settings) (words shadow : List ℕ) (v : DriverView) (w : DeviceView) (sv : DriverView) (sw : DeviceView) (r : State E D)
    (k : Control) (s : Settings) (c : Counts) : Type 0 where
  pub controlling : IsControlling l e d x r k s c begun now words shadow v w sv sw
  pub answers : AreAnsweredTo (length x.opening.gives) v w
  pub acks : AcksCount sv.done
  pub covered : r.winding ≡ true → length (replay_list x) ≤ length (gives sw.done)

-- a replay that sleeps looks at the shadow ring's bell alone: its end there has no signal, and nothing has changed
pub record ReplayLooked {E D : Type 0} (d : DriverModel D) (r r' : State E D) (k' : Control) (c c' : Counts) (sv : DriverView)
    (sw : DeviceView) : Type 0 where
  pub stage : k'.replay.stage ≡ Hearing
  pub waits : DriverWaits sv sw
  pub shadow_idle : d.begun r'.shadow ≡ DriverOp.idle
  pub live : r.winding ≡ false
  pub counts : c' ≡ c

-- a look, by what the relay does with it
abbrev pub ControlLooked : {E D : Type 0} → Mode → DeviceModel E → DriverModel D → State E D → State E D → Control → Counts → Counts
    → DriverView → DeviceView → DriverView → DeviceView → Type 0
ControlLooked Replaying e d r r' k' c c' v w sv sw = ReplayLooked d r r' k' c c' sv sw
ControlLooked _ e d r r' k' c c' v w sv sw = HasLooked e d r r' c c' v w sv sw

-- ---- one step

-- once all is replayed, it stays so; the guest's commands begun are the same, whatever it does
pub record ControlStepped {E D : Type 0} (l : LayoutModel) (e : DeviceModel E) (d : DriverModel D) (x : ControlStart) (begun : List Begun) (now : Settings) (words shadow : List ℕ)
    (v : DriverView) (w : DeviceView) (sv : DriverView) (sw : DeviceView) (r r' : State E D) (k k' : Control) (s s' : Settings)
    (c c' : Counts) (answer : Move) : Type 0 where
  pub view : DeviceView
  pub shadow_view : DriverView
  pub lane : IsControlLane l e d x begun now words shadow v view shadow_view sw r' k' s' c'
  pub kept : IsKept r r'
  pub awake : r.winding ≡ false → is_rested r'.stage ≡ false
  pub replayed : has_replayed (Some k) ≡ true → has_replayed (Some k') ≡ true
  pub finished : (answer ≡ move.Finished) ↔ (is_rested r'.stage ≡ true)
  pub by : Mode
  pub looked : answer ≡ move.Looked → (view ≡ w) × (shadow_view ≡ sv) × (s' ≡ s) × ControlLooked by e d r r' k' c c' v w sv sw
  pub account : lane_commands (start_of x k') begun ≡ lane_commands (start_of x k) begun
  pub accesses : c'.accesses ≡ raised (worked answer) c.accesses
  pub heard : c'.heard + device_hearings w + driver_hearings sv ≤ c.heard + device_hearings view + driver_hearings shadow_view
  pub handled : c'.handled + did r v w sv ≤ c.handled + did r' v view shadow_view

-- over two plain ports
pub record ControlOn {P Q E D : Type 0} (port : PortModel P) (shadow_port : PortModel Q) (l : LayoutModel) (e : DeviceModel E)
    (d : DriverModel D) (x : ControlStart) (begun : List Begun) (now : Settings) (p p' : P) (q q' : Q) (v : DriverView) (w : DeviceView) (sv : DriverView) (sw : DeviceView)
    (r r' : State E D) (k k' : Control) (s s' : Settings) (c c' : Counts) (answer : Move) : Type 0 where
  pub words : List ℕ
  pub shadow : List ℕ
  pub plain : port.plain p' words
  pub shadow_plain : shadow_port.plain q' shadow
  pub same : port.same p p'
  pub shadow_same : shadow_port.same q q'
  pub stepped : ControlStepped l e d x begun now words shadow v w sv sw r r' k k' s s' c c' answer

-- ---- a turn

-- so many steps that were no looks
pub record ControlRun {E D : Type 0} (l : LayoutModel) (e : DeviceModel E) (d : DriverModel D) (x : ControlStart) (begun : List Begun) (now : Settings) (words shadow : List ℕ)
    (v : DriverView) (w : DeviceView) (sv : DriverView) (sw : DeviceView) (r r' : State E D) (k k' : Control) (s' : Settings)
    (c c' : Counts) (made : ℕ) : Type 0 where
  pub view : DeviceView
  pub shadow_view : DriverView
  pub lane : IsControlLane l e d x begun now words shadow v view shadow_view sw r' k' s' c'
  pub kept : IsKept r r'
  pub awake : r.winding ≡ false → is_rested r'.stage ≡ false
  pub replayed : has_replayed (Some k) ≡ true → has_replayed (Some k') ≡ true
  pub account : lane_commands (start_of x k') begun ≡ lane_commands (start_of x k) begun
  pub accesses : c.accesses + made ≤ last_count → c'.accesses ≡ c.accesses + made
  pub heard : c'.heard + device_hearings w + driver_hearings sv ≤ c.heard + device_hearings view + driver_hearings shadow_view
  pub handled : c'.handled + did r v w sv ≤ c.handled + did r' v view shadow_view

-- on the way: nothing has changed before the first
pub record ControlWay {E D : Type 0} (l : LayoutModel) (e : DeviceModel E) (d : DriverModel D) (x : ControlStart) (begun : List Begun) (now : Settings) (words shadow : List ℕ)
    (v : DriverView) (w : DeviceView) (sv : DriverView) (sw : DeviceView) (r r' : State E D) (k k' : Control) (s s' : Settings)
    (c c' : Counts) (made : ℕ) : Type 0 where
  pub run : ControlRun l e d x begun now words shadow v w sv sw r r' k k' s' c c' made
  pub start : made ≡ 0 → (run.view ≡ w) × (run.shadow_view ≡ sv) × (r' ≡ r) × (s' ≡ s) × (c' ≡ c)

-- a turn; where it had no such step, the relay has looked
pub record ControlTurn {E D : Type 0} (l : LayoutModel) (e : DeviceModel E) (d : DriverModel D) (x : ControlStart) (begun : List Begun) (now : Settings) (words shadow : List ℕ)
    (v : DriverView) (w : DeviceView) (sv : DriverView) (sw : DeviceView) (r r' : State E D) (k k' : Control) (s s' : Settings)
    (c c' : Counts) (made : ℕ) : Type 0 where
  pub run : ControlRun l e d x begun now words shadow v w sv sw r r' k k' s' c c' made
  pub by : Mode
  pub quiet : made ≡ 0 → (run.view ≡ w) × (run.shadow_view ≡ sv) × (s' ≡ s) × ControlLooked by e d r r' k' c c' v w sv sw

-- the relay holds its ends of two rings of these words
abbrev pub CanControlTurn : {E D : Type 0} → LayoutModel → DeviceModel E → DriverModel D → List ℕ → List ℕ → State E D → Option Control
    → Settings → Counts → Type 0
CanControlTurn l e d words shadow r ko s c = (k : Control) × (x : ControlStart) × (begun : List Begun) × (now : Settings) × (v : DriverView) × (w : DeviceView) × (sv : DriverView)
    × (sw : DeviceView) × (ko ≡ Some k) × IsControlLane l e d x begun now words shadow v w sv sw r k s c

-- for all views at which it holds its ends
abbrev pub ControlSteps : {E D : Type 0} → LayoutModel → DeviceModel E → DriverModel D → List ℕ → List ℕ → List ℕ → List ℕ → State E D
    → State E D → Option Control → Option Control → Settings → Settings → Counts → Counts → Move → Type 0
ControlSteps l e d words words' shadow shadow' r r' ko ko' s s' c c' answer = (k : Control) → ko ≡ Some k → IsSomeAnd ko' (λ k'.
    (x : ControlStart) (begun : List Begun) (now : Settings) (v : DriverView) (w : DeviceView) (sv : DriverView) (sw : DeviceView)
    → IsControlLane l e d x begun now words shadow v w sv sw r k s c
    → ControlStepped l e d x begun now words' shadow' v w sv sw r r' k k' s s' c c' answer)

abbrev pub ControlTurns : {E D : Type 0} → LayoutModel → DeviceModel E → DriverModel D → List ℕ → List ℕ → List ℕ → List ℕ → State E D
    → State E D → Option Control → Option Control → Settings → Settings → Counts → Counts → ℕ → Type 0
ControlTurns l e d words words' shadow shadow' r r' ko ko' s s' c c' made = (k : Control) → ko ≡ Some k → IsSomeAnd ko' (λ k'.
    (x : ControlStart) (begun : List Begun) (now : Settings) (v : DriverView) (w : DeviceView) (sv : DriverView) (sw : DeviceView)
    → IsControlLane l e d x begun now words shadow v w sv sw r k s c
    → ControlTurn l e d x begun now words' shadow' v w sv sw r r' k k' s s' c c' made)
