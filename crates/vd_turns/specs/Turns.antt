-- What one step and one turn of a party leave of a ring of plain words. The other side's view is the same.
use Rattle.std.specs.Prelude.{◌≡◌, ◌⊎◌, ◌↔◌, ℕ, ◌+◌, ◌≤◌, List}
use Rattle.vd_ring.specs.declared.driver.DriverView.{DriverView}
use Rattle.vd_ring.specs.declared.device.DeviceView.{DeviceView}
use Rattle.vd_ring.specs.Sleep.{DriverWaits, DeviceWaits, driver_hearings, device_hearings}
use Rattle.vd_words.specs.Model.{PortModel}
use Rattle.vd_layout.specs.declared.moves.Move.{Move}
use Rattle.vd_layout.specs.declared.moves.Move.TheVariants as move
use Rattle.vd_layout.specs.Layout.{LayoutModel}
use Rattle.vd_bus.specs.Device.{DeviceParty, IsServed, HasServed}
use Rattle.vd_bus.specs.Guest.{GuestParty, HasDriven}
use Rattle.vd_bus.specs.Pace.{last_count, raised, worked}

-- the party holds its end of a ring of these words
abbrev pub CanDrive : {G : Type 0} → LayoutModel → GuestParty G → List ℕ → G → Type 0
CanDrive l g words guest = (v : DriverView) × (w : DeviceView) × l.ring words v w × g.holds guest v

abbrev pub CanServe : {X C : Type 0} → LayoutModel → DeviceParty X C → List ℕ → X → Type 0
CanServe l m words device = (v : DriverView) × (w : DeviceView) × l.ring words v w × m.holds device w

-- ---- a guest

-- a step that looked has changed nothing, and the party sleeps without a signal; the bells heard are in the view
pub record GuestStepped {G : Type 0} (l : LayoutModel) (g : GuestParty G) (words : List ℕ) (v : DriverView) (w : DeviceView)
    (x y : G) (answer : Move) : Type 0 where
  pub view : DriverView
  pub ring : l.ring words view w
  pub holds : g.holds y view
  pub script : g.script y ≡ g.script x
  pub grows : HasDriven v view
  pub finished : (answer ≡ move.Finished) ↔ g.is_done y
  pub looked : answer ≡ move.Looked → (view ≡ v) × DriverWaits v w
  pub accesses : g.accesses y ≡ raised (worked answer) (g.accesses x)
  pub heard : g.heard y + driver_hearings v ≤ g.heard x + driver_hearings view

-- over a plain port
pub record GuestOn {P G : Type 0} (port : PortModel P) (l : LayoutModel) (g : GuestParty G) (p q : P) (v : DriverView)
    (w : DeviceView) (x y : G) (answer : Move) : Type 0 where
  pub words : List ℕ
  pub plain : port.plain q words
  pub same : port.same p q
  pub stepped : GuestStepped l g words v w x y answer

-- for all views at which it holds its end
abbrev pub GuestSteps : {G : Type 0} → LayoutModel → GuestParty G → List ℕ → List ℕ → G → G → Move → Type 0
GuestSteps l g words words' x y answer = (v : DriverView) (w : DeviceView) → l.ring words v w → g.holds x v
    → GuestStepped l g words' v w x y answer

-- so many steps that were no looks
pub record GuestRun {G : Type 0} (l : LayoutModel) (g : GuestParty G) (words : List ℕ) (v : DriverView) (w : DeviceView) (x y : G)
    (made : ℕ) : Type 0 where
  pub view : DriverView
  pub ring : l.ring words view w
  pub holds : g.holds y view
  pub script : g.script y ≡ g.script x
  pub grows : HasDriven v view
  pub accesses : g.accesses x + made ≤ last_count → g.accesses y ≡ g.accesses x + made
  pub heard : g.heard y + driver_hearings v ≤ g.heard x + driver_hearings view

-- on the way: nothing has changed before the first
pub record GuestWay {G : Type 0} (l : LayoutModel) (g : GuestParty G) (words : List ℕ) (v : DriverView) (w : DeviceView) (x y : G)
    (made : ℕ) : Type 0 where
  pub run : GuestRun l g words v w x y made
  pub start : made ≡ 0 → (run.view ≡ v) × (y ≡ x)

-- a turn; where it had no such step, the guest is done, or sleeps without a signal
pub record GuestTurn {G : Type 0} (l : LayoutModel) (g : GuestParty G) (words : List ℕ) (v : DriverView) (w : DeviceView) (x y : G)
    (made : ℕ) : Type 0 where
  pub run : GuestRun l g words v w x y made
  pub quiet : made ≡ 0 → (run.view ≡ v) × (g.is_done y ⊎ DriverWaits run.view w)
  pub over : g.is_done x → g.is_done y

abbrev pub GuestTurns : {G : Type 0} → LayoutModel → GuestParty G → List ℕ → List ℕ → G → G → ℕ → Type 0
GuestTurns l g words words' x y made = (v : DriverView) (w : DeviceView) → l.ring words v w → g.holds x v
    → GuestTurn l g words' v w x y made

-- ---- a device

pub record DeviceStepped {X C : Type 0} (l : LayoutModel) (m : DeviceParty X C) (words : List ℕ) (v : DriverView) (w : DeviceView)
    (x y : X) (answer : Move) : Type 0 where
  pub view : DeviceView
  pub ring : l.ring words v view
  pub holds : m.holds y view
  pub served : IsServed m x y
  pub grows : HasServed w view
  pub finished : (answer ≡ move.Finished) ↔ m.is_done y
  pub looked : answer ≡ move.Looked → (view ≡ w) × DeviceWaits v w
  pub accesses : m.accesses y ≡ raised (worked answer) (m.accesses x)
  pub heard : m.heard y + device_hearings w ≤ m.heard x + device_hearings view

pub record DeviceOn {P X C : Type 0} (port : PortModel P) (l : LayoutModel) (m : DeviceParty X C) (p q : P) (v : DriverView)
    (w : DeviceView) (x y : X) (answer : Move) : Type 0 where
  pub words : List ℕ
  pub plain : port.plain q words
  pub same : port.same p q
  pub stepped : DeviceStepped l m words v w x y answer

abbrev pub DeviceSteps : {X C : Type 0} → LayoutModel → DeviceParty X C → List ℕ → List ℕ → X → X → Move → Type 0
DeviceSteps l m words words' x y answer = (v : DriverView) (w : DeviceView) → l.ring words v w → m.holds x w
    → DeviceStepped l m words' v w x y answer

pub record DeviceRun {X C : Type 0} (l : LayoutModel) (m : DeviceParty X C) (words : List ℕ) (v : DriverView) (w : DeviceView)
    (x y : X) (made : ℕ) : Type 0 where
  pub view : DeviceView
  pub ring : l.ring words v view
  pub holds : m.holds y view
  pub served : IsServed m x y
  pub grows : HasServed w view
  pub accesses : m.accesses x + made ≤ last_count → m.accesses y ≡ m.accesses x + made
  pub heard : m.heard y + device_hearings w ≤ m.heard x + device_hearings view

pub record DeviceWay {X C : Type 0} (l : LayoutModel) (m : DeviceParty X C) (words : List ℕ) (v : DriverView) (w : DeviceView)
    (x y : X) (made : ℕ) : Type 0 where
  pub run : DeviceRun l m words v w x y made
  pub start : made ≡ 0 → (run.view ≡ w) × (y ≡ x)

-- a live device's turn; where it had no such step, the device sleeps without a signal
pub record DeviceTurn {X C : Type 0} (l : LayoutModel) (m : DeviceParty X C) (words : List ℕ) (v : DriverView) (w : DeviceView)
    (x y : X) (made : ℕ) : Type 0 where
  pub run : DeviceRun l m words v w x y made
  pub quiet : made ≡ 0 → (run.view ≡ w) × DeviceWaits v run.view

abbrev pub DeviceTurns : {X C : Type 0} → LayoutModel → DeviceParty X C → List ℕ → List ℕ → X → X → ℕ → Type 0
DeviceTurns l m words words' x y made = (v : DriverView) (w : DeviceView) → l.ring words v w → m.holds x w
    → DeviceTurn l m words' v w x y made
