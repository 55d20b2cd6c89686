-- A port onto words that tracks the driver's view through its first 64 accesses, and allows there what is next in that view alone.
use Rattle.std.specs.Prelude.{◌≡◌, ◌<◌, ℕ, false, List, [], ◌∷◌, ◌++◌, length, Option, Some, None}
use Rattle.vd_model.specs.declared.features.Features.{Features}
use Rattle.vd_words.specs.declared.access.Access.{Access}
use Rattle.vd_words.specs.declared.access.Op.{Op}
use Rattle.vd_words.specs.Step.{place_of, written, answered}
use Rattle.vd_ring.specs.declared.driver.DriverView.{DriverView}
use Rattle.vd_ring.specs.declared.device.DeviceView.{DeviceView}
use Rattle.vd_ring.specs.declared.frame.Frame.{Frame}
use Rattle.vd_ring.specs.Fresh.{fresh_driver, fresh_device}
use Rattle.vd_split_ring.specs.SplitDriver.{driver_after, driver_side}
use Rattle.vd_split_ring.specs.SplitRing.{Ring}
use Rattle.vd_layout.specs.Both.{plain_frame}
use Rattle.vd_split.specs.laws.SplitLayout.{split_layout}

-- an access and its answer
abbrev pub Logged : Type 0
Logged = Option (Op × Access × ℕ)

-- the view after the accesses logged, the oldest first
abbrev pub seen_by : DriverView → List Logged → DriverView
seen_by v [] = v
seen_by v (None ∷ es) = seen_by v es
seen_by v (Some e ∷ es) = seen_by (driver_after v e.0 e.1 e.2) es

abbrev pub plain_features : Features
plain_features = record { indirect = false; event_idx = false; in_order = false }

abbrev pub start_frame : ℕ → Frame
start_frame n = plain_frame split_layout 0 n plain_features false None

abbrev pub start_driver : ℕ → DriverView
start_driver n = fresh_driver (start_frame n) (split_layout.width (start_frame n))

abbrev pub start_device : ℕ → DeviceView
start_device n = fresh_device (start_frame n) (split_layout.width (start_frame n))

abbrev pub tracked : ℕ → List Logged → DriverView
tracked n log = seen_by (start_driver n) log

abbrev pub MayTrack : ℕ → List ℕ → List Logged → Op → Access → Type 0
MayTrack n ws log op a = (place_of a < length ws) × (length log < 64 → driver_side.next (tracked n log) op a)

pub record TrackMoves (n n' : ℕ) (ws ws' : List ℕ) (log log' : List Logged) (op : Op) (a : Access) (r : ℕ) : Type 0 where
  pub size : n' ≡ n
  pub words : ws' ≡ written ws a
  pub answer : r ≡ answered ws a
  pub logged : length log < 64 → log' ≡ log ++ Some (op, a, r) ∷ []
  pub full : (length log < 64 → ⊥) → log' ≡ log

-- the words meet the invariant with the view, which is the one tracked
abbrev pub Tracks : ℕ → List ℕ → List Logged → DriverView → Type 0
Tracks n ws log v = Ring ws v (start_device n) × (length log < 64 → v ≡ tracked n log)
