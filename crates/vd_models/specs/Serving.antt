-- What a model device holds while it is attached to a data queue's ring.
use Rattle.std.specs.Prelude.{◌≡◌, ◌↔◌, ℕ, ◌+◌, ◌*◌, ◌<◌, ◌≤◌, Bool, true, false, Option, Some, None, List, ◌∷◌, length, IsTrue}
use mathlib.Core.List.{IsPrefix}
use Rattle.vd_model.specs.declared.record.Begun.{Begun}
use Rattle.vd_words.specs.declared.access.Access.{Access}
use Rattle.vd_words.specs.declared.access.Op.{Op}
use Rattle.vd_words.specs.Model.{PortModel}
use Rattle.vd_words.specs.Own.{IsOwn}
use Rattle.vd_ring.specs.declared.act.DeviceAct.TheVariants as act
use Rattle.vd_ring.specs.declared.device.DeviceDone.{DeviceDone}
use Rattle.vd_ring.specs.declared.device.DeviceDone.TheVariants.{Rest}
use Rattle.vd_ring.specs.declared.device.DeviceView.{DeviceView}
use Rattle.vd_ring.specs.History.{gives}
use Rattle.vd_ring.specs.Sleep.{device_woken}
use Rattle.vd_layout.specs.Device.{DeviceModel}
use Rattle.vd_bus.specs.declared.device.Attached.{Attached}
use Rattle.vd_bus.specs.Acts.{IsOneActMore}
use Rattle.vd_bus.specs.Device.{IsServing, HasServed}
use Rattle.vd_bus.specs.Entries.{Reserved}
use Rattle.circular_buffer.specs.Buffer.{Buffer}
use Rattle.vd_models.specs.declared.counts.Turn.{Turn}
use Rattle.vd_models.specs.declared.counts.Turn.TheVariants.{Slept}
use Rattle.vd_models.specs.declared.serving.Session.{Session}
use Rattle.vd_models.specs.declared.serving.Stage.{Stage}
use Rattle.vd_models.specs.declared.window.Held.{Held}
use Rattle.vd_models.specs.Counting.{counted, woke}
use Rattle.vd_models.specs.Holding.{IsHeld, HaveLens}
use Rattle.vd_models.specs.Stages.{StageIs, HasWindow, ArmedIs, OpIs, is_done, owes}

-- the end, by what it is attached, what comes next, the chains held in the order in which they were begun, and the journal's chains
pub record State (E : Type 0) : Type 0 where
  pub end : E
  pub by : Attached
  pub stage : Stage
  pub held : Buffer Held
  pub begun : Reserved Begun

abbrev pub state : {E : Type 0} → Session E → Reserved Begun → State E
state s b = record { end = s.end; by = s.by; stage = s.stage; held = s.held; begun = b }

-- how many chains are begun since the journal's first, once the order is fulfilled
abbrev pub all_of : Attached → ℕ
all_of by = by.at + by.count

pub record Serves {E : Type 0} (e : DeviceModel E) (x : State E) (w : DeviceView) : Type 0 where
  pub stands : e.stands x.end w
  pub serving : IsServing x.begun.items x.by w.done
  pub held : IsHeld x.begun.items x.by x.held.items w.frame w.done
  pub stage : StageIs x.stage (e.begun x.end) w.frame.features.in_order x.held.items (length x.begun.items) (all_of x.by)
  pub armed : ArmedIs x.stage (e.begun x.end) w.doing w.armed
  pub op : OpIs (e.begun x.end) w.doing w.shown (e.left x.end)
  pub rests : e.resting x.end ≡ is_done x.stage
  -- where it is done its last act was the rest
  pub last : is_done x.stage ≡ true → (before : List DeviceDone) × (w.done ≡ Rest ∷ before)
  pub window : HasWindow x.stage (length x.held.items) x.held.capacity
  pub room : all_of x.by ≤ length x.begun.items + x.begun.room
  pub small : all_of x.by < 4294967296
  pub lens : HaveLens x.begun.items

-- and it isn't done
pub record Opens {E : Type 0} (e : DeviceModel E) (x : State E) (w : DeviceView) : Type 0 where
  pub serves : Serves e x w
  pub live : is_done x.stage ≡ false

abbrev pub HasMore : Bool → Attached → List Begun → Type 0
HasMore more by begun = IsTrue more ↔ (length begun < all_of by)

abbrev pub owes_at : {E : Type 0} → DeviceModel E → State E → DeviceView → ℕ
owes_at e x w = owes x.stage (e.begun x.end) w.doing w.shown (e.left x.end)

-- an operation is in progress, which owes no more accesses than the device did before it was begun
pub record BeginsNext {E : Type 0} (e : DeviceModel E) (w : DeviceView) (x y : State E) : Type 0 where
  pub opens : Opens e y w
  pub owes : owes_at e y w ≤ owes_at e x w

-- one access of the port was made, which was next in the view, and the device serves on at the view after it. It is paid for: by one
-- that it owed, or by a chain begun or given, or a bell heard
pub record IsTurnBy {P E : Type 0} (port : PortModel P) (e : DeviceModel E) (p q : P) (w : DeviceView) (x y : State E) (answer : Turn)
    (op : Op) (access : Access) (got : ℕ) : Type 0 where
  pub was_next : e.side.next w op access
  pub moved : port.moves p op access got q
  pub serves : Serves e y (e.side.after w op access got)
  pub grows : HasServed w (e.side.after w op access got)
  pub acts : IsOneActMore w.done (e.side.after w op access got).done
  pub begun : IsPrefix x.begun.items y.begun.items
  pub room : x.begun.room + length x.begun.items ≤ y.begun.room + length y.begun.items
  pub capacity : y.held.capacity ≡ x.held.capacity
  pub looked : (answer ≡ Slept) ↔ (e.act w op access got ≡ act.Asleep)
  pub slept : answer ≡ Slept → is_done y.stage ≡ false
  pub woken : woke answer ≡ device_woken op (e.act w op access got)
  pub rested : e.act w op access got ≡ act.Rested → is_done y.stage ≡ true
  pub paid : owes_at e y (e.side.after w op access got) + counted answer + 64 * (length x.begun.items + length (gives w.done))
      ≤ owes_at e x w + 64 * (length y.begun.items + length (gives (e.side.after w op access got).done) + woke answer)

abbrev pub IsTurn : {P E : Type 0} → PortModel P → DeviceModel E → P → P → DeviceView → State E → State E → Turn → Type 0
IsTurn port e p q w x y answer = (op : Op) × (access : Access) × (got : ℕ) × IsTurnBy port e p q w x y answer op access got

-- a device that may make an access of the port, and one access, for each view
abbrev pub CanServe : {P E : Type 0} → PortModel P → DeviceModel E → P → State E → Type 0
CanServe port e p x = (w : DeviceView) × Opens e x w × IsOwn port e.side p w

abbrev pub MakesTurn : {P E : Type 0} → PortModel P → DeviceModel E → P → P → State E → State E → Turn → Type 0
MakesTurn port e p q x y t = (w : DeviceView) → Opens e x w → IsOwn port e.side p w → IsTurn port e p q w x y t

-- a device that may begin its next operation, and what that leaves, for each journal and view
abbrev pub CanBegin : {E : Type 0} → DeviceModel E → Session E → Bool → Type 0
CanBegin e s more = (begun : Reserved Begun) × (w : DeviceView) × Opens e (state s begun) w × HasMore more s.by begun.items

abbrev pub Begins : {E : Type 0} → DeviceModel E → Session E → Session E → Bool → Type 0
Begins e s s' more = (begun : Reserved Begun) (w : DeviceView) → Opens e (state s begun) w → HasMore more s.by begun.items
    → BeginsNext e w (state s begun) (state s' begun)
