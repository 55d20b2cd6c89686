-- What a model device holds while it is attached to the control queue's ring.
use Rattle.std.specs.Prelude.{◌≡◌, ◌↔◌, ℕ, ◌+◌, ◌*◌, ◌-◌, ◌<◌, ◌≤◌, true, false, List, [], length}
use mathlib.Core.List.{IsPrefix}
use Rattle.vd_model.specs.declared.record.Begun.{Begun}
use Rattle.vd_words.specs.declared.access.Access.{Access}
use Rattle.vd_words.specs.declared.access.Op.{Op}
use Rattle.vd_words.specs.Model.{PortModel}
use Rattle.vd_words.specs.Own.{IsOwn}
use Rattle.vd_ring.specs.declared.act.DeviceAct.TheVariants as act
use Rattle.vd_ring.specs.declared.device.DeviceView.{DeviceView}
use Rattle.vd_ring.specs.History.{gives}
use Rattle.vd_ring.specs.Sleep.{device_woken}
use Rattle.vd_layout.specs.Begun.{DeviceOp}
use Rattle.vd_layout.specs.Device.{DeviceModel}
use Rattle.vd_bus.specs.Acts.{IsOneActMore}
use Rattle.vd_bus.specs.Device.{HasServed}
use Rattle.vd_bus.specs.Entries.{Reserved}
use Rattle.vd_models.specs.declared.counts.Turn.{Turn}
use Rattle.vd_models.specs.declared.counts.Turn.TheVariants.{Slept}
use Rattle.vd_models.specs.declared.hand.Hand.{Hand}
use Rattle.vd_models.specs.declared.hand.Hand.TheVariants.{Free, Taken, Loaded, Executed}
use Rattle.vd_models.specs.declared.serving.Session.{Session}
use Rattle.vd_models.specs.declared.serving.Stage.{Stage}
use Rattle.vd_models.specs.declared.serving.Stage.TheVariants as stage
use Rattle.vd_models.specs.declared.window.Held.{Held}
use Rattle.vd_models.specs.Counting.{counted, woke}
use Rattle.vd_models.specs.Hands.{waiting, seen, Executes}
use Rattle.vd_models.specs.Serving.{State, state, Serves, owes_at}
use Rattle.vd_models.specs.Stages.{is_done}

-- the journal's chains as a device of a data queue would have begun them
abbrev pub seen_begun : Reserved Begun → Hand → Reserved Begun
seen_begun begun hand = record { items = seen begun.items hand; room = begun.room - length (waiting hand) }

abbrev pub seen_state : {E : Type 0} → Session E → Hand → Reserved Begun → State E
seen_state s hand begun = state s (seen_begun begun hand)

-- a chain is taken only where none is held
abbrev pub AloneIs : Stage → List Held → Type 0
AloneIs stage.Taking hs = hs ≡ []
AloneIs _ hs = Unit {0}

-- while a command is in hand nothing else is in progress
abbrev pub HandAt : Hand → Stage → DeviceOp → Type 0
HandAt Free st b = Unit {0}
HandAt _ st b = (st ≡ stage.Giving) × (b ≡ DeviceOp.idle)

pub record Commands {E : Type 0} (e : DeviceModel E) (s : Session E) (hand : Hand) (begun : Reserved Begun) (w : DeviceView) : Type 0 where
  pub serves : Serves e (seen_state s hand begun) w
  pub control : w.frame.control ≡ true
  pub alone : AloneIs s.stage s.held.items
  pub executes : Executes e.words w.frame hand s.by begun.items w.done
  pub at : HandAt hand s.stage (e.begun s.end)
  pub room : length (waiting hand) ≤ begun.room

-- and it isn't done
pub record OpensCommands {E : Type 0} (e : DeviceModel E) (s : Session E) (hand : Hand) (begun : Reserved Begun) (w : DeviceView)
    : Type 0 where
  pub commands : Commands e s hand begun w
  pub live : is_done s.stage ≡ false

-- how many accesses it may make until the next chain is begun or given, or the next bell is heard
abbrev pub hand_owes : Hand → ℕ → ℕ
hand_owes Free owed = owed + 3
hand_owes (Taken c) owed = 2
hand_owes (Loaded c first) owed = 1
hand_owes (Executed place ack) owed = 10

abbrev pub command_owes : {E : Type 0} → DeviceModel E → Session E → Hand → Reserved Begun → DeviceView → ℕ
command_owes e s hand begun w = hand_owes hand (owes_at e (seen_state s hand begun) w)

-- one access of the port was made, which was next in the view, and the device serves on at the view after it. It is paid for: by one
-- that it owed, or by a chain begun or given, or a bell heard
pub record IsCommandTurn {P E : Type 0} (port : PortModel P) (e : DeviceModel E) (p q : P) (w : DeviceView) (s s' : Session E)
    (hand hand' : Hand) (bs bs' : Reserved Begun) (answer : Turn) : Type 0 where
  pub op : Op
  pub access : Access
  pub got : ℕ
  pub was_next : e.side.next w op access
  pub moved : port.moves p op access got q
  pub commands : Commands e s' hand' bs' (e.side.after w op access got)
  pub grows : HasServed w (e.side.after w op access got)
  pub acts : IsOneActMore w.done (e.side.after w op access got).done
  pub begun : IsPrefix bs.items bs'.items
  pub room : bs.room + length bs.items ≤ bs'.room + length bs'.items
  pub capacity : s'.held.capacity ≡ s.held.capacity
  pub looked : (answer ≡ Slept) ↔ (e.act w op access got ≡ act.Asleep)
  pub slept : answer ≡ Slept → is_done s'.stage ≡ false
  pub woken : woke answer ≡ device_woken op (e.act w op access got)
  pub rested : e.act w op access got ≡ act.Rested → is_done s'.stage ≡ true
  pub paid : command_owes e s' hand' bs' (e.side.after w op access got) + counted answer + 64 * (length bs.items + length (gives w.done))
      ≤ command_owes e s hand bs w + 64 * (length bs'.items + length (gives (e.side.after w op access got).done) + woke answer)

-- a device that may make an access of the port, and one access, for each view
abbrev pub CanCommand : {P E : Type 0} → PortModel P → DeviceModel E → P → Session E → Hand → Reserved Begun → Type 0
CanCommand port e p s hand begun = (w : DeviceView) × OpensCommands e s hand begun w × IsOwn port e.side p w

abbrev pub MakesCommandTurn : {P E : Type 0} → PortModel P → DeviceModel E → P → P → Session E → Session E → Hand → Hand → Reserved Begun
    → Reserved Begun → Turn → Type 0
MakesCommandTurn port e p q s s' hand hand' bs bs' t = (w : DeviceView) → OpensCommands e s hand bs w → IsOwn port e.side p w
    → IsCommandTurn port e p q w s s' hand hand' bs bs' t
