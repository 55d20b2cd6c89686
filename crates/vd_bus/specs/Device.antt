-- What a device is, as one record, and what each of its calls does.
use Rattle.std.specs.Prelude.{◌≡◌, ◌↔◌, ℕ, ◌+◌, ◌-◌, ◌<◌, ◌≤◌, true, Option, Some, None, IsSome, List, [], ◌∷◌, ◌++◌, length, map, drop, slice_get}
use Rattle.std.specs.List.{All}
use mathlib.Core.List.{IsPrefix}
use Rattle.vd_model.specs.declared.chain.Piece.{Piece}
use Rattle.vd_model.specs.declared.record.Begun.{Begun}
use Rattle.vd_model.specs.Chains.{writable}
use Rattle.vd_words.specs.declared.access.Access.{Access}
use Rattle.vd_words.specs.declared.access.Op.{Op}
use Rattle.vd_words.specs.Model.{PortModel}
use Rattle.vd_ring.specs.declared.act.DeviceAct.TheVariants as act
use Rattle.vd_ring.specs.declared.device.DeviceDone.{DeviceDone}
use Rattle.vd_ring.specs.declared.device.DeviceDone.TheVariants.{Rest}
use Rattle.vd_ring.specs.declared.device.DeviceNow.TheVariants as now
use Rattle.vd_ring.specs.declared.device.DeviceView.{DeviceView}
use Rattle.vd_ring.specs.declared.frame.Used.{Used}
use Rattle.vd_ring.specs.History.{takes, gives, running, IsWhole}
use Rattle.vd_ring.specs.Sleep.{device_woken}
use Rattle.vd_words.specs.Own.{IsOwn}
use Rattle.vd_layout.specs.declared.moves.Move.{Move}
use Rattle.vd_layout.specs.declared.moves.Move.TheVariants as move
use Rattle.vd_layout.specs.Device.{DeviceModel}
use Rattle.vd_control.specs.declared.settings.Settings.{Settings}
use Rattle.vd_control.specs.Settings.{default}
use Rattle.vd_bus.specs.declared.event.Event.{Event}
use Rattle.vd_bus.specs.declared.event.Event.TheVariants.{Attach, Suspend, Reset}
use Rattle.vd_bus.specs.declared.device.Attached.{Attached}
use Rattle.vd_bus.specs.Acts.{IsOneActMore}
use Rattle.vd_bus.specs.Pace.{KeepsPace, raised, worked, attaches}
use Rattle.vd_bus.specs.DeviceCommands.{set_since, IsExecuted, IsWaiting, IsAnswered}
use Rattle.vd_bus.specs.Orders.{Terms, mode_of, IsData, IsControl, FitsQueue}

-- the journal, and for how many events and chains more it has room; the settings, and those at its last attach; the count of faults; the
-- window that was reserved; the plain data that it carries; by what it is attached; for which views of a ring the end stands that it
-- holds; whether it has begun all chains of its order and given them, and its end rests; how many of its steps did not answer Looked, and
-- how many of its hearings ended with Awake
pub record DeviceParty (X C : Type 0) : Type 1 where
  pub events : X → List Event
  pub begun : X → List Begun
  pub event_room : X → ℕ
  pub chain_room : X → ℕ
  pub settings : X → Settings
  pub attached_with : X → Settings
  pub faults : X → ℕ
  pub window : X → ℕ
  pub carried : X → C
  pub attached : X → Option Attached
  pub holds : X → DeviceView → Type 0
  pub is_done : X → Type 0
  pub accesses : X → ℕ
  pub heard : X → ℕ

-- ---- the journal against the ring

abbrev pub chains_of : List Begun → List (List Piece)
chains_of bs = map (λ b. b.chain) bs

abbrev pub lens_of : List Begun → List ℕ
lens_of bs = map (λ b. b.len) bs

-- the entry gives a chain that was begun since the attach, with the length that the journal has for it
pub record IsJournalled (begun : List Begun) (at from : ℕ) (u : Used) : Type 0 where
  pub since : from ≤ u.number
  pub len : slice_get (lens_of begun) (u.number - from + at) ≡ Some u.len

-- a chain as it is begun on a data queue: at most its writable bytes are written, and it has no command
pub record IsBegun (b : Begun) : Type 0 where
  pub fits : b.len ≤ writable b.chain
  pub plain : b.bytes.items ≡ []

-- what a device of a data queue has journalled since its attach is what it took and gave on the ring since then
pub record IsServing (begun : List Begun) (by : Attached) (s : List DeviceDone) : Type 0 where
  pub as_many : length (takes s) + by.at ≡ length begun + by.from
  pub after : by.at ≤ length begun
  -- what was taken before the attach was given before
  pub before : by.from ≤ length (gives s)
  -- no more than the order's count
  pub few : length begun ≤ by.at + by.count
  -- the chains begun are those taken, in the ring's order
  pub chains : chains_of (drop by.at begun) ≡ drop by.from (takes s)
  pub each : All IsBegun (drop by.at begun)
  -- and each that was given has its length
  pub given : All (IsJournalled begun by.at by.from) (drop by.from (gives s))

-- what a device of the control queue has begun since its attach is what it took and loaded on the ring since then; its settings are those
-- at the attach, changed by each command among what it began; and what it gave it had answered before
pub record IsCommanded (begun : List Begun) (by : Attached) (at_attach now : Settings) (s : List DeviceDone) : Type 0 where
  pub after : by.at ≤ length begun
  -- what was taken before the attach was given before
  pub before : by.from ≤ length (gives s)
  -- no more than the order's count
  pub few : length begun ≤ by.at + by.count
  -- the chains begun are the first of those taken, in the ring's order, and at most one more is taken
  pub chains : IsPrefix (chains_of (drop by.at begun)) (drop by.from (takes s))
  pub in_hand : length (takes s) + by.at ≤ length begun + by.from + 1
  -- each was begun by what was loaded for it, and what is not begun waits for it
  pub each : (i : ℕ) (b : Begun) → slice_get (drop by.at begun) i ≡ Some b → IsExecuted s (by.from + i) b
  pub waits : (k : ℕ) → k < length (takes s) → length begun + by.from ≤ k + by.at → IsWaiting s k
  pub settings : now ≡ set_since by.at begun at_attach
  pub given : All (IsAnswered begun by.at by.from s) (drop by.from (gives s))

-- a device that is done began all chains of its order and gave all that it took; its end is idle and rests
pub record HasServedAll (begun : ℕ) (by : Attached) (w : DeviceView) : Type 0 where
  pub all : begun ≡ by.at + by.count
  pub none_runs : running w.done ≡ []
  pub as_many : length (takes w.done) ≡ length (gives w.done)
  pub whole : IsWhole w.done
  pub idle : w.doing ≡ now.Idle
  pub before : List DeviceDone
  pub rests : w.done ≡ Rest ∷ before

-- where it is armed it holds no chain, and has begun fewer than its order says
abbrev pub ArmsRightly : ℕ → Attached → DeviceView → Type 0
ArmsRightly begun by w = (at : ℕ) → w.armed ≡ Some at → (running w.done ≡ []) × (begun < by.at + by.count)

-- how many of the chains that it has ever begun were given: all that were begun before the attach, and those given since
abbrev pub gave : Attached → DeviceView → ℕ
gave by w = by.at + (length (gives w.done) - by.from)

pub record IsLawfulDeviceParty {E X C : Type 0} (e : DeviceModel E) (m : DeviceParty X C) : Type 0 where
  -- it holds an end only while it is attached
  pub held : (x : X) (w : DeviceView) → m.holds x w → IsSome (m.attached x)
  pub serves : (x : X) (w : DeviceView) (by : Attached) → m.holds x w → m.attached x ≡ Some by → IsData by.queue
      → IsServing (m.begun x) by w.done
  pub commanded : (x : X) (w : DeviceView) (by : Attached) → m.holds x w → m.attached x ≡ Some by → IsControl by.queue
      → IsCommanded (m.begun x) by (m.attached_with x) (m.settings x) w.done
  pub done : (x : X) (w : DeviceView) (by : Attached) → m.holds x w → m.attached x ≡ Some by → m.is_done x
      → HasServedAll (length (m.begun x)) by w
  pub armed : (x : X) (w : DeviceView) (by : Attached) → m.holds x w → m.attached x ≡ Some by → ArmsRightly (length (m.begun x)) by w
  -- its pace, while it is attached and while it isn't
  pub pace : (x : X) (w : DeviceView) (by : Attached) → m.holds x w → m.attached x ≡ Some by
      → KeepsPace (m.accesses x) (m.heard x) (length (m.begun x) + gave by w + m.heard x + attaches (m.events x))
  pub pace_free : (x : X) → m.attached x ≡ None
      → KeepsPace (m.accesses x) (m.heard x) (length (m.begun x) + length (m.begun x) + m.heard x + attaches (m.events x))

-- ---- the calls

-- nothing has changed but the window, and the room, which is no less
pub record IsUnchanged {X C : Type 0} (m : DeviceParty X C) (x y : X) : Type 0 where
  pub events : m.events y ≡ m.events x
  pub begun : m.begun y ≡ m.begun x
  pub settings : m.settings y ≡ m.settings x
  pub faults : m.faults y ≡ m.faults x
  pub carried : m.carried y ≡ m.carried x
  pub attached : m.attached y ≡ m.attached x
  pub room : (m.event_room x ≤ m.event_room y) × (m.chain_room x ≤ m.chain_room y)
  pub counts : (m.accesses y ≡ m.accesses x) × (m.heard y ≡ m.heard x)

-- one event was appended, into the room that was there; chains, faults, window and what it carries have not changed
pub record IsNoted {X C : Type 0} (m : DeviceParty X C) (event : Event) (x y : X) : Type 0 where
  pub events : m.events y ≡ m.events x ++ event ∷ []
  pub begun : m.begun y ≡ m.begun x
  pub faults : m.faults y ≡ m.faults x
  pub window : m.window y ≡ m.window x
  pub carried : m.carried y ≡ m.carried x
  pub room : (m.event_room x ≤ m.event_room y + 1) × (m.chain_room x ≤ m.chain_room y)
  pub counts : (m.accesses y ≡ m.accesses x) × (m.heard y ≡ m.heard x)

-- the settings of the control queue's device, and the default where there is none
abbrev pub control_settings : {X : Type 0} → (X → Settings) → Option X → Settings
control_settings settings None = default
control_settings settings (Some x) = settings x

-- what an attach by the order records
abbrev pub attach_event : Terms → ℕ → Settings → Event
attach_event t at settings = Attach at t.ring t.base (mode_of t.ring) settings t.map

-- the device is attached by the order, and holds the end
pub record IsAttach {E X C : Type 0} (e : DeviceModel E) (m : DeviceParty X C) (t : Terms) (control : Option X) (end : E) (x y : X)
    : Type 0 where
  pub from : ℕ
  pub attached : m.attached y ≡ Some (record { queue = t.queue; count = t.count; at = length (m.begun x); from = from })
  -- that many chains were taken on the ring before
  pub taken : (w : DeviceView) → e.stands end w → from ≡ length (takes w.done)
  pub holds : (w : DeviceView) → e.stands end w → FitsQueue t w.frame → m.holds y w
  pub live : m.is_done y → ⊥
  pub noted : IsNoted m (attach_event t (length (m.begun x)) (control_settings m.settings control)) x y
  pub settings : m.settings y ≡ m.settings x
  pub attached_with : m.attached_with y ≡ m.settings x

-- an attach was refused: only the count of faults has changed, which went up by one
pub record IsRefused {X C : Type 0} (m : DeviceParty X C) (x y : X) : Type 0 where
  pub rose : m.faults y ≡ raised 1 (m.faults x)
  pub events : m.events y ≡ m.events x
  pub begun : m.begun y ≡ m.begun x
  pub settings : m.settings y ≡ m.settings x
  pub window : m.window y ≡ m.window x
  pub carried : m.carried y ≡ m.carried x
  pub attached : m.attached y ≡ m.attached x
  pub room : (m.event_room x ≤ m.event_room y) × (m.chain_room x ≤ m.chain_room y)
  pub counts : (m.accesses y ≡ m.accesses x) × (m.heard y ≡ m.heard x)

-- chains were begun into the room that was there, and nothing else has changed; on a data queue the settings neither, on the control queue
-- they are changed by each command among what was begun
pub record IsServed {X C : Type 0} (m : DeviceParty X C) (x y : X) : Type 0 where
  pub events : m.events y ≡ m.events x
  pub grows : IsPrefix (m.begun x) (m.begun y)
  pub settings : (by : Attached) → m.attached x ≡ Some by → IsData by.queue → m.settings y ≡ m.settings x
  pub set : (by : Attached) → m.attached x ≡ Some by → IsControl by.queue
      → m.settings y ≡ set_since (length (m.begun x)) (m.begun y) (m.settings x)
  pub attached_with : m.attached_with y ≡ m.attached_with x
  pub faults : m.faults y ≡ m.faults x
  pub window : m.window y ≡ m.window x
  pub carried : m.carried y ≡ m.carried x
  pub attached : m.attached y ≡ m.attached x
  pub room : (m.event_room x ≤ m.event_room y)
      × (m.chain_room x + length (m.begun x) ≤ m.chain_room y + length (m.begun y))

-- what was taken and given on the ring is there still
pub record HasServed (w w' : DeviceView) : Type 0 where
  pub takes : IsPrefix (Rattle.vd_ring.specs.History.takes w.done) (Rattle.vd_ring.specs.History.takes w'.done)
  pub gives : IsPrefix (Rattle.vd_ring.specs.History.gives w.done) (Rattle.vd_ring.specs.History.gives w'.done)

-- one access of the port was made, which was next in the view, and added at most one act; the device holds an end for the view after
-- it. It finishes exactly where it is done after it, and looked exactly where the end is asleep. A rest comes only where the device is
-- done: then all chains of the order were begun and given
pub record IsDeviceAccess {P E X C : Type 0} (port : PortModel P) (e : DeviceModel E) (m : DeviceParty X C) (p q : P) (w : DeviceView)
    (x y : X) (answer : Move) : Type 0 where
  pub op : Op
  pub access : Access
  pub got : ℕ
  pub was_next : e.side.next w op access
  pub moved : port.moves p op access got q
  pub holds : m.holds y (e.side.after w op access got)
  pub served : IsServed m x y
  pub grows : HasServed w (e.side.after w op access got)
  pub acts : IsOneActMore w.done (e.side.after w op access got).done
  pub finished : (answer ≡ move.Finished) ↔ m.is_done y
  pub looked : (answer ≡ move.Looked) ↔ (e.act w op access got ≡ act.Asleep)
  pub rested : e.act w op access got ≡ act.Rested → m.is_done y
  pub accesses : m.accesses y ≡ raised (worked answer) (m.accesses x)
  pub heard : m.heard y ≡ raised (device_woken op (e.act w op access got)) (m.heard x)

-- the device holds an end of the port's ring
abbrev pub OwnsAsDevice : {P E X C : Type 0} → PortModel P → DeviceModel E → DeviceParty X C → P → X → Type 0
OwnsAsDevice port e m p x = (w : DeviceView) × m.holds x w × IsOwn port e.side p w

-- one access, for each view for which the device holds an end of the port's ring
abbrev pub MakesDeviceAccess : {P E X C : Type 0} → PortModel P → DeviceModel E → DeviceParty X C → P → P → X → X → Move → Type 0
MakesDeviceAccess port e m p q x y answer = (w : DeviceView) → m.holds x w → IsOwn port e.side p w
    → IsDeviceAccess port e m p q w x y answer

-- the device has handed out the end that it held, which rests; it still knows what it served
pub record IsSuspend {E X C : Type 0} (e : DeviceModel E) (m : DeviceParty X C) (x y : X) (end : E) : Type 0 where
  pub stands : (w : DeviceView) → m.holds x w → e.stands end w
  pub rests : e.resting end ≡ true
  pub served : (w : DeviceView) (by : Attached) → m.holds x w → m.attached x ≡ Some by → IsData by.queue
      → IsServing (m.begun y) by w.done
  pub commanded : (w : DeviceView) (by : Attached) → m.holds x w → m.attached x ≡ Some by → IsControl by.queue
      → IsCommanded (m.begun y) by (m.attached_with x) (m.settings y) w.done
  pub attached : m.attached y ≡ None
  pub noted : IsNoted m (Suspend (length (m.begun x)) (record { 0 = e.base end })) x y
  pub settings : m.settings y ≡ m.settings x

-- the settings are the default again
pub record IsReset {X C : Type 0} (m : DeviceParty X C) (x y : X) : Type 0 where
  pub attached : m.attached y ≡ m.attached x
  pub noted : IsNoted m (Reset (length (m.begun x))) x y
  pub settings : m.settings y ≡ default
