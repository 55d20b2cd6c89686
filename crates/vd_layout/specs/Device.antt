-- What a device's end is, as one record, and what one step of it is.
use Rattle.std.specs.Prelude.{◌≡◌, ◌≢◌, ◌⊎◌, ℕ, ◌+◌, ◌<◌, ◌≤◌, Bool, true, false, List, [], ◌∷◌, length, None, if◌then◌else◌, nat_lt, Some}
use Rattle.std.specs.List.{Contains}
use Rattle.vd_model.specs.declared.chain.Piece.{Piece}
use Rattle.vd_model.specs.declared.features.Features.{Features}
use Rattle.vd_words.specs.declared.access.Access.{Access}
use Rattle.vd_words.specs.declared.access.Op.{Op}
use Rattle.vd_words.specs.declared.access.Op.TheVariants.{Control, Arm}
use Rattle.vd_words.specs.Model.{PortModel}
use Rattle.vd_words.specs.Own.{SideModel}
use Rattle.vd_ring.specs.declared.act.DeviceAct.{DeviceAct}
use Rattle.vd_ring.specs.declared.act.DeviceAct.TheVariants as act
use Rattle.vd_ring.specs.declared.device.DeviceDone.{DeviceDone}
use Rattle.vd_ring.specs.declared.device.DeviceDone.TheVariants.{Take, Give, Rest}
use Rattle.vd_ring.specs.declared.device.DeviceNow.TheVariants as now
use Rattle.vd_ring.specs.declared.device.DeviceView.{DeviceView}
use Rattle.vd_ring.specs.declared.frame.Frame.{Frame}
use Rattle.vd_ring.specs.declared.frame.Used.{Used}
use Rattle.vd_model.specs.Chains.{needs}
use Rattle.vd_ring.specs.Frames.{Fits, limit}
use Rattle.vd_ring.specs.History.{takes, gives, heads, running, running_size, taken_head, numbers, occurs, IsWhole}
use Rattle.vd_ring.specs.Control.{IsControlChain}
use Rattle.vd_ring.specs.ControlLaws.{DeviceControls, HasOwnHead}
use Rattle.vd_ring.specs.Looks.{DeviceLooks, DeviceStays}
use Rattle.vd_layout.specs.Control.{ControlWords}
use Rattle.vd_layout.specs.Pairs.{WereGiven}
use Rattle.vd_layout.specs.Begun.{DeviceOp, DevicePublished, DeviceGoesOn, DeviceMayWake, IsDeviceOp}

-- the chain runs, and may be given next
pub record MayGive (f : Frame) (s : List DeviceDone) (k : ℕ) : Type 0 where
  pub runs : Contains (running s) k
  pub in_order : f.features.in_order ≡ true → k ≡ length (gives s)

-- what is known of a chain that was taken, and of its head; on a control ring it is a control chain of that head
pub record IsTaken (words : ControlWords) (f : Frame) (s : List DeviceDone) (c : List Piece) (h : ℕ) : Type 0 where
  pub fits : Fits f c
  pub limited : length (takes s) < limit f
  pub room : running_size f s + needs f.features c ≤ f.size
  pub inside : h < f.size
  pub apart : (k : ℕ) → Contains (running s) k → taken_head s k ≢ h
  pub control : f.control ≡ true → IsControlChain (words.command f h) (words.ack f h) c

-- what a device's side knows of its chains
pub record Runs (f : Frame) (s : List DeviceDone) : Type 0 where
  -- each chain taken runs or is given, and only once
  pub each : (k : ℕ) → occurs k (running s) + occurs k (numbers (gives s)) ≡ (if nat_lt k (length (takes s)) then 1 else 0)
  pub count : length (takes s) ≡ length (gives s) + length (running s)
  pub as_many : length (heads s) ≡ length (takes s)
  -- the heads of those that run are the ring's, and differ
  pub inside : (k : ℕ) → Contains (running s) k → taken_head s k < f.size
  pub apart : (k : ℕ) → Contains (running s) k → HasOwnHead s k

-- a device's end: what its side may do, what its steps answer, whether a word that a look loads shows a further chain, for which views
-- it stands, the operation that it has begun, the pieces that it has loaded, whether it is armed, a bound of the steps that this still
-- takes, what it was made with, whether it rests or is fresh, where its layout keeps commands and acks, and its base
pub record DeviceModel (E : Type 0) : Type 1 where
  pub side : SideModel DeviceView
  pub act : DeviceView → Op → Access → ℕ → DeviceAct
  pub shows : DeviceView → ℕ → Bool
  pub stands : E → DeviceView → Type 0
  pub begun : E → DeviceOp
  pub loaded : E → List Piece
  pub armed : E → Bool
  pub left : E → ℕ
  pub size : E → ℕ
  pub features : E → Features
  pub resting : E → Bool
  pub fresh : E → Bool
  pub words : ControlWords
  pub base : E → ℕ
  -- the base of a ring from which these chains were taken
  pub base_of : Frame → List (List Piece) → ℕ

-- an answer, the operation before and after the step, the frame, and what was done before and after
abbrev pub DeviceSays : ControlWords → DeviceAct → DeviceOp → DeviceOp → Frame → List DeviceDone → List DeviceDone → Type 0
DeviceSays words act.Moved b b' f s s' = DeviceGoesOn b b' × (s' ≡ s)
DeviceSays words act.Nothing b b' f s s' = (b ≡ DeviceOp.take) × (b' ≡ DeviceOp.idle) × (s' ≡ s)
DeviceSays words (act.Taken k c) b b' f s s' = (h : ℕ) × (b ≡ DeviceOp.take) × (b' ≡ DeviceOp.idle) × (k ≡ length (takes s))
    × (s' ≡ Take c h ∷ s) × IsTaken words f s c h
DeviceSays words (act.Given k) b b' f s s' = (n : ℕ) × (us : List Used) × (b ≡ DeviceOp.give k n) × DevicePublished b'
    × (s' ≡ Give us ∷ s) × WereGiven f s us k n
DeviceSays words act.Rested b b' f s s' = (b ≡ DeviceOp.rest) × (b' ≡ DeviceOp.idle) × (s' ≡ Rest ∷ s) × IsWhole s
DeviceSays words act.Armed b b' f s s' = (b ≡ DeviceOp.arm) × (b' ≡ DeviceOp.idle) × (s' ≡ s)
DeviceSays words act.Awake b b' f s s' = DeviceMayWake b × (b' ≡ DeviceOp.idle) × (s' ≡ s)
DeviceSays words act.Asleep b b' f s s' = (b ≡ DeviceOp.hear) × (b' ≡ DeviceOp.idle) × (s' ≡ s)

abbrev pub is_rested : DeviceAct → Bool
is_rested act.Rested = true
is_rested _ = false

-- one access of the port was made, of the operation begun, which was next in the view; the end stands for the view after it, answers
-- by it, is nearer the operation's end, and rests exactly where it answers so
pub record IsDeviceStep {P E : Type 0} (port : PortModel P) (m : DeviceModel E) (p q : P) (v : DeviceView) (e e' : E)
    (answer : DeviceAct) : Type 0 where
  pub op : Op
  pub access : Access
  pub got : ℕ
  pub of_it : IsDeviceOp (m.begun e) op
  pub was_next : m.side.next v op access
  pub moved : port.moves p op access got q
  pub now_stands : m.stands e' (m.side.after v op access got)
  pub is_answer : answer ≡ m.act v op access got
  pub left : m.left e' < m.left e
  pub says : DeviceSays m.words answer (m.begun e) (m.begun e') v.frame v.done (m.side.after v op access got).done
  pub rests : m.resting e' ≡ is_rested answer

-- the end rests, or is as it was made
abbrev pub IsStill : {E : Type 0} → DeviceModel E → E → Type 0
IsStill m e = (m.resting e ≡ true) ⊎ (m.fresh e ≡ true)

pub record IsLawfulDevice {E : Type 0} (m : DeviceModel E) : Type 0 where
  pub sized : (e : E) (v : DeviceView) → m.stands e v → (m.size e ≡ v.frame.size) × (m.features e ≡ v.frame.features)
  -- an idle end has no operation in progress
  pub at_rest : (e : E) (v : DeviceView) → m.stands e v → m.begun e ≡ DeviceOp.idle → v.doing ≡ now.Idle
  -- an end with no step left is idle
  pub ends : (e : E) → m.left e ≡ 0 → m.begun e ≡ DeviceOp.idle
  -- a still end is idle, has given what it took, and its base is that of the chains taken
  pub still : (e : E) → IsStill m e → m.begun e ≡ DeviceOp.idle
  pub whole : (e : E) (v : DeviceView) → m.stands e v → IsStill m e
      → (running v.done ≡ []) × (length (takes v.done) ≡ length (gives v.done)) × IsWhole v.done
  pub based : (e : E) (v : DeviceView) → m.stands e v → IsStill m e → m.base e ≡ m.base_of v.frame (takes v.done)
  -- whether it is armed is what its side knows
  pub armed : (e : E) (v : DeviceView) → m.stands e v → m.armed e ≡ true → (t : ℕ) × (v.armed ≡ Some t)
  pub not_armed : (e : E) (v : DeviceView) → m.stands e v → m.armed e ≡ false → v.armed ≡ None
  -- a still end is not armed
  pub unarmed_still : (e : E) (v : DeviceView) → m.stands e v → IsStill m e → m.armed e ≡ false
  pub unarmed : (e : E) (v : DeviceView) → m.stands e v → IsStill m e → v.armed ≡ None
  -- from a fresh end nothing was taken
  pub unused : (e : E) (v : DeviceView) → m.stands e v → m.fresh e ≡ true → takes v.done ≡ []
  -- after a control access of its holder the end stands for the view after it
  pub control : (e : E) (v : DeviceView) (a : Access) (r : ℕ) → m.stands e v → m.side.next v Control a
      → m.stands e (m.side.after v Control a r)
  -- such an access is no take, no give and no rest: it answers that the end moved on
  pub control_moves : (v : DeviceView) (a : Access) (r : ℕ) → m.side.next v Control a → m.act v Control a r ≡ act.Moved
  -- no access changes what the ring was made with
  pub framed : (v : DeviceView) (op : Op) (a : Access) (r : ℕ) → (m.side.after v op a r).frame ≡ v.frame
  -- only an access of an arming arms
  pub stays_unarmed : (v : DeviceView) (op : Op) (a : Access) (r : ℕ) → op ≢ Arm → v.armed ≡ None → (m.side.after v op a r).armed ≡ None
  -- when a look finds nothing, and when an arming or a hearing ends asleep or awake
  pub looks : DeviceLooks m.side m.act m.shows
  -- what stays from one access to the next: armed, asleep, shown
  pub stays : DeviceStays m.side m.act m.shows
  -- each chain taken runs or is given, and only once; the heads of those that run differ
  pub runs : (e : E) (v : DeviceView) → m.stands e v → Runs v.frame v.done
  -- when a command word may be loaded, and an ack stored, and the view after it
  pub controls : DeviceControls m.side m.words.command m.words.ack
