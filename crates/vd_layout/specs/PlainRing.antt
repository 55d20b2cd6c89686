-- What is seen of a ring over plain words with both its ends, and what each whole operation does to it.
use Rattle.std.specs.Prelude.{◌≡◌, ℕ, ◌+◌, ◌<◌, ◌≤◌, Bool, true, false, List, length, None, if◌then◌else◌, nat_lt}
use Rattle.std.specs.List.{Contains}
use Rattle.vd_model.specs.declared.chain.Piece.{Piece}
use Rattle.vd_model.specs.Chains.{needs, total}
use Rattle.vd_words.specs.Plain.{RingWords}
use Rattle.vd_ring.specs.declared.act.DriverAct.{DriverAct}
use Rattle.vd_ring.specs.declared.act.DriverAct.TheVariants as driver_act
use Rattle.vd_ring.specs.declared.act.DeviceAct.{DeviceAct}
use Rattle.vd_ring.specs.declared.act.DeviceAct.TheVariants as device_act
use Rattle.vd_ring.specs.declared.frame.Frame.{Frame}
use Rattle.vd_ring.specs.Frames as frames
use Rattle.vd_ring.specs.History.{entry, chain_at, occurs, numbers}
use Rattle.vd_layout.specs.Begun.{DriverOp, DeviceOp}
use Rattle.vd_layout.specs.Driver.{DriverModel}
use Rattle.vd_layout.specs.Device.{DeviceModel}
use Rattle.vd_layout.specs.Layout.{LayoutModel}
use Rattle.vd_layout.specs.Both.{AreOn, plain_frame}
use Rattle.vd_layout.specs.RingLists.{RingLists, lists_of, next_entry, standing_size}

-- what the ring was made with, its words, what its ends have done, which of them is armed, whether the device rests, and its base
pub record PlainView : Type 0 where
  pub frame : Frame
  pub words : List ℕ
  pub lists : RingLists
  pub driver_armed : Bool
  pub device_armed : Bool
  pub resting : Bool
  pub base : ℕ

-- how many chains may be offered on a ring with this number: guests' rings have numbers below 16
abbrev pub most_chains : ℕ → ℕ
most_chains ring = if nat_lt ring 16 then 4000000000 else 4294967295

-- ---- when an operation is made

-- there are as many free places as the chain needs
abbrev pub HasRoomFor : PlainView → List Piece → Type 0
HasRoomFor r c = standing_size r.frame.features r.lists + needs r.frame.features c ≤ r.frame.size

-- the driver isn't armed, the chain has room and at most 2^32 - 1 bytes, and fewer chains were offered than ever may be
pub record CanOffer (r : PlainView) (c : List Piece) : Type 0 where
  pub awake : r.driver_armed ≡ false
  pub room : HasRoomFor r c
  pub bytes : total c ≤ 4294967295
  pub limited : length r.lists.offered < frames.limit r.frame

-- the device neither rests nor is armed
pub record IsAtWork (r : PlainView) : Type 0 where
  pub awake : r.resting ≡ false
  pub unarmed : r.device_armed ≡ false

-- the device is armed, and doesn't rest
pub record Sleeps (r : PlainView) : Type 0 where
  pub awake : r.resting ≡ false
  pub armed : r.device_armed ≡ true

-- the chain runs; under IN_ORDER it is the one taken first of those
pub record CanGive (r : PlainView) (k : ℕ) : Type 0 where
  pub at_work : IsAtWork r
  pub runs : Contains r.lists.running k
  pub in_order : r.frame.features.in_order ≡ true → k ≡ length r.lists.given

-- the chains given are exactly those with a number below their count
abbrev pub IsWholeList : RingLists → Type 0
IsWholeList h = (k : ℕ) → k < length h.given → occurs k (numbers h.given) ≡ 1

-- the device doesn't rest, and has given no chain before one with a lower number
pub record CanRest (r : PlainView) : Type 0 where
  pub awake : r.resting ≡ false
  pub whole : IsWholeList r.lists

-- ---- what an operation answers

-- the next entry that was given, or Nothing where each was collected
abbrev pub IsCollect : RingLists → DriverAct → Type 0
IsCollect h (driver_act.Collected k n i) = (length h.collected < length h.given) × (next_entry h ≡ entry k n)
IsCollect h driver_act.Nothing = h.collected ≡ h.given
IsCollect h _ = ⊥

-- the next chain that was offered, or Nothing where each was taken
abbrev pub IsTake : RingLists → DeviceAct → Type 0
IsTake h (device_act.Taken k c) = (length h.taken < length h.offered) × (k ≡ length h.taken) × (c ≡ chain_at h.offered k)
IsTake h device_act.Nothing = h.taken ≡ h.offered
IsTake h _ = ⊥

-- of the two sides' arming, hearing and disarming
abbrev pub IsDriverArm : DriverAct → Type 0
IsDriverArm driver_act.Armed = Unit {0}
IsDriverArm driver_act.Awake = Unit {0}
IsDriverArm _ = ⊥

abbrev pub IsDriverHear : DriverAct → Type 0
IsDriverHear driver_act.Awake = Unit {0}
IsDriverHear driver_act.Asleep = Unit {0}
IsDriverHear _ = ⊥

abbrev pub IsDeviceArm : DeviceAct → Type 0
IsDeviceArm device_act.Armed = Unit {0}
IsDeviceArm device_act.Awake = Unit {0}
IsDeviceArm _ = ⊥

abbrev pub IsDeviceHear : DeviceAct → Type 0
IsDeviceHear device_act.Awake = Unit {0}
IsDeviceHear device_act.Asleep = Unit {0}
IsDeviceHear _ = ⊥

-- ---- what an operation leaves as it was

-- an operation of the driver: the ring and the device are what they were
pub record IsDriverMove (a b : PlainView) : Type 0 where
  pub frame : b.frame ≡ a.frame
  pub wide : length b.words ≡ length a.words
  pub device_armed : b.device_armed ≡ a.device_armed
  pub resting : b.resting ≡ a.resting
  pub base : b.base ≡ a.base

-- an operation of the device: the ring and the driver are what they were
pub record IsDeviceMove (a b : PlainView) : Type 0 where
  pub frame : b.frame ≡ a.frame
  pub wide : length b.words ≡ length a.words
  pub driver_armed : b.driver_armed ≡ a.driver_armed

-- ---- the invariant

-- the ring's number, and what its ends were made with; no ring of this kind has bounds or is a control queue's
abbrev pub frame_at : {D : Type 0} → DriverModel D → LayoutModel → D → RingWords → Frame
frame_at d l x ws = plain_frame l ws.ring (d.size x) (d.features x) false None

-- both ends are idle and stand for views that meet the ring invariant with the words, and the lists are those of these views
pub record IsPlainRing {D E : Type 0} (d : DriverModel D) (e : DeviceModel E) (l : LayoutModel) (x : D) (y : E) (ws : RingWords)
    (h : RingLists) (count limit : ℕ) (resting : Bool) : Type 0 where
  pub on : AreOn d e l (frame_at d l x ws) x y ws.words
  pub lists : h ≡ lists_of on.view.done on.device_view.done
  pub driver_idle : d.begun x ≡ DriverOp.idle
  pub device_idle : e.begun y ≡ DeviceOp.idle
  pub rests : e.resting y ≡ resting
  pub counted : count ≡ length ws.words
  pub limited : limit ≡ frames.limit (frame_at d l x ws)
