-- For which views the device's end of a split ring stands, and what it has begun.
use Rattle.std.specs.Prelude.{◌≡◌, ℕ, ◌+◌, ◌-◌, ◌*◌, ◌%◌, ◌<◌, ◌≤◌, ◌&&◌, nat_eq, Bool, true, false, List, [], ◌∷◌, ◌++◌, length, Option, None, Some, if◌then◌else◌, nat_lt, slice_index_or, not}
use Rattle.vd_bits.specs.Lanes.{lane32}
use Rattle.vd_model.specs.declared.chain.Piece.{Piece}
use Rattle.vd_words.specs.declared.access.Op.{Op}
use Rattle.vd_words.specs.declared.access.Op.TheVariants as op
use Rattle.vd_ring.specs.declared.frame.Frame.{Frame}
use Rattle.vd_ring.specs.declared.device.DeviceDone.{DeviceDone}
use Rattle.vd_ring.specs.declared.device.DeviceNow.{DeviceNow}
use Rattle.vd_ring.specs.declared.device.DeviceNow.TheVariants as now
use Rattle.vd_ring.specs.declared.device.DeviceView.{DeviceView}
use Rattle.vd_ring.specs.Frames.{limit}
use Rattle.vd_ring.specs.History.{takes, gives, heads, running, taken_head, numbers, occurs, IsWhole}
use Rattle.vd_split_ring.specs.SplitWords.{kick_at, used_from, width, pieces_of, linked, has_table, names_table, named_words}
use Rattle.vd_split_ring.specs.SplitDevice.{loaded_head, IsNewHead, device_side, device_act, device_shows}
use Rattle.vd_layout.specs.Begun.{DeviceOp}
use Rattle.vd_layout.specs.Device.{DeviceModel}
use Rattle.vd_split.specs.declared.device.SplitDevice.{SplitDevice}
use Rattle.vd_split.specs.declared.device.DeviceStep.{DeviceStep}
use Rattle.vd_split.specs.declared.device.DeviceStep.TheVariants as step
use Rattle.vd_split.specs.DriverEnd.{IsMadeFor, split_words}
use Rattle.vd_split.specs.Parts.{Copies}

-- the counts, and their places round the ring
pub record DeviceCounts (taken given entry used : ℕ) (f : Frame) (s : List DeviceDone) : Type 0 where
  pub takes : taken ≡ length (takes s)
  pub gives : given ≡ length (gives s)
  pub entry_at : entry ≡ length (Rattle.vd_ring.specs.History.takes s) % f.size
  pub used_at : used ≡ length (Rattle.vd_ring.specs.History.gives s) % f.size

-- each chain taken runs or is given, and only once
pub record TakesOnce (s : List DeviceDone) : Type 0 where
  pub each : (k : ℕ) → occurs k (running s) + occurs k (numbers (gives s)) ≡ (if nat_lt k (length (takes s)) then 1 else 0)
  pub count : length (takes s) ≡ length (gives s) + length (running s)
  pub as_many : length (heads s) ≡ length (takes s)

abbrev pub number_at : List (Option ℕ) → ℕ → Option ℕ
number_at table h = slice_index_or table h None

-- the running chains are in the table at their heads, and nothing else is
pub record HoldsRunning (table : List (Option ℕ)) (guesses : ℕ) (f : Frame) (s : List DeviceDone) : Type 0 where
  pub once : TakesOnce s
  pub places : length table ≡ f.size
  pub guessed : guesses ≡ f.size
  pub kept : (k : ℕ) → 1 ≤ occurs k (running s) → number_at table (taken_head s k) ≡ Some k
  pub named : (h k : ℕ) → number_at table h ≡ Some k → (1 ≤ occurs k (running s)) × (taken_head s k ≡ h)

-- the chain runs at this head, and may be given next
pub record IsNext (f : Frame) (s : List DeviceDone) (number head len : ℕ) : Type 0 where
  pub runs : 1 ≤ occurs number (running s)
  pub in_order : f.features.in_order ≡ true → number ≡ length (gives s)
  pub is_head : taken_head s number ≡ head
  pub inside : head < f.size
  pub small : len < 4294967296

-- the words of a take in progress: whole descriptors from the head on, and maybe an address
pub record HasLoaded (f : Frame) (s : List DeviceDone) (pieces : List Piece) (w h p : ℕ) (ws : List ℕ) : Type 0 where
  pub is_head : loaded_head f (length (takes s)) w ≡ h
  pub new : IsNewHead f s h
  pub limited : length (takes s) < limit f
  pub spelled : pieces_of ws ≡ pieces
  pub even : length ws ≡ 2 * length pieces
  pub plain : has_table f ws ≡ false
  pub at : linked h ws ≡ 2 * p
  pub low : p < f.size

-- a take has loaded the index word r, the entry's word, and whole descriptors, and is at the descriptor at place p
pub record IsTaking (f : Frame) (s : List DeviceDone) (pieces : List Piece) (r h p : ℕ) (more : List ℕ) (d : DeviceNow) : Type 0 where
  pub word : ℕ
  pub words : List ℕ
  pub is : d ≡ now.Taking (r ∷ word ∷ (words ++ more))
  pub loaded : HasLoaded f s pieces word h p words

-- the words of a take in progress whose head names a table of m pieces, after the two of the head's descriptor, of which x is the
-- second: whole places of the table, and maybe an address
pub record HasTable (f : Frame) (s : List DeviceDone) (pieces : List Piece) (w h m x : ℕ) (ws : List ℕ) : Type 0 where
  pub is_head : loaded_head f (length (takes s)) w ≡ h
  pub new : IsNewHead f s h
  pub limited : length (takes s) < limit f
  pub on : f.features.indirect ≡ true
  pub names : names_table x ≡ true
  pub many : named_words x ≡ 2 * m
  pub few : m ≤ 16
  pub spelled : pieces_of ws ≡ pieces
  pub even : length ws ≡ 2 * length pieces
  pub left : length pieces < m

-- a take has loaded the index word r, the entry's word, the head's descriptor, and whole places of the table that it names
pub record IsTabling (f : Frame) (s : List DeviceDone) (pieces : List Piece) (r h m : ℕ) (more : List ℕ) (d : DeviceNow) : Type 0 where
  pub word : ℕ
  pub addr : ℕ
  pub second : ℕ
  pub words : List ℕ
  pub is : d ≡ now.Taking (r ∷ word ∷ addr ∷ second ∷ (words ++ more))
  pub loaded : HasTable f s pieces word h m second words

abbrev pub DeviceStepStands : DeviceStep → List Piece → ℕ → Frame → List DeviceDone → DeviceNow → Type 0
DeviceStepStands step.Idle ps a f s d = d ≡ now.Idle
DeviceStepStands step.Resting ps a f s d = (d ≡ now.Idle) × (running s ≡ []) × IsWhole s
DeviceStepStands step.Look ps a f s d = d ≡ now.Idle
DeviceStepStands (step.Entry r) ps a f s d = (d ≡ now.Taking (r ∷ [])) × (length (takes s) < limit f)
DeviceStepStands (step.Address r h p) ps a f s d = IsTaking f s ps r h p [] d
DeviceStepStands (step.Second r h p) ps a f s d = IsTaking f s ps r h p (a ∷ []) d
DeviceStepStands (step.TableAddress r h m) ps a f s d = IsTabling f s ps r h m [] d
DeviceStepStands (step.TableSecond r h m) ps a f s d = IsTabling f s ps r h m (a ∷ []) d
DeviceStepStands (step.StoreId k h n) ps a f s d = (d ≡ now.Idle) × IsNext f s k h n
DeviceStepStands (step.StoreLen k h n) ps a f s d = (x : ℕ) × (d ≡ now.Giving (x ∷ [])) × (lane32 x 1 ≡ h) × IsNext f s k h n
DeviceStepStands (step.StoreIndex k h n) ps a f s d = (x y : ℕ) × (d ≡ now.Giving (x ∷ y ∷ [])) × (lane32 x 1 ≡ h) × (lane32 y 0 ≡ n)
    × IsNext f s k h n
DeviceStepStands (step.Check old new) ps a f s d = (d ≡ now.Checking old new) × (old < new) × (new - old ≤ 32768)
DeviceStepStands (step.Ring old new) ps a f s d = d ≡ now.Ringing old new
DeviceStepStands step.Arm ps a f s d = d ≡ now.Idle
DeviceStepStands step.LookAgain ps a f s d = d ≡ now.Arming
DeviceStepStands step.Hear ps a f s d = d ≡ now.Idle
DeviceStepStands step.WakeArming ps a f s d = (d ≡ now.Disarming op.Arm) × (f.features.event_idx ≡ false)
DeviceStepStands step.WakeHearing ps a f s d = (d ≡ now.Disarming op.Hear) × (f.features.event_idx ≡ false)
DeviceStepStands step.Disarm ps a f s d = d ≡ now.Idle
DeviceStepStands step.Rest ps a f s d = (d ≡ now.Idle) × IsWhole s
DeviceStepStands step.RestLook ps a f s d = (d ≡ now.Resting) × IsWhole s

-- in which steps the end is armed
abbrev pub DeviceStepArmed : DeviceStep → Bool → Type 0
DeviceStepArmed step.Idle armed = Unit {0}
DeviceStepArmed step.Rest armed = Unit {0}
DeviceStepArmed step.LookAgain armed = armed ≡ true
DeviceStepArmed step.Hear armed = armed ≡ true
DeviceStepArmed step.Disarm armed = armed ≡ true
DeviceStepArmed _ armed = armed ≡ false

-- 1 where a bell may still be stored
abbrev pub device_owes : DeviceStep → ℕ
device_owes (step.Check old new) = 1
device_owes (step.Ring old new) = 1
device_owes _ = 0

-- a step that ends with the disarming store, and its operation
abbrev pub Wakes : DeviceStep → Op → Type 0
Wakes step.WakeArming o = o ≡ op.Arm
Wakes step.WakeHearing o = o ≡ op.Hear
Wakes step.Disarm o = o ≡ op.Disarm
Wakes _ o = ⊥

-- where it is armed, what it heard, and how many bells it stored: no more than ranges it published
pub record DeviceSignals (armed : Bool) (heard bells given : ℕ) (doing : DeviceStep) (v : DeviceView) : Type 0 where
  pub is_armed : v.armed ≡ (if armed then Some (length (takes v.done)) else None)
  pub hears : heard ≡ v.heard
  pub rings : bells ≡ v.bells
  pub few : bells + device_owes doing ≤ given
  pub awake : DeviceStepArmed doing armed

pub record DeviceStands (e : SplitDevice) (v : DeviceView) : Type 0 where
  pub made : IsMadeFor e.size e.features v.frame
  pub counts : DeviceCounts e.taken e.given e.entry e.used v.frame v.done
  pub holds : HoldsRunning e.running.items (length e.guesses.items) v.frame v.done
  pub area : Copies e.area.items (used_from v.frame) (v.frame.size + 1) v.stored
  pub wide : length v.stored ≡ width v.frame
  pub shown : e.shown ≡ v.shown
  pub kick : e.kick ≡ kick_at v.frame
  pub signals : DeviceSignals e.armed e.heard e.bells e.given e.doing v
  pub doing : DeviceStepStands e.doing e.pieces.items e.addr v.frame v.done v.doing

-- ---- the operation that is begun, and the accesses that it still takes at most

abbrev pub device_begun : DeviceStep → DeviceOp
device_begun step.Idle = DeviceOp.idle
device_begun step.Resting = DeviceOp.idle
device_begun step.Look = DeviceOp.take
device_begun (step.Entry r) = DeviceOp.take
device_begun (step.Address r h p) = DeviceOp.take
device_begun (step.Second r h p) = DeviceOp.take
device_begun (step.TableAddress r h m) = DeviceOp.take
device_begun (step.TableSecond r h m) = DeviceOp.take
device_begun (step.StoreId k h n) = DeviceOp.give k n
device_begun (step.StoreLen k h n) = DeviceOp.give k n
device_begun (step.StoreIndex k h n) = DeviceOp.give k n
device_begun (step.Check old new) = DeviceOp.signal
device_begun (step.Ring old new) = DeviceOp.signal
device_begun step.Arm = DeviceOp.arm
device_begun step.LookAgain = DeviceOp.arm
device_begun step.Hear = DeviceOp.hear
device_begun step.WakeArming = DeviceOp.arm
device_begun step.WakeHearing = DeviceOp.hear
device_begun step.Disarm = DeviceOp.disarm
device_begun step.Rest = DeviceOp.rest
device_begun step.RestLook = DeviceOp.rest

-- by the number of pieces loaded so far
abbrev pub device_left : DeviceStep → ℕ → ℕ
device_left step.Idle n = 0
device_left step.Resting n = 0
device_left step.Look n = 36
device_left (step.Entry r) n = 35
device_left (step.Address r h p) n = 2 * (16 - n) + 2
device_left (step.Second r h p) n = 2 * (16 - n) + 1
device_left (step.TableAddress r h m) n = 2 * (15 - n) + 2
device_left (step.TableSecond r h m) n = 2 * (15 - n) + 1
device_left (step.StoreId k h l) n = 5
device_left (step.StoreLen k h l) n = 4
device_left (step.StoreIndex k h l) n = 3
device_left (step.Check old new) n = 2
device_left (step.Ring old new) n = 1
device_left step.Arm n = 3
device_left step.LookAgain n = 2
device_left step.Hear n = 2
device_left step.WakeArming n = 1
device_left step.WakeHearing n = 1
device_left step.Disarm n = 1
device_left step.Rest n = 2
device_left step.RestLook n = 1

abbrev pub is_resting : DeviceStep → Bool
is_resting step.Resting = true
is_resting _ = false

abbrev pub is_idle : DeviceStep → Bool
is_idle step.Idle = true
is_idle _ = false

-- the base of a count of chains (the number of a split ring in `vhost_vring_state`)
abbrev pub base_of : Frame → List (List Piece) → ℕ
base_of f cs = length cs % 65536

abbrev pub split_device : DeviceModel SplitDevice
split_device = record {
  side = device_side;
  act = device_act;
  shows = device_shows;
  stands = DeviceStands;
  begun = λ e. device_begun e.doing;
  loaded = λ e. e.pieces.items;
  armed = λ e. e.armed;
  left = λ e. device_left e.doing (length e.pieces.items);
  size = λ e. e.size;
  features = λ e. e.features;
  resting = λ e. is_resting e.doing;
  fresh = λ e. (is_idle e.doing && (nat_eq e.taken 0 && nat_eq e.given 0)) && not e.armed;
  words = split_words;
  base = λ e. e.taken % 65536;
  base_of = base_of;
}
