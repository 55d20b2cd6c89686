-- For which views the device's end of a packed ring stands, and what it has begun.
use Rattle.std.specs.Prelude.{◌≡◌, ℕ, ◌+◌, ◌-◌, ◌*◌, ◌/◌, ◌<◌, ◌≤◌, ◌&&◌, not, nat_eq, nat_lt, Bool, true, false, List, [], ◌∷◌, ◌++◌, length, Option, None, Some, if◌then◌else◌, slice_index_or}
use Rattle.vd_model.specs.declared.chain.Piece.{Piece}
use Rattle.vd_model.specs.Chains.{needs}
use Rattle.vd_words.specs.declared.access.Op.{Op}
use Rattle.vd_words.specs.declared.access.Op.TheVariants as op
use Rattle.vd_ring.specs.declared.frame.Frame.{Frame}
use Rattle.vd_ring.specs.declared.device.DeviceDone.{DeviceDone}
use Rattle.vd_ring.specs.declared.device.DeviceNow.{DeviceNow}
use Rattle.vd_ring.specs.declared.device.DeviceNow.TheVariants as now
use Rattle.vd_ring.specs.declared.device.DeviceView.{DeviceView}
use Rattle.vd_ring.specs.Frames.{limit}
use Rattle.vd_ring.specs.History.{takes, gives, heads, running, taken_head, chain_at, numbers, occurs, IsWhole}
use Rattle.vd_packed_ring.specs.PackedWords.{kick_at, id_of, len_of, names_table}
use Rattle.vd_packed_ring.specs.PackedChains.{pieces_of, pieces_in, has_table}
use Rattle.vd_packed_ring.specs.PackedPositions.{take_position, give_position, base_of}
use Rattle.vd_packed_ring.specs.PackedDevice.{device_side, device_act, device_shows}
use Rattle.vd_layout.specs.Begun.{DeviceOp}
use Rattle.vd_layout.specs.Device.{DeviceModel}
use Rattle.vd_packed.specs.declared.device.PackedDevice.{PackedDevice}
use Rattle.vd_packed.specs.declared.device.DeviceStep.{DeviceStep}
use Rattle.vd_packed.specs.declared.device.DeviceStep.TheVariants as step
use Rattle.vd_packed.specs.declared.ring_position.RingPosition.{RingPosition}
use Rattle.vd_packed.specs.DriverEnd.{IsMadeFor, packed_words}
use Rattle.vd_packed.specs.RingPositions.{IsAt, base_word}

-- the counts, the two positions and where they stand; no chain has more than 16 descriptors
pub record DeviceCounts (taken given : ℕ) (next used : RingPosition) (next_position used_position : ℕ) (f : Frame)
    (s : List DeviceDone) : Type 0 where
  pub takes : taken ≡ length (takes s)
  pub gives : given ≡ length (gives s)
  pub next_at : IsAt next f.size (take_position f s)
  pub used_at : IsAt used f.size (give_position f s)
  pub next_is : next_position ≡ take_position f s
  pub used_is : used_position ≡ give_position f s
  pub few : (k : ℕ) → needs f.features (chain_at (Rattle.vd_ring.specs.History.takes s) k) ≤ 16

-- each chain taken runs or is given, and only once
pub record TakesOnce (s : List DeviceDone) : Type 0 where
  pub each : (k : ℕ) → occurs k (running s) + occurs k (numbers (gives s)) ≡ (if nat_lt k (length (takes s)) then 1 else 0)
  pub count : length (takes s) ≡ length (gives s) + length (running s)
  pub as_many : length (heads s) ≡ length (takes s)

abbrev pub number_at : List (Option ℕ) → ℕ → Option ℕ
number_at table h = slice_index_or table h None

-- how many descriptors chain k has: one at least, and no more than the ring's places
abbrev pub IsCount : ℕ → Frame → List DeviceDone → ℕ → Type 0
IsCount n f s k = (n ≡ needs f.features (chain_at (takes s) k)) × (needs f.features (chain_at (takes s) k) ≤ f.size)
    × (0 < needs f.features (chain_at (takes s) k))

-- the running chains are in the table at their heads with their counts, and nothing else is
pub record HoldsRunning (table : List (Option ℕ)) (counts : List ℕ) (guesses : ℕ) (f : Frame) (s : List DeviceDone) : Type 0 where
  pub once : TakesOnce s
  pub places : length table ≡ f.size
  pub as_many : length counts ≡ f.size
  pub guessed : 0 < guesses
  pub kept : (k : ℕ) → 1 ≤ occurs k (running s) → number_at table (taken_head s k) ≡ Some k
  pub named : (h k : ℕ) → number_at table h ≡ Some k → (1 ≤ occurs k (running s)) × (taken_head s k ≡ h)
  pub counted : (k d : ℕ) → 1 ≤ occurs k (running s) → IsCount (slice_index_or counts (taken_head s k) d) f s k

-- the chain runs at this head, and may be given next
pub record IsNext (f : Frame) (s : List DeviceDone) (number head len : ℕ) : Type 0 where
  pub runs : 1 ≤ occurs number (running s)
  pub in_order : f.features.in_order ≡ true → number ≡ length (gives s)
  pub is_head : taken_head s number ≡ head
  pub inside : head < f.size
  pub small : len < 4294967296

-- a take has loaded the words of whole descriptors and then `more`, and is at the descriptor at this ring_position
pub record IsTaking (f : Frame) (s : List DeviceDone) (pieces : List Piece) (ring_position : RingPosition) (more : List ℕ)
    (d : DeviceNow) : Type 0 where
  pub word : ℕ
  pub words : List ℕ
  pub whole : List ℕ
  pub is : d ≡ now.Taking (word ∷ words)
  pub parts : word ∷ words ≡ whole ++ more
  pub direct : has_table f (word ∷ words) ≡ false
  pub limited : length (takes s) < limit f
  pub spelled : pieces_in whole ≡ pieces
  pub even : length whole ≡ 2 * length pieces
  pub here : IsAt ring_position f.size (take_position f s + length pieces)

-- a take has loaded the two words of a descriptor that names a table, the words of whole pieces of that and then `more`; the next
-- descriptor is at this ring_position
pub record IsTabling (f : Frame) (s : List DeviceDone) (pieces : List Piece) (second : ℕ) (ring_position : RingPosition) (more : List ℕ)
    (d : DeviceNow) : Type 0 where
  pub addr : ℕ
  pub words : List ℕ
  pub whole : List ℕ
  pub is : d ≡ now.Taking (second ∷ addr ∷ words)
  pub parts : words ≡ whole ++ more
  pub has : (f.features.indirect && names_table second) ≡ true
  pub limited : length (takes s) < limit f
  pub spelled : pieces_of whole ≡ pieces
  pub even : length whole ≡ 2 * length pieces
  pub here : IsAt ring_position f.size (take_position f s + 1)
  pub inside : id_of second < f.size
  pub left : length pieces < len_of second / 16
  pub few : len_of second / 16 ≤ 16

abbrev pub DeviceStepStands : DeviceStep → List Piece → ℕ → RingPosition → Frame → List DeviceDone → DeviceNow → Type 0
DeviceStepStands step.Idle ps w ring_position f s d = d ≡ now.Idle
DeviceStepStands step.Resting ps w ring_position f s d = (d ≡ now.Idle) × (running s ≡ []) × IsWhole s
DeviceStepStands step.Look ps w ring_position f s d = d ≡ now.Idle
DeviceStepStands step.Address ps w ring_position f s d = IsTaking f s ps ring_position (w ∷ []) d
DeviceStepStands step.Second ps w ring_position f s d = IsTaking f s ps ring_position [] d
DeviceStepStands step.TableAddress ps w ring_position f s d = IsTabling f s ps w ring_position [] d
DeviceStepStands (step.TableSecond a) ps w ring_position f s d = IsTabling f s ps w ring_position (a ∷ []) d
DeviceStepStands (step.Give k h n) ps w ring_position f s d = (d ≡ now.Idle) × IsNext f s k h n
DeviceStepStands (step.Check n) ps w ring_position f s d = (old : ℕ) × (d ≡ now.Checking old (give_position f s))
    × (old + n ≡ give_position f s) × (0 < n) × (n ≤ f.size)
DeviceStepStands step.Ring ps w ring_position f s d = (old : ℕ) × (new : ℕ) × (d ≡ now.Ringing old new)
DeviceStepStands step.Arm ps w ring_position f s d = d ≡ now.Idle
DeviceStepStands step.LookAgain ps w ring_position f s d = d ≡ now.Arming
DeviceStepStands step.Hear ps w ring_position f s d = d ≡ now.Idle
DeviceStepStands step.WakeArming ps w ring_position f s d = (d ≡ now.Disarming op.Arm) × (f.features.event_idx ≡ false)
DeviceStepStands step.WakeHearing ps w ring_position f s d = (d ≡ now.Disarming op.Hear) × (f.features.event_idx ≡ false)
DeviceStepStands step.Disarm ps w ring_position f s d = d ≡ now.Idle
DeviceStepStands step.Rest ps w ring_position f s d = (d ≡ now.Idle) × IsWhole s
DeviceStepStands step.RestLook ps w ring_position f s d = (d ≡ now.Resting) × IsWhole s

-- in which steps the end is armed
abbrev pub DeviceStepArmed : DeviceStep → Bool → Type 0
DeviceStepArmed step.Idle armed = Unit {0}
DeviceStepArmed step.Rest armed = Unit {0}
DeviceStepArmed step.LookAgain armed = armed ≡ true
DeviceStepArmed step.Hear armed = armed ≡ true
DeviceStepArmed step.Disarm armed = armed ≡ true
DeviceStepArmed _ armed = armed ≡ false

-- 1 where a bell may still be stored
abbrev pub device_owes : DeviceStep → ℕ
device_owes (step.Check n) = 1
device_owes step.Ring = 1
device_owes _ = 0

-- a step that ends with the disarming store, and its operation
abbrev pub Wakes : DeviceStep → Op → Type 0
Wakes step.WakeArming o = o ≡ op.Arm
Wakes step.WakeHearing o = o ≡ op.Hear
Wakes step.Disarm o = o ≡ op.Disarm
Wakes _ o = ⊥

-- a step of a check, a bell, an arming, a hearing, a disarming or a rest
abbrev pub IsSignal : DeviceStep → Type 0
IsSignal step.Idle = ⊥
IsSignal step.Resting = ⊥
IsSignal step.Look = ⊥
IsSignal step.Address = ⊥
IsSignal step.Second = ⊥
IsSignal step.TableAddress = ⊥
IsSignal (step.TableSecond a) = ⊥
IsSignal (step.Give k h n) = ⊥
IsSignal _ = Unit {0}

-- where it is armed, what it heard, and how many bells it stored: no more than chains it gave
pub record DeviceSignals (armed : Bool) (heard bells given : ℕ) (doing : DeviceStep) (v : DeviceView) : Type 0 where
  pub is_armed : v.armed ≡ (if armed then Some (take_position v.frame v.done) else None)
  pub hears : heard ≡ v.heard
  pub rings : bells ≡ v.bells
  pub few : bells + device_owes doing ≤ given
  pub awake : DeviceStepArmed doing armed

pub record DeviceStands (e : PackedDevice) (v : DeviceView) : Type 0 where
  pub made : IsMadeFor e.size e.features v.frame
  pub counts : DeviceCounts e.taken e.given e.next e.used e.next_position e.used_position v.frame v.done
  pub holds : HoldsRunning e.running.items e.counts.items (length e.guesses.items) v.frame v.done
  pub kick : e.kick ≡ kick_at v.frame
  pub signals : DeviceSignals e.armed e.heard e.bells e.given e.doing v
  pub doing : DeviceStepStands e.doing e.pieces.items e.second e.at v.frame v.done v.doing

-- ---- the operation that is begun, and the accesses that it still takes at most

abbrev pub device_begun : DeviceStep → DeviceOp
device_begun step.Idle = DeviceOp.idle
device_begun step.Resting = DeviceOp.idle
device_begun step.Look = DeviceOp.take
device_begun step.Address = DeviceOp.take
device_begun step.Second = DeviceOp.take
device_begun step.TableAddress = DeviceOp.take
device_begun (step.TableSecond a) = DeviceOp.take
device_begun (step.Give k h n) = DeviceOp.give k n
device_begun (step.Check n) = DeviceOp.signal
device_begun step.Ring = DeviceOp.signal
device_begun step.Arm = DeviceOp.arm
device_begun step.LookAgain = DeviceOp.arm
device_begun step.Hear = DeviceOp.hear
device_begun step.WakeArming = DeviceOp.arm
device_begun step.WakeHearing = DeviceOp.hear
device_begun step.Disarm = DeviceOp.disarm
device_begun step.Rest = DeviceOp.rest
device_begun step.RestLook = DeviceOp.rest

-- by the number of pieces loaded so far
abbrev pub device_left : DeviceStep → ℕ → ℕ
device_left step.Idle n = 0
device_left step.Resting n = 0
device_left step.Look n = 36
device_left step.Address n = 2 * (16 - n) + 3
device_left step.Second n = 2 * (16 - n) + 4
device_left step.TableAddress n = 2 * (16 - n) + 2
device_left (step.TableSecond a) n = 2 * (16 - n) + 1
device_left (step.Give k h l) n = 3
device_left (step.Check k) n = 2
device_left step.Ring n = 1
device_left step.Arm n = 3
device_left step.LookAgain n = 2
device_left step.Hear n = 2
device_left step.WakeArming n = 1
device_left step.WakeHearing n = 1
device_left step.Disarm n = 1
device_left step.Rest n = 2
device_left step.RestLook n = 1

abbrev pub is_resting : DeviceStep → Bool
is_resting step.Resting = true
is_resting _ = false

abbrev pub is_idle : DeviceStep → Bool
is_idle step.Idle = true
is_idle _ = false

abbrev pub packed_device : DeviceModel PackedDevice
packed_device = record {
  side = device_side;
  act = device_act;
  shows = device_shows;
  stands = DeviceStands;
  begun = λ e. device_begun e.doing;
  loaded = λ e. e.pieces.items;
  armed = λ e. e.armed;
  left = λ e. device_left e.doing (length e.pieces.items);
  size = λ e. e.size;
  features = λ e. e.features;
  resting = λ e. is_resting e.doing;
  fresh = λ e. (is_idle e.doing && (nat_eq e.taken 0 && nat_eq e.given 0)) && not e.armed;
  words = packed_words;
  base = λ e. base_word e.next;
  base_of = base_of;
}
