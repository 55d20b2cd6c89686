-- For which views the driver's end of a packed ring stands, and what it has begun.
use Rattle.std.specs.Prelude.{◌≡◌, ℕ, zero, suc, ◌+◌, ◌-◌, ◌*◌, ◌/◌, ◌<◌, ◌≤◌, Bool, true, false, if◌then◌else◌, List, length, take, Some, None, slice_index_or}
use Rattle.vd_model.specs.declared.chain.Piece.{Piece}
use Rattle.vd_model.specs.declared.features.Features.{Features}
use Rattle.vd_model.specs.Chains.{needs}
use Rattle.vd_words.specs.declared.access.Op.{Op}
use Rattle.vd_words.specs.declared.access.Op.TheVariants as op
use Rattle.vd_ring.specs.declared.frame.Frame.{Frame}
use Rattle.vd_ring.specs.declared.frame.Put.{Put}
use Rattle.vd_ring.specs.declared.driver.DriverDone.{DriverDone}
use Rattle.vd_ring.specs.declared.driver.DriverNow.{DriverNow}
use Rattle.vd_ring.specs.declared.driver.DriverNow.TheVariants as now
use Rattle.vd_ring.specs.declared.driver.DriverView.{DriverView}
use Rattle.vd_ring.specs.History.{offers, collects, open_at, open_size, free, chain, head, occurs}
use Rattle.vd_ring.specs.Places.{Places}
use Rattle.vd_packed_ring.specs.PackedWords.{IsLawful, kick_at, command_word, ack_word}
use Rattle.vd_packed_ring.specs.PackedChains.{is_tabled}
use Rattle.vd_packed_ring.specs.PackedPositions.{offer_position, collect_position}
use Rattle.vd_packed_ring.specs.PackedDriver.{CanOffer, plan, driver_side, driver_act, driver_shows}
use Rattle.vd_layout.specs.Begun.{DriverOp}
use Rattle.vd_layout.specs.Control.{ControlWords}
use Rattle.vd_layout.specs.Driver.{DriverModel}
use Rattle.vd_packed.specs.declared.driver.PackedDriver.{PackedDriver}
use Rattle.vd_packed.specs.declared.driver.Slot.{Slot}
use Rattle.vd_packed.specs.declared.driver.DriverStep.{DriverStep}
use Rattle.vd_packed.specs.declared.driver.DriverStep.TheVariants as step
use Rattle.vd_packed.specs.declared.ring_position.RingPosition.{RingPosition}
use Rattle.vd_packed.specs.RingPositions.{IsAt}

-- where commands and acks stand in a packed ring
abbrev pub packed_words : ControlWords
packed_words = record { command = command_word; ack = ack_word }

-- what the end was made with is what the ring was made with
pub record IsMadeFor (size : ℕ) (features : Features) (f : Frame) : Type 0 where
  pub sized : size ≡ f.size
  pub featured : features ≡ f.features
  pub lawful : IsLawful f

-- the counts, the two positions and where they stand, and how many places the open chains leave
pub record DriverCounts (offered collected : ℕ) (next used : RingPosition) (next_position used_position space : ℕ) (f : Frame)
    (o : List DriverDone) : Type 0 where
  pub offers : offered ≡ length (offers o)
  pub collects : collected ≡ length (collects o)
  pub next_at : IsAt next f.size (offer_position f o)
  pub used_at : IsAt used f.size (collect_position f o)
  pub next_is : next_position ≡ offer_position f o
  pub used_is : used_position ≡ collect_position f o
  pub left : space + open_size f o ≡ f.size

-- a slot keeps the open chain k
abbrev pub Keeps : Slot → Frame → List DriverDone → ℕ → Type 0
Keeps s f o k = (s.number ≡ k) × (s.count ≡ needs f.features (chain o k))

-- the queue of free ids, and each open chain in the slot of its id
pub record HoldsIds (queue : List ℕ) (capacity : ℕ) (slots : List Slot) (f : Frame) (o : List DriverDone) : Type 0 where
  pub held : Places f o
  pub queued : queue ≡ free f o
  pub room : capacity ≡ f.size
  pub as_many : length slots ≡ f.size
  pub open_chains : (k : ℕ) (d : Slot) → 1 ≤ occurs k (open_at o) → Keeps (slice_index_or slots (head f o k) d) f o k

-- the operation in a view after so many stores of an offer
abbrev pub offering : ℕ → List Put → DriverNow
offering zero ps = now.Idle
offering (suc n) ps = now.Offering ps

-- an offer's next store is number `at`; `ring_position` is where its descriptor stands, or, of a chain by a table, the first after its one
abbrev pub DriverStepStands : DriverStep → List Piece → RingPosition → Frame → List DriverDone → DriverNow → Type 0
DriverStepStands step.Idle c ring_position f o d = d ≡ now.Idle
DriverStepStands (step.Describe at) c ring_position f o d = CanOffer f o c × (at + 1 < 2 * length c)
    × IsAt ring_position f.size (offer_position f o + (at + 1) / 2) × (d ≡ offering at (take at (plan f o c))) × (is_tabled f c ≡ false)
DriverStepStands (step.Table at) c ring_position f o d = CanOffer f o c × (at < 2 * length c + 1)
    × IsAt ring_position f.size (offer_position f o + 1) × (d ≡ offering at (take at (plan f o c))) × (is_tabled f c ≡ true)
DriverStepStands step.Publish c ring_position f o d =
    CanOffer f o c × IsAt ring_position f.size (offer_position f o + needs f.features c) × (d ≡ now.Offering (plan f o c))
DriverStepStands step.Look c ring_position f o d = d ≡ now.Idle
DriverStepStands (step.Check n) c ring_position f o d = (old : ℕ) × (d ≡ now.Checking old (offer_position f o))
    × (old + n ≡ offer_position f o) × (0 < n) × (n ≤ f.size)
DriverStepStands step.Ring c ring_position f o d = (old : ℕ) × (new : ℕ) × (d ≡ now.Ringing old new)
DriverStepStands step.Arm c ring_position f o d = d ≡ now.Idle
DriverStepStands step.LookAgain c ring_position f o d = d ≡ now.Arming
DriverStepStands step.Hear c ring_position f o d = d ≡ now.Idle
DriverStepStands step.WakeArming c ring_position f o d = (d ≡ now.Disarming op.Arm) × (f.features.event_idx ≡ false)
DriverStepStands step.WakeHearing c ring_position f o d = (d ≡ now.Disarming op.Hear) × (f.features.event_idx ≡ false)
DriverStepStands step.Disarm c ring_position f o d = d ≡ now.Idle

-- in which steps the end is armed
abbrev pub DriverStepArmed : DriverStep → Bool → Type 0
DriverStepArmed step.Idle armed = Unit {0}
DriverStepArmed step.LookAgain armed = armed ≡ true
DriverStepArmed step.Hear armed = armed ≡ true
DriverStepArmed step.Disarm armed = armed ≡ true
DriverStepArmed _ armed = armed ≡ false

-- 1 where a bell may still be stored
abbrev pub driver_owes : DriverStep → ℕ
driver_owes (step.Check n) = 1
driver_owes step.Ring = 1
driver_owes _ = 0

-- a step that ends with the disarming store, and its operation
abbrev pub Wakes : DriverStep → Op → Type 0
Wakes step.WakeArming o = o ≡ op.Arm
Wakes step.WakeHearing o = o ≡ op.Hear
Wakes step.Disarm o = o ≡ op.Disarm
Wakes _ o = ⊥

-- a step of a check, a bell, an arming, a hearing or a disarming
abbrev pub IsSignal : DriverStep → Type 0
IsSignal step.Idle = ⊥
IsSignal (step.Describe at) = ⊥
IsSignal (step.Table at) = ⊥
IsSignal step.Publish = ⊥
IsSignal step.Look = ⊥
IsSignal _ = Unit {0}

-- where it is armed, what it heard, and how many bells it stored: no more than chains it offered
pub record DriverSignals (armed : Bool) (heard bells offered : ℕ) (doing : DriverStep) (v : DriverView) : Type 0 where
  pub is_armed : v.armed ≡ (if armed then Some (collect_position v.frame v.done) else None)
  pub hears : heard ≡ v.heard
  pub rings : bells ≡ v.bells
  pub few : bells + driver_owes doing ≤ offered
  pub awake : DriverStepArmed doing armed

pub record DriverStands (e : PackedDriver) (v : DriverView) : Type 0 where
  pub made : IsMadeFor e.size e.features v.frame
  pub counts : DriverCounts e.offered e.collected e.next e.used e.next_position e.used_position e.space v.frame v.done
  pub holds : HoldsIds e.free.items e.free.capacity e.slots.items v.frame v.done
  pub kick : e.kick ≡ kick_at v.frame
  pub signals : DriverSignals e.armed e.heard e.bells e.offered e.doing v
  pub doing : DriverStepStands e.doing e.pieces.items e.at v.frame v.done v.doing

-- ---- the operation that is begun, and the accesses that it still takes at most

abbrev pub driver_begun : DriverStep → List Piece → DriverOp
driver_begun step.Idle c = DriverOp.idle
driver_begun (step.Describe at) c = DriverOp.offer c
driver_begun (step.Table at) c = DriverOp.offer c
driver_begun step.Publish c = DriverOp.offer c
driver_begun step.Look c = DriverOp.collect
driver_begun (step.Check n) c = DriverOp.signal
driver_begun step.Ring c = DriverOp.signal
driver_begun step.Arm c = DriverOp.arm
driver_begun step.LookAgain c = DriverOp.arm
driver_begun step.Hear c = DriverOp.hear
driver_begun step.WakeArming c = DriverOp.arm
driver_begun step.WakeHearing c = DriverOp.hear
driver_begun step.Disarm c = DriverOp.disarm

abbrev pub driver_left : DriverStep → List Piece → ℕ
driver_left step.Idle c = 0
driver_left (step.Describe at) c = 2 * length c - at + 3
driver_left (step.Table at) c = 2 * length c - at + 4
driver_left step.Publish c = 3
driver_left step.Look c = 1
driver_left (step.Check n) c = 2
driver_left step.Ring c = 1
driver_left step.Arm c = 3
driver_left step.LookAgain c = 2
driver_left step.Hear c = 2
driver_left step.WakeArming c = 1
driver_left step.WakeHearing c = 1
driver_left step.Disarm c = 1

abbrev pub packed_driver : DriverModel PackedDriver
packed_driver = record {
  side = driver_side;
  act = driver_act;
  shows = driver_shows;
  stands = DriverStands;
  begun = λ e. driver_begun e.doing e.pieces.items;
  armed = λ e. e.armed;
  left = λ e. driver_left e.doing e.pieces.items;
  size = λ e. e.size;
  features = λ e. e.features;
  words = packed_words;
}
