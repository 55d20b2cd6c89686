-- For which views the driver's end of a split ring stands, and what it has begun.
use Rattle.std.specs.Prelude.{◌≡◌, ℕ, zero, suc, ◌+◌, ◌-◌, ◌*◌, ◌/◌, ◌%◌, ◌<◌, ◌≤◌, Bool, true, false, if◌then◌else◌, List, [], ◌∷◌, length, take, Some, None, slice_index_or}
use Rattle.vd_bits.specs.Lanes.{lane32}
use Rattle.vd_model.specs.declared.chain.Piece.{Piece}
use Rattle.vd_model.specs.declared.features.Features.{Features}
use Rattle.vd_words.specs.declared.access.Op.{Op}
use Rattle.vd_words.specs.declared.access.Op.TheVariants as op
use Rattle.vd_ring.specs.declared.frame.Frame.{Frame}
use Rattle.vd_ring.specs.declared.frame.Put.{Put}
use Rattle.vd_ring.specs.declared.driver.DriverDone.{DriverDone}
use Rattle.vd_ring.specs.declared.driver.DriverNow.{DriverNow}
use Rattle.vd_ring.specs.declared.driver.DriverNow.TheVariants as now
use Rattle.vd_ring.specs.declared.driver.DriverView.{DriverView}
use Rattle.vd_ring.specs.History.{offers, collects, open_at, free, places, head, occurs}
use Rattle.vd_ring.specs.Places.{Places}
use Rattle.vd_split_ring.specs.SplitWords.{IsLawful, is_tabled, avail_from, kick_at, width, command_word, ack_word}
use Rattle.vd_split_ring.specs.SplitDriver.{CanOffer, NamesOpen, plan, driver_side, driver_act, driver_shows}
use Rattle.vd_layout.specs.Begun.{DriverOp}
use Rattle.vd_layout.specs.Control.{ControlWords}
use Rattle.vd_layout.specs.Driver.{DriverModel}
use Rattle.vd_split.specs.declared.driver.SplitDriver.{SplitDriver}
use Rattle.vd_split.specs.declared.driver.Slot.{Slot}
use Rattle.vd_split.specs.declared.driver.DriverStep.{DriverStep}
use Rattle.vd_split.specs.declared.driver.DriverStep.TheVariants as step
use Rattle.vd_split.specs.Parts.{Copies}

-- where commands and acks stand in a split ring
abbrev pub split_words : ControlWords
split_words = record { command = command_word; ack = ack_word }

-- what the end was made with is what the ring was made with
pub record IsMadeFor (size : ℕ) (features : Features) (f : Frame) : Type 0 where
  pub sized : size ≡ f.size
  pub featured : features ≡ f.features
  pub lawful : IsLawful f

-- the counts, and their places round the ring
pub record DriverCounts (offered collected entry used : ℕ) (f : Frame) (o : List DriverDone) : Type 0 where
  pub offers : offered ≡ length (offers o)
  pub collects : collected ≡ length (collects o)
  pub entry_at : entry ≡ length (Rattle.vd_ring.specs.History.offers o) % f.size
  pub used_at : used ≡ length (Rattle.vd_ring.specs.History.collects o) % f.size

-- a slot keeps the open chain k
abbrev pub Keeps : Slot → Frame → List DriverDone → ℕ → Type 0
Keeps s f o k = (s.number ≡ k) × (s.places.items ≡ places f o k)

-- the queue of free places, and each open chain in the slot of its head
pub record HoldsPlaces (queue : List ℕ) (capacity : ℕ) (slots : List Slot) (f : Frame) (o : List DriverDone) : Type 0 where
  pub held : Places f o
  pub queued : queue ≡ free f o
  pub room : capacity ≡ f.size
  pub as_many : length slots ≡ f.size
  pub open_chains : (k : ℕ) (d : Slot) → 1 ≤ occurs k (open_at o) → Keeps (slice_index_or slots (head f o k) d) f o k

-- the operation in a view after so many stores of an offer
abbrev pub offering : ℕ → List Put → DriverNow
offering zero ps = now.Idle
offering (suc n) ps = now.Offering ps

abbrev pub DriverStepStands : DriverStep → List Piece → Frame → List DriverDone → DriverNow → Type 0
DriverStepStands step.Idle c f o d = d ≡ now.Idle
DriverStepStands (step.Describe at) c f o d = CanOffer f o c × (is_tabled f c ≡ false) × (at < 2 * length c)
    × (d ≡ offering at (take at (plan f o c)))
DriverStepStands (step.Table at) c f o d = CanOffer f o c × (is_tabled f c ≡ true) × (at < 2 * length c + 2)
    × (d ≡ offering at (take at (plan f o c)))
DriverStepStands step.Enter c f o d = CanOffer f o c × (d ≡ now.Offering (plan f o c))
DriverStepStands step.Publish c f o d = CanOffer f o c × (d ≡ now.Entered (plan f o c))
DriverStepStands step.Look c f o d = d ≡ now.Idle
DriverStepStands (step.Find r) c f o d = d ≡ now.Collecting (r ∷ [])
DriverStepStands (step.Finish r w) c f o d = (d ≡ now.Collecting (r ∷ w ∷ [])) × NamesOpen f o (lane32 w 1)
DriverStepStands (step.Check old new) c f o d = (d ≡ now.Checking old new) × (old < new) × (new - old ≤ 32768)
DriverStepStands (step.Ring old new) c f o d = d ≡ now.Ringing old new
DriverStepStands step.Arm c f o d = d ≡ now.Idle
DriverStepStands step.LookAgain c f o d = d ≡ now.Arming
DriverStepStands step.Hear c f o d = d ≡ now.Idle
DriverStepStands step.WakeArming c f o d = (d ≡ now.Disarming op.Arm) × (f.features.event_idx ≡ false)
DriverStepStands step.WakeHearing c f o d = (d ≡ now.Disarming op.Hear) × (f.features.event_idx ≡ false)
DriverStepStands step.Disarm c f o d = d ≡ now.Idle

-- in which steps the end is armed
abbrev pub DriverStepArmed : DriverStep → Bool → Type 0
DriverStepArmed step.Idle armed = Unit {0}
DriverStepArmed step.LookAgain armed = armed ≡ true
DriverStepArmed step.Hear armed = armed ≡ true
DriverStepArmed step.Disarm armed = armed ≡ true
DriverStepArmed _ armed = armed ≡ false

-- 1 where a bell may still be stored
abbrev pub driver_owes : DriverStep → ℕ
driver_owes (step.Check old new) = 1
driver_owes (step.Ring old new) = 1
driver_owes _ = 0

-- a step that ends with the disarming store, and its operation
abbrev pub Wakes : DriverStep → Op → Type 0
Wakes step.WakeArming o = o ≡ op.Arm
Wakes step.WakeHearing o = o ≡ op.Hear
Wakes step.Disarm o = o ≡ op.Disarm
Wakes _ o = ⊥

-- where it is armed, what it heard, and how many bells it stored: no more than ranges it published
pub record DriverSignals (armed : Bool) (heard bells offered : ℕ) (doing : DriverStep) (v : DriverView) : Type 0 where
  pub is_armed : v.armed ≡ (if armed then Some (length (collects v.done)) else None)
  pub hears : heard ≡ v.heard
  pub rings : bells ≡ v.bells
  pub few : bells + driver_owes doing ≤ offered
  pub awake : DriverStepArmed doing armed

pub record DriverStands (e : SplitDriver) (v : DriverView) : Type 0 where
  pub made : IsMadeFor e.size e.features v.frame
  pub counts : DriverCounts e.offered e.collected e.entry e.used v.frame v.done
  pub holds : HoldsPlaces e.free.items e.free.capacity e.slots.items v.frame v.done
  pub area : Copies e.area.items (avail_from v.frame) ((v.frame.size + 6) / 4) v.stored
  pub wide : length v.stored ≡ width v.frame
  pub shown : e.shown ≡ v.shown
  pub kick : e.kick ≡ kick_at v.frame
  pub signals : DriverSignals e.armed e.heard e.bells e.offered e.doing v
  pub doing : DriverStepStands e.doing e.pieces.items v.frame v.done v.doing

-- ---- the operation that is begun, and the accesses that it still takes at most

abbrev pub driver_begun : DriverStep → List Piece → DriverOp
driver_begun step.Idle c = DriverOp.idle
driver_begun (step.Describe at) c = DriverOp.offer c
driver_begun (step.Table at) c = DriverOp.offer c
driver_begun step.Enter c = DriverOp.offer c
driver_begun step.Publish c = DriverOp.offer c
driver_begun step.Look c = DriverOp.collect
driver_begun (step.Find r) c = DriverOp.collect
driver_begun (step.Finish r w) c = DriverOp.collect
driver_begun (step.Check old new) c = DriverOp.signal
driver_begun (step.Ring old new) c = DriverOp.signal
driver_begun step.Arm c = DriverOp.arm
driver_begun step.LookAgain c = DriverOp.arm
driver_begun step.Hear c = DriverOp.hear
driver_begun step.WakeArming c = DriverOp.arm
driver_begun step.WakeHearing c = DriverOp.hear
driver_begun step.Disarm c = DriverOp.disarm

abbrev pub driver_left : DriverStep → List Piece → ℕ
driver_left step.Idle c = 0
driver_left (step.Describe at) c = 2 * length c - at + 4
driver_left (step.Table at) c = 2 * length c + 2 - at + 4
driver_left step.Enter c = 4
driver_left step.Publish c = 3
driver_left step.Look c = 3
driver_left (step.Find r) c = 2
driver_left (step.Finish r w) c = 1
driver_left (step.Check old new) c = 2
driver_left (step.Ring old new) c = 1
driver_left step.Arm c = 3
driver_left step.LookAgain c = 2
driver_left step.Hear c = 2
driver_left step.WakeArming c = 1
driver_left step.WakeHearing c = 1
driver_left step.Disarm c = 1

abbrev pub split_driver : DriverModel SplitDriver
split_driver = record {
  side = driver_side;
  act = driver_act;
  shows = driver_shows;
  stands = DriverStands;
  begun = λ e. driver_begun e.doing e.pieces.items;
  armed = λ e. e.armed;
  left = λ e. driver_left e.doing e.pieces.items;
  size = λ e. e.size;
  features = λ e. e.features;
  words = split_words;
}
