-- The chain of a control ring that a model device has in hand, and how its chains look to a device of a data queue.
use Rattle.std.specs.Prelude.{◌≡◌, ℕ, ◌+◌, ◌-◌, ◌/◌, ◌<◌, ◌≤◌, Some, List, [], ◌∷◌, ◌++◌, length, map, drop, slice_get, slice_index_or}
use Rattle.std.specs.List.{All}
use Rattle.vd_model.specs.declared.chain.Piece.{Piece}
use Rattle.vd_model.specs.declared.record.Begun.{Begun}
use Rattle.vd_model.specs.Chains.{blank}
use Rattle.vd_ring.specs.declared.device.DeviceDone.{DeviceDone}
use Rattle.vd_ring.specs.declared.frame.Frame.{Frame}
use Rattle.vd_ring.specs.declared.frame.Used.{Used}
use Rattle.vd_ring.specs.History.{takes, gives, running, taken_head, occurs}
use Rattle.vd_ring.specs.Control.{IsControlChain, last_ack}
use Rattle.vd_layout.specs.Control.{ControlWords}
use Rattle.vd_control.specs.declared.settings.Settings.{Settings}
use Rattle.vd_commands.specs.Loads.{loaded, command_loads}
use Rattle.vd_commands.specs.Words.{word_bytes, ack_byte}
use Rattle.vd_bus.specs.declared.device.Attached.{Attached}
use Rattle.vd_bus.specs.DeviceCommands.{IsExecuted, IsAnswered, ack_store}
use Rattle.vd_models.specs.declared.hand.Hand.{Hand}
use Rattle.vd_models.specs.declared.hand.Hand.TheVariants.{Free, Taken, Loaded, Executed}
use Rattle.vd_models.specs.Holding.{begun_of}

-- ---- the chain

-- a control chain, whose words have places of 32 bits
pub record IsCommandChain (c : List Piece) : Type 0 where
  pub command : ℕ
  pub ack : ℕ
  pub is : IsControlChain command ack c
  pub low : (command + 1 < 4294967296) × (ack < 4294967296)

abbrev pub command_place : List Piece → ℕ
command_place c = (slice_index_or c 0 blank).addr / 8

abbrev pub ack_place : List Piece → ℕ
ack_place c = (slice_index_or c 1 blank).addr / 8

abbrev pub command_len : List Piece → ℕ
command_len c = (slice_index_or c 0 blank).len

-- the chain as it is begun by its two command words
abbrev pub executed_of : List Piece → ℕ → ℕ → Begun
executed_of c first second = record { chain = c; len = 1; bytes = record { items = word_bytes (command_len c) first second } }

-- ---- as a device of a data queue would have begun them: at the take, and without bytes

abbrev pub plain : Begun → Begun
plain b = record { chain = b.chain; len = b.len; bytes = record { items = [] } }

-- what is taken and not begun
abbrev pub waiting : Hand → List Begun
waiting (Taken c) = begun_of c ∷ []
waiting (Loaded c first) = begun_of c ∷ []
waiting _ = []

abbrev pub seen : List Begun → Hand → List Begun
seen bs hand = map plain bs ++ waiting hand

-- ---- what is done with them

-- the number on the ring of the chain that is begun next
abbrev pub next_number : List Begun → Attached → ℕ
next_number bs by = length bs - by.at + by.from

-- chain k alone is taken and not given, was taken last, and its command isn't executed
pub record IsNew (words : ControlWords) (f : Frame) (c : List Piece) (k : ℕ) (s : List DeviceDone) : Type 0 where
  pub runs : running s ≡ k ∷ []
  pub last : length (takes s) ≡ k + 1
  pub chain : IsControlChain (words.command f (taken_head s k)) (words.ack f (taken_head s k)) c

-- chain k alone is taken and not given, and its command was executed
pub record IsOwed (words : ControlWords) (f : Frame) (p a : ℕ) (bs : List Begun) (by : Attached) (s : List DeviceDone) : Type 0 where
  pub number : ℕ
  pub runs : running s ≡ number ∷ []
  pub chain : Begun
  pub since : by.from ≤ number
  pub is : slice_get bs (number - by.from + by.at) ≡ Some chain
  pub ack : a ≡ ack_byte chain.bytes.items
  pub place : p ≡ words.ack f (taken_head s number)

-- chain k may be given: its ack is stored
pub record IsReady (bs : List Begun) (by : Attached) (s : List DeviceDone) (k : ℕ) : Type 0 where
  pub chain : Begun
  pub since : by.from ≤ k
  pub is : slice_get bs (k - by.from + by.at) ≡ Some chain
  pub stored : ack_store s k ≡ Some (ack_byte chain.bytes.items)
  pub stands : last_ack s (taken_head s k) ≡ ack_byte chain.bytes.items

abbrev pub HandIs : ControlWords → Frame → Hand → List Begun → Attached → List DeviceDone → Type 0
HandIs words f Free bs by s = (k : ℕ) → 1 ≤ occurs k (running s) → IsReady bs by s k
HandIs words f (Taken c) bs by s = IsNew words f c (next_number bs by) s × (command_loads s (next_number bs by) ≡ [])
HandIs words f (Loaded c first) bs by s = IsNew words f c (next_number bs by) s
    × (command_loads s (next_number bs by) ≡ loaded 0 first ∷ [])
HandIs words f (Executed place ack) bs by s = IsOwed words f place ack bs by s

-- the chain was answered and given, once
pub record IsClosed (bs : List Begun) (by : Attached) (s : List DeviceDone) (u : Used) : Type 0 where
  pub answered : IsAnswered bs by.at by.from s u
  pub taken : u.number < length (takes s)
  pub over : occurs u.number (running s) ≡ 0

pub record Executes (words : ControlWords) (f : Frame) (hand : Hand) (by : Attached) (bs : List Begun) (s : List DeviceDone) : Type 0 where
  pub after : by.at ≤ length bs
  pub each : (i : ℕ) (b : Begun) → slice_get (drop by.at bs) i ≡ Some b → IsExecuted s (by.from + i) b
  pub given : All (IsClosed bs by s) (drop by.from (gives s))
  pub in_hand : HandIs words f hand bs by s
