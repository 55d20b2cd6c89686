-- What a guest of the control queue does: it offers the commands of its script, in order, each once, and keeps what came back of each
-- with its ack. Lists of acts have the newest first.
use Rattle.std.specs.Prelude.{◌≡◌, ℕ, ◌+◌, ◌*◌, ◌%◌, ◌<◌, ◌≤◌, true, false, Option, Some, None, List, [], ◌∷◌, length, map, slice_get}
use Rattle.std.specs.List.{All}
use Rattle.vd_model.specs.declared.chain.Piece.{Piece}
use Rattle.vd_model.specs.declared.record.Return.{Return}
use Rattle.vd_model.specs.declared.record.Script.{Script}
use Rattle.vd_ring.specs.declared.driver.DriverDone.{DriverDone}
use Rattle.vd_ring.specs.declared.driver.DriverNow.TheVariants as now
use Rattle.vd_ring.specs.declared.driver.DriverView.{DriverView}
use Rattle.vd_ring.specs.declared.frame.Frame.{Frame}
use Rattle.vd_ring.specs.declared.frame.Used.{Used}
use Rattle.vd_ring.specs.Control.{command_of}
use Rattle.vd_ring.specs.History.{offers, collects, chain, head, next_head, used_at}
use Rattle.vd_layout.specs.Control.{ControlWords}
use Rattle.vd_layout.specs.Driver.{HasRoom}
use Rattle.vd_layout.specs.Layout.{LayoutModel}
use Rattle.vd_commands.specs.Loads.{ack_load}
use Rattle.vd_commands.specs.Words.{command_word}

-- the bytes of each command of a script
abbrev pub commands : Script → List (List ℕ)
commands s = map (λ b. b.items) s.commands

abbrev pub HasCommands : Script → Type 0
HasCommands s = s.commands ≡ [] → ⊥

-- the control chain with so many bytes of a command, at the places of a head's first command word and ack word
abbrev pub control_chain : ℕ → ℕ → ℕ → List Piece
control_chain at_command at_ack len =
    record { addr = 8 * at_command; len = len; write = false } ∷ record { addr = 8 * at_ack; len = 1; write = true } ∷ []

-- the control chain of a command at a head
abbrev pub command_chain : ControlWords → Frame → ℕ → List ℕ → List Piece
command_chain words f h bytes = control_chain (words.command f h) (words.ack f h) (length bytes)

-- chain k is the control chain of its head with as many bytes as the command has, and the two command words that were stored for it
-- before its offer are the command's bytes, filled up with zeros
pub record Carries (words : ControlWords) (f : Frame) (o : List DriverDone) (k : ℕ) (bytes : List ℕ) : Type 0 where
  pub is : chain o k ≡ command_chain words f (head f o k) bytes
  pub first : command_of f o k 0 ≡ command_word bytes 0
  pub second : command_of f o k 1 ≡ command_word bytes 1

-- the chains offered are the first commands of the script, in order, each once
pub record HasSent (words : ControlWords) (s : Script) (f : Frame) (o : List DriverDone) : Type 0 where
  pub some : length (offers o) ≤ length s.commands
  pub each : (k : ℕ) (bytes : List ℕ) → k < length (offers o) → slice_get (commands s) k ≡ Some bytes → Carries words f o k bytes

-- what came back is the entry collected, with the low byte of the ack word that was loaded for its chain
pub record IsAcked (o : List DriverDone) (u : Used) (r : Return) : Type 0 where
  pub number : r.number ≡ u.number
  pub len : r.len ≡ u.len
  pub word : ℕ
  pub loaded : ack_load o u.number ≡ Some word
  pub ack : r.ack ≡ word % 256

-- the list is what was collected, in order, each with its ack. At most the entry collected last, whose ack is not loaded, isn't in it yet
pub record AreAcked (o : List DriverDone) (rs : List Return) : Type 0 where
  pub some : length rs ≤ length (collects o)
  pub last : length (collects o) ≤ length rs + 1
  pub each : (j : ℕ) (r : Return) → slice_get rs j ≡ Some r → IsAcked o (used_at (collects o) j) r

-- all commands were offered, collected and acknowledged, and the end is idle
pub record HasSentAll (s : Script) (v : DriverView) (rs : List Return) : Type 0 where
  pub offers : length (Rattle.vd_ring.specs.History.offers v.done) ≡ length s.commands
  pub collects : length (Rattle.vd_ring.specs.History.collects v.done) ≡ length s.commands
  pub returned : length rs ≡ length s.commands
  pub idle : v.doing ≡ now.Idle

-- no command of the script is left, or the next has no room
abbrev pub CannotSend : ControlWords → Script → Frame → List DriverDone → Type 0
CannotSend words s f o = (bytes : List ℕ) → slice_get (commands s) (length (offers o)) ≡ Some bytes
    → HasRoom f o (command_chain words f (next_head f o) bytes) → ⊥

-- a command has 3 to 10 bytes
abbrev pub IsCommandLength : ℕ → Type 0
IsCommandLength n = (3 ≤ n) × (n ≤ 10)

-- what a boot with commands needs of the ring: it is a control ring of a size that the layout allows, without bounds
pub record CanSend (l : LayoutModel) (s : Script) (f : Frame) : Type 0 where
  pub control : f.control ≡ true
  pub sized : l.lawful_size f.size ≡ true
  pub free : f.bounds ≡ None
  pub lengths : All (λ bytes. IsCommandLength (length bytes)) (commands s)
