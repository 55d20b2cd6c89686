-- The commands and acks of a control ring: the chains that carry them, what each side stores and loads for each chain, and what
-- always holds of it. `command` and `ack` are the layout's: the place of a head's first command word, and of its ack word.
use Rattle.std.specs.Prelude.{◌≡◌, ℕ, ◌+◌, ◌*◌, ◌<◌, ◌≤◌, ◌==◌, ◌&&◌, nat_lt, true, false, List, [], ◌∷◌, length, Option, Some, None, if◌then◌else◌, slice_index}
use Rattle.std.specs.List.{Contains}
use Rattle.vd_model.specs.declared.chain.Piece.{Piece}
use Rattle.vd_ring.specs.declared.frame.Frame.{Frame}
use Rattle.vd_ring.specs.declared.driver.DriverDone.{DriverDone}
use Rattle.vd_ring.specs.declared.driver.DriverDone.TheVariants.{Offer, Collect, StoreCommand, LoadAck}
use Rattle.vd_ring.specs.declared.device.DeviceDone.{DeviceDone}
use Rattle.vd_ring.specs.declared.device.DeviceDone.TheVariants.{Take, Give, Rest, StoreAck, LoadCommand}
use Rattle.vd_ring.specs.History.{offers, collects, free, head, next_head, chain, open_at, gives, running, taken_head, numbers, occurs, used_at, last_used}

-- a control chain of a head: one readable piece, the command's 3 to 10 bytes at the head's first command word, and one writable
-- piece, the byte at its ack word. The two numbers are the places of these words in the ring
pub record IsControlChain (at_command at_ack : ℕ) (c : List Piece) : Type 0 where
  pub len : ℕ
  pub least : 3 ≤ len
  pub most : len ≤ 10
  pub is : c ≡ record { addr = 8 * at_command; len = len; write = false } ∷ record { addr = 8 * at_ack; len = 1; write = true } ∷ []

-- ---- the driver

-- what the driver last stored in command word i of head h, and 0 where it stored nothing there
abbrev pub last_command : List DriverDone → ℕ → ℕ → ℕ
last_command [] h i = 0
last_command (Offer c ∷ o) h i = last_command o h i
last_command (Collect us ∷ o) h i = last_command o h i
last_command (StoreCommand g j x ∷ o) h i = if (g == h) && (j == i) then x else last_command o h i
last_command (LoadAck k x ∷ o) h i = last_command o h i

-- command word i stored for chain k: what the driver had last stored in that word of the chain's head when it offered the chain
abbrev pub command_of : Frame → List DriverDone → ℕ → ℕ → ℕ
command_of f [] k i = 0
command_of f (Offer c ∷ o) k i = if length (offers o) == k then last_command o (next_head f o) i else command_of f o k i
command_of f (Collect us ∷ o) k i = command_of f o k i
command_of f (StoreCommand g j x ∷ o) k i = command_of f o k i
command_of f (LoadAck l x ∷ o) k i = command_of f o k i

-- the chain collected last, where nothing was offered since
abbrev pub last_collected : List DriverDone → Option ℕ
last_collected [] = None
last_collected (Offer c ∷ o) = None
last_collected (Collect [] ∷ o) = last_collected o
last_collected (Collect (u ∷ us) ∷ o) = Some (last_used (u ∷ us)).number
last_collected (StoreCommand g j x ∷ o) = last_collected o
last_collected (LoadAck k x ∷ o) = last_collected o

-- ---- the device

-- what the device last stored in the ack word of head h, and 0 where it stored nothing there
abbrev pub last_ack : List DeviceDone → ℕ → ℕ
last_ack [] h = 0
last_ack (Take c g ∷ s) h = last_ack s h
last_ack (Give us ∷ s) h = last_ack s h
last_ack (Rest ∷ s) h = last_ack s h
last_ack (StoreAck g x ∷ s) h = if g == h then x else last_ack s h
last_ack (LoadCommand k i x ∷ s) h = last_ack s h

-- the ack word stored for chain k: what the device had last stored in that word of the chain's head when it gave the chain
abbrev pub ack_of : List DeviceDone → ℕ → ℕ
ack_of [] k = 0
ack_of (Take c g ∷ s) k = ack_of s k
ack_of (Give us ∷ s) k = if nat_lt 0 (occurs k (numbers us)) then last_ack s (taken_head s k) else ack_of s k
ack_of (Rest ∷ s) k = ack_of s k
ack_of (StoreAck g x ∷ s) k = ack_of s k
ack_of (LoadCommand l i x ∷ s) k = ack_of s k

-- ---- both

-- each command word that the device loaded for a chain is the one that the driver stored for it
abbrev pub CommandsAgree : Frame → List DriverDone → List DeviceDone → Type 0
CommandsAgree f o [] = Unit {0}
CommandsAgree f o (Take c g ∷ s) = CommandsAgree f o s
CommandsAgree f o (Give us ∷ s) = CommandsAgree f o s
CommandsAgree f o (Rest ∷ s) = CommandsAgree f o s
CommandsAgree f o (StoreAck g x ∷ s) = CommandsAgree f o s
CommandsAgree f o (LoadCommand k i x ∷ s) = (k < length (offers o)) × (x ≡ command_of f o k i) × CommandsAgree f o s

-- each ack word that the driver loaded for a chain is the one that the device stored for it
abbrev pub AcksAgree : List DriverDone → List DeviceDone → Type 0
AcksAgree [] s = Unit {0}
AcksAgree (Offer c ∷ o) s = AcksAgree o s
AcksAgree (Collect us ∷ o) s = AcksAgree o s
AcksAgree (StoreCommand g j x ∷ o) s = AcksAgree o s
AcksAgree (LoadAck k x ∷ o) s = (1 ≤ occurs k (numbers (gives s))) × (x ≡ ack_of s k) × AcksAgree o s

-- ---- the accesses of command and ack words

-- a store in a command word of the next head, while a place is free
pub record StoresCommand (f : Frame) (command : ℕ → ℕ) (o : List DriverDone) (p : ℕ) : Type 0 where
  pub control : f.control ≡ true
  pub room : 1 ≤ length (free f o)
  pub half : ℕ
  pub two : half < 2
  pub place : p ≡ command (next_head f o) + half

-- a load of the ack word of the head collected last, where nothing was offered since
pub record LoadsAck (f : Frame) (ack : ℕ → ℕ) (o : List DriverDone) (p : ℕ) : Type 0 where
  pub control : f.control ≡ true
  pub number : ℕ
  pub last : last_collected o ≡ Some number
  pub place : p ≡ ack (head f o number)

-- a load of a command word of a chain taken and not given, at a head of the ring
pub record LoadsCommand (f : Frame) (command : ℕ → ℕ) (s : List DeviceDone) (p : ℕ) : Type 0 where
  pub control : f.control ≡ true
  pub number : ℕ
  pub runs : Contains (running s) number
  pub inside : taken_head s number < f.size
  pub half : ℕ
  pub two : half < 2
  pub place : p ≡ command (taken_head s number) + half

-- a store of the ack word of a chain taken and not given, at a head of the ring
pub record StoresAck (f : Frame) (ack : ℕ → ℕ) (s : List DeviceDone) (p : ℕ) : Type 0 where
  pub control : f.control ≡ true
  pub number : ℕ
  pub runs : Contains (running s) number
  pub inside : taken_head s number < f.size
  pub place : p ≡ ack (taken_head s number)

-- ---- what always holds, on a control ring

-- of the driver's words
pub record Commands (f : Frame) (command ack : ℕ → ℕ) (o : List DriverDone) (stored : List ℕ) : Type 0 where
  -- each chain offered is a control chain of its head
  pub chains : f.control ≡ true → (k : ℕ) → k < length (offers o) → IsControlChain (command (head f o k)) (ack (head f o k)) (chain o k)
  -- each command word is what the driver last stored in it
  pub last : f.control ≡ true → (h i : ℕ) → h < f.size → i < 2 → slice_index stored (command h + i) ≡ last_command o h i
  -- the two command words of a chain offered and not collected are those stored for it
  pub stand : f.control ≡ true → (k i : ℕ) → Contains (open_at o) k → i < 2
      → slice_index stored (command (head f o k) + i) ≡ command_of f o k i

-- of the device's words
pub record Acks (f : Frame) (ack : ℕ → ℕ) (o : List DriverDone) (s : List DeviceDone) (stored : List ℕ) : Type 0 where
  -- each ack word is what the device last stored in it
  pub last : f.control ≡ true → (h : ℕ) → h < f.size → slice_index stored (ack h) ≡ last_ack s h
  -- the ack word of a chain given and not collected is the one stored for it
  pub stand : f.control ≡ true → (j : ℕ) → length (collects o) ≤ j → j < length (gives s)
      → slice_index stored (ack (head f o (used_at (gives s) j).number)) ≡ ack_of s (used_at (gives s) j).number
  -- and so is that of the chain collected last, as long as nothing was offered since
  pub collected : f.control ≡ true → (k : ℕ) → last_collected o ≡ Some k → slice_index stored (ack (head f o k)) ≡ ack_of s k
  -- what each side loaded for a chain is what the other stored for it
  pub commands_agree : CommandsAgree f o s
  pub acks_agree : AcksAgree o s
