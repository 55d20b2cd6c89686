-- What a device of the control queue does with the commands that it takes: it loads their words, executes them, and stores their acks.
-- Lists of acts have the newest first.
use Rattle.std.specs.Prelude.{◌≡◌, ◌⊎◌, ℕ, ◌+◌, ◌-◌, ◌≤◌, ◌==◌, ◌&&◌, nat_lt, List, [], ◌∷◌, length, map, drop, slice_get, Option, Some, None, if◌then◌else◌}
use Rattle.std.specs.List.{All}
use Rattle.vd_model.specs.declared.record.Begun.{Begun}
use Rattle.vd_model.specs.Chains.{readable}
use Rattle.vd_ring.specs.declared.device.DeviceDone.{DeviceDone}
use Rattle.vd_ring.specs.declared.device.DeviceDone.TheVariants.{Take, Give, Rest, StoreAck, LoadCommand}
use Rattle.vd_ring.specs.declared.frame.Used.{Used}
use Rattle.vd_ring.specs.History.{takes, running, taken_head, occurs}
use Rattle.vd_ring.specs.Control.{ack_of}
use Rattle.vd_control.specs.declared.settings.Settings.{Settings}
use Rattle.vd_commands.specs.Loads.{loaded, command_loads, AreLoaded}
use Rattle.vd_commands.specs.Words.{word_bytes, ack_byte, set_by}

-- the bytes of each chain begun: those of its command, on a data queue none
abbrev pub commands_of : List Begun → List (List ℕ)
commands_of bs = map (λ b. b.bytes.items) bs

-- what was set by the chains begun after the first so many
abbrev pub set_since : ℕ → List Begun → Settings → Settings
set_since at begun before = set_by before (commands_of (drop at begun))

-- chain k was begun as b by what was loaded for it: the two command words, each once, the first before the second. Its bytes are the
-- first of them, as many as may be read of the chain; one byte is written, the ack
pub record IsExecuted (s : List DeviceDone) (k : ℕ) (b : Begun) : Type 0 where
  pub first : ℕ
  pub second : ℕ
  pub are_loaded : AreLoaded (command_loads s k) first second
  pub bytes : b.bytes.items ≡ word_bytes (readable b.chain) first second
  pub one : b.len ≡ 1

-- chain k is taken and not begun: none of its command words was loaded, or the first alone
abbrev pub IsWaiting : List DeviceDone → ℕ → Type 0
IsWaiting s k = (command_loads s k ≡ []) ⊎ ((first : ℕ) × (command_loads s k ≡ loaded 0 first ∷ []))

-- the ack word that was stored last for chain k after it was taken and before it was given, if one was
abbrev pub ack_store : List DeviceDone → ℕ → Option ℕ
ack_store [] k = None
ack_store (Take c h ∷ s) k = if length (takes s) == k then None else ack_store s k
ack_store (Give us ∷ s) k = ack_store s k
ack_store (Rest ∷ s) k = ack_store s k
ack_store (StoreAck h x ∷ s) k = if nat_lt 0 (occurs k (running s)) && (taken_head s k == h) then Some x else ack_store s k
ack_store (LoadCommand l half x ∷ s) k = ack_store s k

-- the entry gives a chain that was begun since the attach, with its length; before it was given its ack was stored: OK for a command,
-- ERR for any other bytes
pub record IsAnswered (begun : List Begun) (at from : ℕ) (s : List DeviceDone) (u : Used) : Type 0 where
  pub since : from ≤ u.number
  pub chain : Begun
  pub is : slice_get begun (u.number - from + at) ≡ Some chain
  pub len : u.len ≡ chain.len
  pub stored : ack_store s u.number ≡ Some (ack_byte chain.bytes.items)
  pub stands : ack_of s u.number ≡ ack_byte chain.bytes.items
