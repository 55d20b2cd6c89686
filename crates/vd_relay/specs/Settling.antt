-- The settings of a control queue after the commands that were acknowledged: in the order of the commands, whatever the order of the acks.
-- A command is late where a later one that sets the same was acknowledged already: it changes nothing more. Lists of acts have the newest
-- first.
use Rattle.std.specs.Prelude.{◌≡◌, ℕ, ◌+◌, ◌-◌, ◌%◌, ◌≤◌, ◌==◌, ◌&&◌, ◌||◌, nat_lt, not, Bool, true, false, Option, Some, None, List, [], ◌∷◌, length, map, filter, if◌then◌else◌}
use Rattle.std.specs.List.{range_with_len, list_any}
use Rattle.vd_model.specs.Chains.{readable}
use Rattle.vd_ring.specs.declared.frame.Frame.{Frame}
use Rattle.vd_ring.specs.declared.driver.DriverDone.{DriverDone}
use Rattle.vd_ring.specs.declared.driver.DriverDone.TheVariants.{Offer, Collect, StoreCommand, LoadAck}
use Rattle.vd_ring.specs.History.{offers, chain}
use Rattle.vd_ring.specs.Control.{command_of}
use Rattle.vd_control.specs.declared.command.Command.{Command}
use Rattle.vd_control.specs.declared.command.Command.TheVariants.{Rx, Mac, VlanAdd, VlanDel, Pairs, Offloads}
use Rattle.vd_control.specs.declared.settings.Settings.{Settings}
use Rattle.vd_control.specs.Commands.{command}
use Rattle.vd_commands.specs.Words.{word_bytes, set_by}
use Rattle.vd_table.specs.declared.Command.{Command as Kept}
use Rattle.vd_table.specs.Rows.{row}

-- ---- what a command sets

-- both set the same: one receive flag, the address, one VLAN, the pairs, or the offloads
abbrev pub sets_same : Command → Command → Bool
sets_same (Rx a on) (Rx b other) = a == b
sets_same (Mac a) (Mac b) = true
sets_same (VlanAdd a) (VlanAdd b) = a == b
sets_same (VlanAdd a) (VlanDel b) = a == b
sets_same (VlanDel a) (VlanAdd b) = a == b
sets_same (VlanDel a) (VlanDel b) = a == b
sets_same (Pairs a) (Pairs b) = true
sets_same (Offloads a) (Offloads b) = true
sets_same _ _ = false

abbrev pub are_same : Option Command → Option Command → Bool
are_same (Some a) (Some b) = sets_same a b
are_same _ _ = false

-- and so do two byte strings, each of a command
abbrev pub set_same : List ℕ → List ℕ → Bool
set_same a b = are_same (command a) (command b)

-- ---- the chains of the shadow ring

-- the bytes that chain k carries
abbrev pub bytes_of : Frame → List DriverDone → ℕ → List ℕ
bytes_of g o k = word_bytes (readable (chain o k)) (command_of g o k 0) (command_of g o k 1)

-- the low byte of an ack is OK, 0
abbrev pub is_ok : ℕ → Bool
is_ok ack = ack % 256 == 0

-- the ack that was loaded last for chain k, since its offer, is OK
abbrev pub is_acknowledged : List DriverDone → ℕ → Bool
is_acknowledged [] k = false
is_acknowledged (Offer c ∷ o) k = if length (offers o) == k then false else is_acknowledged o k
is_acknowledged (Collect us ∷ o) k = is_acknowledged o k
is_acknowledged (StoreCommand h i x ∷ o) k = is_acknowledged o k
is_acknowledged (LoadAck j ack ∷ o) k = if j == k then is_ok ack else is_acknowledged o k

-- the chains from n on
abbrev pub chains_from : ℕ → List DriverDone → List ℕ
chains_from n o = range_with_len n (length (offers o) - n)

-- the settings changed by each command that was acknowledged, in the order of the chains, the first n left out
abbrev pub settled : Settings → ℕ → Frame → List DriverDone → Settings
settled x n g o = set_by x (map (bytes_of g o) (filter (is_acknowledged o) (chains_from n o)))

-- a chain after chain k, which sets the same, was acknowledged
abbrev pub is_late : Frame → List DriverDone → ℕ → Bool
is_late g o k = list_any (λ j. is_acknowledged o j && set_same (bytes_of g o k) (bytes_of g o j)) (chains_from (k + 1) o)

-- ---- what is kept of a command

-- chain k isn't acknowledged, and what is kept of it says whether it is late
pub record IsUnsettled (g : Frame) (o : List DriverDone) (k : ℕ) (c : Kept) : Type 0 where
  pub none : is_acknowledged o k ≡ false
  pub late : c.late ≡ is_late g o k

abbrev pub kept_bytes : Kept → List ℕ
kept_bytes c = word_bytes c.count c.first c.second

-- the settings after an ack for a command
abbrev pub acknowledged : Settings → Kept → ℕ → Settings
acknowledged s c ack = if is_ok ack && not c.late then set_by s (kept_bytes c ∷ []) else s

-- what is kept of another one after command `number` was acknowledged: where it is earlier and sets the same, it is late
abbrev pub marked : ℕ → Option Command → Option Kept → Option Kept
marked number c None = None
marked number c (Some x) = Some (record x { late = x.late || (nat_lt x.number number && are_same (command (kept_bytes x)) c) })

-- what is kept of the others after an ack for a command
pub record AreMarked (c : Kept) (ack : ℕ) (table table' : List (Option Kept)) : Type 0 where
  pub sized : length table' ≡ length table
  pub rows : (h : ℕ) → row table' h ≡ (if is_ok ack then marked c.number (command (kept_bytes c)) (row table h) else row table h)

-- commands of at most 10 bytes
abbrev pub AreFew : List (Option Kept) → Type 0
AreFew table = (h : ℕ) (x : Kept) → row table h ≡ Some x → x.count ≤ 10
