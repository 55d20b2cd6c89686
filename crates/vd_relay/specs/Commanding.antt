-- What a relay of a control queue has carried: the words of each command to the shadow ring, and its ack back. Lists of acts have the
-- newest first.
use Rattle.std.specs.Prelude.{◌≡◌, ℕ, ◌<◌, ◌≤◌, Some, IsSome, Option, List, [], length}
use Rattle.vd_model.specs.declared.chain.Piece.{Piece}
use Rattle.vd_model.specs.Chains.{readable}
use Rattle.vd_ring.specs.declared.frame.Frame.{Frame}
use Rattle.vd_ring.specs.declared.frame.Used.{Used}
use Rattle.vd_ring.specs.declared.driver.DriverDone.{DriverDone}
use Rattle.vd_ring.specs.declared.device.DeviceDone.{DeviceDone}
use Rattle.vd_ring.specs.History.{offers, open_at, chain, head, chain_at, takes, gives, taken_head, numbers, occurs}
use Rattle.vd_ring.specs.Control.{command_of, ack_of}
use Rattle.vd_control.specs.declared.settings.Settings.{Settings}
use Rattle.vd_commands.specs.Loads.{command_loads, AreLoaded, ack_load}
use Rattle.vd_table.specs.declared.Command.{Command}
use Rattle.vd_table.specs.Rows.{row}
use Rattle.vd_relay.specs.Ways.{carrying}
use Rattle.vd_relay.specs.Tie.{Course, guests}
use Rattle.vd_relay.specs.Settling.{IsUnsettled}

-- where it takes over: what stood on the guest's ring, how many commands it replayed itself before, and the settings
pub record Takeover : Type 0 where
  pub takes : List (List Piece)
  pub gives : List Used
  pub replayed : ℕ
  pub settings : Settings

abbrev pub carries : Takeover → Course
carries z = record { takes = z.takes; gives = z.gives; way = carrying z.replayed }

-- chain k of the shadow ring is a command of the guest's, and none that was replayed
pub record IsCarried (z : Takeover) (o : List DriverDone) (k : ℕ) : Type 0 where
  pub not_replayed : z.replayed ≤ k
  pub offered : k < length (offers o)

-- ---- a command

-- what it keeps of command `number` of the guest's ring: its number, where its ack word stands, how many bytes it has, and its two
-- words, which were loaded once each
pub record IsLoaded (at_ack : ℕ → ℕ) (s : List DeviceDone) (number : ℕ) (c : Command) : Type 0 where
  pub numbered : c.number ≡ number
  pub ack : c.ack_place ≡ at_ack (taken_head s number)
  pub bytes : c.count ≡ readable (chain_at (takes s) number)
  pub few : c.count ≤ 10
  pub words : AreLoaded (command_loads s number) c.first c.second

-- chain k of the shadow ring carries it: as many bytes, and for it the two words were stored that were loaded
pub record IsPassed (s : List DeviceDone) (number : ℕ) (g : Frame) (o : List DriverDone) (k : ℕ) : Type 0 where
  pub bytes : readable (chain o k) ≡ readable (chain_at (takes s) number)
  pub words : AreLoaded (command_loads s number) (command_of g o k 0) (command_of g o k 1)

-- the ack stored for it is the one that was loaded for chain k
abbrev pub IsAnswered : List DeviceDone → ℕ → List DriverDone → ℕ → Type 0
IsAnswered s number o k = ack_load o k ≡ Some (ack_of s number)

-- ---- all of them

-- the table has the command of each chain that is offered and not collected, at its head, with whether it is late, and nothing else
pub record KeepsOpen (table : List (Option Command)) (number : ℕ → ℕ) (at_ack : ℕ → ℕ) (s : List DeviceDone) (g : Frame)
    (o : List DriverDone) : Type 0 where
  pub sized : length table ≡ g.size
  pub stored : (k : ℕ) → 1 ≤ occurs k (open_at o) → (c : Command) × (row table (head g o k) ≡ Some c) × IsLoaded at_ack s (number k) c
      × IsUnsettled g o k c
  pub only : (h : ℕ) → IsSome (row table h) → (k : ℕ) × (1 ≤ occurs k (open_at o)) × (head g o k ≡ h)

-- each command was passed on, and those given back are answered; the settings follow the commands that were acknowledged
pub record AreCarried (z : Takeover) (table : List (Option Command)) (settings : Settings) (at_ack : ℕ → ℕ) (s : List DeviceDone)
    (g : Frame) (o : List DriverDone) : Type 0 where
  pub passed : (k : ℕ) → IsCarried z o k → IsPassed s (guests (carries z) k) g o k
  pub answered : (k : ℕ) → IsCarried z o k → 1 ≤ occurs (guests (carries z) k) (numbers (gives s)) → IsAnswered s (guests (carries z) k) o k
  pub keeps : KeepsOpen table (guests (carries z)) at_ack s g o
  pub settled : settings ≡ Rattle.vd_relay.specs.Settling.settled z.settings z.replayed g o
