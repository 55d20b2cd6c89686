-- The lane of the control queue, which has a shadow ring in every epoch. The relay first replays commands on it, and then carries those of
-- the guest: the parts that its parties promise, each of its own views, and what follows from them and the two rings.
use Rattle.std.specs.Prelude.{◌≡◌, ℕ, ◌<◌, ◌≤◌, true, List, ◌++◌, length, map, take, drop, slice_get, Option, Some}
use Rattle.std.specs.List.{All}
use mathlib.Core.List.{IsPrefix}
use Rattle.vd_model.specs.declared.record.Begun.{Begun}
use Rattle.vd_ring.specs.declared.driver.DriverView.{DriverView}
use Rattle.vd_ring.specs.declared.device.DeviceView.{DeviceView}
use Rattle.vd_ring.specs.Account.{Account, Lawful}
use Rattle.vd_ring.specs.Control.{ack_of}
use Rattle.vd_ring.specs.History.{offers, collects, takes, gives, used_at, upto, numbers, occurs}
use Rattle.vd_layout.specs.Driver.{DriverModel}
use Rattle.vd_layout.specs.Device.{DeviceModel}
use Rattle.vd_layout.specs.Layout.{LayoutModel}
use Rattle.vd_bus.specs.declared.device.Attached.{Attached}
use Rattle.vd_bus.specs.Device.{IsCommanded}
use Rattle.vd_bus.specs.DeviceCommands.{commands_of}
use Rattle.vd_control.specs.declared.command.Command.{Command}
use Rattle.vd_control.specs.declared.settings.Settings.{Settings}
use Rattle.vd_control.specs.Commands.{IsCommand, spelled}
use Rattle.vd_commands.specs.Loads.{ack_load}
use Rattle.vd_commands.specs.Words.{ack_byte}
use Rattle.vd_table.specs.declared.Command as kept
use Rattle.vd_relay.specs.declared.state.State.{State}
use Rattle.vd_relay.specs.Commanding.{Takeover, carries, AreCarried}
use Rattle.vd_relay.specs.Settling.{bytes_of}
use Rattle.vd_relay.specs.Relay.{Stands}
use Rattle.vd_relay.specs.Replays as replay
use Rattle.vd_switch.specs.Account.{IsBegunBefore}
use Rattle.vd_switch.specs.ShadowingLanes.{IsWinding}

-- ---- commands by their bytes

-- the bytes of the commands that the guest offered, in order
abbrev pub guest_commands : DriverView → List (List ℕ)
guest_commands v = map (bytes_of v.frame v.done) (upto (length (offers v.done)))

-- the ack stored for the guest's command of this number is OK where its bytes are a command, and ERR for any other bytes
abbrev pub IsAnsweredTo : DriverView → DeviceView → ℕ → Type 0
IsAnsweredTo v w k = ack_of w.done k ≡ ack_byte (bytes_of v.frame v.done k)

-- and so are those of the first n
abbrev pub AreAnsweredTo : ℕ → DriverView → DeviceView → Type 0
AreAnsweredTo n v w = (k : ℕ) → k < n → IsAnsweredTo v w k

-- a command that bytes spell
pub record IsSpelled (c : Command) : Type 0 where
  pub lawful : IsCommand c
  pub bytes : All (λ byte. byte < 256) (spelled c)

-- ---- where the lane stood when its device was attached

-- where the relay takes over; the commands that are replayed before; the guest's commands begun in the lane while it stood so, by their
-- bytes, with their lengths; by what the device is attached, and its settings there
pub record CommandStart : Type 0 where
  pub from : Takeover
  pub replays : List Command
  pub old : List (List ℕ × ℕ)
  pub by : Attached
  pub settings : Settings

-- how many chains were given before
abbrev pub before : CommandStart → ℕ
before y = length y.from.gives

-- ---- the account

abbrev pub with_bytes : Begun → List ℕ × ℕ
with_bytes b = (b.bytes.items, b.len)

-- the guest's commands begun in the lane: those before, and those that the device of the shadow ring began, without what was replayed
abbrev pub lane_commands : CommandStart → List Begun → List (List ℕ × ℕ)
lane_commands y begun = y.old ++ drop y.from.replayed (map with_bytes (drop y.by.at begun))

-- what the guest offered and collected, what the lane's devices began, and what was given on the guest's ring: chains by their bytes
abbrev pub command_account : DriverView → List (List ℕ × ℕ) → DeviceView → Account (List ℕ)
command_account v begun w = record { offers = guest_commands v; begun = begun; given = gives w.done; collected = collects v.done }

-- ---- the parts

-- at all times: the two rings, what the device of the shadow ring has journalled, and what was begun before
pub record CommandParts (l : LayoutModel) (y : CommandStart) (begun : List Begun) (now : Settings) (words shadow_words : List ℕ)
    (v : DriverView) (w : DeviceView) (sv : DriverView) (sw : DeviceView) : Type 0 where
  pub ring : l.ring words v w
  pub shadow_ring : l.ring shadow_words sv sw
  pub control : (v.frame.control ≡ true) × (sv.frame.control ≡ true)
  pub commanded : IsCommanded begun y.by y.settings now sw.done
  pub from_first : y.by.from ≡ 0
  pub counted : y.from.replayed ≡ length y.replays
  pub are_spelled : All IsSpelled y.replays
  pub begun_before : IsBegunBefore y.old (take (before y) (guest_commands v)) y.from.gives
  pub ones : All (λ x. x.1 ≡ 1) y.old

-- while the relay replays: the guest's ring is as it was, and the chains of the shadow ring carry the first of the commands replayed
pub record IsReplaying (l : LayoutModel) (y : CommandStart) (begun : List Begun) (now : Settings) (words shadow_words : List ℕ)
    (v : DriverView) (w : DeviceView) (sv : DriverView) (sw : DeviceView) : Type 0 where
  pub parts : CommandParts l y begun now words shadow_words v w sv sw
  pub same_takes : takes w.done ≡ y.from.takes
  pub same_gives : gives w.done ≡ y.from.gives
  pub even : length y.from.takes ≡ length y.from.gives
  pub few : length (offers sv.done) ≤ length y.replays
  pub replayed : replay.AreCarried y.replays sv.frame sv.done

-- while it carries: its ends and tie, what it has carried, and the commands replayed before
pub record IsCommandLane {E D : Type 0} (e : DeviceModel E) (d : DriverModel D) (l : LayoutModel) (y : CommandStart) (r : State E D)
    (table : List (Option kept.Command)) (settings : Settings) (begun : List Begun) (now : Settings) (words shadow_words : List ℕ)
    (v : DriverView) (w : DeviceView) (sv : DriverView) (sw : DeviceView) : Type 0 where
  pub parts : CommandParts l y begun now words shadow_words v w sv sw
  pub relays : Stands e d (carries y.from) r w sv
  pub carried : AreCarried y.from table settings (e.words.ack w.frame) relays.acts sv.frame sv.done
  pub replayed : (k : ℕ) (c : Command) → slice_get y.replays k ≡ Some c → replay.IsCarried sv.frame c sv.done k
  pub winds : r.winding ≡ true → IsWinding r sw

-- ---- what follows, of both

pub record KeepsCommands (y : CommandStart) (begun : List Begun) (v : DriverView) (w : DeviceView) : Type 0 where
  -- the commands begun since the attach are the first of these: those replayed, and the guest's from the first on that was not given
  -- before, each once and in order. Each has written one byte, the ack
  pub journal : IsPrefix (commands_of (drop y.by.at begun)) (map spelled y.replays ++ drop (before y) (guest_commands v))
  pub lens : All (λ b. b.len ≡ 1) (drop y.by.at begun)
  pub lawful : Lawful (command_account v (lane_commands y begun) w)
  -- each chain given on the guest's ring has the length 1; the ack stored for each given since then is that of its command, and so is
  -- the one that the guest loaded
  pub given_ones : (j : ℕ) → j < length (gives w.done) → (used_at (gives w.done) j).len ≡ 1
  pub answered : (k : ℕ) → before y ≤ k → 1 ≤ occurs k (numbers (gives w.done)) → IsAnsweredTo v w k
  pub loaded : (k x : ℕ) → before y ≤ k → ack_load v.done k ≡ Some x → x ≡ ack_byte (bytes_of v.frame v.done k)
