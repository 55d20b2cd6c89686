-- The settings that a relay of the control queue keeps, once it has all acks.
use Rattle.std.specs.Prelude.{◌≡◌, ℕ, ◌-◌, ◌%◌, ◌<◌, ◌≤◌, ◌==◌, Bool, List, length, map, filter, Some}
use Rattle.std.specs.List.{range_with_len}
use Rattle.vd_ring.specs.declared.driver.DriverDone.{DriverDone}
use Rattle.vd_ring.specs.declared.frame.Frame.{Frame}
use Rattle.vd_ring.specs.History.{offers}
use Rattle.vd_control.specs.declared.settings.Settings.{Settings}
use Rattle.vd_commands.specs.Loads.{ack_load}
use Rattle.vd_commands.specs.Words.{set_by}
use Rattle.vd_relay.specs.Commanding.{Takeover}
use Rattle.vd_relay.specs.Settling.{bytes_of, is_acknowledged, is_ok}

-- the settings at the takeover, changed by those commands carried that pass, in the order of the chains
abbrev pub settled_by : Takeover → (ℕ → Bool) → Frame → List DriverDone → Settings
settled_by z passes g o =
    set_by z.settings (map (bytes_of g o) (filter passes (range_with_len z.replayed (length (offers o) - z.replayed))))

-- the ack of each command carried was loaded, and it passes exactly where that is OK, 0, in its low byte
abbrev pub PassWhereOk : Takeover → (ℕ → Bool) → List DriverDone → Type 0
PassWhereOk z passes o = (k : ℕ) → z.replayed ≤ k → k < length (offers o) → (x : ℕ) × (ack_load o k ≡ Some x)
    × (passes k ≡ (x % 256 == 0))

-- ---- the settings at a stop

-- an ack that was loaded of a chain counts: the chain is acknowledged exactly where it is OK
abbrev pub AcksCount : List DriverDone → Type 0
AcksCount o = (k x : ℕ) → ack_load o k ≡ Some x → is_acknowledged o k ≡ is_ok x
