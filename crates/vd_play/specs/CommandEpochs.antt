-- What rounds leave of the lanes of a machine with a control queue, whose parties stand on the bench behind those of the data queues.
use Rattle.std.specs.Prelude.{◌≡◌, ℕ, ◌+◌, ◌<◌, ◌≤◌, Bool, true, false, List, length, slice_get, Some}
use Rattle.vd_layout.specs.declared.device.DeviceEnd as device_end
use Rattle.vd_layout.specs.declared.driver.DriverEnd as driver_end
use Rattle.vd_layout.specs.declared.layout.Layout as layout
use Rattle.vd_machine.specs.File.{Plan}
use Rattle.vd_play.specs.declared.bench.Bench.{Bench}
use Rattle.vd_play.specs.declared.command_lane.CommandLane.{CommandLane}
use Rattle.vd_play.specs.declared.floor.Lane.{Lane}
use Rattle.vd_play.specs.Commands.{settings_at}
use Rattle.vd_play.specs.CommandProgress.{Next, CommandStopped, InCommandRound}
use Rattle.vd_play.specs.CommandProgress.Next.{guests, devices}
use Rattle.vd_play.specs.GuestsAlone.{AllWait}
use Rattle.vd_play.specs.Epochs.{renewed_at}
use Rattle.vd_play.specs.Renewing.{AreRenewed}
use Rattle.vd_play.specs.Progress.{AllInEpoch, AllStopped, all_made}
use Rattle.vd_play.specs.Played.{KeepsBench}
use Rattle.vd_play.specs.Setting.{Setting}

module _ {L D E G X C : Type 0} {a : layout.Ghosts L D E} {b : driver_end.Ghosts D} {c : device_end.Ghosts E} (s : Setting D E G X C) where
  -- the steps that were no looks of a sleeper, of all guests, devices and relays
  abbrev pub made_of_all : List (Lane L D E) → CommandLane L D E a b c → Bench G X → ℕ
  made_of_all lanes lane bench = all_made s lanes bench + lane.relayed

  module _ (plan : Plan) where
    -- so it is with the control queue's lane and its parties at this place
    abbrev pub CommandsIn : Next → Bool → ℕ → ℕ → ℕ → CommandLane L D E a b c → Bench G X → Type 0
    CommandsIn next on k n place lane bench = (guest : G) (device : X) → slice_get bench.guests.items place ≡ Some guest
        → slice_get bench.devices.items place ≡ Some device → InCommandRound s plan next on k n lane guest device

    abbrev pub AreCommandsStopped : ℕ → ℕ → CommandLane L D E a b c → Bench G X → Type 0
    AreCommandsStopped k place lane bench = (guest : G) (device : X) → slice_get bench.guests.items place ≡ Some guest
        → slice_get bench.devices.items place ≡ Some device → CommandStopped s plan k lane guest device

    -- all lanes are still before epoch k, and each device was reset where the epoch begins with a renewal
    pub record AllRenewedWith (k : ℕ) (lanes : List (Lane L D E)) (lane : CommandLane L D E a b c) (bench : Bench G X) : Type 0 where
      pub old : Bench G X
      pub stopped : AllStopped s plan k lanes old
      pub commands : AreCommandsStopped k (length lanes) lane old
      pub guests : bench.guests ≡ old.guests
      pub keeps : KeepsBench s.party (length lanes + 1) old bench
      pub renewed : AreRenewed s.party (renewed_at plan k) (length lanes + 1) old bench

    -- after rounds of the data queues' guests alone the replay was acknowledged, by a turn of the relay: the control queue's device is next,
    -- and has set what the commands before the epoch have set
    pub record ReplayEnds (place j k : ℕ) (xs : List X) (lanes : List (Lane L D E)) (lane : CommandLane L D E a b c) (bench : Bench G X)
        : Type 0 where
      pub rounds : ℕ
      pub few : rounds < 4294967296
      pub wait : AllWait s plan j (rounds + 1) lanes bench.guests.items xs
      pub commands : CommandsIn devices true k rounds place lane bench
      pub settings : (device : X) → slice_get bench.devices.items place ≡ Some device → s.party.settings device ≡ settings_at plan k

    abbrev pub ReplayGoes : List (Lane L D E) → List (Lane L D E) → CommandLane L D E a b c → CommandLane L D E a b c → Bench G X → Bench G X
        → ℕ → Type 0
    ReplayGoes lanes lanes' lane lane' bench bench' made = (j k : ℕ) (xs : List X) → length lanes ≤ length xs
        → AllWait s plan j 0 lanes bench.guests.items xs → CommandsIn guests true k 0 (length lanes) lane bench
        → ReplayEnds (length lanes) j k xs lanes' lane' bench'
        × (made_of_all lanes' lane' bench' ≡ made_of_all lanes lane bench + made)

    -- an epoch has come to its end
    abbrev pub CommandEpochGoes : List (Lane L D E) → List (Lane L D E) → CommandLane L D E a b c → CommandLane L D E a b c → Bench G X
        → Bench G X → ℕ → Type 0
    CommandEpochGoes lanes lanes' lane lane' bench bench' made = (k r : ℕ) → AllInEpoch s plan true k 0 lanes bench
        → CommandsIn guests true k r (length lanes) lane bench
        → AllStopped s plan (k + 1) lanes' bench' × AreCommandsStopped (k + 1) (length lanes) lane' bench'
        × (made_of_all lanes' lane' bench' ≡ made_of_all lanes lane bench + made)

    -- after the closing epoch, some rounds were made
    abbrev pub CommandDrains : List (Lane L D E) → List (Lane L D E) → CommandLane L D E a b c → CommandLane L D E a b c → Bench G X
        → Bench G X → ℕ → Type 0
    CommandDrains lanes lanes' lane lane' bench bench' made = (k : ℕ) → AllInEpoch s plan false k 0 lanes bench
        → CommandsIn guests false k 0 (length lanes) lane bench
        → ((n : ℕ) × AllInEpoch s plan false k n lanes' bench' × CommandsIn guests false k n (length lanes) lane' bench')
        × (made_of_all lanes' lane' bench' ≡ made_of_all lanes lane bench + made)
