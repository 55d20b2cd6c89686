-- A round of the data queues' lanes, and then the control queue's parties are written: guest, device, or both.
use Rattle.std.proofs.Common.{◌≡◌, ℕ, ◌+◌, Bool, List, Some, length, set, slice_get, sym, ap, subst, ◌∙◌, arith}
use Rattle.vd_layout.specs.declared.device.DeviceEnd as device_end
use Rattle.vd_layout.specs.declared.driver.DriverEnd as driver_end
use Rattle.vd_layout.specs.declared.layout.Layout as layout
use Rattle.vd_machine.specs.File.{Plan}
use Rattle.vd_play.specs.declared.bench.Bench.{Bench}
use Rattle.vd_play.specs.declared.command_lane.CommandLane.{CommandLane}
use Rattle.vd_play.specs.declared.floor.Lane.{Lane}
use Rattle.vd_play.specs.CommandEpochs.{CommandsIn, made_of_all}
use Rattle.vd_play.specs.CommandProgress.{Next, InCommandRound}
use Rattle.vd_play.specs.Each.{EachLane, HasLanes}
use Rattle.vd_play.specs.Played.{KeepsBench, HasNoFault}
use Rattle.vd_play.specs.Progress.{steps}
use Rattle.vd_play.specs.Setting.{Setting}
use Rattle.vd_play.proofs.Benches.{keeps_set, keeps_more, keeps_through, faults_set, lanes_kept}
use Rattle.vd_play.proofs.CommandBenches.{commands_kept, commands_set, each_beyond, made_set}

-- the parties at place n, behind those of the lanes; the bench as it was at first, before the round of the lanes and after it
module _ {D E G X C : Type 0} (s : Setting D E G X C) (n place : ℕ) (is : place ≡ n) (old bench bench1 : Bench G X) (guest guest' : G)
    (device device' : X) (parties : HasLanes (n + 1) old) (keeps : KeepsBench s.party (n + 1) old bench)
    (one : KeepsBench s.party n bench bench1) (at_guest : slice_get bench1.guests.items place ≡ Some guest)
    (at_device : slice_get bench1.devices.items place ≡ Some device) (written : Bench G X)
    (new_guests : written.guests.items ≡ set bench1.guests.items place guest')
    (new_devices : written.devices.items ≡ set bench1.devices.items place device') where
  before : KeepsBench s.party (n + 1) old bench1
  before = keeps_through s.party (n + 1) old bench bench1 keeps (keeps_more s.party n (n + 1) bench bench1 (omega arith) one)

  there : HasLanes (n + 1) bench1
  there = lanes_kept s.party (n + 1) old bench1 (n + 1) before parties

  pub written_keeps : s.party.carried device' ≡ s.party.carried device → KeepsBench s.party (n + 1) old written
  written_keeps = keeps_set s.party (n + 1) old bench1 written place guest' device device' (omega (arith, is)) before new_guests new_devices
      at_device

  pub written_parties : s.party.carried device' ≡ s.party.carried device → HasLanes (n + 1) written
  written_parties same = lanes_kept s.party (n + 1) old written (n + 1) (written_keeps same) parties

  pub written_faults : HasNoFault s.party old bench → HasNoFault s.party bench bench1 → s.party.faults device' ≡ s.party.faults device
      → HasNoFault s.party old written
  written_faults none more = faults_set s.party old bench1 written place device device' (more ∙ none)
      new_devices at_device

  -- the lanes of the data queues are as they were
  pub written_each : {A : Type 0} (P : ℕ → A → G → X → Type 0) (lanes : List A) → length lanes ≡ n
      → EachLane P lanes bench1.guests.items bench1.devices.items → EachLane P lanes written.guests.items written.devices.items
  written_each P lanes many e = subst (λ (gs : List G). EachLane P lanes gs written.devices.items) (sym new_guests)
      (subst (λ (xs : List X). EachLane P lanes (set bench1.guests.items place guest') xs) (sym new_devices)
      (each_beyond P lanes bench1.guests.items bench1.devices.items place guest' device' (omega (arith, many, is)) e))

  module _ {L : Type 0} {a : layout.Ghosts L D E} {b : driver_end.Ghosts D} {c : device_end.Ghosts E} where
    -- the control queue's lane before
    pub inside : (plan : Plan) (next : Next) (on : Bool) (k r : ℕ) (lane : CommandLane L D E a b c)
        → CommandsIn s plan next on k r n lane bench → InCommandRound s plan next on k r lane guest device
    inside plan next on k r lane p = commands_kept s plan next on k r n lane bench bench1 one p guest device
        (ap (λ (i : ℕ). slice_get bench1.guests.items i) (sym is) ∙ at_guest)
        (ap (λ (i : ℕ). slice_get bench1.devices.items i) (sym is) ∙ at_device)

    -- and after
    pub written_commands : (plan : Plan) (next : Next) (on : Bool) (k r : ℕ) (lane : CommandLane L D E a b c)
        → InCommandRound s plan next on k r lane guest' device' → CommandsIn s plan next on k r n lane written
    written_commands plan next on k r lane = commands_set s plan next on k r n lane bench1.guests.items bench1.devices.items written
        guest' device' (omega (arith, there.guests)) (omega (arith, there.devices))
        (new_guests ∙ ap (λ (i : ℕ). set bench1.guests.items i guest') is)
        (new_devices ∙ ap (λ (i : ℕ). set bench1.devices.items i device') is)

    pub written_made : (lanes : List (Lane L D E)) (lane lane' : CommandLane L D E a b c) (made : ℕ)
        → steps s lane'.relayed guest' device' ≡ steps s lane.relayed guest device + made
        → made_of_all s lanes lane' written ≡ made_of_all s lanes lane bench1 + made
    written_made lanes lane lane' made = made_set s place lanes lane lane' bench1 written guest guest' device device' made at_guest
        at_device new_guests new_devices
