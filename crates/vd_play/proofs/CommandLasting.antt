-- When the control queue's lane comes to the end of an epoch, and how many steps its parties have made.
use Rattle.std.proofs.Common.{◌≡◌, inl, inr, ℕ, ◌+◌, ◌*◌, ◌≤◌, Bool, true, false, Option, Some, None, is_some, length, sym, ◌∙◌, ap, arith}
use Rattle.vd_words.specs.Plain.{RingWords}
use Rattle.vd_ring.specs.History.{takes}
use Rattle.vd_layout.specs.declared.device.DeviceEnd as device_end
use Rattle.vd_layout.specs.declared.driver.DriverEnd as driver_end
use Rattle.vd_layout.specs.declared.layout.Layout as layout
use Rattle.vd_control.specs.declared.settings.Settings.{Settings}
use Rattle.vd_switch.specs.declared.still.Still.{Still}
use Rattle.vd_machine.specs.File.{Plan}
use Rattle.vd_play.specs.declared.command_lane.CommandLane.{CommandLane}
use Rattle.vd_play.specs.declared.floor.Relaying.{Relaying}
use Rattle.vd_play.specs.AllWork.{command_work, command_rings}
use Rattle.vd_play.specs.Commands.{control_commands, control_epochs, sent_at}
use Rattle.vd_play.specs.CommandProgress.{Next, IsCommandStopped, CommandStoppedWith, InCommandRoundWith, CommandStopped, InCommandRound, InCommandEpoch}
use Rattle.vd_play.specs.CommandProgress.Next.{guests}
use Rattle.vd_play.specs.Progress.{steps}
use Rattle.vd_play.specs.Setting.{Setting, IsLawful}
use Rattle.vd_play.proofs.Bounds.{many_epochs}
use Rattle.vd_play.proofs.CommandLow.{IsCommandLow, low_few, stopped_low, relaying_low, relaying_rounds}

-- a new count of rounds begins
anew : {D E G X C : Type 0} (s : Setting D E G X C) (plan : Plan) (k r : ℕ) (words : RingWords) (end : E) (control : Bool)
    (settings : Settings) (relayed : ℕ) (guest : G) (device : X)
    → IsCommandStopped s plan k r words end control settings relayed guest device
    → IsCommandStopped s plan k 0 words end control settings relayed guest device
anew s plan k r words end control settings relayed guest device p = record {
  view = p.view;
  device_view = p.device_view;
  kept = p.kept;
  rests = p.rests;
  paced = p.paced;
  heard = p.heard;
  early = p.early;
  late = λ every. inr (omega arith);
}

module _ {L D E G X C : Type 0} {i : layout.Ghosts L D E} {j : driver_end.Ghosts D} {h : device_end.Ghosts E} (s : Setting D E G X C)
    (law : IsLawful s) (plan : Plan) where
  module _ (k n : ℕ) (words : RingWords) (relayed : ℕ) (guest : G) (device : X) where
    still_with : (next : Next) (on : Bool) (still : Option (Still L D E i j h)) (o : Option (Relaying L D E)) → is_some still ≡ true
        → InCommandRoundWith s plan next on k n words still o relayed guest device
        → CommandStoppedWith s plan (k + 1) words still o relayed guest device
    still_with next on None o is p = absurd (cc)
    still_with guests on (Some y) None is p =
        anew s plan (k + 1) n words y.end y.control y.settings relayed guest device p
    still_with Next.relays on (Some y) None is p =
        anew s plan (k + 1) (n + 1) words y.end y.control y.settings relayed guest device p
    still_with Next.devices on (Some y) None is p =
        anew s plan (k + 1) (n + 1) words y.end y.control y.settings relayed guest device p
    still_with next on (Some y) (Some x) is p = absurd p

    closed_with : (still : Option (Still L D E i j h)) (o : Option (Relaying L D E))
        → CommandStoppedWith s plan (k + 1) words still o relayed guest device
        → InCommandRoundWith s plan guests false k 0 words still o relayed guest device
    closed_with None o p = absurd p
    closed_with (Some y) None p = p
    closed_with (Some y) (Some x) p = absurd p

    rests_low : (still : Option (Still L D E i j h)) (o : Option (Relaying L D E)) → k ≤ length (control_epochs plan)
        → CommandStoppedWith s plan k words still o relayed guest device → IsCommandLow s plan relayed guest device
    rests_low None o within p = absurd p
    rests_low (Some y) None within p =
        stopped_low s law plan k 0 words y.end y.control y.settings relayed guest device within p
    rests_low (Some y) (Some x) within p = absurd p

    round_low : (next : Next) (on : Bool) (still : Option (Still L D E i j h)) (o : Option (Relaying L D E))
        → k + 1 ≤ length (control_epochs plan) → InCommandRoundWith s plan next on k n words still o relayed guest device
        → IsCommandLow s plan relayed guest device
    round_low next true None (Some x) within p =
        relaying_low s law plan k n words relayed guest device next x.lane.relay.control x.lane.relay.state.winding x.words.words
        x.lane.relay.state x.lane.relay.settings x.lane.relay.counts p
    round_low next false None (Some x) within p = absurd p
    round_low next on None None within p = absurd p
    round_low guests on (Some y) None within p =
        stopped_low s law plan (k + 1) n words y.end y.control y.settings relayed guest device within p
    round_low Next.relays on (Some y) None within p =
        stopped_low s law plan (k + 1) (n + 1) words y.end y.control y.settings relayed guest device within p
    round_low Next.devices on (Some y) None within p =
        stopped_low s law plan (k + 1) (n + 1) words y.end y.control y.settings relayed guest device within p
    round_low next on (Some y) (Some x) within p = absurd p

    -- no lane has so many rounds
    late_with : (still : Option (Still L D E i j h)) (o : Option (Relaying L D E)) → k + 1 ≤ length (control_epochs plan)
        → 4294967296 ≤ n → InCommandRoundWith s plan guests true k n words still o relayed guest device → is_some still ≡ true
    late_with None (Some x) within late p =
        let low = low_few s plan relayed guest device (round_low guests true None (Some x) within p) in
        let rounds = relaying_rounds s law plan k n words relayed guest device x.lane.relay.control x.lane.relay.state.winding
        x.words.words x.lane.relay.state x.lane.relay.settings x.lane.relay.counts p in
        absurd (omega (arith, rounds, low, late))
    late_with None None within late p = absurd p
    late_with (Some y) o within late p = Rattle.std.proofs.Common.refl

    done_with : (still : Option (Still L D E i j h)) (o : Option (Relaying L D E)) → length (control_epochs plan) ≡ k + 1
        → 4294967296 ≤ n → InCommandRoundWith s plan guests false k n words still o relayed guest device → s.guest.is_done guest
    done_with None (Some x) last late p = absurd p
    done_with None None last late p = absurd p
    done_with (Some y) (Some x) last late p = absurd p
    done_with (Some y) None last late p =
        let low = low_few s plan relayed guest device
        (stopped_low s law plan (k + 1) n words y.end y.control y.settings relayed guest device (omega (arith, last)) p) in
        let taken : length (takes p.device_view.done) ≡ length (control_commands plan) =
        p.rests.taken ∙ ap (sent_at plan) (sym last) ∙ p.kept.driven.queue.chained.whole in
        elim (p.late (omega (arith, taken))) [
          | inl done ↦ done
          | inr pace ↦ absurd (omega (arith, pace, low, late))
        ]

  -- ---- the lane

  within_epochs : (k : ℕ) (lane : CommandLane L D E i j h) → length lane.kits.items + k ≡ length plan.switches + 2
      → k ≤ length (control_epochs plan)
  within_epochs k lane many = omega (arith, many, many_epochs plan (length (control_commands plan)))

  -- a lane that is still has come to the epoch's end
  pub command_still : (next : Next) (on : Bool) (k n : ℕ) (lane : CommandLane L D E i j h) (guest : G) (device : X)
      → is_some lane.still ≡ true → InCommandRound s plan next on k n lane guest device → CommandStopped s plan (k + 1) lane guest device
  command_still next on k n lane guest device is p = record {
    held = still_with k n lane.words lane.relayed guest device next on lane.still lane.relaying is p.held;
    kits = p.kits;
  }

  -- after the last epoch
  pub command_closed : (k : ℕ) (lane : CommandLane L D E i j h) (guest : G) (device : X) → CommandStopped s plan (k + 1) lane guest device
      → InCommandEpoch s plan false k 0 lane guest device
  command_closed k lane guest device p = record {
    held = closed_with k 0 lane.words lane.relayed guest device lane.still lane.relaying p.held;
    kits = p.kits;
  }

  pub command_low : (next : Next) (on : Bool) (k n : ℕ) (lane : CommandLane L D E i j h) (guest : G) (device : X)
      → InCommandRound s plan next on k n lane guest device
      → steps s lane.relayed guest device ≤ 1024 * (command_work plan + command_rings plan * plan.size)
  command_low next on k n lane guest device p =
      (round_low k n lane.words lane.relayed guest device next on lane.still lane.relaying
      (within_epochs (k + 1) lane p.kits.many) p.held).low

  pub stopped_command_low : (k : ℕ) (lane : CommandLane L D E i j h) (guest : G) (device : X) → CommandStopped s plan k lane guest device
      → steps s lane.relayed guest device ≤ 1024 * (command_work plan + command_rings plan * plan.size)
  stopped_command_low k lane guest device p =
      (rests_low k 0 lane.words lane.relayed guest device lane.still lane.relaying (within_epochs k lane p.kits.many) p.held).low

  -- after so many rounds the lane is still
  pub command_late : (k n : ℕ) (lane : CommandLane L D E i j h) (guest : G) (device : X) → 4294967296 ≤ n
      → InCommandEpoch s plan true k n lane guest device → is_some lane.still ≡ true
  command_late k n lane guest device late p = late_with k n lane.words lane.relayed guest device lane.still lane.relaying
      (within_epochs (k + 1) lane p.kits.many) late p.held

  -- and after the last epoch the guest is done
  pub command_done : (k n : ℕ) (lane : CommandLane L D E i j h) (guest : G) (device : X) → length (control_epochs plan) ≡ k + 1
      → 4294967296 ≤ n → InCommandEpoch s plan false k n lane guest device → s.guest.is_done guest
  command_done k n lane guest device last late p =
      done_with k n lane.words lane.relayed guest device lane.still lane.relaying last late p.held
