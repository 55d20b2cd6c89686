-- What the control queue's lane is after the last epoch, once its guest is done.
use Rattle.std.proofs.Common.{◌≡◌, ℕ, ◌+◌, ◌<◌, Bool, true, false, Option, Some, None, if◌then◌else◌, nat_lt, List, [], length, take, flat_map, slice_index, sym, ◌∙◌, ap, subst, arith}
use Rattle.std.proofs.Math.Seq.{take-length}
use Rattle.std.proofs.lemmas.List.{append-nil, length-map, take_all, get_or-map}
use Rattle.std.proofs.lemmas.Option.{slice_get_within}
use Rattle.vd_model.specs.declared.record.Begun.{Begun}
use Rattle.vd_model.specs.declared.record.Return.{Return}
use Rattle.vd_words.specs.Plain.{RingWords}
use Rattle.vd_ring.specs.declared.driver.DriverView.{DriverView}
use Rattle.vd_ring.specs.declared.device.DeviceView.{DeviceView}
use Rattle.vd_ring.specs.declared.frame.Frame.{Frame}
use Rattle.vd_ring.specs.declared.frame.Used.{Used}
use Rattle.vd_ring.specs.History.{collects, takes, gives, running, numbers, occurs, upto, entry}
use Rattle.vd_ring.specs.Lists.{Lists}
use Rattle.vd_layout.specs.declared.device.DeviceEnd as device_end
use Rattle.vd_layout.specs.declared.driver.DriverEnd as driver_end
use Rattle.vd_layout.specs.declared.layout.Layout as layout
use Rattle.vd_bus.specs.Guest.{IsHalt}
use Rattle.vd_bus.specs.GuestCommands.{HasSentAll}
use Rattle.vd_control.specs.declared.settings.Settings.{Settings}
use Rattle.vd_control.specs.Settings.{folded}
use Rattle.vd_switch.specs.declared.still.Still.{Still}
use Rattle.vd_control_lane.proofs.AnyScripts.{any_sent_all}
use Rattle.vd_machine.specs.File.{Plan}
use Rattle.vd_play.specs.declared.command_lane.CommandLane.{CommandLane}
use Rattle.vd_play.specs.declared.floor.Relaying.{Relaying}
use Rattle.vd_play.specs.Commands.{control_queue, control_commands, control_epochs, sent_at, AreAnswered}
use Rattle.vd_play.specs.CommandLane.{command_events_before}
use Rattle.vd_play.specs.CommandProgress.{IsCommandStopped, InCommandRoundWith, InCommandEpoch}
use Rattle.vd_play.specs.CommandProgress.Next.{guests}
use Rattle.vd_play.specs.CommandsPlayed.{IsCommandsPlayed, bytes_of}
use Rattle.vd_play.specs.ControlJournal.{epoch_commands, commands_before, journalled_at, command_events}
use Rattle.vd_play.specs.Epochs.{Epoch}
use Rattle.vd_play.specs.Returned.{returned_numbers}
use Rattle.vd_play.specs.Setting.{Setting, IsLawful}
use Rattle.vd_play.proofs.CommandReturns.{returned_first, returns_acked, returned_answered, loads_right}
use Rattle.vd_play.proofs.Lists.{prefix_take, prefix_whole}
use Rattle.vd_play.proofs.Returns.{in_turn}

module _ {D E G X C : Type 0} (s : Setting D E G X C) (law : IsLawful s) (plan : Plan) where
  module _ (k r : ℕ) (words : RingWords) (end : E) (control : Bool) (settings : Settings) (relayed : ℕ) (guest : G) (device : X)
      (last : length (control_epochs plan) ≡ k) (p : IsCommandStopped s plan k r words end control settings relayed guest device)
      (done : s.guest.is_done guest) where
    abbrev v : DriverView
    v = p.view

    abbrev w : DeviceView
    w = p.device_view

    abbrev cs : List (List ℕ)
    cs = control_commands plan

    abbrev rs : List Return
    rs = s.guest.returned guest

    lists : Lists v.frame v.done w.done
    lists = law.layout.lists words.words v w p.kept.driven.ring

    all : HasSentAll (control_queue plan) v rs
    all =
        let d = p.kept.driven in
        (any_sent_all s.driver s.guest law.guest guest v (control_queue plan) d.part.holds d.part.script d.queue.plain).0 done

    as_many : length cs ≡ length (control_queue plan).commands
    as_many = length-map (control_queue plan).commands (λ b. b.items)

    sent : sent_at plan k ≡ length cs
    sent = ap (sent_at plan) (sym last) ∙ p.kept.driven.queue.chained.whole

    taken : length (takes w.done) ≡ length cs
    taken = p.rests.taken ∙ sent

    given : length (gives w.done) ≡ length cs
    given = p.rests.given ∙ sent

    -- all that was given came back
    numbers_are : returned_numbers rs ≡ numbers (gives w.done)
    numbers_are =
        let by : Used → ℕ = λ u. u.number in
        let whole : collects v.done ≡ gives w.done =
        prefix_whole (collects v.done) (gives w.done)
        (prefix_take (collects v.done) (gives w.done) (length (collects v.done)) lists.collected)
        (omega (arith, all.collects, given, as_many)) in
        returned_first v.done rs (returns_acked s law plan words guest v w p.kept.driven)
        ∙ take_all (length rs) (numbers (collects v.done))
        (omega (arith, length-map (collects v.done) by, all.collects, all.returned)) ∙ ap numbers whole

    number_is : v.frame.features.in_order ≡ true → (j : ℕ) → j < length (numbers (gives w.done))
        → slice_index (numbers (gives w.done)) j ≡ j
    number_is ordered j below =
        let by : Used → ℕ = λ u. u.number in
        let low : j < length (gives w.done) = omega (arith, below, length-map (gives w.done) by) in
        get_or-map by (gives w.done) j (entry 0 0) 0 low ∙ lists.in_order ordered j low

    answered : AreAnswered v.frame.features.in_order cs rs
    answered =
        let d = p.kept.driven in
        let by : Used → ℕ = λ u. u.number in
        let none : running w.done ≡ [] = (law.layout.device_end.whole end w p.rests.stands p.rests.still).0 in
        record {
          as_many = omega (arith, all.returned, as_many);
          once = λ j. ap (occurs j) numbers_are
              ∙ (let e : occurs j (numbers (gives w.done)) ≡ (if nat_lt j (length (takes w.done)) then 1 else 0) =
              omega (arith, lists.given j, ap (occurs j) none) in e)
              ∙ ap (λ (n : ℕ). if nat_lt j n then 1 else 0) taken;
          each = returned_answered s law plan words guest v w d
              (loads_right s law plan words guest v w d (sent_at plan k) p.rests.taken p.rests.answers) p.rests.ones;
          ordered = λ ordered. numbers_are ∙ in_turn (numbers (gives w.done)) (number_is ordered)
              ∙ ap upto (length-map (gives w.done) by ∙ given);
        }

    -- once its guest is halted, the queue is played
    pub ends : (guest' : G) (driver : D) → IsHalt s.driver s.guest guest guest' driver → IsCommandsPlayed s plan guest' device
    ends guest' driver h =
        let d = p.kept.driven in
        let begun : List Begun = s.party.begun device in
        let es : List Epoch = control_epochs plan in
        let noted = p.rests.events in
        let front : take (journalled_at plan k) begun ≡ begun =
        take_all (journalled_at plan k) begun (omega (arith, p.rests.begun)) in
        record {
          journal = record {
            bases = noted.bases;
            based = λ j ep is. noted.based j ep (omega (arith, slice_get_within es j ep is, last)) is;
            events = noted.events ∙ append-nil (command_events_before s.layout plan noted.bases k)
                ∙ ap (command_events_before s.layout plan noted.bases) (sym last)
                ∙ ap (flat_map (command_events s.layout plan noted.bases)) (take-length es);
            commands = ap bytes_of (sym front) ∙ p.kept.account.before ∙ ap (commands_before plan) (sym last)
                ∙ ap (flat_map (epoch_commands plan)) (take-length es);
            each = p.kept.account.each;
          };
          settings = p.rests.set ∙ ap folded (take_all (sent_at plan k) cs (omega (arith, sent)));
          free = p.rests.free;
          script = h.script ∙ d.part.script;
          offered = h.offered ∙ law.guest.offered guest v d.part.holds ∙ all.offers ∙ sym as_many;
          returned = subst (λ (zs : List Return). AreAnswered plan.features.in_order cs zs) (sym h.returned)
              (subst (λ (z : Frame). AreAnswered z.features.in_order cs rs) d.part.framed answered);
          halted = h.free;
        }

module _ {L D E G X C : Type 0} {i : layout.Ghosts L D E} {j : driver_end.Ghosts D} {g : device_end.Ghosts E} (s : Setting D E G X C)
    (law : IsLawful s) (plan : Plan) where
  ends_with : (k n : ℕ) (words : RingWords) (still : Option (Still L D E i j g)) (o : Option (Relaying L D E)) (relayed : ℕ)
      (guest guest' : G) (device : X) (driver : D) → length (control_epochs plan) ≡ k + 1 → s.guest.is_done guest
      → IsHalt s.driver s.guest guest guest' driver
      → InCommandRoundWith s plan guests false k n words still o relayed guest device → IsCommandsPlayed s plan guest' device
  ends_with k n words None None relayed guest guest' device driver last done h p = absurd p
  ends_with k n words None (Some x) relayed guest guest' device driver last done h p = absurd p
  ends_with k n words (Some y) (Some x) relayed guest guest' device driver last done h p = absurd p
  ends_with k n words (Some y) None relayed guest guest' device driver last done h p =
      ends s law plan (k + 1) n words y.end y.control y.settings relayed guest device last p done guest' driver h

  -- a guest that is done was halted after the last epoch
  pub command_halts : (k n : ℕ) (lane : CommandLane L D E i j g) (guest guest' : G) (device : X) (driver : D)
      → length (control_epochs plan) ≡ k + 1 → s.guest.is_done guest → IsHalt s.driver s.guest guest guest' driver
      → InCommandEpoch s plan false k n lane guest device → IsCommandsPlayed s plan guest' device
  command_halts k n lane guest guest' device driver last done h p =
      ends_with k n lane.words lane.still lane.relaying lane.relayed guest guest' device driver last done h p.held
