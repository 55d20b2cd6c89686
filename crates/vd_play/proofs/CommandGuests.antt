-- The guest's turn in a round of the control queue's lane.
use Rattle.std.proofs.Common.{◌≡◌, inl, inr, ℕ, ◌+◌, ◌≤◌, Bool, List, [], length, sym, ◌∙◌, ap, subst, arith}
use Rattle.std.proofs.lemmas.Bool.{cases_lt}
use Rattle.std.proofs.lemmas.List.{length-map}
use Rattle.vd_words.specs.Plain.{RingWords}
use Rattle.vd_ring.specs.declared.driver.DriverView.{DriverView}
use Rattle.vd_ring.specs.declared.device.DeviceView.{DeviceView}
use Rattle.vd_ring.specs.History.{offers, collects, takes, gives}
use Rattle.vd_ring.specs.Signals.{nothing}
use Rattle.vd_ring.specs.Sleep.{device_owed}
use Rattle.vd_ring.proofs.Quiet.{quiet_driver}
use Rattle.vd_control.specs.declared.settings.Settings.{Settings}
use Rattle.vd_commands.specs.Words.{ack_byte}
use Rattle.vd_relay.specs.declared.control.Control.{Control}
use Rattle.vd_relay.specs.declared.counts.Counts.{Counts}
use Rattle.vd_relay.specs.declared.state.State.{State}
use Rattle.vd_switch.specs.CommandLanes.{AreAnsweredTo}
use Rattle.vd_turns.specs.RelayTurns.{HalfWaits}
use Rattle.vd_turns.specs.Turns.{GuestTurn}
use Rattle.vd_control_lane.proofs.Sent.{carried}
use Rattle.vd_control_lane.proofs.AnyScripts.{any_listed, any_sent, any_sent_all}
use Rattle.vd_machine.specs.File.{Plan}
use Rattle.vd_play.specs.Commands.{control_queue, control_commands, sent_at}
use Rattle.vd_play.specs.CommandLane.{IsCommandDriven}
use Rattle.vd_play.specs.CommandProgress.{IsCommandShadowing, IsCommandWinding, IsCommandStopped, IsQuietGuest}
use Rattle.vd_play.specs.CommandProgress.Next.{guests, relays}
use Rattle.vd_play.specs.Progress.{steps}
use Rattle.vd_play.specs.Setting.{Setting, IsLawful}
use Rattle.vd_play.proofs.CommandKeep.{keeps_guest, kept_guest}
use Rattle.vd_play.proofs.CommandPace.{offers_few}
use Rattle.vd_play.proofs.CommandPaces.{guest_paced, paces_guest}
use Rattle.vd_play.proofs.Lists.{length_le}

module _ {D E G X C : Type 0} (s : Setting D E G X C) (law : IsLawful s) (plan : Plan) (k n a : ℕ) (few : a ≤ 4)
    (words words1 : RingWords) (guest guest1 : G) (device : X) (same : words1.ring ≡ words.ring) where
  -- in an epoch
  pub guest_shadows : (shadow_words : List ℕ) (r : State E D) (control : Control) (settings : Settings) (c : Counts) (relayed : ℕ)
      (p : IsCommandShadowing s plan guests k n words shadow_words r control settings c relayed guest device)
      → GuestTurn s.layout s.guest words1.words p.view p.device_view guest guest1 a
      → IsCommandShadowing s plan relays k n words1 shadow_words r control settings c relayed guest1 device
      × (steps s relayed guest1 device ≡ steps s relayed guest device + a)
  guest_shadows shadow_words r control settings c relayed p t =
      let kept = keeps_guest s law plan k a words words1 shadow_words r control settings c guest guest1 device p.start p.view p.device_view
      p.shadow_view p.shadow_device_view same p.kept t.run in
      let paces = paces_guest s law plan k a relayed words1 r c guest guest1 device p.view p.device_view p.shadow_view p.shadow_device_view
      few t.run kept.driven p.paced p.heard in
      let total : steps s relayed guest1 device ≡ steps s relayed guest device + a = omega (arith, paces.counted) in (
        record {
          start = p.start;
          view = t.run.view;
          device_view = p.device_view;
          shadow_view = p.shadow_view;
          shadow_device_view = p.shadow_device_view;
          kept = kept;
          serves = p.serves;
          awake = p.awake;
          paced = paces.paced;
          heard = paces.heard;
          rounds = elim (cases_lt 0 a) [
            | inl some ↦ elim p.rounds [
              | inl le ↦ inl (omega (arith, le, total, some))
              | inr half ↦ inl (omega (arith, half.0, total, some))
            ]
            | inr none ↦ (
                let quiet = t.quiet (omega (arith, none)) in
                inr (
                  quiet.1,
                  elim p.rounds [
                    | inl le ↦ inl (omega (arith, le, total))
                    | inr half ↦ inr (
                      omega (arith, half.0, total),
                      subst (λ (v : DriverView). HalfWaits r.stage v p.device_view p.shadow_view p.shadow_device_view) (sym quiet.0) half.1,
                    )
                  ],
                )
                )
          ];
        },
        total,
      )

  pub guest_winds : (shadow_words : List ℕ) (r : State E D) (control : Control) (settings : Settings) (c : Counts) (relayed : ℕ)
      (p : IsCommandWinding s plan guests k n words shadow_words r control settings c relayed guest device)
      → GuestTurn s.layout s.guest words1.words p.view p.device_view guest guest1 a
      → IsCommandWinding s plan relays k n words1 shadow_words r control settings c relayed guest1 device
      × (steps s relayed guest1 device ≡ steps s relayed guest device + a)
  guest_winds shadow_words r control settings c relayed p t =
      let kept = keeps_guest s law plan k a words words1 shadow_words r control settings c guest guest1 device p.start p.view p.device_view
      p.shadow_view p.shadow_device_view same p.kept t.run in
      let paces = paces_guest s law plan k a relayed words1 r c guest guest1 device p.view p.device_view p.shadow_view p.shadow_device_view
      few t.run kept.driven p.paced p.heard in
      let total : steps s relayed guest1 device ≡ steps s relayed guest device + a = omega (arith, paces.counted) in (
        record {
          start = p.start;
          view = t.run.view;
          device_view = p.device_view;
          shadow_view = p.shadow_view;
          shadow_device_view = p.shadow_device_view;
          kept = kept;
          served = p.served;
          winds = p.winds;
          paced = paces.paced;
          heard = paces.heard;
          rounds = omega (arith, p.rounds, total);
        },
        total,
      )

  -- ---- between two epochs

  -- what was answered is so still
  answers_stay : (m : ℕ) (v v' : DriverView) (w : DeviceView) → IsCommandDriven s plan words guest v w
      → IsCommandDriven s plan words1 guest1 v' w → length (offers v.done) ≤ length (offers v'.done) → m ≤ length (offers v.done)
      → AreAnsweredTo m v w → AreAnsweredTo m v' w
  answers_stay m v v' w p p' more early right i low =
      let q = p.queue in
      let was = any_sent s.driver s.guest law.guest guest v (control_queue plan) p.part.holds p.part.script q.plain in
      let is = any_sent s.driver s.guest law.guest guest1 v' (control_queue plan) p'.part.holds p'.part.script q.plain in
      right i low
      ∙ ap ack_byte (carried s.driver.words (control_queue plan) v was q.sendable i [] (omega (arith, low, early))
      ∙ sym (carried s.driver.words (control_queue plan) v' is q.sendable i [] (omega (arith, low, early, more))))

  -- once all commands were given a guest that sleeps is done
  all_back : (v : DriverView) (w : DeviceView) → IsCommandDriven s plan words1 guest1 v w
      → device_owed w.doing ≡ nothing → length (takes w.done) ≡ length (gives w.done)
      → length (control_commands plan) ≤ length (takes w.done) → IsQuietGuest s guest1 v w → s.guest.is_done guest1
  all_back v w p none even all (inl done) = done
  all_back v w p none even all (inr waits) =
      let lists = law.layout.lists words1.words v w p.ring in
      let script = control_queue plan in
      let few_offers = offers_few s law plan words1 guest1 v w p in
      let collected : collects v.done ≡ gives w.done = quiet_driver v w (law.layout.places words1.words v w p.ring) lists
      (law.layout.signals words1.words v w p.ring) waits none in
      let many : length (control_commands plan) ≡ length script.commands = length-map script.commands (λ b. b.items) in
      let count : length (collects v.done) ≡ length script.commands =
      omega (arith, ap length collected, even, all, lists.some, few_offers, many) in
      (any_sent_all s.driver s.guest law.guest guest1 v script p.part.holds p.part.script p.queue.plain).1 record {
        offers = omega (arith, all, lists.some, few_offers, many);
        collects = count;
        returned = any_listed s.driver s.guest law.guest guest1 v script p.part.holds p.part.script p.queue.plain waits.at waits.armed ∙ count;
        idle = waits.idle;
      }

  pub guest_stops : (end : E) (control : Bool) (settings : Settings) (relayed : ℕ)
      (p : IsCommandStopped s plan k n words end control settings relayed guest device)
      → GuestTurn s.layout s.guest words1.words p.view p.device_view guest guest1 a
      → IsCommandStopped s plan k (n + 1) words1 end control settings relayed guest1 device
      × (steps s relayed guest1 device ≡ steps s relayed guest device + a)
  guest_stops end control settings relayed p t =
      let w : DeviceView = p.device_view in
      let kept = kept_guest s law plan k a words words1 guest guest1 device p.view w same p.kept t.run in
      let by_guest = guest_paced s law plan a words1 guest guest1 p.view w p.paced.guest_heard p.paced.guest_low t.run kept.driven few in
      let total : steps s relayed guest1 device ≡ steps s relayed guest device + a = omega (arith, by_guest.counted) in
      let whole = law.layout.device_end.whole end w p.rests.stands p.rests.still in
      let idle = law.layout.device_end.at_rest end w p.rests.stands (law.layout.device_end.still end p.rests.still) in
      let lists = law.layout.lists words.words p.view w p.kept.driven.ring in
      let more = length_le (offers p.view.done) (offers t.run.view.done) t.run.grows.offers in (
        record {
          view = t.run.view;
          device_view = w;
          kept = kept;
          rests = record {
            stands = p.rests.stands;
            still = p.rests.still;
            of_control = p.rests.of_control;
            kept = p.rests.kept;
            set = p.rests.set;
            free = p.rests.free;
            taken = p.rests.taken;
            given = p.rests.given;
            ones = p.rests.ones;
            answers = answers_stay (sent_at plan k) p.view t.run.view w p.kept.driven kept.driven more
                (omega (arith, p.rests.taken, lists.some)) p.rests.answers;
            begun = p.rests.begun;
            events = p.rests.events;
            room = p.rests.room;
          };
          paced = record {
            guest_heard = by_guest.heard;
            guest_low = by_guest.low;
            device_low = p.paced.device_low;
            times = p.paced.times;
          };
          heard = p.heard;
          early = p.early;
          late = λ every. elim (p.late every) [
            | inl done ↦ inl (t.over done)
            | inr pace ↦ elim (cases_lt 0 a) [
              | inl some ↦ inr (omega (arith, pace, total, some))
              | inr none ↦ inl (all_back t.run.view w kept.driven (ap device_owed idle) whole.1 every (t.quiet (omega (arith, none))).1)
            ]
          ];
        },
        total,
      )
