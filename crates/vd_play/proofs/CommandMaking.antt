-- The control queue's lane that was just made is still.
use Rattle.std.proofs.Common.{◌≡◌, ◌≤◌, Bool, true, Option, Some, List, [], length, replicate, unwrap_or, refl, sym, ◌∙◌, ap, subst, arith, inr}
use Rattle.std.specs.List.{All}
use Rattle.std.proofs.lemmas.List.Elements.{All-nil}
use Rattle.vd_model.specs.declared.record.Run.{Run}
use Rattle.vd_model.specs.declared.record.Script.{Script}
use Rattle.vd_words.specs.Plain.{RingWords}
use Rattle.vd_ring.specs.declared.frame.Frame.{Frame}
use Rattle.vd_ring.specs.declared.driver.DriverView.{DriverView}
use Rattle.vd_ring.specs.declared.device.DeviceView.{DeviceView}
use Rattle.vd_ring.specs.Fresh.{fresh_driver, fresh_device}
use Rattle.vd_ring.specs.Frames.{Fits}
use Rattle.vd_layout.specs.Device.{IsStill}
use Rattle.vd_layout.specs.Layout.{IsMadeWith, CanMake, IsFresh}
use Rattle.vd_control.specs.declared.settings.Settings.{Settings}
use Rattle.vd_control.specs.Settings.{default}
use Rattle.vd_bus.specs.Device.{IsUnchanged}
use Rattle.vd_bus.specs.Guest.{IsBoot, CanBoot}
use Rattle.vd_bus.specs.Pace.{attaches}
use Rattle.vd_bus.specs.Scripts.{IsScript, run_chains, run_count}
use Rattle.vd_machine.specs.File.{Plan}
use Rattle.vd_machine.specs.Queues.{script}
use Rattle.vd_play.specs.AllWork.{command_events_room, commands_room}
use Rattle.vd_play.specs.CommandLane.{IsCommandQueue, IsCommandAccount}
use Rattle.vd_play.specs.CommandProgress.{IsCommandStopped}
use Rattle.vd_play.specs.Commands.{control_queue}
use Rattle.vd_play.specs.CommandsPlayed.{HasAckLength}
use Rattle.vd_play.specs.ControlRings.{control_frame}
use Rattle.vd_play.specs.Prepared.{IsEmptyGuest, IsEmptyDevice}
use Rattle.vd_play.specs.Setting.{Setting, IsLawful}
use Rattle.vd_play.proofs.ControlQueues.{ControlParts}

-- the script of a machine's control queue
pub script_of : (plan : Plan) (q : Script) → plan.control ≡ Some q → control_queue plan ≡ q
script_of plan q is = ap (λ (o : Option Script). unwrap_or o (script [])) is

-- it has commands alone, and no more than a guest takes
pub is_script : (q : Script) → ControlParts q → IsScript q
is_script q parts = record {
  chains = omega (arith, ap run_count parts.runs);
  commands = omega (arith, parts.few);
}

none_fit : (f : Frame) (rs : List Run) → rs ≡ [] → All (Fits f) (run_chains rs)
none_fit f rs none = subst (λ (xs : List Run). All (Fits f) (run_chains xs)) (sym none) (All-nil (Fits f))

module _ {D E G X C : Type 0} (s : Setting D E G X C) (law : IsLawful s) (plan : Plan) where
  -- a guest can be booted with it on a fresh control ring
  pub commands_boot : IsCommandQueue s.layout plan → CanMake s.layout plan.size plan.features → (control_queue plan).runs ≡ []
      → CanBoot s.layout (control_queue plan) (fresh_driver (control_frame s.layout plan) (s.layout.width (control_frame s.layout plan)))
  commands_boot queue can runs = record {
    fresh = refl;
    unarmed = refl;
    fits = none_fit (control_frame s.layout plan) (control_queue plan).runs runs;
    other = λ h. absurd (h runs);
    sends = λ h. record { control = refl; sized = can.lawful; free = refl; lengths = queue.sendable.lengths };
  }

  pub commands_made : (words : RingWords) (driver : D) (end rested : E) (control : Bool) (settings : Settings)
      (guest guest1 guest2 : G) (device device' : X) → IsCommandQueue s.layout plan → CanMake s.layout plan.size plan.features
      → (control_queue plan).runs ≡ [] → words.ring ≡ 15
      → words.words ≡ replicate (s.layout.width (control_frame s.layout plan)) 0
      → IsFresh s.driver s.device s.layout plan.size plan.features true driver end → rested ≡ end → control ≡ true → settings ≡ default
      → IsEmptyGuest s.guest guest → s.guest.script guest1 ≡ Some (control_queue plan)
      → (s.guest.accesses guest1 ≡ s.guest.accesses guest) × (s.guest.heard guest1 ≡ s.guest.heard guest)
      → IsBoot s.driver s.layout s.guest driver guest1 guest2 → IsEmptyDevice s.party device → s.party.settings device ≡ default
      → IsUnchanged s.party device device'
      → s.party.window device' ≡ plan.window → command_events_room plan ≤ s.party.event_room device'
      → commands_room plan ≤ s.party.chain_room device'
      → IsCommandStopped s plan 0 0 words rested control settings 0 guest2 device'
  commands_made words driver end rested control settings guest guest1 guest2 device device' queue can runs number is fresh same_end on set
      idle script counts boot empty unset same window events room =
      let f : Frame = control_frame s.layout plan in
      let v : DriverView = fresh_driver f (s.layout.width f) in
      let w : DeviceView = fresh_device f (s.layout.width f) in
      let with : IsMadeWith s.layout plan.size plan.features true f =
      record { packed = refl; size = refl; features = refl; control = refl } in
      let none : s.party.begun device' ≡ [] = same.begun ∙ empty.begun in
      let nothing : s.party.events device' ≡ [] = same.events ∙ empty.events in
      let account : IsCommandAccount plan 0 [] = record { before = refl; many = omega arith; each = All-nil HasAckLength } in
      let times : attaches (s.party.events device') ≡ 0 = ap attaches nothing in
      record {
        view = v;
        device_view = w;
        kept = record {
          driven = record {
            queue = queue;
            numbered = number;
            ring = subst (λ ws. s.layout.ring ws v w) (sym is) (law.layout.opens plan.size plan.features true f can with);
            part = record {
              script = boot.script ∙ script;
              holds = boot.holds v (control_queue plan) script (fresh.drives f with) (commands_boot queue can runs);
              framed = refl;
            };
          };
          account = subst (IsCommandAccount plan 0) (sym none) account;
          reserved = record { window = window; room = omega (arith, room) };
        };
        rests = record {
          stands = subst (λ (z : E). s.device.stands z w) (sym same_end) (fresh.serves f with);
          still = subst (IsStill s.device) (sym same_end) (inr fresh.unused);
          of_control = on;
          kept = set;
          set = same.settings ∙ unset;
          free = same.attached ∙ empty.free;
          taken = refl;
          given = refl;
          ones = λ j low. absurd (omega (arith, low));
          answers = λ k low. absurd (omega (arith, low));
          begun = ap length none;
          events = record {
            bases = λ j. record { 0 = 0 };
            based = λ j ep low at. absurd (omega (arith, low));
            events = nothing;
          };
          room = omega (arith, events);
        };
        paced = record {
          guest_heard = omega (arith, boot.counts.1, counts.1, idle.idle.1);
          guest_low = omega (arith, boot.counts.0, counts.0, idle.idle.0);
          device_low = omega (arith, same.counts.0, empty.idle.0);
          times = omega (arith, times);
        };
        heard = record {
          relays = 0;
          heard = omega (arith, same.counts.1, empty.idle.1);
          low = omega arith;
        };
        early = omega arith;
        late = λ every. inr (omega arith);
      }
