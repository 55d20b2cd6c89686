-- What a machine's rules say of its control queue: each command has 3 to 10 bytes, and there are no more of them than there may be.
use Rattle.std.proofs.Common.{◌≡◌, ℕ, suc, get_or, ◌<◌, ◌≤◌, ◌&&◌, ◌==◌, nat_le, true, Option, Some, None, unwrap_or, List, [], ◌∷◌, length, map, refl, arith}
use Rattle.std.specs.List.{All, list_all}
use Rattle.std.proofs.lemmas.Bool.{and_parts, leb-true, eqb-true}
use Rattle.std.proofs.lemmas.List.{length-map}
use Rattle.std.proofs.lemmas.List.Elements.{All-nil, All-cons}
use Rattle.arrayvec.specs.ArrayVec.{ArrayVec}
use Rattle.vd_model.specs.declared.record.Run.{Run}
use Rattle.vd_model.specs.declared.record.Script.{Script}
use Rattle.vd_layout.specs.Layout.{LayoutModel, CanMake}
use Rattle.vd_text.proofs.CommandTexts.{command_parts}
use Rattle.vd_bus.specs.GuestCommands.{IsCommandLength}
use Rattle.vd_control_lane.specs.Scripts.{AreSendable}
use Rattle.vd_machine.specs.Commands.{is_lawful_command, is_control, is_lawful_control}
use Rattle.vd_machine.specs.File.{Plan}
use Rattle.vd_machine.specs.Queues.{script}
use Rattle.vd_machine.specs.Rings.{is_lawful_size}
use Rattle.vd_machine.specs.Switches.{are_switches}
use Rattle.vd_machine.proofs.Facts.{size_bounds}
use Rattle.vd_play.specs.CommandLane.{IsCommandQueue, most_commands}
use Rattle.vd_play.specs.Commands.{control_queue, control_commands}
use Rattle.vd_play.specs.Places.{HasControl}
use Rattle.vd_play.specs.Switching.{IsSwitched}
use Rattle.vd_play.proofs.Chained.{few_epochs, switched_is}
use Rattle.vd_play.proofs.ControlEpochs.{AreBytes, control_chained, control_numbered}

all_bytes : (bs : List ℕ) → ((i : ℕ) → get_or bs i 0 < 256) → All (λ byte. byte < 256) bs
all_bytes [] h = All-nil (λ (byte : ℕ). byte < 256)
all_bytes (b ∷ bs) h = All-cons (λ (byte : ℕ). byte < 256) b bs (h 0) (all_bytes bs (λ i. h (suc i)))

sendable : (cs : List (ArrayVec ℕ)) → list_all is_lawful_command cs ≡ true → AreSendable (map (λ c. c.items) cs)
sendable [] h = record {
  lengths = All-nil (λ (bytes : List ℕ). IsCommandLength (length bytes));
  bytes = All-nil (All (λ byte. byte < 256));
}
sendable (c ∷ cs) h =
    let both = and_parts (is_lawful_command c) (list_all is_lawful_command cs) h in
    let here = command_parts c.items both.0 in
    let rest = sendable cs both.1 in
    record {
      lengths = All-cons (λ (bytes : List ℕ). IsCommandLength (length bytes)) c.items (map (λ (x : ArrayVec ℕ). x.items) cs)
          (here.least, here.most) rest.lengths;
      bytes = All-cons (All (λ byte. byte < 256)) c.items (map (λ (x : ArrayVec ℕ). x.items) cs) (all_bytes c.items here.small) rest.bytes;
    }

-- a control queue's commands, by its rules
pub record ControlParts (q : Script) : Type 0 where
  pub runs : q.runs ≡ []
  pub few : length q.commands ≤ most_commands
  pub sendable : AreSendable (map (λ c. c.items) q.commands)

no_runs : (rs : List Run) → length rs ≡ 0 → rs ≡ []
no_runs [] h = refl
no_runs (r ∷ rs) h = absurd (omega arith)

control_parts : (q : Script) → is_control q ≡ true → ControlParts q
control_parts q h =
    let first = and_parts (length q.runs == 0) (nat_le (length q.commands) most_commands && list_all is_lawful_command q.commands) h in
    let rest = and_parts (nat_le (length q.commands) most_commands) (list_all is_lawful_command q.commands) first.1 in
    record {
      runs = no_runs q.runs (eqb-true (length q.runs) 0 first.0);
      few = leb-true (length q.commands) most_commands rest.0;
      sendable = sendable q.commands rest.1;
    }

parts_of : (o : Option Script) → is_lawful_control o ≡ true → ControlParts (unwrap_or o (script []))
parts_of (Some q) h = control_parts q h
parts_of None h = record { runs = refl; few = omega arith; sendable = sendable [] refl }

-- where there is no control queue it has no commands
pub control_lawful : (plan : Plan) → is_lawful_control plan.control ≡ true → ControlParts (control_queue plan)
control_lawful plan h = parts_of plan.control h

-- the bytes of each command are bytes
pub control_bytes : (plan : Plan) → is_lawful_control plan.control ≡ true → AreBytes plan
control_bytes plan h = (control_lawful plan h).sendable.bytes

-- what a play needs to know of a control queue
pub control_queue_is : (l : LayoutModel) (plan : Plan) → is_lawful_control plan.control ≡ true
    → is_lawful_size plan.packed plan.size ≡ true → are_switches plan.switches ≡ true → CanMake l plan.size plan.features
    → HasControl plan → IsCommandQueue l plan
control_queue_is l plan lawful sized switches can there =
    let parts : ControlParts (control_queue plan) = control_lawful plan lawful in
    let switched : IsSwitched plan = switched_is plan switches in
    let bounds = size_bounds plan.packed plan.size sized in
    record {
      there = there;
      plain = parts.runs;
      sendable = parts.sendable;
      few = omega (arith, parts.few, length-map (control_queue plan).commands (λ (c : ArrayVec ℕ). c.items));
      sized = (bounds.0, omega (arith, bounds.1));
      made = can;
      epochs = few_epochs plan (length (control_commands plan)) switched;
      chained = control_chained plan switched;
      numbered = control_numbered plan;
    }
