-- All steps of a play with a control queue: those of the data queues' parties, and those of its own behind them.
use Rattle.std.proofs.Common.{◌≡◌, inl, inr, ℕ, ◌+◌, ◌*◌, ◌≤◌, Bool, List, Some, length, slice_get, sym, ap, ◌∙◌, arith}
use Rattle.std.proofs.lemmas.Bool.{cases_eq, cases_lt}
use Rattle.std.proofs.lemmas.List.{length-set}
use Rattle.std.specs.Vec.{with_item}
use Rattle.vd_layout.specs.declared.device.DeviceEnd as device_end
use Rattle.vd_layout.specs.declared.driver.DriverEnd as driver_end
use Rattle.vd_layout.specs.declared.layout.Layout as layout
use Rattle.vd_machine.specs.File.{Plan}
use Rattle.vd_play.specs.declared.bench.Bench.{Bench}
use Rattle.vd_play.specs.declared.command_lane.CommandLane.{CommandLane}
use Rattle.vd_play.specs.declared.floor.Lane.{Lane}
use Rattle.vd_play.specs.AllWork.{command_work, command_rings, most_steps_of_all}
use Rattle.vd_play.specs.CommandEpochs.{made_of_all}
use Rattle.vd_play.specs.Each.{HasLanes}
use Rattle.vd_play.specs.Played.{KeepsBench}
use Rattle.vd_play.specs.Prepared.{IsIdle}
use Rattle.vd_play.specs.Progress.{AllInEpoch, all_made, most_steps, rings, steps}
use Rattle.vd_play.specs.Setting.{Setting, IsLawful}
use Rattle.vd_play.proofs.Benches.{same_many}
use Rattle.vd_play.proofs.CommandBenches.{each_beyond}
use Rattle.vd_play.proofs.Each.{get_set_same, get_set_other, map_set, map_at}
use Rattle.vd_play.proofs.Lasting.{all_low}
use Rattle.vd_play.proofs.Lists.{All-at}
use Rattle.vd_play.proofs.Sums.{sum_set}

module _ {L D E G X C : Type 0} (s : Setting D E G X C) (law : IsLawful s) (plan : Plan) (old bench : Bench G X) (lanes : List (Lane L D E))
    (many : length lanes ≡ length plan.queues) (parties : HasLanes (length plan.queues + 1) old)
    (keeps : KeepsBench s.party (length plan.queues + 1) old bench) (guest0 : G) (device0 : X)
    (at_guest : slice_get old.guests.items (length plan.queues) ≡ Some guest0)
    (at_device : slice_get old.devices.items (length plan.queues) ≡ Some device0) (guest : G) (device : X)
    (now_guest : slice_get bench.guests.items (length plan.queues) ≡ Some guest)
    (now_device : slice_get bench.devices.items (length plan.queues) ≡ Some device) where
  -- the bench with the control queue's parties as they were
  abbrev without : Bench G X
  without = record {
    guests = with_item bench.guests (length plan.queues) guest0;
    devices = with_item bench.devices (length plan.queues) device0;
  }

  low_guest : length plan.queues + 1 ≤ length bench.guests.items
  low_guest = omega (arith, keeps.guests, parties.guests)

  low_device : length plan.queues + 1 ≤ length bench.devices.items
  low_device = omega (arith, same_many s.party (length plan.queues + 1) old bench keeps, parties.devices)

  kept_without : KeepsBench s.party (length plan.queues) old without
  kept_without = record {
    guests = length-set bench.guests.items (length plan.queues) guest0 ∙ keeps.guests;
    carried = map_set s.party.carried bench.devices.items (length plan.queues) device device0 now_device
        (sym (map_at s.party.carried old.devices.items bench.devices.items (length plan.queues) device0 device keeps.carried at_device
        now_device)) ∙ keeps.carried;
    other_guests = λ k from. elim (cases_eq k (length plan.queues)) [
      | inl same ↦ ap (λ (i : ℕ). slice_get (with_item bench.guests (length plan.queues) guest0).items i) same
          ∙ get_set_same bench.guests.items (length plan.queues) guest0 (omega (arith, low_guest)) ∙ sym at_guest
          ∙ ap (λ (i : ℕ). slice_get old.guests.items i) (sym same)
      | inr other ↦ get_set_other bench.guests.items (length plan.queues) k guest0 other
          ∙ keeps.other_guests k (cases_from k (length plan.queues) from other)
    ];
    other_devices = λ k from. elim (cases_eq k (length plan.queues)) [
      | inl same ↦ ap (λ (i : ℕ). slice_get (with_item bench.devices (length plan.queues) device0).items i) same
          ∙ get_set_same bench.devices.items (length plan.queues) device0 (omega (arith, low_device)) ∙ sym at_device
          ∙ ap (λ (i : ℕ). slice_get old.devices.items i) (sym same)
      | inr other ↦ get_set_other bench.devices.items (length plan.queues) k device0 other
          ∙ keeps.other_devices k (cases_from k (length plan.queues) from other)
    ];
  }
    where
      cases_from : (k n : ℕ) → n ≤ k → (k ≡ n → ⊥) → n + 1 ≤ k
      cases_from k n from other = elim (cases_lt n k) [
        | inl less ↦ omega (arith, less)
        | inr more ↦ absurd (other (omega (arith, from, more)))
      ]

  module _ {a : layout.Ghosts L D E} {b : driver_end.Ghosts D} {c : device_end.Ghosts E} (lane : CommandLane L D E a b c) where
    pub all_low_with : (on : Bool) (k r : ℕ) → IsIdle s old → AllInEpoch s plan on k r lanes bench
        → steps s lane.relayed guest device ≤ 1024 * (command_work plan + command_rings plan * plan.size)
        → made_of_all s lanes lane bench ≤ most_steps_of_all plan
    all_low_with on k r idle each low =
        let low_data : all_made s lanes without ≤ most_steps plan =
        all_low s plan law on k r lanes old without many
        (record {
          guests = omega (arith, length-set bench.guests.items (length plan.queues) guest0, low_guest);
          devices = omega (arith, length-set bench.devices.items (length plan.queues) device0, low_device);
        })
        idle kept_without (each_beyond _ lanes bench.guests.items bench.devices.items (length plan.queues) guest0 device0
        (omega (arith, many)) each) in
        let room : (rings plan + command_rings plan) * plan.size ≡ rings plan * plan.size + command_rings plan * plan.size = omega arith in
        omega (
          arith,
          low_data,
          low,
          room,
          sum_set s.guest.accesses bench.guests.items (length plan.queues) guest guest0 now_guest,
          sum_set s.party.accesses bench.devices.items (length plan.queues) device device0 now_device,
          All-at (λ x. s.guest.accesses x ≡ 0) old.guests.items (length plan.queues) guest0 at_guest idle.guests,
          All-at (λ x. s.party.accesses x ≡ 0) old.devices.items (length plan.queues) device0 at_device idle.devices,
        )
