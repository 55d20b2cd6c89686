-- The control queue's lane is made after those of the data queues, with the parties behind theirs.
use Rattle.std.proofs.Common.{◌≡◌, ℕ, ◌<◌, ◌≤◌, Bool, true, false, Option, Some, None, is_some, List, length, set, slice_get, sym, ◌∙◌, ap, subst, arith}
use Rattle.std.proofs.lemmas.Bool.{false≢true}
use Rattle.std.proofs.lemmas.Option.{slice_get_within}
use Rattle.vd_layout.specs.declared.device.DeviceEnd as device_end
use Rattle.vd_layout.specs.declared.driver.DriverEnd as driver_end
use Rattle.vd_layout.specs.declared.layout.Layout as layout
use Rattle.vd_bus.specs.Bus.{queue_count}
use Rattle.vd_bus.specs.Device.{DeviceParty, IsUnchanged}
use Rattle.vd_bus.specs.Guest.{GuestParty}
use Rattle.vd_model.specs.declared.record.Script.{Script}
use Rattle.vd_machine.specs.File.{Plan}
use Rattle.vd_play.specs.declared.bench.Bench.{Bench}
use Rattle.vd_play.specs.declared.command_lane.CommandLane.{CommandLane}
use Rattle.vd_play.specs.CommandPrepared.{KeepsFirst, AreCommandsPrepared}
use Rattle.vd_play.specs.CommandProgress.{CommandStopped}
use Rattle.vd_play.specs.Each.{EachLane, HasLanes}
use Rattle.vd_play.specs.Places.{HasControl, queue_total, control_place}
use Rattle.vd_play.specs.Prepared.{IsUntouched}
use Rattle.vd_play.specs.Setting.{Setting}
use Rattle.vd_play.proofs.Bounds.{at_index}
use Rattle.vd_play.proofs.Each.{get_set_same, get_set_other}
use Rattle.vd_play.proofs.Lists.{some_same}
use Rattle.vd_play.proofs.Places.{control_within}

-- ---- how many parties there are

least : (n : ℕ) (c : Bool) → n ≤ queue_count n c
least n true = omega arith
least n false = omega arith

pub data_few : (plan : Plan) → length plan.queues ≤ queue_total plan
data_few plan = least (length plan.queues) (is_some plan.control)

pub has_data : {G X : Type 0} (plan : Plan) (bench : Bench G X) → HasLanes (queue_total plan) bench → HasLanes (length plan.queues) bench
has_data plan bench h = record {
  guests = omega (arith, h.guests, data_few plan);
  devices = omega (arith, h.devices, data_few plan);
}

pub has_control : (plan : Plan) (q : Script) → plan.control ≡ Some q → HasControl plan
has_control plan q is = ap (λ (o : Option Script). is_some o) is

pub no_control : (plan : Plan) → plan.control ≡ None → HasControl plan → ⊥
no_control plan none has = false≢true (sym (ap (λ (o : Option Script). is_some o) none) ∙ has)

-- ---- one call after the other

pub unchanged_through : {X C : Type 0} (m : DeviceParty X C) (x y z : X) → IsUnchanged m x y → IsUnchanged m y z → IsUnchanged m x z
unchanged_through m x y z p q = record {
  events = q.events ∙ p.events;
  begun = q.begun ∙ p.begun;
  settings = q.settings ∙ p.settings;
  faults = q.faults ∙ p.faults;
  carried = q.carried ∙ p.carried;
  attached = q.attached ∙ p.attached;
  room = (omega (arith, p.room.0, q.room.0), omega (arith, p.room.1, q.room.1));
  counts = (q.counts.0 ∙ p.counts.0, q.counts.1 ∙ p.counts.1);
}

pub untouched_through : {G X C : Type 0} (g : GuestParty G) (m : DeviceParty X C) (a b c : Bench G X)
    → length b.devices.items ≡ length a.devices.items → IsUntouched g m a b → IsUntouched g m b c → IsUntouched g m a c
untouched_through g m a b c many p q = record {
  guests = q.guests;
  devices = λ k x z hx hz.
      let y = at_index b.devices.items k (omega (arith, many, slice_get_within a.devices.items k x hx)) in
      unchanged_through m x y.0 z (p.devices k x y.0 hx y.1) (q.devices k y.0 z y.1 hz);
}

-- the lanes of the first queues are as they were
pub each_first : {A G X : Type 0} (P : ℕ → A → G → X → Type 0) (lanes : List A) (old new : Bench G X) (n : ℕ) → length lanes ≡ n
    → KeepsFirst n old new → EachLane P lanes old.guests.items old.devices.items → EachLane P lanes new.guests.items new.devices.items
each_first P lanes old new n many keeps each = record {
  at = λ q l g x hl hg hx.
      let low : q < n = omega (arith, slice_get_within lanes q l hl, many) in
      each.at q l g x hl (sym (keeps.guests q low) ∙ hg) (sym (keeps.devices q low) ∙ hx);
}

-- the parties behind theirs are written
pub first_set : {G X : Type 0} (n i : ℕ) (old new : Bench G X) (g : G) (x : X) → i ≡ n → new.guests.items ≡ set old.guests.items i g
    → new.devices.items ≡ set old.devices.items i x → KeepsFirst n old new
first_set n i old new g x here gs xs = record {
  guests = λ k low. ap (λ zs. slice_get zs k) gs ∙ get_set_other old.guests.items i k g (λ e. omega (arith, low, e, here));
  devices = λ k low. ap (λ zs. slice_get zs k) xs ∙ get_set_other old.devices.items i k x (λ e. omega (arith, low, e, here));
}

-- ---- what is made

module _ {L D E G X C : Type 0} {a : layout.Ghosts L D E} {b : driver_end.Ghosts D} {c : device_end.Ghosts E} (s : Setting D E G X C)
    (plan : Plan) where
  pub none_prepared : (control : Option (CommandLane L D E a b c)) (bench : Bench G X) → control ≡ None → plan.control ≡ None
      → HasLanes (queue_total plan) bench → AreCommandsPrepared s plan control bench
  none_prepared control bench is none parties = record {
    none = λ h. is;
    some = λ has. absurd (no_control plan none has);
    parties = parties;
  }

  pub some_prepared : (lane : CommandLane L D E a b c) (q : Script) (old new : Bench G X) (i : ℕ) (guest : G) (device : X)
      → plan.control ≡ Some q → i ≡ control_place plan → HasLanes (queue_total plan) old → HasLanes (queue_total plan) new
      → new.guests.items ≡ set old.guests.items i guest → new.devices.items ≡ set old.devices.items i device
      → CommandStopped s plan 0 lane guest device → lane.relayed ≡ 0 → AreCommandsPrepared s plan (Some lane) new
  some_prepared lane q old new i guest device is here before parties gs xs made none =
      let p : ℕ = control_place plan in
      let low : p < queue_total plan = control_within plan (has_control plan q is) in
      let at_guest : slice_get new.guests.items p ≡ Some guest =
      ap (slice_get new.guests.items) (sym here) ∙ ap (λ zs. slice_get zs i) gs
      ∙ get_set_same old.guests.items i guest (omega (arith, here, low, before.guests)) in
      let at_device : slice_get new.devices.items p ≡ Some device =
      ap (slice_get new.devices.items) (sym here) ∙ ap (λ zs. slice_get zs i) xs
      ∙ get_set_same old.devices.items i device (omega (arith, here, low, before.devices)) in
      record {
        none = λ h. absurd (cc);
        some = λ has. λ g x hg hx. (
          subst (λ (z : G). CommandStopped s plan 0 lane z x) (some_same guest g (slice_get new.guests.items p) at_guest hg)
              (subst (λ (z : X). CommandStopped s plan 0 lane guest z)
              (some_same device x (slice_get new.devices.items p) at_device hx) made),
          none,
        );
        parties = parties;
      }
