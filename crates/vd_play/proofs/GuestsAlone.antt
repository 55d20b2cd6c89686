-- Still lanes in rounds of the guests alone.
use Rattle.std.proofs.Common.{◌≡◌, ◌<◌, ℕ, is_some, true, false, Option, Some, None, length, map, set, slice_get, refl, ap, ◌∙◌, arith}
use Rattle.std.proofs.lemmas.List.{length-set}
use Rattle.vd_bus.specs.Device.{DeviceParty}
use Rattle.vd_words.specs.Plain.{RingWords}
use Rattle.vd_machine.specs.File.{Plan}
use Rattle.vd_play.specs.declared.floor.Relaying.{Relaying}
use Rattle.vd_play.specs.declared.bench.Bench.{Bench}
use Rattle.vd_play.specs.Played.{KeepsBench}
use Rattle.vd_play.specs.Progress.{InEpochWith}
use Rattle.vd_play.specs.Setting.{Setting}
use Rattle.vd_play.proofs.Each.{get_set_other}

-- once no device is attached, each lane keeps an end
pub is_waiting : {L D E G X C : Type 0} (s : Setting D E G X C) (plan : Plan) (q k n : ℕ) (words : RingWords) (still : Option E)
    (relaying : Option (Relaying L D E)) (relayed : ℕ) (guest : G) (device : X)
    → InEpochWith s plan q false k n words still relaying relayed guest device → is_some still ≡ true
is_waiting s plan q k n words None None relayed guest device p = absurd p
is_waiting s plan q k n words None (Some x) relayed guest device p = absurd p
is_waiting s plan q k n words (Some end) relaying relayed guest device p = refl

-- the guest of one lane is written
pub keeps_guest : {G X C : Type 0} (m : DeviceParty X C) (n : ℕ) (old now new : Bench G X) (i : ℕ) (g : G) → i < n
    → KeepsBench m n old now → new.guests.items ≡ set now.guests.items i g → new.devices ≡ now.devices → KeepsBench m n old new
keeps_guest m n old now new i g below k gs xs = record {
  guests = ap length gs ∙ length-set now.guests.items i g ∙ k.guests;
  carried = ap (λ d. map m.carried d.items) xs ∙ k.carried;
  other_guests = λ j h. ap (λ zs. slice_get zs j) gs ∙ get_set_other now.guests.items i j g (λ e. omega arith) ∙ k.other_guests j h;
  other_devices = λ j h. ap (λ d. slice_get d.items j) xs ∙ k.other_devices j h;
}
