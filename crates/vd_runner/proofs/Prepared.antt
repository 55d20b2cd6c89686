-- What a play leaves of a bench that was prepared for it, against the bench as it was handed in.
use Rattle.std.proofs.Common.{◌≡◌, ℕ, ◌<◌, List, length, map, get_or, Some, ap, sym, ◌∙◌, arith, subst, inl, inr}
use Rattle.std.specs.Prelude.{slice_get}
use Rattle.std.proofs.lemmas.List.{length-map, ext_get_or, get_or-map}
use Rattle.std.proofs.lemmas.Option.{slice_get-get_or, slice_get_within, slice_get_cases}
use Rattle.vd_bus.specs.Device.{DeviceParty}
use Rattle.vd_bus.specs.Pace.{raised}
use Rattle.vd_bus.specs.Guest.{GuestParty}
use Rattle.vd_play.specs.Played.{KeepsBench, HasNoFault, IsFaultOf}
use Rattle.vd_play.specs.Prepared.{IsUntouched}
use Rattle.vd_play.specs.declared.bench.Bench.{Bench}

pub keeps_on : {G X C : Type 0} (m : DeviceParty X C) (n : ℕ) (a b c : Bench G X) → KeepsBench m n a b → KeepsBench m n b c
    → KeepsBench m n a c
keeps_on m n a b c h i = record {
  guests = i.guests ∙ h.guests;
  carried = i.carried ∙ h.carried;
  other_guests = λ k past. i.other_guests k past ∙ h.other_guests k past;
  other_devices = λ k past. i.other_devices k past ∙ h.other_devices k past;
}

pub same_devices : {G X C : Type 0} (m : DeviceParty X C) (n : ℕ) (a b : Bench G X) → KeepsBench m n a b
    → length b.devices.items ≡ length a.devices.items
same_devices m n a b h = sym (length-map b.devices.items m.carried) ∙ ap length h.carried ∙ length-map a.devices.items m.carried

-- the device that stands where one stood before it was prepared
between : {X : Type 0} (xs ys : List X) (k : ℕ) (x : X) → length ys ≡ length xs → slice_get xs k ≡ Some x
    → slice_get ys k ≡ Some (get_or ys k x)
between xs ys k x many at = slice_get-get_or ys k x (omega (arith, many, slice_get_within xs k x at))

pub faults_same : {G X C : Type 0} (g : GuestParty G) (m : DeviceParty X C) (n : ℕ) (a b : Bench G X) (k : ℕ) (x : X)
    → KeepsBench m n a b → IsUntouched g m a b → slice_get a.devices.items k ≡ Some x → m.faults (get_or b.devices.items k x) ≡ m.faults x
faults_same g m n a b k x h u at =
    (u.devices k x (get_or b.devices.items k x) at (between a.devices.items b.devices.items k x (same_devices m n a b h) at)).faults

pub calm_on : {G X C : Type 0} (g : GuestParty G) (m : DeviceParty X C) (n : ℕ) (a b c : Bench G X) → KeepsBench m n a b
    → IsUntouched g m a b → HasNoFault m b c → HasNoFault m a c
calm_on g m n a b c h u calm = calm ∙ ext_get_or 0 (map m.faults b.devices.items) (map m.faults a.devices.items) many each
  where
    many : length (map m.faults b.devices.items) ≡ length (map m.faults a.devices.items)
    many = length-map b.devices.items m.faults ∙ same_devices m n a b h ∙ sym (length-map a.devices.items m.faults)

    each : (i : ℕ) → i < length (map m.faults b.devices.items)
        → get_or (map m.faults b.devices.items) i 0 ≡ get_or (map m.faults a.devices.items) i 0
    each i below = elim (slice_get_cases a.devices.items i).1 [
      | inl (x, _, at, is) ↦
          get_or-map m.faults b.devices.items i x 0 (omega (arith, below, length-map b.devices.items m.faults))
          ∙ faults_same g m n a b i x h u at ∙ ap m.faults (sym is)
          ∙ sym (get_or-map m.faults a.devices.items i x 0 (omega (arith, below, many, length-map a.devices.items m.faults)))
      | inr (past, _) ↦ omega (arith, below, many, length-map a.devices.items m.faults, past)
    ]

pub fault_on : {G X C : Type 0} (g : GuestParty G) (m : DeviceParty X C) (n q : ℕ) (a b c : Bench G X) → KeepsBench m n a b
    → IsUntouched g m a b → IsFaultOf m n q b c → IsFaultOf m n q a c
fault_on g m n q a b c h u f = record {
  queue = f.queue;
  rose = λ x y at there. subst (λ k. m.faults y ≡ raised 1 k) (faults_same g m n a b q x h u at)
      (f.rose (get_or b.devices.items q x) y (between a.devices.items b.devices.items q x (same_devices m n a b h) at) there);
  others = λ k x y apart at there. f.others k (get_or b.devices.items k x) y apart
      (between a.devices.items b.devices.items k x (same_devices m n a b h) at) there ∙ faults_same g m n a b k x h u at;
}
