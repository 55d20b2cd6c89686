-- What stays the same of a bench when the parties of one queue are written.
use Rattle.std.proofs.Common.{◌≡◌, ℕ, ◌<◌, ◌≤◌, Some, Result, Ok, Err, IfErr, IsErrAnd, length, map, set, slice_get, refl, sym, ◌∙◌, ap, subst, arith}
use Rattle.std.specs.Vec.{with_item}
use Rattle.std.proofs.lemmas.List.{length-set, length-map}
use Rattle.vd_bus.specs.Device.{DeviceParty}
use Rattle.vd_bus.specs.Pace.{raised}
use Rattle.vd_play.specs.declared.bench.Bench.{Bench}
use Rattle.vd_play.specs.Each.{HasLanes}
use Rattle.vd_play.specs.declared.epoch.PlayFault.{PlayFault}
use Rattle.vd_play.specs.declared.epoch.PlayFault.TheVariants.{Device}
use Rattle.vd_play.specs.Played.{KeepsBench, HasNoFault, IsFaultOf, faulty}
use Rattle.vd_play.proofs.Bounds.{at_index}
use Rattle.vd_play.proofs.Each.{get_set_other, get_set_same, map_set, map_at, set_same}
use Rattle.vd_play.proofs.Lists.{some_same}

module _ {G X C : Type 0} (m : DeviceParty X C) (n : ℕ) where
  pub keeps_none : (b : Bench G X) → KeepsBench m n b b
  keeps_none b = record { guests = refl; carried = refl; other_guests = λ k h. refl; other_devices = λ k h. refl }

  pub keeps_through : (a b c : Bench G X) → KeepsBench m n a b → KeepsBench m n b c → KeepsBench m n a c
  keeps_through a b c p q = record {
    guests = q.guests ∙ p.guests;
    carried = q.carried ∙ p.carried;
    other_guests = λ k h. q.other_guests k h ∙ p.other_guests k h;
    other_devices = λ k h. q.other_devices k h ∙ p.other_devices k h;
  }

  -- the parties of queue i are written, and its device carries what it carried
  pub keeps_set : (old now new : Bench G X) (i : ℕ) (g : G) (x y : X) → i < n → KeepsBench m n old now
      → new.guests.items ≡ set now.guests.items i g → new.devices.items ≡ set now.devices.items i y
      → slice_get now.devices.items i ≡ Some x → m.carried y ≡ m.carried x
      → KeepsBench m n old new
  keeps_set old now new i g x y below k gs xs at same = record {
    guests = ap length gs ∙ length-set now.guests.items i g ∙ k.guests;
    carried = ap (map m.carried) xs ∙ map_set m.carried now.devices.items i x y at same ∙ k.carried;
    other_guests = λ j h. ap (λ zs. slice_get zs j) gs ∙ get_set_other now.guests.items i j g (λ e. omega arith) ∙ k.other_guests j h;
    other_devices = λ j h. ap (λ zs. slice_get zs j) xs ∙ get_set_other now.devices.items i j y (λ e. omega arith) ∙ k.other_devices j h;
  }

  -- the device alone
  pub keeps_device : (old now : Bench G X) (i : ℕ) (x y : X) → i < n → i < length now.guests.items → KeepsBench m n old now
      → slice_get now.devices.items i ≡ Some x → m.carried y ≡ m.carried x
      → KeepsBench m n old (record { guests = now.guests; devices = with_item now.devices i y })
  keeps_device old now i x y below there k at same =
      let g = at_index now.guests.items i there in
      keeps_set old now (record { guests = now.guests; devices = with_item now.devices i y }) i g.0 x y below k
      (sym (set_same now.guests.items i g.0 g.1)) refl at same

  pub same_many : (old new : Bench G X) → KeepsBench m n old new → length new.devices.items ≡ length old.devices.items
  same_many old new k = sym (length-map new.devices.items m.carried) ∙ ap length k.carried ∙ length-map old.devices.items m.carried

  pub lanes_kept : (old new : Bench G X) (j : ℕ) → KeepsBench m n old new → HasLanes j old → HasLanes j new
  lanes_kept old new j k h =
      record { guests = omega (arith, h.guests, k.guests); devices = omega (arith, h.devices, same_many old new k) }

pub keeps_more : {G X C : Type 0} (m : DeviceParty X C) (j n : ℕ) (old new : Bench G X) → j ≤ n → KeepsBench m j old new
    → KeepsBench m n old new
keeps_more m j n old new le k = record {
  guests = k.guests;
  carried = k.carried;
  other_guests = λ i h. k.other_guests i (omega arith);
  other_devices = λ i h. k.other_devices i (omega arith);
}

pub faults_set : {G X C : Type 0} (m : DeviceParty X C) (old now new : Bench G X) (i : ℕ) (x y : X) → HasNoFault m old now
    → new.devices.items ≡ set now.devices.items i y → slice_get now.devices.items i ≡ Some x → m.faults y ≡ m.faults x
    → HasNoFault m old new
faults_set m old now new i x y none xs at same = ap (map m.faults) xs ∙ map_set m.faults now.devices.items i x y at same ∙ none

-- the one device whose count rose
pub fault_set : {G X C : Type 0} (m : DeviceParty X C) (n : ℕ) (old now new : Bench G X) (i : ℕ) (x y : X) → i < n
    → HasNoFault m old now → new.devices.items ≡ set now.devices.items i y → slice_get now.devices.items i ≡ Some x
    → m.faults y ≡ raised 1 (m.faults x) → IsFaultOf m n i old new
fault_set m n old now new i x y below none xs at rose = record {
  queue = below;
  rose = λ a b ha hb.
      let same : b ≡ y = some_same b y (slice_get (set now.devices.items i y) i) (sym (ap (λ zs. slice_get zs i) xs) ∙ hb)
      (get_set_same now.devices.items i y (Rattle.std.proofs.lemmas.Option.slice_get_within now.devices.items i x at)) in
      let before : m.faults x ≡ m.faults a = map_at m.faults old.devices.items now.devices.items i a x none ha at in
      omega (arith, rose, before, ap m.faults same);
  others = λ k a b ne ha hb. map_at m.faults old.devices.items now.devices.items k a b none ha
      (sym (get_set_other now.devices.items i k y ne) ∙ sym (ap (λ zs. slice_get zs k) xs) ∙ hb);
}

-- where a call says so, which ends with the fault of that queue
pub fault_device : {T G X C : Type 0} (m : DeviceParty X C) (n : ℕ) (old now : Bench G X) (i : ℕ) (x y : X) (f : PlayFault)
    (r : Result T PlayFault) → i < n → HasNoFault m old now → slice_get now.devices.items i ≡ Some x
    → m.faults y ≡ raised 1 (m.faults x) → f ≡ Device i → IsErrAnd r (λ z. z ≡ f)
    → IfErr r (λ z. IsFaultOf m n (faulty z) old (record { guests = now.guests; devices = with_item now.devices i y }))
fault_device m n old now i x y f (Ok z) below none at rose is said = tt
fault_device m n old now i x y f (Err z) below none at rose is said =
    let new : Bench _ _ = record { guests = now.guests; devices = with_item now.devices i y } in
    subst (λ (g : PlayFault). IsFaultOf m n (faulty g) old new) (sym (said ∙ is))
    (fault_set m n old now new i x y below none refl at rose)

-- a count that rose after it had stood still
pub fault_later : {G X C : Type 0} (m : DeviceParty X C) (n q : ℕ) (old mid new : Bench G X)
    → length mid.devices.items ≡ length old.devices.items → HasNoFault m old mid → IsFaultOf m n q mid new → IsFaultOf m n q old new
fault_later m n q old mid new many none f = record {
  queue = f.queue;
  rose = λ a b ha hb.
      let x = at_index mid.devices.items q
      (omega (arith, many, Rattle.std.proofs.lemmas.Option.slice_get_within old.devices.items q a ha)) in
      let before : m.faults x.0 ≡ m.faults a = map_at m.faults old.devices.items mid.devices.items q a x.0 none ha x.1 in
      omega (arith, f.rose x.0 b x.1 hb, before);
  others = λ k a b ne ha hb.
      let x = at_index mid.devices.items k
      (omega (arith, many, Rattle.std.proofs.lemmas.Option.slice_get_within old.devices.items k a ha)) in
      f.others k x.0 b ne x.1 hb ∙ map_at m.faults old.devices.items mid.devices.items k a x.0 none ha x.1;
}
