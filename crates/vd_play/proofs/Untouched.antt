-- What prepare leaves of the parties.
use Rattle.std.proofs.Common.{◌≡◌, ℕ, zero, suc, ◌<◌, Some, List, [], ◌∷◌, ◌++◌, length, set, slice_get, refl, sym, ◌∙◌, ap, subst, arith}
use Rattle.std.specs.List.{All}
use Rattle.std.proofs.lemmas.List.Elements.{All-weaker, All-set, All-same}
use Rattle.std.proofs.lemmas.Option.{slice_get_within, get_or_from_slice_get}
use Rattle.vd_layout.specs.Driver.{DriverModel}
use Rattle.vd_bus.specs.Device.{DeviceParty, IsUnchanged}
use Rattle.vd_bus.specs.Guest.{GuestParty, IsLawfulGuestParty}
use Rattle.vd_play.specs.declared.bench.Bench.{Bench}
use Rattle.vd_play.specs.Each.{EachLane}
use Rattle.vd_play.specs.Prepared.{IsEmptyGuest, IsEmptyDevice, IsUnused, IsEmptyBench, IsUntouched, IsIdle}
use Rattle.vd_play.specs.Setting.{Setting}
use Rattle.vd_play.proofs.Bounds.{at_index}
use Rattle.vd_play.proofs.Each.{get_set, get_set_other}
use Rattle.vd_play.proofs.Lists.{some_same, All-at}

unchanged_none : {X C : Type 0} (m : DeviceParty X C) (x : X) → IsUnchanged m x x
unchanged_none m x = record {
  events = refl;
  begun = refl;
  settings = refl;
  faults = refl;
  carried = refl;
  attached = refl;
  room =
      (omega arith, omega arith);
  counts = (refl, refl);
}

pub untouched_start : {D G X C : Type 0} (d : DriverModel D) (g : GuestParty G) (m : DeviceParty X C) (gue : IsLawfulGuestParty d g)
    (b : Bench G X) → IsEmptyBench g m b → IsUntouched g m b b
untouched_start d g m gue b e = record {
  guests = All-weaker (IsEmptyGuest g) (IsUnused g)
      (λ x h. record { offered = (gue.unloaded x h.script).0; returned = (gue.unloaded x h.script).1; idle = h.idle }) b.guests.items
      e.guests;
  devices = λ k x y hx hy. subst (λ z. IsUnchanged m x z) (some_same x y (slice_get b.devices.items k) hx hy) (unchanged_none m x);
}

pub untouched_none : {G X C : Type 0} (g : GuestParty G) (m : DeviceParty X C) (b : Bench G X) → All (IsUnused g) b.guests.items
    → IsUntouched g m b b
untouched_none g m b unused = record {
  guests = unused;
  devices = λ k x y hx hy. subst (λ z. IsUnchanged m x z) (some_same x y (slice_get b.devices.items k) hx hy) (unchanged_none m x);
}

-- the parties of queue i are written, its device as it was but for its room
pub untouched_set : {G X C : Type 0} (g : GuestParty G) (m : DeviceParty X C) (old now new : Bench G X) (i : ℕ) (guest : G) (x y : X)
    → IsUntouched g m old now → new.guests.items ≡ set now.guests.items i guest → new.devices.items ≡ set now.devices.items i y
    → IsUnused g guest → slice_get old.devices.items i ≡ Some x → IsUnchanged m x y → IsUntouched g m old new
untouched_set g m old now new i guest x y u gs xs none at same = record {
  guests = All-same (IsUnused g) new.guests.items (set now.guests.items i guest) gs
      (All-set (IsUnused g) now.guests.items i guest none u.guests);
  devices = λ k a b ha hb. get_set now.devices.items i k y b (sym (ap (λ zs. slice_get zs k) xs) ∙ hb)
      (λ e is. subst (λ z. IsUnchanged m z b)
      (some_same x a (slice_get old.devices.items k) (ap (λ j. slice_get old.devices.items j) e ∙ at) ha)
      (subst (λ z. IsUnchanged m x z) is same))
      (λ ne hb'. u.devices k a b ha hb');
}

-- nobody has made a step
pub idle_of : {D E G X C : Type 0} (s : Setting D E G X C) (old new : Bench G X) → IsEmptyBench s.guest s.party old
    → IsUntouched s.guest s.party old new → length new.devices.items ≡ length old.devices.items → IsIdle s new
idle_of s old new empty u many = record {
  guests = All-weaker (IsUnused s.guest) (λ x. s.guest.accesses x ≡ 0) (λ x h. h.idle.0) new.guests.items u.guests;
  devices = λ k d below.
      let y = at_index new.devices.items k below in
      let x = at_index old.devices.items k (omega (arith, many, below)) in
      let none = All-at (IsEmptyDevice s.party) old.devices.items k x.0 x.1 empty.devices in
      let here : s.party.accesses y.0 ≡ 0 = (u.devices k x.0 y.0 x.1 y.1).counts.0 ∙ none.idle.0 in
      subst (λ z. s.party.accesses z ≡ 0) (sym (get_or_from_slice_get new.devices.items k y.0 d y.1)) here;
}

-- ---- lanes that are made one after the other

pub each_none : {A B C : Type 0} (P : ℕ → A → B → C → Type 0) (ls : List A) (bs : List B) (xs : List C) → ls ≡ [] → EachLane P ls bs xs
each_none P ls bs xs is = record { at = λ q l b x hl hb hx. absurd (omega (arith, slice_get_within ls q l hl, ap length is)) }

pub get_push : {A R : Type 0} (xs : List A) (y : A) (q : ℕ) (z : A) → slice_get (xs ++ y ∷ []) q ≡ Some z → ((q ≡ length xs) → (y ≡ z) → R)
    → ((q < length xs) → slice_get xs q ≡ Some z → R) → R
get_push [] y zero z is last before = last refl (some_same y z (Some y) refl is)
get_push [] y (suc q) z is last before = absurd (cc)
get_push (x ∷ xs) y zero z is last before = before (omega arith) is
get_push (x ∷ xs) y (suc q) z is last before = get_push xs y q z is (λ e f. last (ap suc e) f) (λ h f. before (omega arith) f)

pub each_push : {A B C : Type 0} (P : ℕ → A → B → C → Type 0) (i : ℕ) (ls us : List A) (bs : List B) (xs : List C) (l : A) (b : B)
    (x : C) → us ≡ ls ++ l ∷ [] → length ls ≡ i → EachLane P ls bs xs → P i l b x → EachLane P us (set bs i b) (set xs i x)
each_push P i ls us bs xs l b x grown many e new = record {
  at = λ q l' b' x' hl hb hx.
      get_push ls l q l' (sym (ap (λ zs. slice_get zs q) grown) ∙ hl)
      (λ last is.
      let same : q ≡ i = last ∙ many in
      get_set bs i q b b' hb (λ e1 eb. get_set xs i q x x' hx
      (λ e2 ex. subst (λ k. P k l' b' x') (sym same)
      (subst (λ z. P i z b' x') is (subst (λ z. P i l z x') eb (subst (λ z. P i l b z) ex new)))) (λ n h. absurd (n same)))
      (λ n h. absurd (n same)))
      (λ below hl'.
      let n : q ≡ i → ⊥ = λ same. omega arith in
      e.at q l' b' x' hl' (sym (get_set_other bs i q b n) ∙ hb) (sym (get_set_other xs i q x n) ∙ hx));
}
