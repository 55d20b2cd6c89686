-- What the layout of a packed ring is, and its laws.
use Rattle.std.proofs.Common.{◌≡◌, ℕ, ◌-◌, ◌*◌, ◌/◌, ◌%◌, ◌<◌, ◌≤◌, ◌==◌, ◌&&◌, not, nat_le, Bool, true, false, if◌then◌else◌, List, [], ◌∷◌, ◌++◌, length, take, refl, sym, ap, ◌∙◌, subst, arith}
use Rattle.std.specs.List.{sum_by}
use Rattle.std.proofs.lemmas.Bool.{leb-true}
use Rattle.std.proofs.lemmas.List.{length_push, get_or_push, take-append-le, take_all}
use Rattle.std.proofs.Math.Nat.{zero-div, zero-mod}
use Rattle.vd_model.specs.declared.chain.Piece.{Piece}
use Rattle.vd_model.specs.declared.features.Features.{Features}
use Rattle.vd_model.specs.Chains.{needs}
use Rattle.vd_words.specs.declared.access.Access.{Access}
use Rattle.vd_words.specs.declared.access.Op.{Op}
use Rattle.vd_words.specs.Step.{answered, written}
use Rattle.vd_ring.specs.declared.frame.Frame.{Frame}
use Rattle.vd_ring.specs.declared.driver.DriverDone.{DriverDone}
use Rattle.vd_ring.specs.declared.driver.DriverView.{DriverView}
use Rattle.vd_ring.specs.Fresh.{fresh_driver, fresh_device}
use Rattle.vd_ring.specs.History.{offers, head, next_head, chain, chain_at}
use Rattle.vd_packed_ring.specs.PackedWords.{IsLawful, width, commands_from, acks_from, base_at, is_base}
use Rattle.vd_packed_ring.specs.PackedChains.{Spells}
use Rattle.vd_packed_ring.specs.PackedPositions.{offer_position, start}
use Rattle.vd_packed_ring.specs.PackedDriver.{driver_after}
use Rattle.vd_packed_ring.specs.PackedDriverLaws.{IsOffered}
use Rattle.vd_packed_ring.specs.PackedDeviceLaws.{HasLastUsed}
use Rattle.vd_packed_ring.specs.PackedRing.{Ring}
use Rattle.vd_packed_ring.proofs.Bases.{lawful_base, fresh_base}
use Rattle.vd_packed_ring.proofs.ControlFacts.{controls_stand}
use Rattle.vd_packed_ring.proofs.DriverKeeps.{driver_keeps}
use Rattle.vd_packed_ring.proofs.DriverViews.{driver_alone}
use Rattle.vd_packed_ring.proofs.DriverAnswers.{driver_offered, driver_nothing, driver_bags}
use Rattle.vd_packed_ring.proofs.DeviceKeeping.{device_keeps}
use Rattle.vd_packed_ring.proofs.DeviceViews.{device_inside}
use Rattle.vd_packed_ring.proofs.DeviceAnswers.{has_last_used, looks_nothing}
use Rattle.vd_packed_ring.proofs.DeviceBagSteps.{bags}
use Rattle.vd_packed_ring.proofs.Opens.{opens}
use Rattle.vd_packed_ring.proofs.Sleeping.{signals, driver_asleep, driver_hears}
use Rattle.vd_packed_ring.proofs.DeviceSleeping.{device_asleep, device_hears}
use Rattle.vd_layout.specs.Layout.{LayoutModel, IsMadeWith, CanMake, IsFresh, IsLawfulLayout}
use Rattle.vd_packed.specs.declared.driver.PackedDriver.{PackedDriver}
use Rattle.vd_packed.specs.declared.driver.DriverStep.TheVariants as driver_step
use Rattle.vd_packed.specs.declared.device.PackedDevice.{PackedDevice}
use Rattle.vd_packed.specs.declared.device.DeviceStep.TheVariants as device_step
use Rattle.vd_packed.specs.DriverEnd.{IsMadeFor, DriverStands, driver_begun, packed_driver, packed_words}
use Rattle.vd_packed.specs.laws.DriverLaws.{driver_laws}
use Rattle.vd_packed.specs.DeviceEnd.{DeviceStands, device_begun, is_resting, is_idle, packed_device}
use Rattle.vd_packed.specs.laws.DeviceLaws.{device_laws}
use Rattle.vd_packed.specs.RingPositions.{commands_area, acks_area, all_words}

-- the sizes of a packed ring: any number from 2 to 1,024
abbrev pub lawful_size : ℕ → Bool
lawful_size n = nat_le 2 n && nat_le n 1024

-- the words spell the chain offered last, with its id at its position (VIRTIO 1.2, 2.8)
abbrev pub SpellsLast : Frame → List ℕ → List DriverDone → Type 0
SpellsLast f ws o = Spells f ws (start f o (length (offers o) - 1)) (head f o (length (offers o) - 1)) (chain o (length (offers o) - 1))

abbrev pub packed_layout : LayoutModel
packed_layout = record {
  packed = true;
  lawful_frame = λ f. IsLawful f;
  ring = Ring;
  lawful_size = lawful_size;
  lawful_base = is_base;
  fresh_base = 2147516416;
  width = width;
  words = packed_words;
  spells_last = SpellsLast;
  has_last_used = HasLastUsed;
}

-- ---- lemmas

and_both : (a b : Bool) → (a && b) ≡ true → (a ≡ true) × (b ≡ true)
and_both true true e = (refl, refl)
and_both true false e = absurd (cc e)
and_both false b e = absurd (cc e)

pub sizes : (n : ℕ) → lawful_size n ≡ true → (2 ≤ n) × (n ≤ 1024)
sizes n e = let both = and_both (nat_le 2 n) (nat_le n 1024) e in (leb-true 2 n both.0, leb-true n 1024 both.1)

pub made_for : (n : ℕ) (f : Features) (c : Bool) (g : Frame) → CanMake packed_layout n f → IsMadeWith packed_layout n f c g
    → IsMadeFor n f g
made_for n f c g can with =
    let size = sizes n can.lawful in record {
      sized = sym with.size;
      featured = sym with.features;
      lawful = record { packed = with.packed; least = omega (arith, with.size, size.0); most = omega (arith, with.size, size.1) };
    }

-- the areas of a frame, by what it was made with
pub commands_at : (n : ℕ) (f : Features) (c : Bool) (g : Frame) → IsMadeWith packed_layout n f c g
    → commands_area n f.indirect ≡ commands_from g
commands_at n f c g with = ap (λ k. commands_area k f.indirect) (sym with.size) ∙ ap (λ (x : Features). commands_area g.size x.indirect)
    (sym with.features)

pub acks_at : (n : ℕ) (f : Features) (c : Bool) (g : Frame) → IsMadeWith packed_layout n f c g → acks_area n f.indirect c ≡ acks_from g
acks_at n f c g with = ap (λ k. acks_area k f.indirect c) (sym with.size)
    ∙ (ap (λ (x : Features). acks_area g.size x.indirect c) (sym with.features) ∙ ap (λ b. acks_area g.size g.features.indirect b)
    (sym with.control))

pub words_of : (n : ℕ) (f : Features) (c : Bool) (g : Frame) → IsMadeWith packed_layout n f c g → all_words n f.indirect c ≡ width g
words_of n f c g with = ap (λ k. all_words k f.indirect c) (sym with.size)
    ∙ (ap (λ (x : Features). all_words g.size x.indirect c) (sym with.features) ∙ ap (λ b. all_words g.size g.features.indirect b)
    (sym with.control))

-- the chains offered before the last end where it begins
start_push : (f : Frame) (o o' : List DriverDone) (c : List Piece) → offers o' ≡ offers o ++ c ∷ []
    → start f o' (length (offers o)) ≡ offer_position f o
start_push f o o' c is =
    let front : take (length (offers o)) (offers o') ≡ offers o = ap (λ (cs : List (List Piece)). take (length (offers o)) cs) is
    ∙ (take-append-le (length (offers o)) (offers o) (c ∷ []) (omega arith) ∙ take_all (length (offers o)) (offers o) (omega arith)) in
    ap (sum_by (needs f.features)) front

-- what was offered last is spelled
spells_last : (ws : List ℕ) (v : DriverView) (op : Op) (a : Access) (k : ℕ) → IsOffered ws v op a k
    → SpellsLast v.frame (written ws a) (driver_after v op a (answered ws a)).done
spells_last ws v op a k is =
    let f : Frame = v.frame in let o' : List DriverDone = (driver_after v op a (answered ws a)).done in
    let last : length (offers o') - 1 ≡ k =
    omega (arith, ap (λ (cs : List (List Piece)). length cs) is.offered, length_push (offers v.done) is.chain, is.number) in
    let same : chain o' k ≡ is.chain = ap (λ (cs : List (List Piece)). chain_at cs k) is.offered
    ∙ get_or_push (offers v.done) is.chain [] k (sym is.number) in
    let begins : start f o' k ≡ offer_position f v.done = ap (start f o') is.number ∙ start_push f v.done o' is.chain is.offered in
    subst (λ i. Spells f (written ws a) (start f o' i) (head f o' i) (chain o' i)) (sym last)
    (subst (λ q. Spells f (written ws a) q (head f o' k) (chain o' k)) (sym begins)
    (subst (λ h. Spells f (written ws a) (offer_position f v.done) h (chain o' k)) (sym is.is_head)
    (subst (λ (c : List Piece). Spells f (written ws a) (offer_position f v.done) (next_head f v.done) c) (sym same) is.spelled)))

-- the base of a ring from which nothing was taken
none_taken : (n : ℕ) → base_at n 0 ≡ 2147516416
none_taken n = let d : 0 / n ≡ 0 = zero-div n in let m : 0 % n ≡ 0 = zero-mod n in omega arith

-- a ring with all areas that it may have is no wider than so
narrow : (g : Frame) → IsLawful g → width g < 4294967296
narrow g h = omega (arith, h.most, up_to g.features.indirect (32 * g.size), up_to g.control (2 * g.size), up_to g.control g.size)
  where
    up_to : (b : Bool) (n : ℕ) → (if b then n else 0) ≤ n
    up_to true n = omega arith
    up_to false n = omega arith

pub packed_laws : IsLawfulLayout packed_driver packed_device packed_layout
packed_laws = record {
  driver_end = driver_laws;
  device_end = device_laws;
  driver_keeps = λ ws v w op a r n. driver_keeps ws v w op a r n;
  device_keeps = λ ws v w op a r n. device_keeps ws v w op a r n;
  opens = λ n f c g can with. let m = made_for n f c g can with in opens g m.lawful;
  wide = λ ws v w r. (r.words.wide.0, r.same);
  frames = λ ws v w r. r.lawful;
  framed = λ n f c g can with. let m = made_for n f c g can with in m.lawful;
  driver_low = λ v op a l n. (driver_alone v op a l n).inside;
  device_low = λ w op a l n. device_inside w op a l n;
  places = λ ws v w r. r.places;
  lists = λ ws v w r. r.lists;
  rested = λ ws v w r. r.rested;
  of_layout = λ g l. l.packed;
  driver_framed = λ x v st. st.made.lawful;
  device_framed = λ y w st. st.made.lawful;
  some_word = λ g l. omega arith;
  narrow = narrow;
  controls = controls_stand;
  signals = λ ws v w r. signals ws v w r;
  driver_asleep = λ ws v w op a r n is. driver_asleep ws v w op a r n is;
  device_asleep = λ ws v w op a r n is. device_asleep ws v w op a r n is;
  driver_hears = λ ws v w op a r n. driver_hears ws v w op a r n;
  device_hears = λ ws v w op a r n. device_hears ws v w op a r n;
  driver_nothing = λ ws v w op a r n is. (driver_nothing ws v w op a r n).all is;
  device_nothing = λ ws v w op a r n is. (looks_nothing ws v w op a r n).all is;
  spells = λ ws v w op a k r n is. spells_last ws v op a k (driver_offered ws v w op a k r n is);
  uses = λ ws v w op a k r n is. has_last_used ws v w op a k r n is;
  driver_bag = λ ws v w op a b r n st. let s = driver_bags ws v w op a b r n st in (s.bag, s.step, s.stands);
  device_bag = λ ws v w op a b r n st. let s = bags ws v w op a b r n st in
      record { entries = s.entries; gave = s.gave; bag = s.bag; step = s.step; stands = s.stands };
  worded = λ g h. (refl, refl, refl, refl);
  sizes = λ n e. let s = sizes n e in (s.0, omega (arith, s.1));
  fresh_based = λ n e. let s = sizes n e in ap (is_base n) (sym (fresh_base n s.0)) ∙ lawful_base n 0 s.0 (omega (arith, s.1));
  always_based = λ g cs e. let s = sizes g.size e in lawful_base g.size (sum_by (needs g.features) cs) s.0 (omega (arith, s.1));
  based = λ g. none_taken g.size;
}

-- both ends of a fresh ring
pub fresh_ends : (n : ℕ) (f : Features) (c : Bool) (x : PackedDriver) (y : PackedDevice) → CanMake packed_layout n f
    → ((g : Frame) → IsMadeFor n f g → g.control ≡ c → DriverStands x (fresh_driver g (width g)))
    → ((g : Frame) → IsMadeFor n f g → g.control ≡ c → DeviceStands y (fresh_device g (width g)))
    → (x.doing ≡ driver_step.Idle) × (x.size ≡ n) × (x.features ≡ f) × (x.armed ≡ false) → (y.doing ≡ device_step.Idle) × (y.size ≡ n)
    × (y.features ≡ f) × (y.taken ≡ 0) × (y.given ≡ 0) × (y.armed ≡ false) → IsFresh packed_driver packed_device packed_layout n f c x y
fresh_ends n f c x y can drives serves idle still = record {
  drives = λ g with. drives g (made_for n f c g can with) with.control;
  serves = λ g with. serves g (made_for n f c g can with) with.control;
  driver_idle = ap (λ t. driver_begun t x.pieces.items) idle.0;
  device_idle = ap device_begun still.0;
  driver_sized = (idle.1, idle.2);
  device_sized = (still.1, still.2);
  awake = ap is_resting still.0;
  unused = ap (λ t. (is_idle t && ((y.taken == 0) && (y.given == 0))) && not y.armed) still.0
      ∙ (ap (λ k. ((k == 0) && (y.given == 0)) && not y.armed) still.3
      ∙ (ap (λ k. (k == 0) && not y.armed) still.4 ∙ ap (λ b. not b) still.5));
  driver_unarmed = idle.3;
}
