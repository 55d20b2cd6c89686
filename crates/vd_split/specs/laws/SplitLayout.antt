-- What the layout of a split ring is, and its laws.
use Rattle.std.proofs.Common.{◌≡◌, ◌%◌, ◌⊎◌, inl, inr, lit≤, ℕ, ◌-◌, ◌*◌, ◌<◌, ◌≤◌, ◌==◌, ◌||◌, ◌&&◌, nat_le, Bool, true, false, if◌then◌else◌, List, [], length, refl, sym, ap, ◌∙◌, subst, arith, not}
use Rattle.std.proofs.lemmas.Bool.{eqb-true, le-leb}
use Rattle.std.proofs.lemmas.List.{length_push, get_or_push}
use Rattle.vd_model.specs.declared.chain.Piece.{Piece}
use Rattle.vd_model.specs.declared.features.Features.{Features}
use Rattle.vd_words.specs.declared.access.Access.{Access}
use Rattle.vd_words.specs.declared.access.Op.{Op}
use Rattle.vd_words.specs.Step.{answered, written}
use Rattle.vd_ring.specs.declared.frame.Frame.{Frame}
use Rattle.vd_ring.specs.declared.driver.DriverDone.{DriverDone}
use Rattle.vd_ring.specs.declared.driver.DriverView.{DriverView}
use Rattle.vd_ring.specs.Fresh.{fresh_driver, fresh_device}
use Rattle.vd_ring.specs.History.{offers, head, next_head, chain, chain_at}
use Rattle.vd_split_ring.specs.SplitWords.{IsLawful, Spells, width, commands_from, acks_from}
use Rattle.vd_split_ring.specs.SplitDriver.{driver_after}
use Rattle.vd_split_ring.specs.SplitDriverLaws.{IsOffered}
use Rattle.vd_split_ring.specs.SplitDeviceLaws.{HasLastUsed}
use Rattle.vd_split_ring.specs.SplitRing.{Ring}
use Rattle.vd_split_ring.proofs.DriverKeeps.{driver_keeps}
use Rattle.vd_split_ring.proofs.DriverViews.{driver_alone}
use Rattle.vd_split_ring.proofs.DriverAnswers.{driver_offered, driver_nothing, driver_bags}
use Rattle.vd_split_ring.proofs.ControlFacts.{controls_stand}
use Rattle.vd_split_ring.proofs.DeviceKeeping.{device_keeps}
use Rattle.vd_split_ring.proofs.DeviceViews.{device_inside}
use Rattle.vd_split_ring.proofs.DeviceAnswers.{has_last_used, looks_nothing}
use Rattle.vd_split_ring.proofs.DeviceBagSteps.{bags}
use Rattle.vd_split_ring.proofs.Opens.{opens}
use Rattle.vd_split_ring.proofs.Sleeping.{signals, driver_asleep, device_asleep, driver_hears, device_hears}
use Rattle.vd_layout.specs.Layout.{LayoutModel, IsMadeWith, CanMake, IsFresh, IsLawfulLayout}
use Rattle.vd_split.specs.declared.driver.SplitDriver.{SplitDriver}
use Rattle.vd_split.specs.declared.driver.DriverStep.TheVariants as driver_step
use Rattle.vd_split.specs.declared.device.SplitDevice.{SplitDevice}
use Rattle.vd_split.specs.declared.device.DeviceStep.TheVariants as device_step
use Rattle.vd_split.specs.DriverEnd.{IsMadeFor, DriverStands, driver_begun, split_driver, split_words}
use Rattle.vd_split.specs.laws.DriverLaws.{driver_laws}
use Rattle.vd_split.specs.DeviceEnd.{DeviceStands, device_begun, is_resting, is_idle, split_device}
use Rattle.vd_split.specs.laws.DeviceLaws.{device_laws}
use Rattle.vd_split.specs.Parts.{commands_area, acks_area, all_words}

-- the sizes of a split ring: the powers of two from 2 to 1,024
abbrev pub lawful_size : ℕ → Bool
lawful_size n = (n == 2) || (n == 4) || (n == 8) || (n == 16) || (n == 32) || (n == 64) || (n == 128) || (n == 256) || (n == 512) ||
    (n == 1024)

-- a base is a count modulo 65,536
abbrev pub lawful_base : ℕ → ℕ → Bool
lawful_base n b = nat_le b 65535

-- the words spell the chain offered last, at its head
abbrev pub SpellsLast : Frame → List ℕ → List DriverDone → Type 0
SpellsLast f ws o = Spells f ws (head f o (length (offers o) - 1)) (chain o (length (offers o) - 1))

abbrev pub split_layout : LayoutModel
split_layout = record {
  packed = false;
  lawful_frame = IsLawful;
  ring = Ring;
  lawful_size = lawful_size;
  lawful_base = lawful_base;
  fresh_base = 0;
  width = width;
  words = split_words;
  spells_last = SpellsLast;
  has_last_used = HasLastUsed;
}

-- ---- lemmas

or_cases : (a b : Bool) → (a || b) ≡ true → (a ≡ true) ⊎ (b ≡ true)
or_cases true b e = inl refl
or_cases false b e = inr e

-- one more size among those from 2 to 1,024
among : (n m : ℕ) (a : Bool) → (a || (n == m)) ≡ true → 2 ≤ m → m ≤ 1024 → (a ≡ true → (2 ≤ n) × (n ≤ 1024)) → (2 ≤ n) × (n ≤ 1024)
among n m a e low high old = elim (or_cases a (n == m) e) [
  | inl h ↦ old h
  | inr h ↦ (
    omega (arith, eqb-true n m h),
    omega (arith, eqb-true n m h),
  )
]

pub sizes : (n : ℕ) → lawful_size n ≡ true → (2 ≤ n) × (n ≤ 1024)
sizes n e =
    let s4 : ((n == 2) || (n == 4)) ≡ true → (2 ≤ n) × (n ≤ 1024) =
    λ x. among n 4 (n == 2) x (lit≤ tt) (lit≤ tt) (λ y. (omega (arith, eqb-true n 2 y), omega (arith, eqb-true n 2 y))) in
    let s8 : ((n == 2) || (n == 4) || (n == 8)) ≡ true → (2 ≤ n) × (n ≤ 1024) =
    λ x. among n 8 ((n == 2) || (n == 4)) x (lit≤ tt) (lit≤ tt) s4 in
    let s16 : ((n == 2) || (n == 4) || (n == 8) || (n == 16)) ≡ true → (2 ≤ n) × (n ≤ 1024) =
    λ x. among n 16 ((n == 2) || (n == 4) || (n == 8)) x (lit≤ tt) (lit≤ tt) s8 in
    let s32 : ((n == 2) || (n == 4) || (n == 8) || (n == 16) || (n == 32)) ≡ true → (2 ≤ n) × (n ≤ 1024) =
    λ x. among n 32 ((n == 2) || (n == 4) || (n == 8) || (n == 16)) x (lit≤ tt) (lit≤ tt) s16 in
    let s64 : ((n == 2) || (n == 4) || (n == 8) || (n == 16) || (n == 32) || (n == 64)) ≡ true → (2 ≤ n) × (n ≤ 1024) =
    λ x. among n 64 ((n == 2) || (n == 4) || (n == 8) || (n == 16) || (n == 32)) x (lit≤ tt) (lit≤ tt) s32 in
    let s128 : ((n == 2) || (n == 4) || (n == 8) || (n == 16) || (n == 32) || (n == 64) || (n == 128)) ≡ true → (2 ≤ n) × (n ≤ 1024) =
    λ x. among n 128 ((n == 2) || (n == 4) || (n == 8) || (n == 16) || (n == 32) || (n == 64)) x (lit≤ tt) (lit≤ tt) s64 in
    let s256 : ((n == 2) || (n == 4) || (n == 8) || (n == 16) || (n == 32) || (n == 64) || (n == 128) || (n == 256)) ≡ true
    → (2 ≤ n) × (n ≤ 1024) = λ x. among n 256 ((n == 2) || (n == 4) || (n == 8) || (n == 16) || (n == 32) || (n == 64) ||
    (n == 128)) x (lit≤ tt) (lit≤ tt) s128 in
    let s512 : ((n == 2) || (n == 4) || (n == 8) || (n == 16) || (n == 32) || (n == 64) || (n == 128) || (n == 256) || (n == 512))
    ≡ true → (2 ≤ n) × (n ≤ 1024) =
    λ x. among n 512 ((n == 2) || (n == 4) || (n == 8) || (n == 16) || (n == 32) || (n == 64) || (n == 128) || (n == 256)) x
    (lit≤ tt) (lit≤ tt) s256 in
    among n 1024 ((n == 2) || (n == 4) || (n == 8) || (n == 16) || (n == 32) || (n == 64) || (n == 128) || (n == 256) || (n == 512)) e
    (lit≤ tt) (lit≤ tt) s512

pub made_for : (n : ℕ) (f : Features) (c : Bool) (g : Frame) → CanMake split_layout n f → IsMadeWith split_layout n f c g → IsMadeFor n f g
made_for n f c g can with =
    let size = sizes n can.lawful in record {
      sized = sym with.size;
      featured = sym with.features;
      lawful = record { split = with.packed; some_place = omega (arith, with.size); small = omega (arith, with.size) };
    }

-- the areas of a frame, by what it was made with
pub commands_at : (n : ℕ) (f : Features) (c : Bool) (g : Frame) → IsMadeWith split_layout n f c g
    → commands_area n f.indirect ≡ commands_from g
commands_at n f c g with = ap (λ k. commands_area k f.indirect) (sym with.size) ∙ ap (λ (x : Features). commands_area g.size x.indirect)
    (sym with.features)

pub acks_at : (n : ℕ) (f : Features) (c : Bool) (g : Frame) → IsMadeWith split_layout n f c g → acks_area n f.indirect c ≡ acks_from g
acks_at n f c g with = ap (λ k. acks_area k f.indirect c) (sym with.size) ∙ ap (λ (x : Features). acks_area g.size x.indirect c)
    (sym with.features) ∙ ap (λ b. acks_area g.size g.features.indirect b) (sym with.control)

pub words_of : (n : ℕ) (f : Features) (c : Bool) (g : Frame) → IsMadeWith split_layout n f c g → all_words n f.indirect c ≡ width g
words_of n f c g with = ap (λ k. all_words k f.indirect c) (sym with.size) ∙ ap (λ (x : Features). all_words g.size x.indirect c)
    (sym with.features) ∙ ap (λ b. all_words g.size g.features.indirect b) (sym with.control)

-- what was offered last is spelled
spells_last : (ws : List ℕ) (v : DriverView) (op : Op) (a : Access) (k : ℕ) → IsOffered ws v op a k
    → SpellsLast v.frame (written ws a) (driver_after v op a (answered ws a)).done
spells_last ws v op a k is =
    let o' : List DriverDone = (driver_after v op a (answered ws a)).done in
    let last : length (offers o') - 1 ≡ k =
    omega (arith, ap (λ (cs : List (List Piece)). length cs) is.offered, length_push (offers v.done) is.chain, is.number) in
    let same : chain o' k ≡ is.chain = ap (λ (cs : List (List Piece)). chain_at cs k) is.offered
    ∙ get_or_push (offers v.done) is.chain [] k (sym is.number) in
    subst (λ i. Spells v.frame (written ws a) (head v.frame o' i) (chain o' i)) (sym last)
    (subst (λ h. Spells v.frame (written ws a) h (chain o' k)) (sym is.is_head)
    (subst (λ (c : List Piece). Spells v.frame (written ws a) (next_head v.frame v.done) c) (sym same) is.spelled))

base_low : (n : ℕ) → nat_le (n % 65536) 65535 ≡ true
base_low n = le-leb (n % 65536) 65535 (omega arith)

-- a ring with all areas that it may have is no wider than so
narrow : (g : Frame) → IsLawful g → width g < 4294967296
narrow g h = omega (arith, h.small, up_to g.features.indirect (32 * g.size), up_to g.control (2 * g.size), up_to g.control g.size)
  where
    up_to : (b : Bool) (n : ℕ) → (if b then n else 0) ≤ n
    up_to true n = omega arith
    up_to false n = omega arith

pub split_laws : IsLawfulLayout split_driver split_device split_layout
split_laws = record {
  driver_end = driver_laws;
  device_end = device_laws;
  driver_keeps = λ ws v w op a r n. driver_keeps ws v w op a r n;
  device_keeps = λ ws v w op a r n. device_keeps ws v w op a r n;
  opens = λ n f c g can with. opens g (made_for n f c g can with).lawful;
  wide = λ ws v w r. (r.words.wide.0, r.same);
  frames = λ ws v w r. r.lawful;
  framed = λ n f c g can with. (made_for n f c g can with).lawful;
  of_layout = λ g h. h.split;
  driver_framed = λ x v st. st.made.lawful;
  device_framed = λ y w st. st.made.lawful;
  some_word = λ g h. omega arith;
  narrow = narrow;
  driver_low = λ v op a l n. (driver_alone v op a l n).inside;
  device_low = λ w op a l n. device_inside w op a l n;
  places = λ ws v w r. r.places;
  lists = λ ws v w r. r.lists;
  rested = λ ws v w r. r.rested;
  controls = controls_stand;
  signals = λ ws v w r. signals ws v w r;
  driver_asleep = λ ws v w op a r n is. driver_asleep ws v w op a r n is;
  device_asleep = λ ws v w op a r n is. device_asleep ws v w op a r n is;
  driver_hears = λ ws v w op a r n. driver_hears ws v w op a r n;
  device_hears = λ ws v w op a r n. device_hears ws v w op a r n;
  driver_nothing = λ ws v w op a r n is. driver_nothing ws v w op a r n is;
  device_nothing = λ ws v w op a r n is. (looks_nothing ws v w op a r n).all is;
  spells = λ ws v w op a k r n is. spells_last ws v op a k (driver_offered ws v w op a k r n is);
  uses = λ ws v w op a k r n is. has_last_used ws v w op a k r n is;
  driver_bag = λ ws v w op a b r n st. let s = driver_bags ws v w op a b r n st in (s.bag, s.step, s.stands);
  device_bag = λ ws v w op a b r n st. let s = bags ws v w op a b r n st in
      record { entries = s.entries; gave = s.gave; bag = s.bag; step = s.step; stands = s.stands };
  worded = λ g h. (refl, refl, refl, refl);
  sizes = λ n e. let s = sizes n e in (s.0, omega (arith, s.1));
  fresh_based = λ n h. refl;
  always_based = λ g cs h. base_low (length cs);
  based = λ g. refl;
}

-- both ends of a fresh ring
pub fresh_ends : (n : ℕ) (f : Features) (c : Bool) (x : SplitDriver) (y : SplitDevice) → CanMake split_layout n f
    → ((g : Frame) → IsMadeFor n f g → g.control ≡ c → DriverStands x (fresh_driver g (width g)))
    → ((g : Frame) → IsMadeFor n f g → g.control ≡ c → DeviceStands y (fresh_device g (width g)))
    → (x.doing ≡ driver_step.Idle) × (x.size ≡ n) × (x.features ≡ f) × (x.armed ≡ false) → (y.doing ≡ device_step.Idle) × (y.size ≡ n)
    × (y.features ≡ f) × (y.taken ≡ 0) × (y.given ≡ 0) × (y.armed ≡ false) → IsFresh split_driver split_device split_layout n f c x y
fresh_ends n f c x y can drives serves idle still = record {
  drives = λ g with. drives g (made_for n f c g can with) with.control;
  serves = λ g with. serves g (made_for n f c g can with) with.control;
  driver_idle = ap (λ t. driver_begun t x.pieces.items) idle.0;
  device_idle = ap device_begun still.0;
  driver_sized = (idle.1, idle.2);
  device_sized = (still.1, still.2);
  awake = ap is_resting still.0;
  unused = ap (λ t. (is_idle t && ((y.taken == 0) && (y.given == 0))) && not y.armed) still.0
      ∙ ap (λ k. ((k == 0) && (y.given == 0)) && not y.armed) still.3 ∙ ap (λ k. (k == 0) && not y.armed) still.4 ∙ ap (λ b. not b) still.5;
  driver_unarmed = idle.3;
}
