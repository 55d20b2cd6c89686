-- Who stores which word, and lanes of the areas.
use Rattle.std.proofs.Common.{◌≡◌, ◌≢◌, ℕ, ◌+◌, ◌*◌, ◌/◌, ◌%◌, ◌<◌, ◌≤◌, Bool, true, false, List, length, if◌then◌else◌, slice_index, slice_set, sym, ap, ◌∙◌, subst, arith, inl, inr}
use Rattle.std.proofs.lemmas.Bool.{cases_eq, cases_lt, eqb-true, eqb-false, false_from_ne_true}
use Rattle.std.proofs.lemmas.List.{get_or-set_other, get_or-set_same, length-set}
use Rattle.std.proofs.lemmas.Nat.{div-add-mod', mul-le, mod_below}
use Rattle.vd_bits.specs.Lanes.{lane16, set_lane16, lane32, set_lane32}
use Rattle.vd_bits.proofs.LaneLaws.{set_same, set_other, high_low, low_high, low_lane, lane_high}
use Rattle.vd_ring.specs.declared.frame.Frame.{Frame}
use Rattle.vd_split_ring.specs.SplitWords.{IsDrivers, IsDevices, IsDescriptors, command_word, ack_word, shown_from, width, avail_from, used_from, tables_from, commands_from, acks_from, kick_at, lane_at, lane_word, with_lane, entry_lane}
use Rattle.vd_split_ring.specs.SplitWords.{shows}
use Rattle.vd_split_ring.specs.SplitRing.{Words}

pub areas : (f : Frame) → (tables_from f ≤ commands_from f) × (commands_from f ≤ acks_from f) × (acks_from f ≤ kick_at f)
areas f = (
  up (if f.features.indirect then 32 * f.size else 0) (tables_from f),
  up (if f.control then 2 * f.size else 0) (commands_from f),
  up (if f.control then f.size else 0) (acks_from f),
)
  where
    up : (b a : ℕ) → a ≤ a + b
    up b a = omega arith

pub owners_apart : (f : Frame) (i j : ℕ) → IsDrivers f i → IsDevices f j → i ≢ j
owners_apart f i j (inl a) (inl b) = λ e. omega arith
owners_apart f i j (inl a) (inr (inl b)) = λ e. omega (arith, areas f)
owners_apart f i j (inl a) (inr (inr b)) = λ e. omega (arith, areas f)
owners_apart f i j (inr (inl a)) (inl b) = λ e. omega (arith, areas f)
owners_apart f i j (inr (inl a)) (inr (inl b)) = λ e. omega (arith, areas f)
owners_apart f i j (inr (inl a)) (inr (inr b)) = λ e. omega (arith, areas f)
owners_apart f i j (inr (inr a)) (inl b) = λ e. omega (arith, areas f)
owners_apart f i j (inr (inr a)) (inr (inl b)) = λ e. omega (arith, areas f)
owners_apart f i j (inr (inr a)) (inr (inr b)) = λ e. omega (arith, areas f)

pub drivers_inside : (f : Frame) (i : ℕ) → IsDrivers f i → i < width f
drivers_inside f i (inl a) = omega (arith, areas f)
drivers_inside f i (inr (inl a)) = omega (arith, areas f)
drivers_inside f i (inr (inr a)) = omega (arith, areas f)

pub devices_inside : (f : Frame) (i : ℕ) → IsDevices f i → i < width f
devices_inside f i (inl a) = omega (arith, areas f)
devices_inside f i (inr (inl a)) = omega (arith, areas f)
devices_inside f i (inr (inr a)) = omega (arith, areas f)

same_store : (ws us : List ℕ) (p i x : ℕ) → p < length ws → p < length us → slice_index ws i ≡ slice_index us i
    → slice_index (slice_set ws p x) i ≡ slice_index (slice_set us p x) i
same_store ws us p i x a b e = elim (cases_eq i p) [
  | inl is ↦ subst (λ (q : ℕ). slice_index (slice_set ws p x) q ≡ slice_index (slice_set us p x) q) (sym is)
      (get_or-set_same ws p x 0 a ∙ sym (get_or-set_same us p x 0 b))
  | inr ne ↦ get_or-set_other ws p i x 0 ne ∙ e ∙ sym (get_or-set_other us p i x 0 ne)
]

pub driver_stores : (f : Frame) (ws by_driver by_device : List ℕ) (p x : ℕ) → Words f ws by_driver by_device → IsDrivers f p
    → Words f (slice_set ws p x) (slice_set by_driver p x) by_device
driver_stores f ws by_driver by_device p x w own =
    let inside : p < width f = drivers_inside f p own in
    let wide : length ws ≡ width f = w.wide.0 in
    let wide2 : length by_driver ≡ width f = w.wide.1 in
    record {
      wide = (length-set ws p x ∙ w.wide.0, length-set by_driver p x ∙ w.wide.1, w.wide.2);
      drivers = λ i h. same_store ws by_driver p i x (omega arith) (omega arith) (w.drivers i h);
      devices = λ i h. get_or-set_other ws p i x 0 (λ e. owners_apart f p i own h (sym e)) ∙ w.devices i h;
    }

pub device_stores : (f : Frame) (ws by_driver by_device : List ℕ) (p x : ℕ) → Words f ws by_driver by_device → IsDevices f p
    → Words f (slice_set ws p x) by_driver (slice_set by_device p x)
device_stores f ws by_driver by_device p x w own =
    let inside : p < width f = devices_inside f p own in
    let wide : length ws ≡ width f = w.wide.0 in
    let wide2 : length by_device ≡ width f = w.wide.2 in
    record {
      wide = (length-set ws p x ∙ w.wide.0, w.wide.1, length-set by_device p x ∙ w.wide.2);
      drivers = λ i h. get_or-set_other ws p i x 0 (owners_apart f i p h own) ∙ w.drivers i h;
      devices = λ i h. same_store ws by_device p i x (omega arith) (omega arith) (w.devices i h);
    }

-- ---- lanes of the driver area

pub lane_same : (f : Frame) (ws : List ℕ) (j v : ℕ) → v < 65536 → lane_word f j < length ws
    → lane_at f (slice_set ws (lane_word f j) (with_lane f ws j v)) j ≡ v
lane_same f ws j v small inside =
    ap (λ w. lane16 w (j % 4)) (get_or-set_same ws (lane_word f j) (with_lane f ws j v) 0 inside)
    ∙ set_same (slice_index ws (lane_word f j)) (j % 4) v small (omega arith)

pub lane_other : (f : Frame) (ws : List ℕ) (j i v : ℕ) → v < 65536 → lane_word f j < length ws → i ≢ j
    → lane_at f (slice_set ws (lane_word f j) (with_lane f ws j v)) i ≡ lane_at f ws i
lane_other f ws j i v small inside ne = elim (cases_eq (i / 4) (j / 4)) [
  | inl e ↦ (
      let apart : i % 4 ≢ j % 4 = λ h. ne (omega arith) in
      let same : lane_word f i ≡ lane_word f j = omega arith in
      ap (λ q. lane16 (slice_index (slice_set ws (lane_word f j) (with_lane f ws j v)) q) (i % 4)) same
      ∙ ap (λ w. lane16 w (i % 4)) (get_or-set_same ws (lane_word f j) (with_lane f ws j v) 0 inside)
      ∙ set_other (slice_index ws (lane_word f j)) (j % 4) (i % 4) v small (omega arith) (omega arith) apart
      ∙ ap (λ q. lane16 (slice_index ws q) (i % 4)) (sym same)
      )
  | inr n ↦ ap (λ w. lane16 w (i % 4)) (get_or-set_other ws (lane_word f j) (lane_word f i) (with_lane f ws j v) 0 (λ e. n (omega arith)))
]

pub lane_elsewhere : (f : Frame) (ws : List ℕ) (p x j : ℕ) → p < avail_from f → lane_at f (slice_set ws p x) j ≡ lane_at f ws j
lane_elsewhere f ws p x j below = ap (λ w. lane16 w (j % 4)) (get_or-set_other ws p (lane_word f j) x 0 (λ e. omega arith))

pub lane_inside : (f : Frame) (j : ℕ) → j ≤ f.size + 2 → lane_word f j < used_from f
lane_inside f j h = omega arith

-- ---- counts less than the size apart have different places

pub places_differ : (n k m : ℕ) → 0 < n → k < m → m < k + n → k % n ≢ m % n
places_differ n k m pos low near same =
    let a = div-add-mod' k n in
    let b = div-add-mod' m n in
    elim (cases_lt (k / n) (m / n)) [
      | inl h ↦ omega (arith, mul-le (k / n + 1) n (m / n) n (omega arith) (omega arith))
      | inr h ↦ omega (arith, mul-le (m / n) n (k / n) n h (omega arith))
    ]

pub entries_differ : (f : Frame) (k m : ℕ) → 0 < f.size → k < m → m < k + f.size → entry_lane f k ≢ entry_lane f m
entries_differ f k m pos low near same = places_differ f.size k m pos low near (omega arith)

pub entry_inside : (f : Frame) (k : ℕ) → 0 < f.size → entry_lane f k ≤ f.size + 2
entry_inside f k pos = omega (arith, mod_below k f.size pos)

-- two numbers at most 65535 apart are one where they are one modulo 65536
pub same_index : (a b : ℕ) → a ≤ b → b < a + 65536 → a % 65536 ≡ b % 65536 → a ≡ b
same_index a b low near same = omega arith

-- what a loaded index shows
pub shows_same : (r a g : ℕ) → lane16 r 1 ≡ g % 65536 → a ≤ g → g < a + 65536 → shows r a ≡ true → g ≡ a
shows_same r a g lane low near on = omega (arith, eqb-true (lane16 r 1) (a % 65536) on)

pub shows_more : (r a g : ℕ) → lane16 r 1 ≡ g % 65536 → a ≤ g → shows r a ≡ false → a < g
shows_more r a g lane low off =
    elim (cases_eq a g) [
      | inl e ↦ absurd (eqb-false (lane16 r 1) (a % 65536) off (lane ∙ ap (λ n. n % 65536) (sym e)))
      | inr ne ↦ elim
          (cases_lt a g) [ inl h ↦ h | inr h ↦ absurd (ne (omega arith)) ]
    ]

pub shows_further : (r a g : ℕ) → lane16 r 1 ≡ g % 65536 → a < g → g < a + 65536 → shows r a ≡ false
shows_further r a g lane low near = false_from_ne_true (shows r a) (λ on. omega (arith, shows_same r a g lane (omega arith) near on))

-- ---- halves of the used words

pub high_after_id : (ws : List ℕ) (p q v : ℕ) → q ≢ p → lane32 (slice_index (slice_set ws p (set_lane32 (slice_index ws p) 1 v)) q) 1
    ≡ lane32 (slice_index ws q) 1
high_after_id ws p q v ne = ap (λ w. lane32 w 1) (get_or-set_other ws p q (set_lane32 (slice_index ws p) 1 v) 0 ne)

pub low_after_id : (ws : List ℕ) (p q v : ℕ) → p < length ws
    → lane32 (slice_index (slice_set ws p (set_lane32 (slice_index ws p) 1 v)) q) 0 ≡ lane32 (slice_index ws q) 0
low_after_id ws p q v h = elim (cases_eq q p) [
  | inl e ↦ subst (λ i. lane32 (slice_index (slice_set ws p (set_lane32 (slice_index ws p) 1 v)) i) 0 ≡ lane32 (slice_index ws i) 0) (sym e)
      (ap (λ w. lane32 w 0) (get_or-set_same ws p (set_lane32 (slice_index ws p) 1 v) 0 h) ∙ high_low (slice_index ws p) v)
  | inr ne ↦ ap (λ w. lane32 w 0) (get_or-set_other ws p q (set_lane32 (slice_index ws p) 1 v) 0 ne)
]

pub lane_after_id : (ws : List ℕ) (p q v : ℕ) → p < length ws
    → lane16 (slice_index (slice_set ws p (set_lane32 (slice_index ws p) 1 v)) q) 1 ≡ lane16 (slice_index ws q) 1
lane_after_id ws p q v h = elim (cases_eq q p) [
  | inl e ↦ subst (λ i. lane16 (slice_index (slice_set ws p (set_lane32 (slice_index ws p) 1 v)) i) 1 ≡ lane16 (slice_index ws i) 1) (sym e)
      (ap (λ w. lane16 w 1) (get_or-set_same ws p (set_lane32 (slice_index ws p) 1 v) 0 h) ∙ low_lane (slice_index ws p) v 1 (omega arith))
  | inr ne ↦ ap (λ w. lane16 w 1) (get_or-set_other ws p q (set_lane32 (slice_index ws p) 1 v) 0 ne)
]

pub high_after_len : (ws : List ℕ) (p q v : ℕ) → p < length ws → v < 4294967296
    → lane32 (slice_index (slice_set ws p (set_lane32 (slice_index ws p) 0 v)) q) 1 ≡ lane32 (slice_index ws q) 1
high_after_len ws p q v h small = elim (cases_eq q p) [
  | inl e ↦ subst (λ i. lane32 (slice_index (slice_set ws p (set_lane32 (slice_index ws p) 0 v)) i) 1 ≡ lane32 (slice_index ws i) 1) (sym e)
      (ap (λ w. lane32 w 1) (get_or-set_same ws p (set_lane32 (slice_index ws p) 0 v) 0 h) ∙ low_high (slice_index ws p) v small)
  | inr ne ↦ ap (λ w. lane32 w 1) (get_or-set_other ws p q (set_lane32 (slice_index ws p) 0 v) 0 ne)
]

pub high_after_index : (ws : List ℕ) (p q v : ℕ) → p < length ws → v < 65536
    → lane32 (slice_index (slice_set ws p (set_lane16 (slice_index ws p) 1 v)) q) 1 ≡ lane32 (slice_index ws q) 1
high_after_index ws p q v h small = elim (cases_eq q p) [
  | inl e ↦ subst (λ i. lane32 (slice_index (slice_set ws p (set_lane16 (slice_index ws p) 1 v)) i) 1 ≡ lane32 (slice_index ws i) 1) (sym e)
      (ap (λ w. lane32 w 1) (get_or-set_same ws p (set_lane16 (slice_index ws p) 1 v) 0 h) ∙ lane_high (slice_index ws p) v small)
  | inr ne ↦ ap (λ w. lane32 w 1) (get_or-set_other ws p q (set_lane16 (slice_index ws p) 1 v) 0 ne)
]

-- a word elsewhere
pub other_word : (ws : List ℕ) (p q x : ℕ) (g : ℕ → ℕ) → q ≢ p → g (slice_index (slice_set ws p x) q) ≡ g (slice_index ws q)
other_word ws p q x g ne = ap g (get_or-set_other ws p q x 0 ne)

-- ---- where a word past the driver area leaves the lanes

pub lane_past : (f : Frame) (ws : List ℕ) (p x j : ℕ) → used_from f ≤ p → j ≤ f.size + 2 → lane_at f (slice_set ws p x) j ≡ lane_at f ws j
lane_past f ws p x j past h = ap (λ w. lane16 w (j % 4)) (get_or-set_other ws p (lane_word f j) x 0 (λ e. omega (arith, lane_inside f j h)))

-- ---- descriptors and tables

pub tables_follow : (f : Frame) → f.features.indirect ≡ true → commands_from f ≡ tables_from f + 32 * f.size
tables_follow f on = ap (λ (b : Bool). tables_from f + (if b then 32 * f.size else 0)) on

pub descriptor_drivers : (f : Frame) (p : ℕ) → IsDescriptors f p → IsDrivers f p
descriptor_drivers f p (inl a) = inl (omega arith)
descriptor_drivers f p (inr a) = inr (inl (omega arith, omega (arith, areas f)))

pub descriptor_low : (f : Frame) (p : ℕ) → IsDescriptors f p → p < commands_from f
descriptor_low f p (inl a) = omega (arith, areas f)
descriptor_low f p (inr a) = omega arith

-- they leave the lanes of the driver area
pub lane_descriptor : (f : Frame) (ws : List ℕ) (p x j : ℕ) → IsDescriptors f p → j ≤ f.size + 2
    → lane_at f (slice_set ws p x) j ≡ lane_at f ws j
lane_descriptor f ws p x j (inl a) h = lane_elsewhere f ws p x j a
lane_descriptor f ws p x j (inr a) h = lane_past f ws p x j (omega arith) h

-- the driver area has none of them
pub area_no_descriptor : (f : Frame) (p : ℕ) → avail_from f ≤ p → p < used_from f → IsDescriptors f p → ⊥
area_no_descriptor f p low high (inl a) = omega arith
area_no_descriptor f p low high (inr a) = omega arith

pub command_no_descriptor : (f : Frame) (p : ℕ) → commands_from f ≤ p → IsDescriptors f p → ⊥
command_no_descriptor f p low (inl a) = omega (arith, areas f)
command_no_descriptor f p low (inr a) = omega arith

-- ---- commands and acks

pub acks_follow : (f : Frame) → f.control ≡ true → (acks_from f ≡ commands_from f + 2 * f.size) × (kick_at f ≡ acks_from f + f.size)
acks_follow f on = (
  ap (λ (b : Bool). commands_from f + (if b then 2 * f.size else 0)) on,
  ap (λ (b : Bool). acks_from f + (if b then f.size else 0)) on,
)

pub commands_apart : (f : Frame) (g h i j : ℕ) → i < 2 → j < 2 → command_word f g + i ≡ command_word f h + j → (g ≡ h) × (i ≡ j)
commands_apart f g h i j a b e = (omega arith, omega arith)

pub command_drivers : (f : Frame) (h i : ℕ) → f.control ≡ true → h < f.size → i < 2 → IsDrivers f (command_word f h + i)
command_drivers f h i on low two = inr (inl (omega (arith, areas f), omega (arith, acks_follow f on)))

pub ack_devices : (f : Frame) (h : ℕ) → f.control ≡ true → h < f.size → IsDevices f (ack_word f h)
ack_devices f h on low = inr (inl (omega arith, omega (arith, acks_follow f on)))

-- ---- what a loaded index means

pub shown_is : (r n g : ℕ) → lane16 r 1 ≡ g % 65536 → n ≤ g → g < n + 65536 → shown_from r n ≡ g
shown_is r n g lane low near = omega (arith, lane)
