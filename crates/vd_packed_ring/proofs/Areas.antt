-- Who stores which word.
use Rattle.std.proofs.Common.{◌≡◌, ◌≢◌, ℕ, ◌+◌, ◌*◌, ◌/◌, ◌%◌, ◌<◌, ◌≤◌, Bool, true, List, length, if◌then◌else◌, slice_index, slice_set, sym, ap, ◌∙◌, subst, arith, inl, inr}
use Rattle.std.proofs.lemmas.Bool.{cases_eq, cases_lt}
use Rattle.std.proofs.lemmas.List.{get_or-set_other, get_or-set_same, length-set}
use Rattle.std.proofs.lemmas.Nat.{div-add-mod', mul-le, mod_below}
use Rattle.vd_ring.specs.declared.frame.Frame.{Frame}
use Rattle.vd_ring.proofs.ControlSteps.{AreApart}
use Rattle.vd_packed_ring.specs.PackedWords.{IsDrivers, IsDevices, width, tables_from, commands_from, acks_from, kick_at, command_word, ack_word, second_word}
use Rattle.vd_packed_ring.specs.PackedRing.{Words}

pub areas : (f : Frame) → (tables_from f ≤ commands_from f) × (commands_from f ≤ acks_from f) × (acks_from f ≤ kick_at f)
areas f = (
  up (if f.features.indirect then 32 * f.size else 0) (tables_from f),
  up (if f.control then 2 * f.size else 0) (commands_from f),
  up (if f.control then f.size else 0) (acks_from f),
)
  where
    up : (b a : ℕ) → a ≤ a + b
    up b a = omega arith

pub owners_apart : (f : Frame) (i j : ℕ) → IsDrivers f i → IsDevices f j → i ≢ j
owners_apart f i j (inl a) (inl b) = λ e. omega arith
owners_apart f i j (inl a) (inr (inl b)) = λ e. omega (arith, areas f)
owners_apart f i j (inl a) (inr (inr b)) = λ e. omega (arith, areas f)
owners_apart f i j (inr (inl a)) (inl b) = λ e. omega (arith, areas f)
owners_apart f i j (inr (inl a)) (inr (inl b)) = λ e. omega (arith, areas f)
owners_apart f i j (inr (inl a)) (inr (inr b)) = λ e. omega (arith, areas f)
owners_apart f i j (inr (inr (inl a))) (inl b) = λ e. omega (arith, areas f)
owners_apart f i j (inr (inr (inl a))) (inr (inl b)) = λ e. omega (arith, areas f)
owners_apart f i j (inr (inr (inl a))) (inr (inr b)) = λ e. omega (arith, areas f)
owners_apart f i j (inr (inr (inr a))) (inl b) = λ e. omega (arith, areas f)
owners_apart f i j (inr (inr (inr a))) (inr (inl b)) = λ e. omega (arith, areas f)
owners_apart f i j (inr (inr (inr a))) (inr (inr b)) = λ e. omega (arith, areas f)

pub drivers_inside : (f : Frame) (i : ℕ) → IsDrivers f i → i < width f
drivers_inside f i (inl a) = omega (arith, areas f)
drivers_inside f i (inr (inl a)) = omega (arith, areas f)
drivers_inside f i (inr (inr (inl a))) = omega (arith, areas f)
drivers_inside f i (inr (inr (inr a))) = omega (arith, areas f)

pub devices_inside : (f : Frame) (i : ℕ) → IsDevices f i → i < width f
devices_inside f i (inl a) = omega (arith, areas f)
devices_inside f i (inr (inl a)) = omega (arith, areas f)
devices_inside f i (inr (inr a)) = omega (arith, areas f)

-- ---- second words, which both sides store

pub second_low : (f : Frame) (q : ℕ) → 2 ≤ f.size → second_word f.size q < 2 * f.size
second_low f q pos = omega (arith, mod_below q f.size (omega arith))

pub second_inside : (f : Frame) (q : ℕ) → 2 ≤ f.size → second_word f.size q < width f
second_inside f q pos = omega (arith, areas f, second_low f q pos)

pub drivers_second : (f : Frame) (i q : ℕ) → 2 ≤ f.size → IsDrivers f i → i ≢ second_word f.size q
drivers_second f i q pos (inl a) = λ e. omega (arith, a.1)
drivers_second f i q pos (inr (inl a)) = λ e. omega (arith, second_low f q pos)
drivers_second f i q pos (inr (inr (inl a))) = λ e. omega (arith, second_low f q pos)
drivers_second f i q pos (inr (inr (inr a))) = λ e. omega (arith, areas f, second_low f q pos)

pub devices_second : (f : Frame) (i q : ℕ) → 2 ≤ f.size → IsDevices f i → i ≢ second_word f.size q
devices_second f i q pos (inl a) = λ e. omega (arith, second_low f q pos)
devices_second f i q pos (inr (inl a)) = λ e. omega (arith, areas f, second_low f q pos)
devices_second f i q pos (inr (inr a)) = λ e. omega (arith, areas f, second_low f q pos)

-- ---- stores

same_store : (ws us : List ℕ) (p i x : ℕ) → p < length ws → p < length us → slice_index ws i ≡ slice_index us i
    → slice_index (slice_set ws p x) i ≡ slice_index (slice_set us p x) i
same_store ws us p i x a b e = elim (cases_eq i p) [
  | inl is ↦ subst (λ (q : ℕ). slice_index (slice_set ws p x) q ≡ slice_index (slice_set us p x) q) (sym is)
      (get_or-set_same ws p x 0 a ∙ sym (get_or-set_same us p x 0 b))
  | inr ne ↦ get_or-set_other ws p i x 0 ne ∙ e ∙ sym (get_or-set_other us p i x 0 ne)
]

pub driver_stores : (f : Frame) (ws driven served : List ℕ) (p x : ℕ) → Words f ws driven served → IsDrivers f p
    → Words f (slice_set ws p x) (slice_set driven p x) served
driver_stores f ws driven served p x w own =
    let inside : p < width f = drivers_inside f p own in
    let wide : length ws ≡ width f = w.wide.0 in
    let wide2 : length driven ≡ width f = w.wide.1 in
    record {
      wide = (length-set ws p x ∙ w.wide.0, length-set driven p x ∙ w.wide.1, w.wide.2);
      drivers = λ i h. same_store ws driven p i x (omega arith) (omega arith) (w.drivers i h);
      devices = λ i h. get_or-set_other ws p i x 0 (λ e. owners_apart f p i own h (sym e)) ∙ w.devices i h;
    }

pub device_stores : (f : Frame) (ws driven served : List ℕ) (p x : ℕ) → Words f ws driven served → IsDevices f p
    → Words f (slice_set ws p x) driven (slice_set served p x)
device_stores f ws driven served p x w own =
    let inside : p < width f = devices_inside f p own in
    let wide : length ws ≡ width f = w.wide.0 in
    let wide2 : length served ≡ width f = w.wide.2 in
    record {
      wide = (length-set ws p x ∙ w.wide.0, w.wide.1, length-set served p x ∙ w.wide.2);
      drivers = λ i h. get_or-set_other ws p i x 0 (owners_apart f i p h own) ∙ w.drivers i h;
      devices = λ i h. same_store ws served p i x (omega arith) (omega arith) (w.devices i h);
    }

pub driver_second : (f : Frame) (ws driven served : List ℕ) (q x : ℕ) → 2 ≤ f.size → Words f ws driven served
    → Words f (slice_set ws (second_word f.size q) x) (slice_set driven (second_word f.size q) x) served
driver_second f ws driven served q x pos w = record {
  wide = (length-set ws (second_word f.size q) x ∙ w.wide.0, length-set driven (second_word f.size q) x ∙ w.wide.1, w.wide.2);
  drivers = λ i h. get_or-set_other ws (second_word f.size q) i x 0 (drivers_second f i q pos h) ∙ w.drivers i h
      ∙ sym (get_or-set_other driven (second_word f.size q) i x 0 (drivers_second f i q pos h));
  devices = λ i h. get_or-set_other ws (second_word f.size q) i x 0 (devices_second f i q pos h) ∙ w.devices i h;
}

pub device_second : (f : Frame) (ws driven served : List ℕ) (q x : ℕ) → 2 ≤ f.size → Words f ws driven served
    → Words f (slice_set ws (second_word f.size q) x) driven (slice_set served (second_word f.size q) x)
device_second f ws driven served q x pos w = record {
  wide = (length-set ws (second_word f.size q) x ∙ w.wide.0, w.wide.1, length-set served (second_word f.size q) x ∙ w.wide.2);
  drivers = λ i h. get_or-set_other ws (second_word f.size q) i x 0 (drivers_second f i q pos h) ∙ w.drivers i h;
  devices = λ i h. get_or-set_other ws (second_word f.size q) i x 0 (devices_second f i q pos h) ∙ w.devices i h
      ∙ sym (get_or-set_other served (second_word f.size q) i x 0 (devices_second f i q pos h));
}

-- ---- positions less than the size apart have different places

pub places_differ : (n k m : ℕ) → 0 < n → k < m → m < k + n → k % n ≢ m % n
places_differ n k m pos low near same =
    let a = div-add-mod' k n in
    let b = div-add-mod' m n in
    elim (cases_lt (k / n) (m / n)) [
      | inl h ↦ omega (arith, mul-le (k / n + 1) n (m / n) n (omega arith) (omega arith))
      | inr h ↦ omega (arith, mul-le (m / n) n (k / n) n h (omega arith))
    ]

-- positions of one window have different places
pub window_differ : (n low p q : ℕ) → 0 < n → low ≤ p → p < low + n → low ≤ q → q < low + n → p ≢ q → p % n ≢ q % n
window_differ n low p q pos a b c d ne e = elim (cases_lt p q) [
  | inl h ↦ places_differ n p q pos h (omega arith) e
  | inr h ↦ elim (cases_lt q p) [
    | inl k ↦ places_differ n q p pos k (omega arith) (sym e)
    | inr k ↦ ne (omega arith)
  ]
]

-- ---- commands and acks

pub command_drivers : (f : Frame) (h i : ℕ) → f.control ≡ true → h < f.size → i < 2 → IsDrivers f (command_word f h + i)
command_drivers f h i on low two = inr (inr (inl (omega (arith, areas f), omega (arith, acks_follow f on))))
  where
    acks_follow : (f : Frame) → f.control ≡ true → acks_from f ≡ commands_from f + 2 * f.size
    acks_follow f on = ap (λ (b : Bool). commands_from f + (if b then 2 * f.size else 0)) on

pub acks_follow : (f : Frame) → f.control ≡ true → (acks_from f ≡ commands_from f + 2 * f.size) × (kick_at f ≡ acks_from f + f.size)
acks_follow f on = (
  ap (λ (b : Bool). commands_from f + (if b then 2 * f.size else 0)) on,
  ap (λ (b : Bool). acks_from f + (if b then f.size else 0)) on,
)

pub ack_devices : (f : Frame) (h : ℕ) → f.control ≡ true → h < f.size → IsDevices f (ack_word f h)
ack_devices f h on low = inr (inl (omega arith, omega (arith, acks_follow f on)))

pub commands_apart : (f : Frame) → AreApart (command_word f)
commands_apart f = λ g h i j a b e. (omega arith, omega arith)
