-- What a stored second word says to its reader.
use Rattle.std.proofs.Common.{◌≡◌, ◌≢◌, ℕ, zero, suc, ◌+◌, ◌*◌, ◌/◌, ◌%◌, ◌<◌, ◌≤◌, ◌==◌, ◌&&◌, nat_lt, Bool, true, false, if◌then◌else◌, arith, refl, ap, sym, ◌∙◌}
use Rattle.std.proofs.lemmas.Bool.{eq-eqb, ne_eqb}
use native.Mathlib.Nat.{add-div_right, div-eq_of_lt}
use Rattle.vd_packed_ring.specs.PackedWords.{wrap_bit, other_bit, packed_word, len_of, id_of, flags_of, goes_on, is_write, is_available, is_used, used_word}
use Rattle.vd_packed_ring.specs.PackedChains.{Descriptor, avail_word}

-- the fields fit their lanes
pub record Fits (d : Descriptor) : Type 0 where
  pub len : d.len < 4294967296
  pub id : d.id < 65536
  pub flags : d.flags < 8

-- ---- the wrap changes from one turn to the next

pub next_wrap : (n q : ℕ) → 0 < n → wrap_bit n (q + n) ≡ other_bit n q
next_wrap n q pos = let d : (q + n) / n ≡ q / n + 1 = add-div_right q pos in omega arith

pub both_bits : (n q : ℕ) → wrap_bit n q + other_bit n q ≡ 1
both_bits n q = omega arith

-- ---- the fields of a word

pub len_back : (l i g : ℕ) → l < 4294967296 → len_of (packed_word l i g) ≡ l
len_back l i g h = omega arith

rest_back : (l i g : ℕ) → l < 4294967296 → packed_word l i g / 4294967296 ≡ i + 65536 * g
rest_back l i g h = omega arith

pub id_back : (l i g : ℕ) → l < 4294967296 → i < 65536 → id_of (packed_word l i g) ≡ i
id_back l i g h k = ap (λ (x : ℕ). x % 65536) (rest_back l i g h) ∙ omega arith

pub flags_back : (l i g : ℕ) → l < 4294967296 → i < 65536 → flags_of (packed_word l i g) ≡ g
flags_back l i g h k = ap (λ (x : ℕ). x / 65536) (rest_back l i g h) ∙ omega arith

low_bits : (g a b : ℕ) → g < 8 → a ≤ 1 → b ≤ 1 → ((g + 128 * a + 32768 * b) / 128 % 2 ≡ a) × ((g + 128 * a + 32768 * b) / 32768 % 2 ≡ b)
low_bits g a b hg ha hb = (omega arith, omega arith)

-- WRITE where a length was given
abbrev write_flag : ℕ → ℕ
write_flag l = if nat_lt 0 l then 2 else 0

write_low : (l : ℕ) → write_flag l < 8
write_low l = either (nat_lt 0 l)
  where
    either : (b : Bool) → (if b then 2 else 0) < 8
    either true = omega arith
    either false = omega arith

-- AVAIL and USED in a word
pub avail_bits : (n q : ℕ) (d : Descriptor) → Fits d → ((flags_of (avail_word n q d) / 128) % 2 ≡ wrap_bit n q)
    × ((flags_of (avail_word n q d) / 32768) % 2 ≡ other_bit n q)
avail_bits n q d ok =
    let g = flags_back d.len d.id (d.flags + 128 * wrap_bit n q + 32768 * other_bit n q) ok.len ok.id in
    let b = low_bits d.flags (wrap_bit n q) (other_bit n q) ok.flags (omega arith) (omega arith) in
    (ap (λ (x : ℕ). x / 128 % 2) g ∙ b.0, ap (λ (x : ℕ). x / 32768 % 2) g ∙ b.1)

pub used_bits : (n q i l : ℕ) → i < 65536 → l < 4294967296 → ((flags_of (used_word n q i l) / 128) % 2 ≡ wrap_bit n q)
    × ((flags_of (used_word n q i l) / 32768) % 2 ≡ wrap_bit n q)
used_bits n q i l hi hl =
    let g = flags_back l i (write_flag l + 128 * wrap_bit n q + 32768 * wrap_bit n q) hl hi in
    let b = low_bits (write_flag l) (wrap_bit n q) (wrap_bit n q) (write_low l) (omega arith) (omega arith) in
    (ap (λ (x : ℕ). x / 128 % 2) g ∙ b.0, ap (λ (x : ℕ). x / 32768 % 2) g ∙ b.1)

both : (a b c d : ℕ) → a ≡ b → c ≡ d → ((a == b) && (c == d)) ≡ true
both a b c d e h = rw (eq-eqb a b e, eq-eqb c d h) refl

off_first : (a b c d : ℕ) → a ≢ b → ((a == b) && (c == d)) ≡ false
off_first a b c d e = rw (ne_eqb a b e) refl

off_and : (x : Bool) → (x && false) ≡ false
off_and true = refl
off_and false = refl

off_last : (a b c d : ℕ) → c ≢ d → ((a == b) && (c == d)) ≡ false
off_last a b c d e = rw (ne_eqb c d e) (off_and (a == b))

apart : (a b x : ℕ) → a ≡ x → x ≢ b → a ≢ b
apart a b x e h k = h (sym e ∙ k)

-- ---- what is offered shows as available in its turn and not in the next, and never as used

pub avail_shows : (n q : ℕ) (d : Descriptor) → Fits d → is_available n q (avail_word n q d) ≡ true
avail_shows n q d ok = let b = avail_bits n q d ok in both _ _ _ _ b.0 b.1

pub avail_next : (n q : ℕ) (d : Descriptor) → 0 < n → Fits d → is_available n (q + n) (avail_word n q d) ≡ false
avail_next n q d pos ok = let b = avail_bits n q d ok in
    off_first _ _ _ _ (apart _ _ (wrap_bit n q) b.0 (λ (e : wrap_bit n q ≡ wrap_bit n (q + n)). omega (
      arith,
      next_wrap n q pos,
      both_bits n q,
    )))

pub avail_unused : (n q : ℕ) (d : Descriptor) → Fits d → is_used n q (avail_word n q d) ≡ false
avail_unused n q d ok = let b = avail_bits n q d ok in
    off_last _ _ _ _ (apart _ _ (other_bit n q) b.1 (λ (e : other_bit n q ≡ wrap_bit n q). omega (arith, both_bits n q)))

pub avail_unused_next : (n q : ℕ) (d : Descriptor) → 0 < n → Fits d → is_used n (q + n) (avail_word n q d) ≡ false
avail_unused_next n q d pos ok = let b = avail_bits n q d ok in
    off_first _ _ _ _ (apart _ _ (wrap_bit n q) b.0 (λ (e : wrap_bit n q ≡ wrap_bit n (q + n)). omega (
      arith,
      next_wrap n q pos,
      both_bits n q,
    )))

-- ---- what is given shows as used in its turn and not in the next, and as available in neither

pub used_shows : (n q i l : ℕ) → i < 65536 → l < 4294967296 → is_used n q (used_word n q i l) ≡ true
used_shows n q i l hi hl = let b = used_bits n q i l hi hl in both _ _ _ _ b.0 b.1

pub used_next : (n q i l : ℕ) → 0 < n → i < 65536 → l < 4294967296 → is_used n (q + n) (used_word n q i l) ≡ false
used_next n q i l pos hi hl = let b = used_bits n q i l hi hl in
    off_first _ _ _ _ (apart _ _ (wrap_bit n q) b.0 (λ (e : wrap_bit n q ≡ wrap_bit n (q + n)). omega (
      arith,
      next_wrap n q pos,
      both_bits n q,
    )))

pub used_unavailable : (n q i l : ℕ) → 0 < n → i < 65536 → l < 4294967296 → is_available n (q + n) (used_word n q i l) ≡ false
used_unavailable n q i l pos hi hl = let b = used_bits n q i l hi hl in
    off_first _ _ _ _ (apart _ _ (wrap_bit n q) b.0 (λ (e : wrap_bit n q ≡ wrap_bit n (q + n)). omega (
      arith,
      next_wrap n q pos,
      both_bits n q,
    )))

-- ---- a word of 0 is never available, and not used in the first turn

pub zero_unavailable : (n q : ℕ) → is_available n q 0 ≡ false
zero_unavailable n q = at (wrap_bit n q) (other_bit n q) (both_bits n q)
  where
    at : (a b : ℕ) → a + b ≡ 1 → ((0 == a) && (0 == b)) ≡ false
    at zero b e = off_last 0 0 0 b (λ h. omega arith)
    at (suc a) b e = off_first 0 (suc a) 0 b (λ h. omega arith)

pub zero_unused : (n q : ℕ) → q < n → is_used n q 0 ≡ false
zero_unused n q low = let d : q / n ≡ 0 = div-eq_of_lt low in off_first 0 (wrap_bit n q) 0 (wrap_bit n q) (λ h. omega arith)

-- ---- reading a word

pub avail_id : (n q : ℕ) (d : Descriptor) → Fits d → id_of (avail_word n q d) ≡ d.id
avail_id n q d ok = id_back d.len d.id (d.flags + 128 * wrap_bit n q + 32768 * other_bit n q) ok.len ok.id

pub avail_len : (n q : ℕ) (d : Descriptor) → Fits d → len_of (avail_word n q d) ≡ d.len
avail_len n q d ok = len_back d.len d.id (d.flags + 128 * wrap_bit n q + 32768 * other_bit n q) ok.len

pub used_id : (n q i l : ℕ) → i < 65536 → l < 4294967296 → id_of (used_word n q i l) ≡ i
used_id n q i l hi hl = id_back l i (write_flag l + 128 * wrap_bit n q + 32768 * wrap_bit n q) hl hi

pub used_len : (n q i l : ℕ) → l < 4294967296 → len_of (used_word n q i l) ≡ l
used_len n q i l hl = len_back l i (write_flag l + 128 * wrap_bit n q + 32768 * wrap_bit n q) hl

abbrev pub bit : Bool → ℕ
bit b = if b then 1 else 0

abbrev pub write_bit : Bool → ℕ
write_bit b = if b then 2 else 0

odd_bit : (b : Bool) (g k : ℕ) → g ≡ bit b + 2 * k → ((g % 2) == 1) ≡ b
odd_bit true g k e = eq-eqb (g % 2) 1 (omega arith)
odd_bit false g k e = ne_eqb (g % 2) 1 (λ h. omega arith)

bit_low : (b : Bool) → bit b ≤ 1
bit_low true = omega arith
bit_low false = omega arith

write_twice : (b : Bool) → write_bit b ≡ 2 * bit b
write_twice true = refl
write_twice false = refl

half : (g a b : ℕ) → a ≤ 1 → g ≡ a + 2 * b → g / 2 ≡ b
half g a b h e = omega arith

-- NEXT and WRITE of a piece
pub avail_flags : (n q : ℕ) (d : Descriptor) (more write : Bool) → Fits d → d.flags ≡ bit more + write_bit write
    → (goes_on (avail_word n q d) ≡ more) × (is_write (avail_word n q d) ≡ write)
avail_flags n q d more write ok e =
    let g : flags_of (avail_word n q d) ≡ d.flags + 128 * wrap_bit n q + 32768 * other_bit n q =
    flags_back d.len d.id (d.flags + 128 * wrap_bit n q + 32768 * other_bit n q) ok.len ok.id in
    let k : ℕ = bit write + 64 * wrap_bit n q + 16384 * other_bit n q in
    let whole : flags_of (avail_word n q d) ≡ bit more + 2 * k = omega (arith, write_twice write) in (
      odd_bit more _ k whole,
      odd_bit write _ (32 * wrap_bit n q + 8192 * other_bit n q) (half _ (bit more) k (bit_low more) whole ∙ omega arith),
    )
