-- Numbers as bytes, and rows of bytes that are written and read field by field.
use Rattle.std.proofs.Common.{◌≡◌, ℕ, zero, suc, ◌+◌, ◌-◌, ◌*◌, ◌/◌, ◌%◌, ◌^◌, ◌<◌, ◌≤◌, List, [], ◌∷◌, ◌++◌, length, take, drop, replicate, get_or, set, refl, sym, ap, ◌∙◌, arith, length-append, append_assoc, drop-cons, get_or-drop, length-drop}
use Rattle.std.proofs.Math.Nat.{pow-succ', div-div-eq-div-mul}
use Rattle.std.proofs.lemmas.List.{append-nil, drop-drop, drop-replicate, drop_all, drop_at, length-take, set_at, take-append-drop, take_at, take_rest}
use borrow.Rule.Slice.PartMut.{put_mid}
use Rattle.std.specs.Int.{byte_at, bytes_low_first}
use Rattle.byteorder.specs.Endian.{little_from, little_number, little_bytes}
use Rattle.byteorder.specs.Numbers.{little_number-reads_back, length-bytes_low_first}
use Rattle.vd_uapi.specs.Bytes.{bytes_of, number_at}

-- a byte below shifts the bytes of a number
byte_at-shift : (j b y : ℕ) → b < 256 → byte_at (suc j) (b + 256 * y) ≡ byte_at j y
byte_at-shift zero b y h = let e : (b + 256 * y) / 256 ≡ y = omega arith in ap (λ (x : ℕ). x % 256) e
byte_at-shift (suc j) b y h =
    let e : (b + 256 * y) / 256 ≡ y = omega arith in
    let p : 256 ^ suc (suc j) ≡ 256 * 256 ^ suc j = pow-succ' 256 (suc j) in
    let d : (b + 256 * y) / (256 * 256 ^ suc j) ≡ (b + 256 * y) / 256 / 256 ^ suc j =
    sym (div-div-eq-div-mul (b + 256 * y) 256 (256 ^ suc j)) in
    ap (λ (x : ℕ). x % 256) (ap (λ (q : ℕ). (b + 256 * y) / q) p ∙ d ∙ ap (λ (x : ℕ). x / 256 ^ suc j) e)

bytes-shift : (j n b y : ℕ) → b < 256 → bytes_low_first (suc j) n (b + 256 * y) ≡ bytes_low_first j n y
bytes-shift j zero b y h = refl
bytes-shift j (suc n) b y h =
    ap (λ (x : ℕ). x ∷ bytes_low_first (suc (suc j)) n (b + 256 * y)) (byte_at-shift j b y h)
    ∙ ap (λ (r : List ℕ). byte_at j y ∷ r) (bytes-shift (suc j) n b y h)

-- the bytes of the number in some bytes are these bytes
bytes-number : (n i : ℕ) (xs : List ℕ) → ((k : ℕ) → get_or xs k 0 < 256) → i + n ≤ length xs
    → bytes_low_first 0 n (little_from i n xs) ≡ take n (drop i xs)
bytes-number zero i xs b h = refl
bytes-number (suc n) i xs b h =
    let x = get_or xs i 0 in
    let r = little_from (suc i) n xs in
    let first : (x + 256 * r) % 256 ≡ x = omega (arith, b i) in
    let later : bytes_low_first 1 n (x + 256 * r) ≡ take n (drop (suc i) xs) =
    bytes-shift 0 n x r (b i) ∙ bytes-number n (suc i) xs b (omega arith) in
    let whole : drop i xs ≡ x ∷ drop (suc i) xs = drop-cons xs i 0 (omega arith) in
    ap (λ (y : ℕ). y ∷ bytes_low_first 1 n (x + 256 * r)) first ∙ ap (λ (q : List ℕ). x ∷ q) later ∙ sym (ap (take (suc n)) whole)

pub length-bytes_of : (n x : ℕ) → length (bytes_of n x) ≡ n
unfolding bytes_of
length-bytes_of n x = length-bytes_low_first 0 n x

-- the bytes from a place are those of the number there, and the rest
pub spelled : (n at : ℕ) (bs : List ℕ) → ((k : ℕ) → get_or bs k 0 < 256) → at + n ≤ length bs
    → drop at bs ≡ bytes_of n (number_at n at bs) ++ drop (at + n) bs
unfolding bytes_of number_at
spelled n at bs b h =
    let ds = drop at bs in
    let same : bytes_low_first 0 n (little_from 0 n ds) ≡ take n ds =
    bytes-number n 0 ds (λ k. let e : get_or ds k 0 ≡ get_or bs (at + k) 0 = get_or-drop at bs k 0 in omega (arith, e, b (at + k)))
    (omega (arith, length-drop at bs)) in
    sym (take-append-drop n ds) ∙ ap (λ (q : List ℕ). q ++ drop n ds) (sym same)
    ∙ ap (λ (q : List ℕ). bytes_low_first 0 n (little_from 0 n ds) ++ q) (drop-drop n at bs)

-- the number whose bytes stand at a place is read there
pub number : (n x : ℕ) (front rest : List ℕ) (at : ℕ) → length front ≡ at → x < 256 ^ n
    → number_at n at (front ++ (bytes_of n x ++ rest)) ≡ x
unfolding bytes_of number_at
number n x front rest at h s = ap (little_number n) (drop_at front _ at h) ∙ little_number-reads_back n x rest s

-- so many bytes stand written, and zeros behind them
pub record Written (bs front : List ℕ) (at m : ℕ) : Type 0 where
  pub is : bs ≡ front ++ replicate m 0
  pub len : length front ≡ at

-- a number's bytes are written next
pub put_next : {bs new front : List ℕ} {at m : ℕ} (n x : ℕ) → Written bs front at m → n ≤ m
    → new ≡ take at bs ++ bytes_of n x ++ drop (at + n) bs → Written new (front ++ bytes_of n x) (at + n) (m - n)
put_next {bs} {new} {front} {at} {m} n x w l e =
    let before : take at bs ≡ front = ap (take at) w.is ∙ take_at front _ at w.len in
    let behind : drop (at + n) bs ≡ replicate (m - n) 0 =
    ap (drop (at + n)) w.is ∙ sym (drop-drop n at (front ++ replicate m 0)) ∙ ap (drop n) (drop_at front _ at w.len)
    ∙ drop-replicate n m 0 in
    record {
      is = e ∙ ap (λ (p : List ℕ). p ++ bytes_of n x ++ drop (at + n) bs) before ∙ ap (λ (q : List ℕ). front ++ bytes_of n x ++ q) behind;
      len = omega (arith, length-append front (bytes_of n x), length-bytes_of n x, w.len);
    }

-- one byte is written next
pub set_next : {bs front : List ℕ} {at m : ℕ} (x : ℕ) → Written bs front at (suc m) → Written (set bs at x) (front ++ x ∷ []) (at + 1) m
set_next {bs} {front} {at} {m} x w = record {
  is = ap (λ (q : List ℕ). set q at x) w.is ∙ set_at front 0 (replicate m 0) x at w.len ∙ sym (append_assoc front (x ∷ []) (replicate m 0));
  len = omega (arith, length-append front (x ∷ []), w.len);
}

-- so many bytes stand in front of the rest
pub record Front (bs front rest : List ℕ) (at : ℕ) : Type 0 where
  pub is : bs ≡ front ++ rest
  pub len : length front ≡ at

-- the last of them are one field's
pub peel : {bs rest : List ℕ} (front field : List ℕ) (at n : ℕ) → length field ≡ n → Front bs (front ++ field) rest (at + n)
    → Front bs front (field ++ rest) at
peel front field at n l f = record {
  is = f.is ∙ append_assoc front field _;
  len = omega (arith, length-append front field, f.len);
}

-- the number whose bytes come next is the one that is read there
pub read_next : {bs front : List ℕ} {at r : ℕ} (n x : ℕ) (rest : List ℕ) → Front bs front (bytes_of n x ++ rest) at → x < 256 ^ n
    → r ≡ number_at n at bs → r ≡ x
read_next {bs} {front} {at} n x rest f s e = e ∙ ap (number_at n at) f.is ∙ number n x front rest at f.len s

-- what a read of the rest of a slice gives
pub read_number : (n r at : ℕ) (bs : List ℕ) → r ≡ little_number n (take (length bs - at) (drop at bs)) → r ≡ number_at n at bs
unfolding number_at
read_number n r at bs e = e ∙ ap (little_number n) (take_rest bs at)

pub read_spelled : (n r at : ℕ) (bs : List ℕ) → ((k : ℕ) → get_or bs k 0 < 256) → at + n ≤ length bs
    → r ≡ little_number n (take (length bs - at) (drop at bs)) → drop at bs ≡ bytes_of n r ++ drop (at + n) bs
read_spelled n r at bs b h e =
    spelled n at bs b h ∙ ap (λ (y : ℕ). bytes_of n y ++ drop (at + n) bs) (sym (read_number n r at bs e))

-- what a write to a part of a slice leaves
pub put_at : (n x at : ℕ) (bs buf : List ℕ) → buf ≡ little_bytes n x ++ drop n (take (at + n - at) (drop at bs))
    → put_mid at (at + n - at) bs buf ≡ take at bs ++ bytes_of n x ++ drop (at + n) bs
unfolding bytes_of
put_at n x at bs buf e =
    let k : at + n - at ≡ n = omega arith in
    let none : drop n (take n (drop at bs)) ≡ [] = drop_all n (take n (drop at bs)) (omega (arith, length-take n (drop at bs))) in
    let written : buf ≡ little_bytes n x =
    e ∙ ap (λ (q : ℕ). little_bytes n x ++ drop n (take q (drop at bs))) k ∙ ap (λ (q : List ℕ). little_bytes n x ++ q) none
    ∙ append-nil (little_bytes n x) in
    ap (λ (q : ℕ). put_mid at q bs buf) k ∙ ap (λ (q : List ℕ). put_mid at n bs q) written
    ∙ sym (append_assoc (take at bs) (little_bytes n x) (drop n (drop at bs)))
    ∙ ap (λ (q : List ℕ). take at bs ++ little_bytes n x ++ q) (drop-drop n at bs)
