-- The words of a command's bytes: those of sixteen bytes that end in zeros; and the bytes come back from them.
use Rattle.std.proofs.Common.{◌≡◌, ℕ, zero, suc, ◌+◌, ◌-◌, ◌*◌, ◌<◌, ◌≤◌, List, ◌++◌, length, get_or, take, drop, replicate, refl, ap, sym, ◌∙◌, arith, slice_index, inl, inr, take-add}
use Rattle.std.proofs.Math.Seq.{take-append-add}
use Rattle.std.proofs.lemmas.Bool.{cases_lt}
use Rattle.std.proofs.lemmas.List.{take-replicate, take-take, take_at, get_or-take, get_or-drop, get_or-replicate, get_or_append_left, get_or-append_right, get_or_past, length-append, length-replicate, length-take, length-take-le, length-drop}
use Rattle.std.proofs.lemmas.Nat.{le_bytes_8}
use Rattle.std.specs.Int.{w64, sum_through, byte_worth, to_le_bytes}
use Rattle.vd_commands.specs.Words.{command_word, word_bytes}

-- the first sixteen of the bytes and of zeros behind them
pub filled : (bytes : List ℕ) → length bytes ≤ 16 → take 16 (bytes ++ replicate 16 0) ≡ bytes ++ replicate (16 - length bytes) 0
filled bytes most =
    let parts : 16 ≡ length bytes + (16 - length bytes) = omega arith in
    ap (λ (n : ℕ). take n (bytes ++ replicate 16 0)) parts ∙ take-append-add bytes (replicate 16 0) (16 - length bytes)
    ∙ ap (λ (rest : List ℕ). bytes ++ rest) (take-replicate (16 - length bytes) 16 0 (omega arith))

sum_through_same : (f g : ℕ → ℕ) (n : ℕ) → ((i : ℕ) → i ≤ n → f i ≡ g i) → sum_through f n ≡ sum_through g n
sum_through_same f g zero same = same 0 (omega arith)
sum_through_same f g (suc n) same =
    ap (λ (x : ℕ). x + f (suc n)) (sum_through_same f g n (λ i h. same i (omega arith)))
    ∙ ap (λ (x : ℕ). sum_through g n + x) (same (suc n) (omega arith))

-- a word of the bytes is that of eight of the sixteen
pub command_word_at : (bytes all : List ℕ) (half : ℕ) → half < 2 → length bytes ≤ 16 → all ≡ bytes ++ replicate (16 - length bytes) 0
    → command_word bytes half ≡ sum_through (λ i. byte_worth i (slice_index all (8 * half + i))) 7
command_word_at bytes all half two most is =
    let long : List ℕ = bytes ++ replicate 16 0 in
    sum_through_same (λ i. byte_worth i (slice_index (take 8 (drop (8 * half) long)) i))
    (λ i. byte_worth i (slice_index all (8 * half + i))) 7
    (λ i h. ap (byte_worth i)
    (get_or-take 8 (drop (8 * half) long) i 0 (omega arith) ∙ get_or-drop (8 * half) long i 0
    ∙ sym (get_or-take 16 long (8 * half + i) 0 (omega arith))
    ∙ ap (λ (l : List ℕ). get_or l (8 * half + i) 0) (filled bytes most ∙ sym is)))

-- ---- back

-- each is a byte
abbrev pub AreBytes : List ℕ → Type 0
AreBytes xs = (i : ℕ) → get_or xs i 0 < 256

zeros_are : (n : ℕ) → AreBytes (replicate n 0)
zeros_are n i = elim (cases_lt i n) [
  | inl below ↦ omega (arith, get_or-replicate {A = ℕ} n i 0 0 below)
  | inr past ↦ omega (arith, get_or_past {X = ℕ} (replicate n 0) i 0 (omega (arith, length-replicate {A = ℕ} n 0)))
]

behind_are : (xs ys : List ℕ) → AreBytes xs → AreBytes ys → AreBytes (xs ++ ys)
behind_are xs ys a b i = elim (cases_lt i (length xs)) [
  | inl below ↦ omega (arith, get_or_append_left xs ys 0 i below, a i)
  | inr past ↦ omega (arith, get_or-append_right xs ys (length xs) i 0 refl past, b (i - length xs))
]

taken_are : (n : ℕ) (xs : List ℕ) → AreBytes xs → AreBytes (take n xs)
taken_are n xs a i = elim (cases_lt i n) [
  | inl below ↦ omega (arith, get_or-take n xs i 0 below, a i)
  | inr past ↦ omega (arith, get_or_past (take n xs) i 0 (omega (arith, length-take n xs)))
]

dropped_are : (n : ℕ) (xs : List ℕ) → AreBytes xs → AreBytes (drop n xs)
dropped_are n xs a i = omega (arith, get_or-drop n xs i 0, a (n + i))

-- the bytes come back from their words
pub bytes_come_back : (bytes : List ℕ) → length bytes ≤ 16 → AreBytes bytes
    → word_bytes (length bytes) (command_word bytes 0) (command_word bytes 1) ≡ bytes
bytes_come_back bytes most are =
    let long : List ℕ = bytes ++ replicate 16 0 in
    let all : AreBytes long = behind_are bytes (replicate 16 0) are (zeros_are 16) in
    let enough : 16 ≤ length long = omega (arith, length-append bytes (replicate 16 0), length-replicate {A = ℕ} 16 0) in
    let first : to_le_bytes w64 (command_word bytes 0) ≡ take 8 long =
    le_bytes_8 (take 8 long) (command_word bytes 0) (length-take-le 8 long (omega arith)) (taken_are 8 long all) refl in
    let second : to_le_bytes w64 (command_word bytes 1) ≡ take 8 (drop 8 long) =
    le_bytes_8 (take 8 (drop 8 long)) (command_word bytes 1) (length-take-le 8 (drop 8 long) (omega (arith, length-drop 8 long)))
    (taken_are 8 (drop 8 long) (dropped_are 8 long all)) refl in
    ap (λ (l : List ℕ). take (length bytes) (l ++ to_le_bytes w64 (command_word bytes 1))) first
    ∙ ap (λ (l : List ℕ). take (length bytes) (take 8 long ++ l)) second
    ∙ ap (take (length bytes)) (sym (take-add 8 8 long))
    ∙ take-take (length bytes) 16 long most ∙ take_at bytes (replicate 16 0) (length bytes) refl
