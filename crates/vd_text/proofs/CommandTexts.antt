-- Command texts: what is decoded is a command, and the canonical text means it.
use Rattle.std.proofs.Common.{◌≡◌, ℕ, zero, suc, ◌+◌, ◌/◌, ◌%◌, ◌<◌, ◌≤◌, Bool, true, false, ◌&&◌, nat_le, List, [], ◌∷◌, ◌++◌, length, drop, slice_index, Some, Result, Ok, Err, refl, ap, sym, ◌∙◌, arith, append_assoc, append-nil}
use Rattle.std.specs.Prelude.{MatchResult}
use Rattle.std.specs.List.{list_all}
use Rattle.std.specs.Result.{is_err}
use Rattle.std.proofs.lemmas.Bool.{and_parts, leb-true, le-leb, true≢false}
use Rattle.std.proofs.lemmas.List.{drop_all}
use Rattle.hex.specs.declared.error.FromHexError.{FromHexError}
use Rattle.hex.specs.Hex.{decode_of, decode_sized, encode_with, encode_lower, lower_digits, IsBytes}
use Rattle.hex.proofs.HexLemmas.{length-encode_with, decode_of-encode_lower, decode_of-ok, decode_sized-ok, decode_sized-twice}
use Rattle.hex.proofs.Pairs.{encode_with-drop}
use Rattle.vd_text.proofs.Order.{all_at}
use Rattle.vd_text.specs.Commands.{command, is_byte, is_command, command_text}

-- bytes, in either form

bytes_pass : (bs : List ℕ) → IsBytes bs → list_all is_byte bs ≡ true
bytes_pass [] h = refl
bytes_pass (b ∷ bs) h =
    let first : nat_le b 255 ≡ true = le-leb b 255 (let f : b < 256 = h 0 in omega arith) in
    rw first (bytes_pass bs (λ i. h (suc i)))

bytes_from : (bs : List ℕ) → list_all is_byte bs ≡ true → IsBytes bs
bytes_from [] h i = omega arith
bytes_from (b ∷ bs) h zero =
    let f = leb-true b 255 (and_parts (is_byte b) (list_all is_byte bs) h).0 in
    omega (arith, f)
bytes_from (b ∷ bs) h (suc i) = bytes_from bs (and_parts (is_byte b) (list_all is_byte bs) h).1 i

-- what a text of 6 to 20 digits decodes to is a command
decoded_is_command : (text bytes : List ℕ) → 6 ≤ length text → length text ≤ 20 → decode_of text ≡ Ok bytes → is_command bytes ≡ true
decoded_is_command text bytes low high h =
    let ok = decode_of-ok text bytes h in
    let len = ok.2 in
    let least : nat_le 3 (length bytes) ≡ true = le-leb 3 (length bytes) (omega (arith, len)) in
    let most : nat_le (length bytes) 10 ≡ true = le-leb (length bytes) 10 (omega (arith, len)) in
    rw (least, most) (bytes_pass bytes ok.3)

-- what such a text is decoded to in room for n bytes, where it isn't refused
pub decoded_in : (text new : List ℕ) (n : ℕ) (r : Result Unit FromHexError) (d : Result (List ℕ) FromHexError) → 6 ≤ length text
    → length text ≤ 20 → decode_sized text n ≡ d → MatchResult d (λ bytes. (r ≡ Ok tt) × (new ≡ bytes)) (λ e. r ≡ Err e)
    → is_err r ≡ false → is_command new ≡ true
decoded_in text new n r (Ok bytes) low high is h ok =
    let twice = decode_sized-twice text n (decode_sized-ok text n bytes is) in
    rw (h.1) (decoded_is_command text bytes low high (sym twice ∙ is))
decoded_in text new n r (Err e) low high is h ok = absurd (true≢false (sym (ap is_err h) ∙ ok))

-- 3 to 10 bytes
pub record CommandParts (bytes : List ℕ) : Type 0 where
  pub least : 3 ≤ length bytes
  pub most : length bytes ≤ 10
  pub small : IsBytes bytes

pub command_parts : (bytes : List ℕ) → is_command bytes ≡ true → CommandParts bytes
command_parts bytes h =
    let parts = and_parts (nat_le 3 (length bytes) && nat_le (length bytes) 10) (list_all is_byte bytes) h in
    let bounds = and_parts (nat_le 3 (length bytes)) (nat_le (length bytes) 10) parts.0 in record {
      least = leb-true 3 (length bytes) bounds.0;
      most = leb-true (length bytes) 10 bounds.1;
      small = bytes_from bytes parts.1;
    }

-- the canonical text of a command means it
pub command_back : (bytes : List ℕ) → is_command bytes ≡ true → command (command_text bytes) ≡ Some bytes
unfolding command
command_back bytes h =
    let parts = command_parts bytes h in
    let len = length-encode_with lower_digits bytes in
    let least : nat_le 6 (length (encode_lower bytes)) ≡ true =
    le-leb 6 (length (encode_lower bytes)) (omega (arith, len, parts.least)) in
    let most : nat_le (length (encode_lower bytes)) 20 ≡ true =
    le-leb (length (encode_lower bytes)) 20 (omega (arith, len, parts.most)) in
    rw (least, most, decode_of-encode_lower bytes parts.small) refl

-- nothing is left to print
pub no_more : (out bytes : List ℕ) (i : ℕ) → length bytes ≤ i → out ≡ out ++ command_text (drop i bytes)
unfolding encode_with
no_more out bytes i h = rw (drop_all i bytes h) (sym (append-nil out))

-- one byte more is printed
pub more_command : (out mid new bytes : List ℕ) (i : ℕ) → i < length bytes
    → mid ≡ out ++ slice_index lower_digits (slice_index bytes i / 16) ∷ []
    → new ≡ mid ++ slice_index lower_digits (slice_index bytes i % 16) ∷ []
    → new ++ command_text (drop (i + 1) bytes) ≡ out ++ command_text (drop i bytes)
more_command out mid new bytes i h first second =
    let rest = command_text (drop (i + 1) bytes) in
    let high = slice_index lower_digits (slice_index bytes i / 16) in
    let low = slice_index lower_digits (slice_index bytes i % 16) in
    ap (λ (xs : List ℕ). xs ++ rest) second ∙ append_assoc mid (low ∷ []) rest
    ∙ ap (λ (xs : List ℕ). xs ++ (low ∷ rest)) first ∙ append_assoc out (high ∷ []) (low ∷ rest)
    ∙ ap (λ (xs : List ℕ). out ++ xs) (sym (encode_with-drop lower_digits bytes i h))

-- a test that each digit passes
digits_pass : (p : ℕ → Bool) → list_all p lower_digits ≡ true → (bytes : List ℕ) → IsBytes bytes → list_all p (command_text bytes) ≡ true
unfolding encode_with
digits_pass p h [] small = refl
digits_pass p h (b ∷ bytes) small =
    let byte : b < 256 = small 0 in
    let high : b / 16 < 16 = omega arith in
    let low : b % 16 < 16 = omega arith in
    rw (all_at p lower_digits 0 (b / 16) h high, all_at p lower_digits 0 (b % 16) h low)
    (digits_pass p h bytes (λ i. small (suc i)))

pub command_text_passes : (p : ℕ → Bool) → list_all p lower_digits ≡ true → (bytes : List ℕ) → is_command bytes ≡ true
    → list_all p (command_text bytes) ≡ true
command_text_passes p h bytes is = digits_pass p h bytes (command_parts bytes is).small
