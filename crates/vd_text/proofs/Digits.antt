-- One digit more of a number.
use Rattle.std.proofs.Common.{◌≡◌, ℕ, ◌+◌, ◌-◌, ◌*◌, ◌<◌, ◌≤◌, Bool, true, false, ◌&&◌, nat_le, List, length, get_or, take, refl, ap, ◌∙◌, arith, Option, None, cond}
use Rattle.std.specs.Char.{is_ascii_digit, digit_value}
use Rattle.std.specs.Int.{IsInRange}
use Rattle.std.specs.List.{list_all}
use Rattle.std.specs.Str.Parse.{digits_value}
use Rattle.std.proofs.lemmas.Int.Digits.{digits_value_more}
use Rattle.std.proofs.lemmas.List.Folds.{list_all_more}
use Rattle.std.proofs.lemmas.Bool.{lt-leb}
use Rattle.std.proofs.lemmas.Str.{digit_value_digit}
use Rattle.std.proofs.lemmas.Str.Parse.{digits_value-take-le}
use Rattle.vd_text.specs.Grammar.{number}

pub more_digits : (ds : List ℕ) (i v : ℕ) → i < length ds → digits_value 10 (take i ds) ≡ v → IsInRange 48 57 (get_or ds i 0)
    → digits_value 10 (take (i + 1) ds) ≡ v * 10 + (get_or ds i 0 - 48)
more_digits ds i v h e d =
    let w : digit_value (get_or ds i 0) + 48 ≡ get_or ds i 0 = digit_value_digit (get_or ds i 0) d in
    let m : digits_value 10 (take (i + 1) ds) ≡ digits_value 10 (take i ds) * 10 + digit_value (get_or ds i 0) =
    digits_value_more 10 ds i h in
    omega arith

pub more_all : (ds : List ℕ) (i : ℕ) → i < length ds → list_all is_ascii_digit (take i ds) ≡ true
    → is_ascii_digit (get_or ds i 0) ≡ true → list_all is_ascii_digit (take (i + 1) ds) ≡ true
more_all ds i h e d = list_all_more is_ascii_digit ds i 0 h ∙ ap (λ b. b && is_ascii_digit (get_or ds i 0)) e ∙ d

-- a test of three parts, of which the last fails
last_fails : (a b : Bool) (v : Option ℕ) → cond (a && (b && false)) v None ≡ None
last_fails true true v = refl
last_fails true false v = refl
last_fails false b v = refl

pub too_large : (low most : ℕ) (ds : List ℕ) (i : ℕ) → most < digits_value 10 (take i ds) → number low most ds ≡ None
too_large low most ds i h =
    let m : digits_value 10 (take i ds) ≤ digits_value 10 ds = digits_value-take-le 10 ds i (omega arith) in
    let f : nat_le (digits_value 10 ds) most ≡ false = lt-leb (digits_value 10 ds) most (omega arith) in
    rw f (last_fails _ _ _)
