-- The mapping with the greatest key not above an address, from what an ordered map says of a range's end.
use Rattle.std.proofs.Common.{ℕ, ◌≡◌, ◌≤◌, ◌<◌, List, Option, Some, arith, sym, subst, false, refl}
use Rattle.std.specs.declared.cmp.Ordering.TheVariants.{Less}
use Rattle.std.specs.Option.{IsSome}
use Rattle.std.specs.Ordering.{nat_cmp, is_gt, is_lt}
use Rattle.std.proofs.lemmas.Map.Keys.{le_from_not_gt, ge_from_not_lt}
use Rattle.std.proofs.lemmas.Bool.Decides.{nat_tests}
use Rattle.vd_model.specs.declared.map.Mapping.{Mapping}
use Rattle.vd_iova.specs.Indexes.{IsIndex, IsGreatest, IsLeast}

-- a number that is not above another does not compare as greater
pub not_gt_from_le : (a b : ℕ) → a ≤ b → is_gt (nat_cmp a b) ≡ false
not_gt_from_le a b h = grind (arith, nat_tests)

-- what is found at k, where k is the greatest key found that is not above `at`
pub floor_found : (found : ℕ → Option Mapping) (at k : ℕ) (m : Mapping) → is_gt (nat_cmp k at) ≡ false → found k ≡ Some m
    → ((q : ℕ) → is_gt (nat_cmp q at) ≡ false → IsSome (found q) → is_lt (nat_cmp k q) ≡ false)
    → (key : Mapping → ℕ) (ms : List Mapping) → IsIndex key found ms → IsGreatest key at ms m
floor_found found at k m below is greatest key ms index =
    let mine = index.sound k m is in
    let le : k ≤ at = le_from_not_gt k at below in
    record {
      has = mine.0;
      below = omega (arith, mine.1);
      greatest = λ n has n_le.
          let least : key n ≤ k = ge_from_not_lt k (key n)
          (greatest (key n) (not_gt_from_le (key n) at n_le) (subst IsSome (sym (index.whole n has)) refl)) in
          omega (arith, mine.1, least);
    }

pub less_from_lt : (a b : ℕ) → a < b → nat_cmp a b ≡ Less
less_from_lt a b h = grind (arith, nat_tests)

pub lt_from_less : (a b : ℕ) → nat_cmp a b ≡ Less → a < b
lt_from_less a b h = grind (arith, nat_tests)

-- what is found at k, where k is the least key found from `start` on and below `end`
pub first_found : (found : ℕ → Option Mapping) (start end k : ℕ) (m : Mapping) → is_gt (nat_cmp start k) ≡ false → nat_cmp k end ≡ Less
    → found k ≡ Some m
    → ((q : ℕ) → is_gt (nat_cmp start q) ≡ false → nat_cmp q end ≡ Less → IsSome (found q) → is_gt (nat_cmp k q) ≡ false)
    → (key : Mapping → ℕ) (ms : List Mapping) → IsIndex key found ms → IsLeast key start end ms m
first_found found start end k m from below is least key ms index =
    let mine = index.sound k m is in
    let at : key m ≡ k = mine.1 in
    let low : start ≤ k = le_from_not_gt start k from in
    let high : k < end = lt_from_less k end below in
    record {
      has = mine.0;
      from = omega arith;
      below = omega arith;
      lowest = λ n has n_from n_below.
          let le : k ≤ key n = le_from_not_gt k (key n)
          (least (key n) (not_gt_from_le start (key n) n_from) (less_from_lt (key n) end n_below)
          (subst IsSome (sym (index.whole n has)) refl)) in
          omega arith;
    }
