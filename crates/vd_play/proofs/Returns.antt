-- What came back to a guest, by what was given on its ring.
use Rattle.std.proofs.Common.{◌≡◌, ℕ, zero, suc, add-one, ◌+◌, ◌<◌, ◌≤◌, List, [], ◌∷◌, ◌++◌, length, map, take, drop, slice_index, slice_index_or, if◌then◌else◌, nat_lt, refl, sym, ◌∙◌, ap, arith}
use Rattle.std.specs.List.{All}
use Rattle.std.proofs.lemmas.List.{length-map, take-append-drop, length_push}
use Rattle.std.proofs.lemmas.List.Elements.{All-map, All-same, All-take}
use Rattle.vd_model.specs.declared.record.Return.{Return}
use Rattle.vd_ring.specs.declared.driver.DriverDone.{DriverDone}
use Rattle.vd_ring.specs.declared.device.DeviceDone.{DeviceDone}
use Rattle.vd_ring.specs.declared.frame.Frame.{Frame}
use Rattle.vd_ring.specs.declared.frame.Used.{Used}
use Rattle.vd_ring.specs.History.{collects, takes, gives, running, numbers, occurs, upto, used_at}
use Rattle.vd_ring.specs.Lists.{Lists}
use Rattle.vd_ring.proofs.Counts.{one_small, occurs-append}
use Rattle.vd_bus.specs.Guest.{as_return}
use Rattle.vd_play.specs.Journal.{HasLen, IsReturned}
use Rattle.vd_play.specs.Returned.{returned_numbers}
use Rattle.vd_play.specs.Lane.{HasGiven}

pub same_numbers : (us : List Used) → returned_numbers (map as_return us) ≡ numbers us
same_numbers [] = refl
same_numbers (u ∷ us) = ap (λ ks. u.number ∷ ks) (same_numbers us)

len_given : (lens : List ℕ) (u : Used) → HasGiven lens u → HasLen lens (as_return u)
len_given lens u h = record { given = h; ack = refl }

all_lens : (lens : List ℕ) (us : List Used) → All (HasGiven lens) us → All (HasLen lens) (map as_return us)
all_lens lens us h = All-map (HasLen lens) as_return us (λ k d below. len_given lens (slice_index_or us k d) (h k d below))

abbrev spread : ℕ → ℕ → ℕ
spread k n = if nat_lt k n then 1 else 0

none_left : (k : ℕ) (ks : List ℕ) → length ks ≡ 0 → occurs k ks ≡ 0
none_left k [] h = refl
none_left k (j ∷ ks) h = absurd (omega arith)

-- each number below as many as were given was given once
given_once : (f : Frame) (o : List DriverDone) (s : List DeviceDone) → Lists f o s → length (takes s) ≡ length (gives s) → (k : ℕ)
    → occurs k (numbers (gives s)) ≡ (if nat_lt k (length (gives s)) then 1 else 0)
given_once f o s l even k =
    let none : occurs k (running s) ≡ 0 = none_left k (running s) (omega (arith, l.count)) in
    omega (arith, l.given k, none, ap (λ (n : ℕ). spread k n) even)

-- ---- numbers that stand in order

-- a list whose j-th number is j, built up from its front
counted : (xs ys : List ℕ) → xs ≡ upto (length xs) → ((j : ℕ) → j < length ys → slice_index ys j ≡ length xs + j)
    → xs ++ ys ≡ upto (length (xs ++ ys))
counted xs [] front h = Rattle.std.proofs.lemmas.List.append-nil xs ∙ front
    ∙ ap (λ zs. upto (length zs)) (sym (Rattle.std.proofs.lemmas.List.append-nil xs))
counted xs (y ∷ ys) front h =
    let here : y ≡ length xs = h 0 (omega arith) ∙ (let e : length xs + 0 ≡ length xs = omega arith in e) in
    let grown : xs ++ y ∷ [] ≡ upto (length (xs ++ y ∷ [])) = ap (λ k. xs ++ k ∷ []) here ∙ ap (λ zs. zs ++ length xs ∷ []) front
    ∙ ap upto (sym (add-one (length xs))) ∙ ap upto (sym (length_push xs y)) in
    let split : (xs ++ y ∷ []) ++ ys ≡ xs ++ y ∷ ys = Rattle.std.proofs.lemmas.List.append_assoc xs (y ∷ []) ys in
    sym split ∙ counted (xs ++ y ∷ []) ys grown
    (λ j below. h (suc j) (omega arith) ∙ (let e : length xs + suc j ≡ length (xs ++ y ∷ []) + j =
    omega (arith, length_push xs y) in e)) ∙ ap (λ zs. upto (length zs)) split

pub in_turn : (xs : List ℕ) → ((j : ℕ) → j < length xs → slice_index xs j ≡ j) → xs ≡ upto (length xs)
in_turn xs h = counted [] xs refl (λ j below. h j below ∙ (let e : j ≡ 0 + j = omega arith in e))

number_at : (us : List Used) (j : ℕ) → j < length us → slice_index (numbers us) j ≡ (used_at us j).number
number_at [] j h = absurd (omega arith)
number_at (u ∷ us) zero h = refl
number_at (u ∷ us) (suc j) h = number_at us j (omega arith)

-- ---- what a guest has

-- all that was given came back
pub all_returned : (f : Frame) (o : List DriverDone) (s : List DeviceDone) (lens : List ℕ) (list : List Return) → Lists f o s
    → length (takes s) ≡ length (gives s) → length lens ≡ length (gives s) → All (HasGiven lens) (gives s)
    → list ≡ map as_return (gives s) → IsReturned f.features.in_order lens list
all_returned f o s lens list l even many given is =
    let ns : returned_numbers list ≡ numbers (gives s) = ap returned_numbers is ∙ same_numbers (gives s) in
    let as_many : length (numbers (gives s)) ≡ length (gives s) = length-map (gives s) (λ (u : Used). u.number) in
    record {
      as_many = ap length is ∙ length-map (gives s) as_return ∙ sym many;
      once = λ k. ap (occurs k) ns ∙ given_once f o s l even k ∙ ap (λ (n : ℕ). spread k n) (sym many);
      each = All-same (HasLen lens) list (map as_return (gives s)) is (all_lens lens (gives s) given);
      ordered = λ io. ns ∙ in_turn (numbers (gives s)) (λ j below. number_at (gives s) j (omega arith) ∙ l.in_order io j (omega arith))
          ∙ ap upto (as_many ∙ sym many);
    }

-- what came back so far: each number at most once, with its length
pub some_returned : (f : Frame) (o : List DriverDone) (s : List DeviceDone) (lens : List ℕ) (list : List Return) → Lists f o s
    → All (HasGiven lens) (gives s) → list ≡ map as_return (collects o)
    → ((k : ℕ) → occurs k (returned_numbers list) ≤ 1) × All (HasLen lens) list
some_returned f o s lens list l given is =
    let n : ℕ = length (collects o) in
    let front : collects o ≡ take n (gives s) = l.collected in
    let ns : returned_numbers list ≡ numbers (collects o) = ap returned_numbers is ∙ same_numbers (collects o) in (
      λ k. omega (
        arith,
        ap (occurs k) ns,
        ap (λ us. occurs k (numbers us)) front,
        at_most k n,
        l.given k,
        one_small (nat_lt k (length (takes s))),
      ),
      All-same (HasLen lens) list (map as_return (collects o)) is
          (all_lens lens (collects o) (All-same (HasGiven lens) (collects o) (take n (gives s)) front
          (All-take (HasGiven lens) n (gives s) given))),
    )
  where
    at_most : (k n : ℕ) → occurs k (numbers (take n (gives s))) ≤ occurs k (numbers (gives s))
    at_most k n =
        let all : numbers (gives s) ≡ numbers (take n (gives s)) ++ numbers (drop n (gives s)) =
        ap numbers (sym (take-append-drop n (gives s))) ∙ Rattle.std.proofs.lemmas.List.map-append (λ (u : Used). u.number)
        (take n (gives s)) (drop n (gives s)) in
        omega (arith, ap (occurs k) all, occurs-append k (numbers (take n (gives s))) (numbers (drop n (gives s))))
