-- Lists by their elements, and the guest's commands by their numbers.
use Rattle.std.proofs.Common.{◌≡◌, ℕ, zero, suc, ◌+◌, ◌<◌, ◌≤◌, List, [], ◌∷◌, length, drop, slice_get, slice_index_or, refl, ◌∙◌, ap, arith, inl, inr}
use mathlib.Core.List.{IsPrefix}
use Rattle.std.proofs.lemmas.Bool.{cases_lt, cases_eq}
use Rattle.std.proofs.lemmas.List.{length-map, get_or-map, get_or_append_left, get_or_push}
use Rattle.vd_ring.specs.declared.driver.DriverView.{DriverView}
use Rattle.vd_ring.specs.declared.frame.Used.{Used}
use Rattle.vd_ring.specs.History.{offers, upto, numbers, occurs, used_at}
use Rattle.vd_ring.proofs.Counts.{length_upto, one_other}
use Rattle.vd_relay.specs.Settling.{bytes_of}
use Rattle.vd_switch.specs.CommandLanes.{guest_commands}

-- a list whose elements are the first of another's is a front of it
pub front : {X : Type 0} (xs ys : List X) → length xs ≤ length ys
    → ((i : ℕ) (d : X) → i < length xs → slice_index_or xs i d ≡ slice_index_or ys i d) → IsPrefix xs ys
front [] ys few same = (ys, refl)
front (x ∷ xs) [] few same = absurd (omega arith)
front {X} (x ∷ xs) (y ∷ ys) few same =
    let rest = front xs ys (omega arith) (λ i d low. same (suc i) d (omega arith)) in (
      rest.0,
      ap (λ (zs : List X). x ∷ zs) rest.1 ∙ ap (λ (z : X). z ∷ ys) (same zero x (omega arith)),
    )

pub get_dropped : {X : Type 0} (n i : ℕ) (xs : List X) → slice_get (drop n xs) i ≡ slice_get xs (n + i)
get_dropped zero i xs =
    let e : i ≡ 0 + i = omega arith in
    ap (slice_get xs) e
get_dropped (suc n) i [] = refl
get_dropped (suc n) i (x ∷ xs) =
    let e : suc (n + i) ≡ suc n + i = omega arith in
    get_dropped n i xs ∙ ap (slice_get (x ∷ xs)) e

-- an entry that has the number
pub number_found : (us : List Used) (k : ℕ) → 1 ≤ occurs k (numbers us) → (j : ℕ) × (j < length us) × ((used_at us j).number ≡ k)
number_found [] k some = absurd (omega arith)
number_found (u ∷ us) k some = elim (cases_eq u.number k) [
  | inl e ↦ (0, omega arith, e)
  | inr ne ↦ (
      let more = number_found us k (omega (arith, one_other u.number k ne)) in
      (suc more.0, omega (arith, more.1), more.2)
      )
]

-- ---- the guest's commands

upto_at : (n i d : ℕ) → i < n → slice_index_or (upto n) i d ≡ i
upto_at zero i d low = absurd (omega arith)
upto_at (suc n) i d low = elim (cases_lt i n) [
  | inl a ↦ get_or_append_left (upto n) (n ∷ []) d i (omega (arith, length_upto n)) ∙ upto_at n i d a
  | inr b ↦ (
      let e : n ≡ i = omega arith in
      get_or_push (upto n) n d i (length_upto n ∙ e) ∙ e
      )
]

pub commands_count : (v : DriverView) → length (guest_commands v) ≡ length (offers v.done)
commands_count v = length-map (upto (length (offers v.done))) (bytes_of v.frame v.done) ∙ length_upto (length (offers v.done))

pub command_at : (v : DriverView) (k : ℕ) (d : List ℕ) → k < length (offers v.done)
    → slice_index_or (guest_commands v) k d ≡ bytes_of v.frame v.done k
command_at v k d low =
    let n : ℕ = length (offers v.done) in
    get_or-map (bytes_of v.frame v.done) (upto n) k 0 d (omega (arith, length_upto n)) ∙ ap (bytes_of v.frame v.done) (upto_at n k 0 low)
