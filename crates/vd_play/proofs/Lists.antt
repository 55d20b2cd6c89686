-- Lists that grow at their end.
use Rattle.std.proofs.Common.{◌≡◌, ℕ, zero, suc, ◌+◌, ◌-◌, ◌≤◌, List, [], ◌∷◌, ◌++◌, length, map, take, drop, Option, Some, None, slice_get, refl, sym, ◌∙◌, ap, subst, arith, length-append}
use Rattle.std.specs.List.{All}
use Rattle.std.specs.Option.{option_map}
use Rattle.std.proofs.lemmas.List.{take_all, append-nil, append_assoc, map-append, take-append-drop, take-append-le}
use Rattle.std.proofs.lemmas.List.Elements.{All-append, All-take, All-weaker, All-same}
use Rattle.std.proofs.lemmas.Option.{slice_get_within, get_or_from_slice_get}
use mathlib.Core.List.{IsPrefix}
use Rattle.vd_model.specs.declared.record.Begun.{Begun}
use Rattle.vd_ring.specs.declared.frame.Used.{Used}
use Rattle.vd_bus.specs.Device.{IsJournalled, IsBegun, lens_of}
use Rattle.vd_play.specs.Lane.{HasGiven}

pub some_same : {A : Type 0} (x y : A) (o : Option A) → o ≡ Some x → o ≡ Some y → x ≡ y
some_same x y o p q = cc

pub found_by : {A B : Type 0} (f : A → B) (o : Option A) (y : B) → option_map f o ≡ Some y → (x : A) × (o ≡ Some x) × (f x ≡ y)
found_by f None y e = absurd (cc)
found_by f (Some x) y e = (x, refl, cc)

pub All-at : {A : Type 0} (P : A → Type 0) (xs : List A) (k : ℕ) (x : A) → slice_get xs k ≡ Some x → All P xs → P x
All-at P xs k x is all = subst P (get_or_from_slice_get xs k x x is) (all k x (slice_get_within xs k x is))

slice_get_more : (xs ys : List ℕ) (k x : ℕ) → slice_get xs k ≡ Some x → slice_get (xs ++ ys) k ≡ Some x
slice_get_more [] ys k x h = absurd (cc)
slice_get_more (y ∷ xs) ys zero x h = h
slice_get_more (y ∷ xs) ys (suc k) x h = slice_get_more xs ys k x h

pub length_le : {A : Type 0} (xs ys : List A) → IsPrefix xs ys → length xs ≤ length ys
length_le xs ys p = omega (arith, length-append xs p.0, ap length p.1)

pub same_front : {A : Type 0} (n : ℕ) (xs ys : List A) → IsPrefix xs ys → n ≤ length xs → take n ys ≡ take n xs
same_front n xs ys p le = ap (λ zs. take n zs) (sym p.1) ∙ take-append-le n xs p.0 le

pub prefix_at : {A : Type 0} (xs ys : List A) (n : ℕ) → IsPrefix xs ys → length xs ≡ n → xs ≡ take n ys
prefix_at xs ys n p is = sym (ap (λ zs. take n zs) (sym p.1) ∙ take-append-le n xs p.0 (omega arith) ∙ ap (λ k. take k xs) (sym is)
    ∙ take_all (length xs) xs (omega arith))

pub prefix_through : {A : Type 0} (xs ys zs : List A) → IsPrefix xs ys → IsPrefix ys zs → IsPrefix xs zs
prefix_through xs ys zs p q = (p.0 ++ q.0, sym (append_assoc xs p.0 q.0) ∙ ap (λ us. us ++ q.0) p.1 ∙ q.1)

pub prefix_same : {A : Type 0} (xs ys : List A) → xs ≡ ys → IsPrefix xs ys
prefix_same xs ys e = ([], append-nil xs ∙ e)

pub prefix_take : {A : Type 0} (xs ys : List A) (n : ℕ) → xs ≡ take n ys → IsPrefix xs ys
prefix_take xs ys n e = (drop n ys, ap (λ zs. zs ++ drop n ys) e ∙ take-append-drop n ys)

pub prefix_whole : {A : Type 0} (xs ys : List A) → IsPrefix xs ys → length xs ≡ length ys → xs ≡ ys
prefix_whole xs ys p same = elim p.0 as (λ t. xs ++ t ≡ ys → xs ≡ ys) [
  | [] ↦ λ h. sym (append-nil xs) ∙ h
  | t ∷ ts ↦ λ h. absurd (omega (arith, length-append xs (t ∷ ts), ap length h))
] p.1

-- ---- what a device has begun and given

pub begun_joined : (bs bs' : List Begun) (at : ℕ) → IsPrefix bs bs' → at ≤ length bs → All IsBegun bs → All IsBegun (drop at bs')
    → All IsBegun bs'
begun_joined bs bs' at p le old new =
    let front : All IsBegun (take at bs') =
    All-same IsBegun (take at bs') (take at bs) (same_front at bs bs' p le) (All-take IsBegun at bs old) in
    All-same IsBegun bs' (take at bs' ++ drop at bs') (sym (take-append-drop at bs'))
    (All-append IsBegun (take at bs') (drop at bs') front new)

given_more : (bs bs' : List Begun) → IsPrefix bs bs' → (u : Used) → HasGiven (lens_of bs) u → HasGiven (lens_of bs') u
given_more bs bs' p u h =
    let f : Begun → ℕ = λ b. b.len in
    let is : map f bs' ≡ map f bs ++ map f p.0 = ap (λ zs. map f zs) (sym p.1) ∙ map-append f bs p.0 in
    ap (λ zs. slice_get zs u.number) is ∙ slice_get_more (map f bs) (map f p.0) u.number u.len h

given_at : (bs : List Begun) (at : ℕ) (u : Used) → IsJournalled bs at at u → HasGiven (lens_of bs) u
given_at bs at u h =
    let e : u.number - at + at ≡ u.number = omega (arith, h.since) in
    ap (λ k. slice_get (lens_of bs) k) (sym e) ∙ h.len

pub given_joined : (bs bs' : List Begun) (g g' : List Used) (at : ℕ) → IsPrefix bs bs' → IsPrefix g g' → at ≤ length g
    → All (HasGiven (lens_of bs)) g → All (IsJournalled bs' at at) (drop at g') → All (HasGiven (lens_of bs')) g'
given_joined bs bs' g g' at p q le old new =
    let P : Used → Type 0 = HasGiven (lens_of bs') in
    let front : All P (take at g') =
    All-same P (take at g') (take at g) (same_front at g g' q le)
    (All-take P at g (All-weaker (HasGiven (lens_of bs)) P (given_more bs bs' p) g old)) in
    let back : All P (drop at g') = All-weaker (IsJournalled bs' at at) P (given_at bs' at) (drop at g') new in
    All-same P g' (take at g' ++ drop at g') (sym (take-append-drop at g')) (All-append P (take at g') (drop at g') front back)
