-- The numbers below an end that pass.
use Rattle.std.proofs.Common.{◌≡◌, ℕ, zero, suc, ◌+◌, ◌-◌, ◌<◌, ◌≤◌, List, [], ◌∷◌, ◌++◌, length, map, filter, drop, arith, refl, Bool, true, false, cond, ap, sym, ◌∙◌, add-one, add-zero, append_assoc, length-append, Some, slice_get, option_map, zero-add, suc-add}
use Rattle.std.specs.Int.{from_bool}
use Rattle.std.specs.List.{range_with_len}
use Rattle.std.proofs.lemmas.List.{map-append, map-id, append-nil, length-map}
use Rattle.std.proofs.lemmas.Option.{slice_get-map}
use Rattle.std.proofs.lemmas.List.Elements.{filter-append}
use Rattle.std.proofs.lemmas.List.FromFn.{map-range_with_len_more}
use Rattle.vd_control.specs.Settings.{passing}

-- the list of one number, where it passes
abbrev pub kept : Bool → ℕ → List ℕ
kept true n = n ∷ []
kept false n = []

range_with_len-suc : (n : ℕ) → range_with_len 0 (n + 1) ≡ range_with_len 0 n ++ n ∷ []
range_with_len-suc n =
    sym (map-id (range_with_len 0 (n + 1))) ∙ map-range_with_len_more (λ (x : ℕ). x) 0 n n (omega arith)
    ∙ ap (λ (xs : List ℕ). xs ++ n ∷ []) (map-id (range_with_len 0 n))

cond-kept : (b : Bool) (n : ℕ) → cond b (n ∷ []) [] ≡ kept b n
cond-kept true n = refl
cond-kept false n = refl

pub passing-none : (p : ℕ → Bool) → passing p 0 ≡ []
unfolding passing
passing-none p = refl

pub passing-more : (p : ℕ → Bool) (n : ℕ) → passing p (n + 1) ≡ passing p n ++ kept (p n) n
unfolding passing
passing-more p n = ap (filter p) (range_with_len-suc n) ∙ filter-append p (range_with_len 0 n) (n ∷ [])
    ∙ ap (λ (xs : List ℕ). filter p (range_with_len 0 n) ++ xs) (cond-kept (p n) n)

map-kept : (m n : ℕ) (b : Bool) → map (λ i. m + i) (kept b n) ≡ kept b (m + n)
map-kept m n true = refl
map-kept m n false = refl

-- what passes below m, and what passes from m on
pub passing-add : (p : ℕ → Bool) (m n : ℕ) → passing p (m + n) ≡ passing p m ++ map (λ i. m + i) (passing (λ i. p (m + i)) n)
passing-add p m zero =
    ap (passing p) (add-zero m) ∙ sym (append-nil (passing p m)) ∙ ap (λ (xs : List ℕ). passing p m ++ map (λ i. m + i) xs)
    (sym (passing-none (λ i. p (m + i))))
passing-add p m (suc n) =
    let q : ℕ → Bool = λ i. p (m + i) in
    let next : m + suc n ≡ (m + n) + 1 = omega arith in
    ap (passing p) next ∙ passing-more p (m + n)
    ∙ ap (λ (xs : List ℕ). xs ++ kept (p (m + n)) (m + n)) (passing-add p m n)
    ∙ append_assoc (passing p m) (map (λ i. m + i) (passing q n)) (kept (p (m + n)) (m + n))
    ∙ ap (λ (xs : List ℕ). passing p m ++ (map (λ i. m + i) (passing q n) ++ xs)) (sym (map-kept m n (q n)))
    ∙ ap (λ (xs : List ℕ). passing p m ++ xs) (sym (map-append (λ i. m + i) (passing q n) (kept (q n) n)))
    ∙ ap (λ (xs : List ℕ). passing p m ++ map (λ i. m + i) xs) (sym (passing-more q n) ∙ ap (passing q) (add-one n))

pub passing_same : (p q : ℕ → Bool) (n : ℕ) → ((i : ℕ) → i < n → p i ≡ q i) → passing p n ≡ passing q n
passing_same p q zero same = passing-none p ∙ sym (passing-none q)
passing_same p q (suc n) same =
    let one = add-one n in
    sym (ap (passing p) one) ∙ passing-more p n
    ∙ ap (λ (xs : List ℕ). xs ++ kept (p n) n) (passing_same p q n (λ i h. same i (omega arith)))
    ∙ ap (λ (b : Bool). passing q n ++ kept b n) (same n (omega arith))
    ∙ sym (passing-more q n) ∙ ap (passing q) one

length-kept : (b : Bool) (n : ℕ) → length (kept b n) ≤ 1
length-kept true n = omega arith
length-kept false n = omega arith

pub length-passing : (p : ℕ → Bool) (n : ℕ) → length (passing p n) ≤ n
length-passing p zero = rw (passing-none p) (omega arith)
length-passing p (suc n) =
    let e : length (passing p (suc n)) ≡ length (passing p n) + length (kept (p n) n) =
    ap length (sym (ap (passing p) (add-one n)) ∙ passing-more p n) ∙ length-append (passing p n) (kept (p n) n) in
    let a = length-passing p n in
    let b = length-kept (p n) n in
    omega arith

none_pass : (p : ℕ → Bool) (n : ℕ) → ((i : ℕ) → i < n → p i ≡ false) → passing p n ≡ []
none_pass p zero none = passing-none p
none_pass p (suc n) none =
    sym (ap (passing p) (add-one n)) ∙ passing-more p n
    ∙ ap (λ (xs : List ℕ). xs ++ kept (p n) n) (none_pass p n (λ i h. none i (omega arith)))
    ∙ ap (λ (b : Bool). kept b n) (none n (omega arith))

-- the first that passes, and those that pass without it
pub passing_first : (p q : ℕ → Bool) (t k : ℕ) → ((i : ℕ) → i < t → p i ≡ false) → p t ≡ true → ((i : ℕ) → i < t → q i ≡ false)
    → q t ≡ false → ((i : ℕ) → t < i → i < t + (1 + k) → p i ≡ q i)
    → passing p (t + (1 + k)) ≡ t ∷ passing q (t + (1 + k))
passing_first p q t k before here gone out same =
    let rest = passing (λ i. p (t + (1 + i))) k in
    let other = passing (λ i. q (t + (1 + i))) k in
    let e : rest ≡ other = passing_same (λ i. p (t + (1 + i))) (λ i. q (t + (1 + i))) k
    (λ i h. same (t + (1 + i)) (omega arith) (omega arith)) in
    let first : passing (λ i. p (t + i)) 1 ≡ 0 ∷ [] = passing-more (λ i. p (t + i)) 0 ∙ ap (λ (xs : List ℕ). xs ++ kept (p (t + 0)) 0)
    (passing-none (λ i. p (t + i))) ∙ ap (λ (b : Bool). kept b 0) (ap p (add-zero t) ∙ here) in
    let second : passing (λ i. q (t + i)) 1 ≡ [] = passing-more (λ i. q (t + i)) 0 ∙ ap (λ (xs : List ℕ). xs ++ kept (q (t + 0)) 0)
    (passing-none (λ i. q (t + i))) ∙ ap (λ (b : Bool). kept b 0) (ap q (add-zero t) ∙ out) in
    let left : passing p (t + (1 + k)) ≡ (t + 0) ∷ map (λ i. t + i) (map (λ i. 1 + i) rest) =
    passing-add p t (1 + k) ∙ ap (λ (xs : List ℕ). xs ++ map (λ i. t + i) (passing (λ i. p (t + i)) (1 + k))) (none_pass p t before)
    ∙ ap (map (λ i. t + i)) (passing-add (λ i. p (t + i)) 1 k ∙ ap (λ (xs : List ℕ). xs ++ map (λ i. 1 + i) rest) first) in
    let right : passing q (t + (1 + k)) ≡ map (λ i. t + i) (map (λ i. 1 + i) other) =
    passing-add q t (1 + k) ∙ ap (λ (xs : List ℕ). xs ++ map (λ i. t + i) (passing (λ i. q (t + i)) (1 + k))) (none_pass q t gone)
    ∙ ap (map (λ i. t + i)) (passing-add (λ i. q (t + i)) 1 k ∙ ap (λ (xs : List ℕ). xs ++ map (λ i. 1 + i) other) second) in
    left ∙ ap (λ (n : ℕ). n ∷ map (λ i. t + i) (map (λ i. 1 + i) rest)) (add-zero t)
    ∙ ap (λ (xs : List ℕ). t ∷ map (λ i. t + i) (map (λ i. 1 + i) xs)) e ∙ ap (λ (xs : List ℕ). t ∷ xs) (sym right)

-- ---- places in the list

pub get_left : {X : Type 0} (xs ys : List X) (i : ℕ) (x : X) → slice_get xs i ≡ Some x → slice_get (xs ++ ys) i ≡ Some x
get_left [] ys i x e = absurd cc
get_left (y ∷ xs) ys zero x e = e
get_left (y ∷ xs) ys (suc i) x e = get_left xs ys i x e

pub get_right : {X : Type 0} (xs ys : List X) (i : ℕ) → slice_get (xs ++ ys) (length xs + i) ≡ slice_get ys i
get_right [] ys i = ap (slice_get ys) (zero-add i)
get_right (x ∷ xs) ys i = ap (slice_get (x ∷ xs ++ ys)) (suc-add (length xs) i) ∙ get_right xs ys i

pub get_map : {X Y : Type 0} (f : X → Y) (xs : List X) (i : ℕ) (x : X) → slice_get xs i ≡ Some x → slice_get (map f xs) i ≡ Some (f x)
get_map f xs i x e = slice_get-map f xs i ∙ ap (option_map f) e

-- a place in the list of those from m on is one in the whole list
pub passing_within : (p : ℕ → Bool) (m n end j x : ℕ) → m + n ≤ end → slice_get (passing (λ i. p (m + i)) n) j ≡ Some x
    → slice_get (passing p end) (length (passing p m) + j) ≡ Some (m + x)
passing_within p m n end j x h e =
    let whole : (m + n) + (end - (m + n)) ≡ end = omega arith in
    let part = passing (λ i. p (m + i)) n in
    ap (λ (k : ℕ). slice_get (passing p k) (length (passing p m) + j)) (sym whole)
    ∙ ap (λ (xs : List ℕ). slice_get xs (length (passing p m) + j)) (passing-add p (m + n) (end - (m + n)))
    ∙ get_left (passing p (m + n)) (map (λ i. (m + n) + i) (passing (λ i. p ((m + n) + i)) (end - (m + n)))) (length (passing p m) + j)
    (m + x)
    (ap (λ (xs : List ℕ). slice_get xs (length (passing p m) + j)) (passing-add p m n)
    ∙ get_right (passing p m) (map (λ i. m + i) part) j ∙ get_map (λ i. m + i) part j x e)

pub passing_one : (p : ℕ → Bool) → passing p 1 ≡ kept (p 0) 0
passing_one p = passing-more p 0 ∙ ap (λ (xs : List ℕ). xs ++ kept (p 0) 0) (passing-none p)

-- a number that passes stands after those below it that do
pub passing_here : (p : ℕ → Bool) (n end : ℕ) → n < end → p n ≡ true → slice_get (passing p end) (length (passing p n)) ≡ Some n
passing_here p n end h here =
    let only : passing (λ i. p (n + i)) 1 ≡ 0 ∷ [] =
    passing_one (λ i. p (n + i)) ∙ ap (λ (b : Bool). kept b 0) (ap p (add-zero n) ∙ here) in
    ap (slice_get (passing p end)) (sym (add-zero (length (passing p n))))
    ∙ passing_within p n 1 end 0 0 (omega arith) (ap (λ (xs : List ℕ). slice_get xs 0) only) ∙ ap (λ (k : ℕ). Some k) (add-zero n)

-- how many pass one further
pub length-passing-more : (p : ℕ → Bool) (n : ℕ) → length (passing p (n + 1)) ≡ length (passing p n) + from_bool (p n)
length-passing-more p n = ap length (passing-more p n) ∙ length-append (passing p n) (kept (p n) n)
    ∙ ap (λ (k : ℕ). length (passing p n) + k) (by (p n))
  where
    by : (b : Bool) → length (kept b n) ≡ from_bool b
    by true = refl
    by false = refl

pub length-passing-add : (p : ℕ → Bool) (m n : ℕ) → length (passing p (m + n)) ≡ length (passing p m) + length (passing (λ i. p (m + i)) n)
length-passing-add p m n = ap length (passing-add p m n) ∙ length-append (passing p m) (map (λ i. m + i) (passing (λ i. p (m + i)) n))
    ∙ ap (λ (k : ℕ). length (passing p m) + k) (length-map (passing (λ i. p (m + i)) n) (λ i. m + i))

pub from_bool-on : (b : Bool) (n : ℕ) → (b ≡ true → 0 < n) → from_bool b ≤ n
from_bool-on true n h = h refl
from_bool-on false n h = omega arith

pub slice_get-drop : {X : Type 0} (xs : List X) (k : ℕ) → slice_get (drop k xs) 0 ≡ slice_get xs k
slice_get-drop [] zero = refl
slice_get-drop [] (suc k) = refl
slice_get-drop (x ∷ xs) zero = refl
slice_get-drop (x ∷ xs) (suc k) = slice_get-drop xs k
