-- One lane of many is read and written.
use Rattle.std.proofs.Common.{◌≡◌, ℕ, zero, suc, ◌+◌, ◌<◌, ◌≤◌, inl, inr, Some, List, [], ◌∷◌, length, map, set, slice_get, refl, sym, ◌∙◌, ap, subst, arith}
use Rattle.std.proofs.lemmas.Bool.{cases_lt, cases_eq}
use Rattle.std.proofs.lemmas.List.{length-set}
use Rattle.std.proofs.lemmas.Option.{slice_get_within}
use Rattle.vd_play.specs.Each.{EachLane, Stage}
use Rattle.vd_play.proofs.Bounds.{at_index}
use Rattle.vd_play.proofs.Lists.{some_same}

pub get_set_same : {A : Type 0} (xs : List A) (i : ℕ) (y : A) → i < length xs → slice_get (set xs i y) i ≡ Some y
get_set_same [] i y h = absurd (omega arith)
get_set_same (x ∷ xs) zero y h = refl
get_set_same (x ∷ xs) (suc i) y h = get_set_same xs i y (omega arith)

pub get_set_other : {A : Type 0} (xs : List A) (i q : ℕ) (y : A) → (q ≡ i → ⊥) → slice_get (set xs i y) q ≡ slice_get xs q
get_set_other [] i q y n = refl
get_set_other (x ∷ xs) zero zero y n = absurd (n refl)
get_set_other (x ∷ xs) zero (suc q) y n = refl
get_set_other (x ∷ xs) (suc i) zero y n = refl
get_set_other (x ∷ xs) (suc i) (suc q) y n = get_set_other xs i q y (λ e. n (ap suc e))

-- where an element of the list after a write comes from
pub get_set : {A R : Type 0} (xs : List A) (i q : ℕ) (y z : A) → slice_get (set xs i y) q ≡ Some z → ((q ≡ i) → (y ≡ z) → R)
    → ((q ≡ i → ⊥) → slice_get xs q ≡ Some z → R) → R
get_set xs i q y z is here there = elim (cases_eq q i) [
  | inl e ↦ here e (some_same y z (slice_get (set xs i y) q)
      (ap (λ k. slice_get (set xs i y) k) e
      ∙ get_set_same xs i y (omega (arith, slice_get_within (set xs i y) q z is, length-set xs i y, e))) is)
  | inr n ↦ there n (sym (get_set_other xs i q y n) ∙ is)
]

-- a write that keeps what f tells of an element
pub map_set : {A B : Type 0} (f : A → B) (xs : List A) (i : ℕ) (x y : A) → slice_get xs i ≡ Some x → f y ≡ f x
    → map f (set xs i y) ≡ map f xs
map_set f [] i x y is same = refl
map_set f (z ∷ xs) zero x y is same = ap (λ b. b ∷ map f xs) (same ∙ ap f (some_same x z (Some z) is refl))
map_set f (z ∷ xs) (suc i) x y is same = ap (λ bs. f z ∷ bs) (map_set f xs i x y is same)

-- what f tells of an element, where it tells the same of two lists
pub map_at : {A B : Type 0} (f : A → B) (xs ys : List A) (k : ℕ) (x y : A) → map f ys ≡ map f xs → slice_get xs k ≡ Some x
    → slice_get ys k ≡ Some y → f y ≡ f x
map_at f xs ys k x y same hx hy =
    some_same (f y) (f x) (slice_get (map f xs) k) (ap (λ zs. slice_get zs k) (sym same) ∙ get_map f ys k y hy) (get_map f xs k x hx)
  where
    get_map : {A B : Type 0} (g : A → B) (zs : List A) (j : ℕ) (z : A) → slice_get zs j ≡ Some z → slice_get (map g zs) j ≡ Some (g z)
    get_map g [] j z is = absurd (cc)
    get_map g (w ∷ zs) zero z is = ap (λ a. Some (g a)) (some_same w z (Some w) refl is)
    get_map g (w ∷ zs) (suc j) z is = get_map g zs j z is

module _ {A B C : Type 0} (P Q : ℕ → A → B → C → Type 0) where
  pub stage_start : (ls : List A) (bs : List B) (xs : List C) → EachLane Q ls bs xs → EachLane (Stage 0 P Q) ls bs xs
  stage_start ls bs xs e = record {
    at = λ q l g x hl hg hx. record {
      before = λ below. absurd (omega arith);
      from =
          λ from. e.at q l g x hl hg hx;
    };
  }

  pub stage_end : (n : ℕ) (ls : List A) (bs : List B) (xs : List C) → length ls ≤ n → EachLane (Stage n P Q) ls bs xs → EachLane P ls bs xs
  stage_end n ls bs xs all e = record {
    at =
        λ q l g x hl hg hx. (e.at q l g x hl hg hx).before (omega (arith, slice_get_within ls q l hl));
  }

  pub stage_read : (i : ℕ) (ls : List A) (bs : List B) (xs : List C) (l : A) (g : B) (x : C) → EachLane (Stage i P Q) ls bs xs
      → slice_get ls i ≡ Some l → slice_get bs i ≡ Some g → slice_get xs i ≡ Some x → Q i l g x
  stage_read i ls bs xs l g x e hl hg hx = (e.at i l g x hl hg hx).from (omega arith)

  -- lane i and its parties are written
  pub stage_write : (i : ℕ) (ls : List A) (bs : List B) (xs : List C) (l : A) (g : B) (x : C) → EachLane (Stage i P Q) ls bs xs
      → P i l g x → EachLane (Stage (i + 1) P Q) (set ls i l) (set bs i g) (set xs i x)
  stage_write i ls bs xs l g x e new = record {
    at = λ q l' g' x' hl hg hx.
        get_set ls i q l l' hl (λ same el.
        get_set bs i q g g' hg (λ same2 eg.
        get_set xs i q x x' hx (λ same3 ex. record {
          before = λ below. subst (λ k. P k l' g' x') (sym same)
              (subst (λ k. P i k g' x') el (subst (λ k. P i l k x') eg (subst (λ k. P i l g k) ex new)));
          from = λ from. absurd (omega (arith, same));
        }) (λ n hx'. absurd (n same)))
        (λ n hg'. absurd (n same)))
        (λ n hl'.
        let old = e.at q l' g' x' hl' (sym (get_set_other bs i q g n) ∙ hg) (sym (get_set_other xs i q x n) ∙ hx) in record {
          before = λ below. elim (cases_lt q i) [ inl less ↦ old.before less | inr more ↦ absurd (n (omega arith)) ];
          from = λ from. old.from (omega arith);
        });
  }

-- a write of what stands there already
pub set_same : {A : Type 0} (xs : List A) (i : ℕ) (x : A) → slice_get xs i ≡ Some x → set xs i x ≡ xs
set_same [] i x is = refl
set_same (z ∷ xs) zero x is = ap (λ a. a ∷ xs) (some_same x z (Some z) is refl)
set_same (z ∷ xs) (suc i) x is = ap (λ zs. z ∷ zs) (set_same xs i x is)

-- lane i and its device, or its guest, are written
pub stage_device : {A B C : Type 0} (P Q : ℕ → A → B → C → Type 0) (i : ℕ) (ls : List A) (bs : List B) (xs : List C) (l : A) (g : B)
    (x : C) → slice_get bs i ≡ Some g → EachLane (Stage i P Q) ls bs xs → P i l g x
    → EachLane (Stage (i + 1) P Q) (set ls i l) bs (set xs i x)
stage_device P Q i ls bs xs l g x hg e new =
    subst (λ zs. EachLane (Stage (i + 1) P Q) (set ls i l) zs (set xs i x)) (set_same bs i g hg) (stage_write P Q i ls bs xs l g x e new)

pub stage_guest : {A B C : Type 0} (P Q : ℕ → A → B → C → Type 0) (i : ℕ) (ls : List A) (bs : List B) (xs : List C) (l : A) (g : B)
    (x : C) → slice_get xs i ≡ Some x → EachLane (Stage i P Q) ls bs xs → P i l g x
    → EachLane (Stage (i + 1) P Q) (set ls i l) (set bs i g) xs
stage_guest P Q i ls bs xs l g x hx e new = subst (λ zs. EachLane (Stage (i + 1) P Q) (set ls i l) (set bs i g) zs) (set_same xs i x hx)
    (stage_write P Q i ls bs xs l g x e new)

-- the guest of lane i alone is written
pub stage_halted : {A B C : Type 0} (P Q : ℕ → A → B → C → Type 0) (i : ℕ) (ls : List A) (bs : List B) (xs : List C) (l : A) (g : B)
    (x : C) → slice_get ls i ≡ Some l → slice_get xs i ≡ Some x → EachLane (Stage i P Q) ls bs xs → P i l g x
    → EachLane (Stage (i + 1) P Q) ls (set bs i g) xs
stage_halted P Q i ls bs xs l g x hl hx e new = subst (λ zs. EachLane (Stage (i + 1) P Q) zs (set bs i g) xs) (set_same ls i l hl)
    (stage_guest P Q i ls bs xs l g x hx e new)

-- what follows from either stage holds of each, also after one lane and its device are written
pub all_but_one : {A B C : Type 0} (P Q R : ℕ → A → B → C → Type 0) (i : ℕ) (ls : List A) (bs : List B) (xs : List C) (l : A) (g : B)
    (x : C) → slice_get bs i ≡ Some g → EachLane (Stage i P Q) ls bs xs
    → ((q : ℕ) (a : A) (b : B) (c : C) → P q a b c → R q a b c) → ((q : ℕ) (a : A) (b : B) (c : C) → Q q a b c → R q a b c) → R i l g x
    → EachLane R (set ls i l) bs (set xs i x)
all_but_one P Q R i ls bs xs l g x hg e p q new =
    let both : EachLane (Stage i R R) ls bs xs =
    record {
      at = λ k a b c ha hb hc. record {
        before = λ below. p k a b c ((e.at k a b c ha hb hc).before below);
        from =
            λ from. q k a b c ((e.at k a b c ha hb hc).from from);
      };
    } in
    let after : EachLane (Stage (i + 1) R R) (set ls i l) bs (set xs i x) = stage_device R R i ls bs xs l g x hg both new in
    record {
      at = λ k a b c ha hb hc. elim (cases_lt k (i + 1)) [
        | inl h ↦ (after.at k a b c ha hb hc).before h
        | inr h ↦
            (after.at k a b c ha hb hc).from h
      ];
    }

-- of each lane's parties
pub each_queue : {A G X : Type 0} (P : ℕ → G → X → Type 0) (n : ℕ) (lanes : List A) (gs : List G) (xs : List X) → length lanes ≡ n
    → EachLane (λ q a g x. P q g x) lanes gs xs → (q : ℕ) (g : G) (x : X) → q < n → slice_get gs q ≡ Some g → slice_get xs q ≡ Some x
    → P q g x
each_queue P n lanes gs xs many e q g x below hg hx = let a = at_index lanes q (omega arith) in e.at q a.0 g x a.1 hg hx
