-- What one more command among others makes of the settings: nothing where a later one sets the same, else as much as at the end.
use Rattle.std.proofs.Common.{◌≡◌, ℕ, ◌&&◌, ◌||◌, Bool, true, false, Option, Some, None, List, [], ◌∷◌, ◌++◌, map, filter, fold, All, refl, sym, ◌∙◌, ap, inl, inr}
use Rattle.std.specs.List.{filter_map, cons_option, list_any}
use Rattle.std.proofs.lemmas.Bool.{cases_Bool}
use Rattle.std.proofs.lemmas.List.{map-append}
use Rattle.std.proofs.lemmas.List.Sums.{fold-append}
use Rattle.std.proofs.lemmas.List.Elements.{All-head, All-tail, filter_map-append, filter-append}
use Rattle.vd_control.specs.declared.command.Command.{Command}
use Rattle.vd_control.specs.declared.settings.Settings.{Settings}
use Rattle.vd_control.specs.Commands.{command}
use Rattle.vd_control.specs.Settings.{applied}
use Rattle.vd_commands.specs.Words.{set_by}
use Rattle.vd_relay.specs.Settling.{are_same, set_same}
use Rattle.vd_relay.proofs.SettingParts.{parts_apart, part_later}

set_append : (s : Settings) (xs ys : List (List ℕ)) → set_by s (xs ++ ys) ≡ set_by (set_by s xs) ys
set_append s xs ys = ap (fold applied s) (filter_map-append command xs ys)
    ∙ fold-append applied s (filter_map command xs) (filter_map command ys)

-- ---- two byte strings

apart : (s : Settings) (a b : Option Command) → are_same a b ≡ false
    → fold applied s (cons_option a (cons_option b [])) ≡ fold applied s (cons_option b (cons_option a []))
apart s None None h = refl
apart s None (Some b) h = refl
apart s (Some a) None h = refl
apart s (Some a) (Some b) h = parts_apart s a b h

later : (s : Settings) (a b : Option Command) → are_same a b ≡ true
    → fold applied s (cons_option a (cons_option b [])) ≡ fold applied s (cons_option b [])
later s None None h = absurd (cc h)
later s None (Some b) h = absurd (cc h)
later s (Some a) None h = absurd (cc h)
later s (Some a) (Some b) h = part_later s a b h

swapped : (s : Settings) (a b : List ℕ) → set_same a b ≡ false → set_by (set_by s (a ∷ [])) (b ∷ []) ≡ set_by (set_by s (b ∷ [])) (a ∷ [])
swapped s a b h = sym (set_append s (a ∷ []) (b ∷ [])) ∙ apart s (command a) (command b) h ∙ set_append s (b ∷ []) (a ∷ [])

decided : (s : Settings) (a b : List ℕ) → set_same a b ≡ true → set_by (set_by s (a ∷ [])) (b ∷ []) ≡ set_by s (b ∷ [])
decided s a b h = sym (set_append s (a ∷ []) (b ∷ [])) ∙ later s (command a) (command b) h

-- ---- one before others

comes_late : (a : List ℕ) (bs : List (List ℕ)) (s : Settings) → list_any (set_same a) bs ≡ true
    → set_by (set_by s (a ∷ [])) bs ≡ set_by s bs
comes_late a [] s h = absurd (cc h)
comes_late a (b ∷ bs) s h = elim (cases_Bool (set_same a b)) [
  | inl same ↦ set_append (set_by s (a ∷ [])) (b ∷ []) bs ∙ ap (λ (x : Settings). set_by x bs) (decided s a b same)
      ∙ sym (set_append s (b ∷ []) bs)
  | inr other ↦ set_append (set_by s (a ∷ [])) (b ∷ []) bs ∙ ap (λ (x : Settings). set_by x bs) (swapped s a b other)
      ∙ comes_late a bs (set_by s (b ∷ [])) (sym (ap (λ (x : Bool). x || list_any (set_same a) bs) other) ∙ h)
      ∙ sym (set_append s (b ∷ []) bs)
]

left_false : (x y : Bool) → (x || y) ≡ false → x ≡ false
left_false true y h = absurd (cc h)
left_false false y h = refl

right_false : (x y : Bool) → (x || y) ≡ false → y ≡ false
right_false true y h = absurd (cc h)
right_false false y h = h

comes_last : (a : List ℕ) (bs : List (List ℕ)) (s : Settings) → list_any (set_same a) bs ≡ false
    → set_by (set_by s (a ∷ [])) bs ≡ set_by (set_by s bs) (a ∷ [])
comes_last a [] s h = refl
comes_last a (b ∷ bs) s h =
    set_append (set_by s (a ∷ [])) (b ∷ []) bs
    ∙ ap (λ (x : Settings). set_by x bs) (swapped s a b (left_false (set_same a b) (list_any (set_same a) bs) h))
    ∙ comes_last a bs (set_by s (b ∷ [])) (right_false (set_same a b) (list_any (set_same a) bs) h)
    ∙ ap (λ (x : Settings). set_by x (a ∷ [])) (sym (set_append s (b ∷ []) bs))

-- ---- those that pass a test

pub filter_same : (p q : ℕ → Bool) (ks : List ℕ) → All (λ j. p j ≡ q j) ks → filter p ks ≡ filter q ks
filter_same p q [] h = refl
filter_same p q (k ∷ ks) h =
    let rest = filter_same p q ks (All-tail (λ j. p j ≡ q j) k ks h) in
    let here = All-head (λ j. p j ≡ q j) k ks h in
    elim (cases_Bool (q k)) [
      | inl e ↦ rw (here ∙ e) (rw e (ap (λ (xs : List ℕ). k ∷ xs) rest))
      | inr e ↦ rw (here ∙ e) (rw e rest)
    ]

pub any_same : (p q : ℕ → Bool) (ks : List ℕ) → All (λ j. p j ≡ q j) ks → list_any p ks ≡ list_any q ks
any_same p q [] h = refl
any_same p q (k ∷ ks) h =
    ap (λ (x : Bool). x || list_any p ks) (All-head (λ j. p j ≡ q j) k ks h)
    ∙ ap (λ (x : Bool). q k || x) (any_same p q ks (All-tail (λ j. p j ≡ q j) k ks h))

any_passing : (p : ℕ → Bool) (f : ℕ → List ℕ) (a : List ℕ) (ks : List ℕ)
    → list_any (set_same a) (map f (filter p ks)) ≡ list_any (λ j. p j && set_same a (f j)) ks
any_passing p f a [] = refl
any_passing p f a (k ∷ ks) = elim (cases_Bool (p k)) [
  | inl e ↦ rw e (ap (λ (x : Bool). set_same a (f k) || x) (any_passing p f a ks))
  | inr e ↦ rw e (any_passing p f a ks)
]

-- ---- one more passes

-- `p` passes those that `q` passes, and k
module _ (x : Settings) (f : ℕ → List ℕ) (p q : ℕ → Bool) (k : ℕ) (before after : List ℕ) (new : p k ≡ true) (old : q k ≡ false)
    (same_before : All (λ j. p j ≡ q j) before) (same_after : All (λ j. p j ≡ q j) after) where
  abbrev front : Settings
  front = set_by x (map f (filter q before))

  abbrev back : List (List ℕ)
  back = map f (filter q after)

  with_it : set_by x (map f (filter p (before ++ k ∷ after))) ≡ set_by (set_by front (f k ∷ [])) back
  with_it =
      let here : filter p (k ∷ after) ≡ k ∷ filter q after
      = rw new (ap (λ (ks : List ℕ). k ∷ ks) (filter_same p q after same_after)) in
      ap (λ (ks : List ℕ). set_by x (map f ks)) (filter-append p before (k ∷ after)
      ∙ ap (λ (ks : List ℕ). ks ++ filter p (k ∷ after)) (filter_same p q before same_before)
      ∙ ap (λ (ks : List ℕ). filter q before ++ ks) here)
      ∙ ap (set_by x) (map-append f (filter q before) (k ∷ filter q after))
      ∙ set_append x (map f (filter q before)) (f k ∷ back) ∙ set_append front (f k ∷ []) back

  without_it : set_by front back ≡ set_by x (map f (filter q (before ++ k ∷ after)))
  without_it =
      let here : filter q (k ∷ after) ≡ filter q after = rw old refl in
      sym (ap (λ (ks : List ℕ). set_by x (map f ks)) (filter-append q before (k ∷ after)
      ∙ ap (λ (ks : List ℕ). filter q before ++ ks) here)
      ∙ ap (set_by x) (map-append f (filter q before) (filter q after))
      ∙ set_append x (map f (filter q before)) back)

  pub more_late : list_any (λ j. q j && set_same (f k) (f j)) after ≡ true
      → set_by x (map f (filter p (before ++ k ∷ after))) ≡ set_by x (map f (filter q (before ++ k ∷ after)))
  more_late h = with_it ∙ comes_late (f k) back front (any_passing q f (f k) after ∙ h) ∙ without_it

  pub more_last : list_any (λ j. q j && set_same (f k) (f j)) after ≡ false
      → set_by x (map f (filter p (before ++ k ∷ after))) ≡ set_by (set_by x (map f (filter q (before ++ k ∷ after)))) (f k ∷ [])
  more_last h = with_it ∙ comes_last (f k) back front (any_passing q f (f k) after ∙ h)
      ∙ ap (λ (y : Settings). set_by y (f k ∷ [])) without_it
