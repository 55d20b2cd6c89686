-- The parts of the canonical text are texts of values in the grammar of TOML.
use Rattle.std.proofs.Common.{◌≡◌, ℕ, suc, ◌+◌, ◌≤◌, ◌==◌, Bool, true, false, List, [], ◌∷◌, ◌++◌, length, map, codes, pos, decimal, Option, Some, option_map, refl, ap, sym, arith, append_assoc, FitsSigned}
use Rattle.std.specs.Int.{w64}
use Rattle.std.specs.List.{list_all}
use Rattle.std.proofs.lemmas.Bool.{and_parts, eqb-true}
use Rattle.toml_writer.specs.Text.{key_text}
use Rattle.toml.specs.Data.{Data, string, integer, array, table, Items, no_items, item, no_members, member, depth, items_depth, has_valid_dates, items_have_valid_dates}
use Rattle.toml.specs.Text.{IsValueText, IsItemsText, breaks_lines}
use Rattle.vd_text.specs.Grammar.{all_some}
use Rattle.vd_machine.specs.Lookup.{list_of}
use Rattle.vd_machine.specs.Canon.{quoted, more_items, items_text, list_text, region_text}
use Rattle.vd_machine.specs.declared.regions.Region.{Region}
use Rattle.vd_machine.proofs.CanonStrings.{is_plain, plain_text}

abbrev pub items_from : List Data → Items
items_from [] = no_items
items_from (d ∷ ds) = item d (items_from ds)

no_breaks : (ds : Items) → breaks_lines false ds ≡ false
no_breaks no_items = refl
no_breaks (item d no_items) = refl
no_breaks (item d (item e ds)) = refl

pub string_value : (s : List ℕ) → list_all is_plain s ≡ true → IsValueText false (string s) (quoted s)
string_value s h = sym (plain_text s h)

pub number_value : (n : ℕ) → FitsSigned w64 (pos n) → IsValueText false (integer (pos n)) (decimal n)
number_value n h = (refl, h)

-- a list of values, each of which has its text where a test holds
module _ {A : Type 0} (f : A → Data) (g : A → List ℕ) (p : A → Bool) (each : (x : A) → p x ≡ true → IsValueText false (f x) (g x)) where
  more_value : (xs : List A) → list_all p xs ≡ true
      → IsItemsText false false false (items_from (map f xs)) (more_items (map g xs) ++ codes "]")
  more_value [] h = refl
  more_value (x ∷ xs) h =
      let parts = and_parts (p x) (list_all p xs) h in
      let text : (codes ", " ++ (g x ++ more_items (map g xs))) ++ codes "]" ≡ codes ", " ++ (g x ++ (more_items (map g xs) ++ codes "]")) =
      ap (λ (ys : List ℕ). codes ", " ++ ys) (append_assoc (g x) (more_items (map g xs)) (codes "]")) in
      (g x, more_items (map g xs) ++ codes "]", text, each x parts.0, more_value xs parts.1)

  first_value : (xs : List A) → list_all p xs ≡ true
      → IsItemsText false false true (items_from (map f xs)) (items_text (map g xs) ++ codes "]")
  first_value [] h = refl
  first_value (x ∷ xs) h =
      let parts = and_parts (p x) (list_all p xs) h in
      let text : (g x ++ more_items (map g xs)) ++ codes "]" ≡ g x ++ (more_items (map g xs) ++ codes "]") =
      append_assoc (g x) (more_items (map g xs)) (codes "]") in
      (g x, more_items (map g xs) ++ codes "]", text, each x parts.0, more_value xs parts.1)

  pub list_value : (xs : List A) → list_all p xs ≡ true → IsValueText false (array (items_from (map f xs))) (list_text (map g xs))
  list_value xs h = (items_text (map g xs) ++ codes "]", refl, rw (no_breaks (items_from (map f xs))) (first_value xs h))

-- how deep a list is whose items are no deeper than this, and without dates that can't be
pub record IsShallow (most : ℕ) (d : Data) : Type 0 where
  pub depth : depth d ≤ most
  pub dates : has_valid_dates d ≡ true

record AreShallow (most : ℕ) (ds : Items) : Type 0 where
  pub depth : items_depth ds ≤ most
  pub dates : items_have_valid_dates ds ≡ true

shallow_items : {A : Type 0} (f : A → Data) (most : ℕ) → ((x : A) → IsShallow most (f x)) → (xs : List A)
    → AreShallow most (items_from (map f xs))
shallow_items f most each [] = record { depth = omega arith; dates = refl }
shallow_items f most each (x ∷ xs) =
    let rest = shallow_items f most each xs in record {
      depth = omega (arith, (each x).depth, rest.depth);
      dates = rw ((each x).dates) rest.dates;
    }

pub shallow_list : {A : Type 0} (f : A → Data) (most : ℕ) → ((x : A) → IsShallow most (f x)) → (xs : List A)
    → IsShallow (most + 1) (array (items_from (map f xs)))
shallow_list f most each xs =
    let rest = shallow_items f most each xs in record { depth = omega (arith, rest.depth); dates = rest.dates }

-- a region

abbrev pub region_data : Region → Data
region_data r = table (member (codes "addr") (integer (pos r.addr)) (member (codes "size") (integer (pos r.size)) no_members))

pub region_value : (r : Region) → FitsSigned w64 (pos r.addr) → FitsSigned w64 (pos r.size)
    → IsValueText false (region_data r) (region_text r)
unfolding key_text
region_value r a s =
    let size = decimal r.size ++ codes " }" in
    let rest = codes ", size = " ++ size in (
      codes " addr = " ++ (decimal r.addr ++ rest),
      refl,
      (decimal r.addr, rest, refl, (refl, a), (decimal r.size, codes " }", refl, (refl, s), refl, refl), refl),
    )

-- the values of a list are read back

pub list_from : (ds : List Data) → list_of (items_from ds) ≡ ds
list_from [] = refl
list_from (d ∷ ds) = ap (λ r. d ∷ r) (list_from ds)

-- a test that each value passes
module _ {A : Type 0} (f : A → Data) (t : Data → Bool) where
  pub all_pass : ((a : A) → t (f a) ≡ true) → (xs : List A) → list_all t (map f xs) ≡ true
  all_pass each [] = refl
  all_pass each (x ∷ xs) = rw (each x) (all_pass each xs)

  pub all_pass_where : (p : A → Bool) → ((a : A) → p a ≡ true → t (f a) ≡ true) → (xs : List A) → list_all p xs ≡ true
      → list_all t (map f xs) ≡ true
  all_pass_where p each [] h = refl
  all_pass_where p each (x ∷ xs) h =
      let parts = and_parts (p x) (list_all p xs) h in
      rw (each x parts.0) (all_pass_where p each xs parts.1)

-- reading back each element of a list
pub each_back : {A : Type 0} (f : Data → Option A) (g : A → Data) (p : A → Bool) → ((a : A) → p a ≡ true → f (g a) ≡ Some a) → (xs : List A)
    → list_all p xs ≡ true → all_some (map f (map g xs)) ≡ Some xs
each_back f g p back [] h = refl
each_back f g p back (x ∷ xs) h =
    let parts = and_parts (p x) (list_all p xs) h in
    rw (back x parts.0) (ap (option_map (λ ys. x ∷ ys)) (each_back f g p back xs parts.1))

pub nothing_in : {A : Type 0} (xs : List A) → (length xs == 0) ≡ true → xs ≡ []
nothing_in [] h = refl
nothing_in (x ∷ xs) h = let none : length (x ∷ xs) ≡ 0 = eqb-true (length (x ∷ xs)) 0 h in absurd (omega arith)

pub length_from : {A : Type 0} (g : A → Data) (xs : List A) → length (list_of (items_from (map g xs))) ≡ length xs
length_from g [] = refl
length_from g (x ∷ xs) = ap (λ n. suc n) (length_from g xs)
