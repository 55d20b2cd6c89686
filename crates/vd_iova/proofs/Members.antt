-- Which mappings a list has, where no two of them have an address in common.
use Rattle.std.proofs.Common.{ℕ, ◌≡◌, ◌≤◌, ◌<◌, ◌+◌, ◌⊎◌, inl, inr, List, [], ◌∷◌, Some, None, arith, sym, ◌∙◌, ap, subst, false, true, Bool, refl, find}
use Rattle.std.specs.List.{AllByRecursion}
use Rattle.std.proofs.lemmas.Bool.{false≢true, both_ways, cases_Bool}
use Rattle.std.proofs.lemmas.Bool.Decides.{nat_tests}
use Rattle.vd_model.specs.declared.map.Mapping.{Mapping}
use Rattle.vd_iova.specs.Ranges.{meets}
use Rattle.vd_iova.specs.Trees.{IsBefore, IsApart}
use Rattle.vd_iova.specs.Indexes.{Has}

-- what two ranges that meet say of their ends
pub ends_from_meets : (a la b lb : ℕ) → meets a la b lb ≡ true → (a < b + lb) × (b < a + la)
ends_from_meets a la b lb h = grind (arith, nat_tests)

-- two ranges meet where each begins before the other ends
pub meets_from_ends : (a la b lb : ℕ) → a < b + lb → b < a + la → meets a la b lb ≡ true
meets_from_ends a la b lb h k = grind (arith, nat_tests)

-- they do not meet where one ends before the other begins
pub apart_from_ends : (a la b lb : ℕ) → (b + lb ≤ a) ⊎ (a + la ≤ b) → meets a la b lb ≡ false
apart_from_ends a la b lb (inl h) = grind (arith, nat_tests)
apart_from_ends a la b lb (inr h) = grind (arith, nat_tests)

-- ranges that do not meet have no address in common
pub no_common : (a la b lb x : ℕ) → meets a la b lb ≡ false → a ≤ x → x < a + la → b ≤ x → x < b + lb → ⊥
no_common a la b lb x h p q r s = false≢true (sym h ∙ meets_from_ends a la b lb (omega arith) (omega arith))

-- what holds of each mapping holds of one
pub of_each : (P : Mapping → Type 0) (ms : List Mapping) (m : Mapping) → AllByRecursion P ms → Has ms m → P m
of_each P [] m all has = absurd has
of_each P (n ∷ ns) m all (inl e) = subst P e all.0
of_each P (n ∷ ns) m all (inr h) = of_each P ns m all.1 h

-- two mappings with an iova in common are the same
pub same_iova : (ms : List Mapping) (m n : Mapping) (x : ℕ) → IsApart ms → Has ms m → Has ms n
    → m.iova ≤ x → x < m.iova + m.size → n.iova ≤ x → x < n.iova + n.size → m ≡ n
same_iova [] m n x apart h k p q r s = absurd h
same_iova (o ∷ os) m n x apart (inl h) (inl k) p q r s = sym h ∙ k
same_iova (o ∷ os) m n x apart (inl h) (inr k) p q r s =
    let before : IsBefore m n = subst (λ (y : Mapping). IsBefore y n) h (of_each (IsBefore o) os n apart.0 k) in
    absurd (omega (arith, before.iova))
same_iova (o ∷ os) m n x apart (inr h) (inl k) p q r s =
    let before : IsBefore n m = subst (λ (y : Mapping). IsBefore y m) k (of_each (IsBefore o) os m apart.0 h) in
    absurd (omega (arith, before.iova))
same_iova (o ∷ os) m n x apart (inr h) (inr k) p q r s = same_iova os m n x apart.1 h k p q r s

-- two mappings with a guest address in common are the same
pub same_guest : (ms : List Mapping) (m n : Mapping) (x : ℕ) → IsApart ms → Has ms m → Has ms n
    → m.guest ≤ x → x < m.guest + m.size → n.guest ≤ x → x < n.guest + n.size → m ≡ n
same_guest [] m n x apart h k p q r s = absurd h
same_guest (o ∷ os) m n x apart (inl h) (inl k) p q r s = sym h ∙ k
same_guest (o ∷ os) m n x apart (inl h) (inr k) p q r s =
    let before : IsBefore m n = subst (λ (y : Mapping). IsBefore y n) h (of_each (IsBefore o) os n apart.0 k) in
    absurd (no_common m.guest m.size n.guest n.size x before.guest p q r s)
same_guest (o ∷ os) m n x apart (inr h) (inl k) p q r s =
    let before : IsBefore n m = subst (λ (y : Mapping). IsBefore y m) k (of_each (IsBefore o) os m apart.0 h) in
    absurd (no_common n.guest n.size m.guest m.size x before.guest r s p q)
same_guest (o ∷ os) m n x apart (inr h) (inr k) p q r s = same_guest os m n x apart.1 h k p q r s

-- the only one that passes is the first that passes
pub find_only : (p : Mapping → Bool) (ms : List Mapping) (m : Mapping) → Has ms m → p m ≡ true
    → ((n : Mapping) → Has ms n → p n ≡ true → n ≡ m) → find p ms ≡ Some m
find_only p [] m has passes only = absurd has
find_only p (n ∷ ns) m has passes only = elim (cases_Bool (p n)) [
  | inl t ↦ rw t (ap Some (only n (inl refl) t))
  | inr f ↦ rw f (find_only p ns m (elim has [ inl h ↦ absurd (both_ways (p n) f (ap p h ∙ passes)) | inr h ↦ h ]) passes
      (λ o k. only o (inr k)))
]

-- none is found where none passes
pub find_none : (p : Mapping → Bool) (ms : List Mapping) → ((n : Mapping) → Has ms n → p n ≡ false) → find p ms ≡ None
find_none p [] none = refl
find_none p (n ∷ ns) none = rw (none n (inl refl)) (find_none p ns (λ o h. none o (inr h)))

-- what is found is in the list, and passes
pub found : (p : Mapping → Bool) (ms : List Mapping) (m : Mapping) → find p ms ≡ Some m → Has ms m × (p m ≡ true)
found p [] m e = cc
found p (n ∷ ns) m e = elim (cases_Bool (p n)) [
  | inl t ↦ (let got : Some n ≡ Some m = rw t at e in let same : n ≡ m = cc in (inl same, subst (λ (y : Mapping). p y ≡ true) same t))
  | inr f ↦ (let rest = found p ns m (rw f at e) in (inr rest.0, rest.1))
]

-- where none is found, none passes
pub none_passes : (p : Mapping → Bool) (ms : List Mapping) (m : Mapping) → find p ms ≡ None → Has ms m → p m ≡ false
none_passes p [] m e has = absurd has
none_passes p (n ∷ ns) m e has = elim (cases_Bool (p n)) [
  | inl t ↦ (let no = rw t at e in cc)
  | inr f ↦ elim has [ inl h ↦ ap p (sym h) ∙ f | inr h ↦ none_passes p ns m (rw f at e) h ]
]
