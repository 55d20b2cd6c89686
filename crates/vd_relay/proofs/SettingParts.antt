-- Commands that set different parts of the settings commute. Of two that set the same the later one decides alone.
use Rattle.std.proofs.Common.{◌≡◌, ℕ, ◌==◌, ◌&&◌, ◌||◌, not, Bool, true, false, List, refl, sym, ◌∙◌, ap, inl, inr}
use Rattle.std.proofs.lemmas.Bool.{eqb-true, eqb-false, cases_Bool}
use Rattle.std.proofs.lemmas.List.{set-set, set_comm}
use Rattle.vd_control.specs.declared.command.Command.{Command}
use Rattle.vd_control.specs.declared.command.Command.TheVariants.{Rx, Mac, VlanAdd, VlanDel, Pairs, Offloads}
use Rattle.vd_control.specs.declared.settings.Settings.{Settings}
use Rattle.vd_control.specs.Settings.{applied, has_vlan, words_of}
use Rattle.vd_control.proofs.Words.{has_vlan-words_of}
use Rattle.vd_control.proofs.Lawful.{words_of_agree}
use Rattle.vd_relay.specs.Settling.{sets_same}

-- ---- the set of VLANs

-- a change of a set, by what it makes of each VLAN
abbrev changed : (ℕ → Bool → Bool) → List ℕ → List ℕ
changed f w = words_of (λ v. f v (has_vlan w v))

twice : (f g : ℕ → Bool → Bool) (w : List ℕ) → changed g (changed f w) ≡ words_of (λ v. g v (f v (has_vlan w v)))
twice f g w = words_of_agree (λ v. g v (has_vlan (changed f w) v)) (λ v. g v (f v (has_vlan w v)))
    (λ v h. ap (g v) (has_vlan-words_of (λ u. f u (has_vlan w u)) v h))

commute : (f g : ℕ → Bool → Bool) → ((v : ℕ) (b : Bool) → g v (f v b) ≡ f v (g v b)) → (w : List ℕ)
    → changed g (changed f w) ≡ changed f (changed g w)
commute f g same w = twice f g w ∙ words_of_agree (λ v. g v (f v (has_vlan w v))) (λ v. f v (g v (has_vlan w v)))
    (λ v h. same v (has_vlan w v)) ∙ sym (twice g f w)

decides : (f g : ℕ → Bool → Bool) → ((v : ℕ) (b : Bool) → g v (f v b) ≡ g v b) → (w : List ℕ) → changed g (changed f w) ≡ changed g w
decides f g same w = twice f g w ∙ words_of_agree (λ v. g v (f v (has_vlan w v))) (λ v. g v (has_vlan w v))
    (λ v h. same v (has_vlan w v))

abbrev adds : ℕ → ℕ → Bool → Bool
adds a v b = (v == a) || b

abbrev deletes : ℕ → ℕ → Bool → Bool
deletes a v b = not (v == a) && b

-- a VLAN is only one of two
one_of : (a b v : ℕ) → (a == b) ≡ false → ((v == a) && (v == b)) ≡ false
one_of a b v apart = elim (cases_Bool (v == a)) [
  | inl e ↦ elim (cases_Bool (v == b)) [
    | inl f ↦ absurd (eqb-false a b apart (sym (eqb-true v a e) ∙ eqb-true v b f))
    | inr f ↦ ap (λ (x : Bool). x && (v == b)) e ∙ f
  ]
  | inr e ↦ ap (λ (x : Bool). x && (v == b)) e
]

or_swap : (p q x : Bool) → (q || (p || x)) ≡ (p || (q || x))
or_swap true true x = refl
or_swap true false x = refl
or_swap false true x = refl
or_swap false false x = refl

and_swap : (p q x : Bool) → (not q && (not p && x)) ≡ (not p && (not q && x))
and_swap true true x = refl
and_swap true false x = refl
and_swap false true x = refl
and_swap false false x = refl

or_and_swap : (p q x : Bool) → (p && q) ≡ false → (not q && (p || x)) ≡ (p || (not q && x))
or_and_swap true true x never = absurd (cc never)
or_and_swap true false x never = refl
or_and_swap false true x never = refl
or_and_swap false false x never = refl

or_or : (p x : Bool) → (p || (p || x)) ≡ (p || x)
or_or true x = refl
or_or false x = refl

and_and : (p x : Bool) → (not p && (not p && x)) ≡ (not p && x)
and_and true x = refl
and_and false x = refl

or_and : (p x : Bool) → (p || (not p && x)) ≡ (p || x)
or_and true x = refl
or_and false x = refl

and_or : (p x : Bool) → (not p && (p || x)) ≡ (not p && x)
and_or true x = refl
and_or false x = refl

abbrev with_vlans : Settings → List ℕ → Settings
with_vlans s w = record s { vlans = w }

abbrev with_flags : Settings → List Bool → Settings
with_flags s flags = record s { rx = flags }

-- ---- two commands

module _ (s : Settings) where
  vlans_apart : (f g : ℕ → Bool → Bool) → ((v : ℕ) (b : Bool) → g v (f v b) ≡ f v (g v b))
      → with_vlans s (changed g (changed f s.vlans)) ≡ with_vlans s (changed f (changed g s.vlans))
  vlans_apart f g same = ap (with_vlans s) (commute f g same s.vlans)

  vlans_same : (f g : ℕ → Bool → Bool) → ((v : ℕ) (b : Bool) → g v (f v b) ≡ g v b)
      → with_vlans s (changed g (changed f s.vlans)) ≡ with_vlans s (changed g s.vlans)
  vlans_same f g same = ap (with_vlans s) (decides f g same s.vlans)

  pub parts_apart : (a b : Command) → sets_same a b ≡ false → applied (applied s a) b ≡ applied (applied s b) a
  parts_apart (Rx f x) (Rx g y) h = ap (with_flags s) (set_comm s.rx f g x y (eqb-false f g h))
  parts_apart (VlanAdd a) (VlanAdd b) h = vlans_apart (adds a) (adds b) (λ v x. or_swap (v == a) (v == b) x)
  parts_apart (VlanAdd a) (VlanDel b) h = vlans_apart (adds a) (deletes b) (λ v x. or_and_swap (v == a) (v == b) x (one_of a b v h))
  parts_apart (VlanDel a) (VlanAdd b) h =
      vlans_apart (deletes a) (adds b) (λ v x. sym (or_and_swap (v == b) (v == a) x (one_of b a v (swapped a b h))))
    where
      swapped : (i j : ℕ) → (i == j) ≡ false → (j == i) ≡ false
      swapped i j n = elim (cases_Bool (j == i)) [
        | inl e ↦ absurd (eqb-false i j n (sym (eqb-true j i e)))
        | inr e ↦ e
      ]
  parts_apart (VlanDel a) (VlanDel b) h = vlans_apart (deletes a) (deletes b) (λ v x. and_swap (v == a) (v == b) x)
  parts_apart (Mac a) (Mac b) h = absurd (cc h)
  parts_apart (Pairs a) (Pairs b) h = absurd (cc h)
  parts_apart (Offloads a) (Offloads b) h = absurd (cc h)
  parts_apart a b h = refl

  pub part_later : (a b : Command) → sets_same a b ≡ true → applied (applied s a) b ≡ applied s b
  part_later (Rx f x) (Rx g y) h = rw (eqb-true f g h) (ap (with_flags s) (set-set s.rx g x y))
  part_later (Mac a) (Mac b) h = refl
  part_later (VlanAdd a) (VlanAdd b) h = rw (eqb-true a b h) (vlans_same (adds b) (adds b) (λ v x. or_or (v == b) x))
  part_later (VlanAdd a) (VlanDel b) h = rw (eqb-true a b h) (vlans_same (adds b) (deletes b) (λ v x. and_or (v == b) x))
  part_later (VlanDel a) (VlanAdd b) h = rw (eqb-true a b h) (vlans_same (deletes b) (adds b) (λ v x. or_and (v == b) x))
  part_later (VlanDel a) (VlanDel b) h = rw (eqb-true a b h) (vlans_same (deletes b) (deletes b) (λ v x. and_and (v == b) x))
  part_later (Pairs a) (Pairs b) h = refl
  part_later (Offloads a) (Offloads b) h = refl
  part_later a b h = absurd (cc h)
