-- The shadow rings of a queue, made from the last epoch to the first.
use Rattle.std.proofs.Common.{◌≡◌, ℕ, ◌+◌, Bool, true, false, List, [], ◌∷◌, ◌++◌, length, slice_get, inl, inr, refl, sym, ◌∙◌, ap, subst, arith, length-append}
use Rattle.std.proofs.lemmas.Bool.{cases_eq, false≢true}
use Rattle.std.proofs.lemmas.Option.{slice_get_within}
use Rattle.vd_model.specs.declared.base.Mode.{Mode}
use Rattle.vd_model.specs.declared.base.Mode.TheVariants.{Pass, Shadow}
use Rattle.vd_layout.specs.Driver.{DriverModel}
use Rattle.vd_layout.specs.Device.{DeviceModel}
use Rattle.vd_layout.specs.Layout.{LayoutModel}
use Rattle.vd_machine.specs.File.{Plan}
use Rattle.vd_play.specs.declared.floor.ShadowRing.{ShadowRing}
use Rattle.vd_play.specs.Epochs.{mode_at}
use Rattle.vd_play.specs.Kits.{IsShadowRing, HasKits}
use Rattle.vd_play.specs.Rings.{shadows_before}
use Rattle.vd_play.proofs.Rings.{shadows_before_shadow, shadows_before_pass, shadows_before_rises, shadows_before_all}
use Rattle.vd_play.proofs.Untouched.{get_push}

-- an epoch that isn't of the mode shadow is of the mode pass
passes : (m : Mode) → (m ≡ Shadow → ⊥) → m ≡ Pass
passes Pass h = refl
passes Shadow h = absurd (h refl)

-- what a comparison with the mode shadow says
pub is_shadow : (f : Mode → Mode → Bool) (m : Mode) → f Pass Shadow ≡ false → f m Shadow ≡ true → m ≡ Shadow
is_shadow f Pass apart same = absurd (false≢true (sym apart ∙ same))
is_shadow f Shadow apart same = refl

pub not_shadow : (f : Mode → Mode → Bool) (m : Mode) → f Shadow Shadow ≡ true → f m Shadow ≡ false → m ≡ Shadow → ⊥
not_shadow f Pass same apart e = absurd (cc)
not_shadow f Shadow same apart e = absurd (false≢true (sym apart ∙ same))

module _ {L D E : Type 0} (d : DriverModel D) (e : DeviceModel E) (l : LayoutModel) (plan : Plan) (q : ℕ) where
  -- behind all epochs there are none
  pub kits_none : (kits : List (ShadowRing L D E)) (k : ℕ) → kits ≡ [] → k ≡ length plan.switches + 2 → HasKits d e l plan q k kits
  kits_none kits k none last = record {
    many = omega (arith, ap length none, ap (shadows_before plan) last, shadows_before_all plan);
    each = λ j i ring from shadow at is. absurd (omega (arith, slice_get_within kits i ring is, ap length none));
  }

  -- the ring of an epoch before those stands behind their rings
  pub kits_more : (k : ℕ) (kits kits1 : List (ShadowRing L D E)) (ring : ShadowRing L D E) → mode_at plan k ≡ Shadow
      → kits1 ≡ kits ++ ring ∷ [] → IsShadowRing d e l plan q k ring → HasKits d e l plan q (k + 1) kits → HasKits d e l plan q k kits1
  kits_more k kits kits1 ring shadow grown made h =
      let one = shadows_before_shadow plan k shadow in
      record {
        many = omega (arith, ap length grown, length-append kits (ring ∷ []), h.many, one);
        each = λ j i x from mode at is. get_push kits ring i x (sym (ap (λ xs. slice_get xs i) grown) ∙ is)
            (λ last same. elim (cases_eq j k) [
              | inl here ↦ subst (λ (z : ℕ). IsShadowRing d e l plan q z x) (sym here) (subst (IsShadowRing d e l plan q k) same made)
              | inr other ↦ absurd (omega (arith, last, at, h.many, one, shadows_before_rises plan (k + 1) j (omega (arith, from, other))))
            ])
            (λ below old. elim (cases_eq j k) [
              | inl here ↦ absurd (omega (arith, below, at, h.many, one, ap (shadows_before plan) here))
              | inr other ↦ h.each j i x (omega (arith, from, other)) mode at old
            ]);
      }

  -- an epoch of the mode pass has none
  pub kits_same : (k : ℕ) (kits : List (ShadowRing L D E)) → (mode_at plan k ≡ Shadow → ⊥) → HasKits d e l plan q (k + 1) kits
      → HasKits d e l plan q k kits
  kits_same k kits pass h = record {
    many = omega (arith, h.many, shadows_before_pass plan k (passes (mode_at plan k) pass));
    each = λ j i ring from mode at is.
        let other : j ≡ k → ⊥ = λ here. pass (ap (mode_at plan) (sym here) ∙ mode) in
        h.each j i ring (omega (arith, from, other)) mode at is;
  }
