-- The shadow rings of the control queue, made from the last epoch to the first.
use Rattle.std.proofs.Common.{◌≡◌, ℕ, ◌+◌, List, [], ◌∷◌, ◌++◌, length, slice_get, sym, ◌∙◌, ap, subst, arith, length-append}
use Rattle.std.proofs.lemmas.Option.{slice_get_within}
use Rattle.vd_layout.specs.Driver.{DriverModel}
use Rattle.vd_layout.specs.Device.{DeviceModel}
use Rattle.vd_layout.specs.Layout.{LayoutModel}
use Rattle.vd_machine.specs.File.{Plan}
use Rattle.vd_play.specs.declared.floor.ShadowRing.{ShadowRing}
use Rattle.vd_play.specs.ControlRings.{IsControlRing, HasControlKits}
use Rattle.vd_play.proofs.Untouched.{get_push}

module _ {L D E : Type 0} (d : DriverModel D) (e : DeviceModel E) (l : LayoutModel) (plan : Plan) where
  -- behind all epochs there are none
  pub control_kits_none : (kits : List (ShadowRing L D E)) (k : ℕ) → kits ≡ [] → k ≡ length plan.switches + 2
      → HasControlKits d e l plan k kits
  control_kits_none kits k none last = record {
    many = omega (arith, ap length none, last);
    each = λ j i ring at is. absurd (omega (arith, slice_get_within kits i ring is, ap length none));
  }

  -- the ring of an epoch before those stands behind their rings
  pub control_kits_more : (k : ℕ) (kits kits1 : List (ShadowRing L D E)) (ring : ShadowRing L D E) → kits1 ≡ kits ++ ring ∷ []
      → IsControlRing d e l plan k ring → HasControlKits d e l plan (k + 1) kits → HasControlKits d e l plan k kits1
  control_kits_more k kits kits1 ring grown made h = record {
    many = omega (arith, ap length grown, length-append kits (ring ∷ []), h.many);
    each = λ j i x at is. get_push kits ring i x (sym (ap (λ xs. slice_get xs i) grown) ∙ is)
        (λ last same.
        let here : k ≡ j = omega (arith, last, at, h.many) in
        subst (λ (z : ℕ). IsControlRing d e l plan z x) here (subst (IsControlRing d e l plan k) same made))
        (λ below old. h.each j i x at old);
  }
