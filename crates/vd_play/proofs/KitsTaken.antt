-- The shadow rings that a lane keeps, once an epoch has taken its own.
use Rattle.std.proofs.Common.{◌≡◌, ℕ, zero, suc, ◌+◌, ◌-◌, ◌<◌, ◌≤◌, Some, List, [], ◌∷◌, ◌++◌, length, take, slice_get, None, inr, false, refl, ◌∙◌, ap, arith}
use Rattle.std.proofs.lemmas.List.{length-take-le, length_push}
use Rattle.vd_model.specs.declared.base.Mode.TheVariants.{Pass, Shadow}
use Rattle.vd_layout.specs.Driver.{DriverModel}
use Rattle.vd_layout.specs.Device.{DeviceModel}
use Rattle.vd_layout.specs.Layout.{LayoutModel, IsLawfulLayout}
use Rattle.vd_layout.specs.Both.{plain_frame}
use Rattle.vd_model.specs.declared.features.Features.{Features}
use Rattle.vd_control.specs.Settings.{default, HasPairs}
use Rattle.vd_ring.specs.declared.frame.Frame.{Frame}
use Rattle.vd_ring.specs.Fresh.{fresh_device}
use Rattle.vd_switch.specs.Kits.{IsKit}
use Rattle.vd_table.specs.declared.ShadowTable.{ShadowTable}
use Rattle.vd_machine.specs.File.{Plan}
use Rattle.vd_play.specs.declared.floor.ShadowRing.{ShadowRing}
use Rattle.vd_play.specs.Attaching.{removed_last}
use Rattle.vd_play.specs.Epochs.{mode_at}
use Rattle.vd_play.specs.Kits.{IsShadowRing, HasKits}
use Rattle.vd_play.proofs.Bounds.{at_index}
use Rattle.vd_play.proofs.Rings.{shadows_before_pass, shadows_before_shadow, shadows_before_fewer}

front_got : {A : Type 0} (n : ℕ) (xs : List A) (i : ℕ) (x : A) → slice_get (take n xs) i ≡ Some x → slice_get xs i ≡ Some x
front_got zero xs i x is = absurd (cc)
front_got (suc n) [] i x is = absurd (cc)
front_got (suc n) (y ∷ xs) zero x is = is
front_got (suc n) (y ∷ xs) (suc i) x is = front_got n xs i x is

end_got : {A : Type 0} (xs : List A) (x : A) → slice_get (xs ++ x ∷ []) (length xs) ≡ Some x
end_got [] x = refl
end_got (y ∷ xs) x = end_got xs x

pub last_got : {A : Type 0} (xs ys : List A) (x : A) → xs ≡ ys ++ x ∷ [] → slice_get xs (length xs - 1) ≡ Some x
last_got xs ys x is =
    let at : length xs - 1 ≡ length ys = omega (arith, ap length is, length_push ys x) in
    ap (λ zs. slice_get zs (length xs - 1)) is ∙ ap (λ i. slice_get (ys ++ x ∷ []) i) at ∙ end_got ys x

module _ {L D E : Type 0} (d : DriverModel D) (e : DeviceModel E) (l : LayoutModel) (plan : Plan) (q k : ℕ)
    (kits : List (ShadowRing L D E)) (h : HasKits d e l plan q k kits) where
  -- an epoch of the mode pass takes none
  pub kits_pass : mode_at plan k ≡ Pass → HasKits d e l plan q (k + 1) kits
  kits_pass m = record {
    many = omega (arith, h.many, shadows_before_pass plan k m);
    each = λ j i ring from mode at is. h.each j i ring (omega (arith, from)) mode at is;
  }

  module _ (less : k < length plan.switches + 2) (m : mode_at plan k ≡ Shadow) where
    pub some_kit : 1 ≤ length kits
    some_kit = omega (arith, h.many, shadows_before_fewer plan k less m)

    -- a shadow epoch takes the last
    pub kit_is : (ring : ShadowRing L D E) → slice_get kits (length kits - 1) ≡ Some ring → IsShadowRing d e l plan q k ring
    kit_is ring is = h.each k (length kits - 1) ring (omega arith) m (omega (arith, h.many, some_kit)) is

    pub next_kit : (ring : ShadowRing L D E) × (slice_get kits (length kits - 1) ≡ Some ring)
    next_kit = at_index kits (length kits - 1) (omega (arith, some_kit))

    pub kits_shadow : HasKits d e l plan q (k + 1) (removed_last kits)
    kits_shadow = record {
      many = omega (
        arith,
        h.many,
        some_kit,
        shadows_before_shadow plan k m,
        length-take-le (length kits - 1) kits (omega (arith, some_kit)),
      );
      each = λ j i ring from mode at is.
          h.each j i ring (omega (arith, from)) mode at (front_got (length kits - 1) kits i ring is);
    }

-- ---- a kit

-- its device's end is at the base of a fresh ring
pub kit_base : {D E : Type 0} (d : DriverModel D) (e : DeviceModel E) (l : LayoutModel) (size : ℕ) (f : Features) (x : D) (y : E)
    (table : ShadowTable) → IsLawfulLayout d e l → IsKit d e l size f false x y table → e.base y ≡ l.fresh_base
kit_base d e l size f x y table law kit =
    let frame : Frame = plain_frame l 0 size f false None in
    let stands = kit.ends.serves frame (record { packed = refl; size = refl; features = refl; control = refl }) in
    law.device_end.based y (fresh_device frame (l.width frame)) stands (inr kit.ends.unused) ∙ law.based frame

-- the settings with which a relay begins are lawful
pub default_pairs : HasPairs default
unfolding default
default_pairs = (omega arith, omega arith)
