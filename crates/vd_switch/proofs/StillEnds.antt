-- A still lane's end.
use Rattle.std.proofs.Common.{◌≡◌, ◌⊎◌, ◌||◌, Bool, true, false, Option, Some, None, IsSomeAnd, refl, inl, inr}
use Rattle.vd_layout.specs.Device.{DeviceModel, IsStill}
use Rattle.vd_switch.specs.Stills.{is_still}

pub still_of : {E : Type 0} (e : DeviceModel E) (end : E) → is_still e end ≡ true → IsStill e end
still_of e end is = one_of (e.resting end) (e.fresh end) is
  where
    one_of : (a b : Bool) → (a || b) ≡ true → (a ≡ true) ⊎ (b ≡ true)
    one_of true b is = inl refl
    one_of false b is = inr is

-- a rested end is one
pub still_rests : {E : Type 0} (e : DeviceModel E) (end : E) → e.resting end ≡ true → is_still e end ≡ true
still_rests e end is = rw is refl

-- what follows of a value by two facts follows of the one that an option has
pub both_of : {A : Type 0} {P Q R : A → Type 0} (o : Option A) → IsSomeAnd o P → IsSomeAnd o Q → ((x : A) → P x → Q x → R x)
    → IsSomeAnd o R
both_of None p q f = absurd p
both_of (Some x) p q f = f x p q
