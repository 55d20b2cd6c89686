-- How each whole operation leaves its side armed.
use Rattle.std.proofs.Common.{◌≡◌, ◌↔◌, ℕ, Bool, true, false, Option, Some, None, refl, subst}
use Rattle.vd_ring.specs.declared.act.DriverAct.{DriverAct}
use Rattle.vd_ring.specs.declared.act.DriverAct.TheVariants as driver_act
use Rattle.vd_ring.specs.declared.act.DeviceAct.{DeviceAct}
use Rattle.vd_ring.specs.declared.act.DeviceAct.TheVariants as device_act
use Rattle.vd_layout.specs.DriverFinish.{DriverLeaves}
use Rattle.vd_layout.specs.DeviceFinish.{DeviceLeaves}
use Rattle.vd_layout.specs.PlainRing.{IsDriverArm, IsDriverHear, IsDeviceArm, IsDeviceHear}

-- what an end says of whether it is armed is what its side knows
abbrev pub Tells : Bool → Option ℕ → Type 0
Tells b a = (b ≡ true → (t : ℕ) × (a ≡ Some t)) × (b ≡ false → a ≡ None)

-- ---- the driver

pub driver_arms : (x : DriverAct) (b : Bool) (a a' : Option ℕ) → IsDriverArm x → DriverLeaves x a a' → Tells b a'
    → (x ≡ driver_act.Armed) ↔ (b ≡ true)
driver_arms driver_act.Armed true a a' is h tells = (λ e. refl, λ e. refl)
driver_arms driver_act.Armed false a a' is h tells = absurd (cc (tells.1 refl, h.1))
driver_arms driver_act.Awake true a a' is h tells = absurd (cc ((tells.0 refl).1, h))
driver_arms driver_act.Awake false a a' is h tells = (λ e. absurd (cc e), λ e. absurd (cc e))
driver_arms _ b a a' is h tells = absurd is

pub driver_hears : (x : DriverAct) (b : Bool) (a a' : Option ℕ) → IsDriverHear x → DriverLeaves x a a' → (t : ℕ) × (a ≡ Some t) → Tells b a'
    → (x ≡ driver_act.Asleep) ↔ (b ≡ true)
driver_hears driver_act.Asleep true a a' is h was tells = (λ e. refl, λ e. refl)
driver_hears driver_act.Asleep false a a' is h was tells = absurd (cc (tells.1 refl, h, was.1))
driver_hears driver_act.Awake true a a' is h was tells = absurd (cc ((tells.0 refl).1, h))
driver_hears driver_act.Awake false a a' is h was tells = (λ e. absurd (cc e), λ e. absurd (cc e))
driver_hears _ b a a' is h was tells = absurd is

pub driver_disarms : (x : DriverAct) (b : Bool) (a a' : Option ℕ) → x ≡ driver_act.Awake → DriverLeaves x a a' → Tells b a' → b ≡ false
driver_disarms x true a a' is h tells = absurd (cc ((tells.0 refl).1, subst (λ y. DriverLeaves y a a') is h))
driver_disarms x false a a' is h tells = refl

-- ---- the device

pub device_arms : (x : DeviceAct) (b : Bool) (a a' : Option ℕ) → IsDeviceArm x → DeviceLeaves x a a' → Tells b a'
    → (x ≡ device_act.Armed) ↔ (b ≡ true)
device_arms device_act.Armed true a a' is h tells = (λ e. refl, λ e. refl)
device_arms device_act.Armed false a a' is h tells = absurd (cc (tells.1 refl, h.1))
device_arms device_act.Awake true a a' is h tells = absurd (cc ((tells.0 refl).1, h))
device_arms device_act.Awake false a a' is h tells = (λ e. absurd (cc e), λ e. absurd (cc e))
device_arms _ b a a' is h tells = absurd is

pub device_hears : (x : DeviceAct) (b : Bool) (a a' : Option ℕ) → IsDeviceHear x → DeviceLeaves x a a' → (t : ℕ) × (a ≡ Some t) → Tells b a'
    → (x ≡ device_act.Asleep) ↔ (b ≡ true)
device_hears device_act.Asleep true a a' is h was tells = (λ e. refl, λ e. refl)
device_hears device_act.Asleep false a a' is h was tells = absurd (cc (tells.1 refl, h, was.1))
device_hears device_act.Awake true a a' is h was tells = absurd (cc ((tells.0 refl).1, h))
device_hears device_act.Awake false a a' is h was tells = (λ e. absurd (cc e), λ e. absurd (cc e))
device_hears _ b a a' is h was tells = absurd is

pub device_disarms : (x : DeviceAct) (b : Bool) (a a' : Option ℕ) → x ≡ device_act.Awake → DeviceLeaves x a a' → Tells b a' → b ≡ false
device_disarms x true a a' is h tells = absurd (cc ((tells.0 refl).1, subst (λ y. DeviceLeaves y a a') is h))
device_disarms x false a a' is h tells = refl
