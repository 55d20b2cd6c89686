-- What each whole operation answers, and what it does to the lists of what was done.
use Rattle.std.proofs.Common.{◌≡◌, ℕ, List, [], ◌∷◌, ◌++◌, length, take, sym, ap, ◌∙◌, subst, refl, arith}
use Rattle.std.proofs.lemmas.List.{get_or-take, get_or_push, length_push}
use Rattle.vd_model.specs.declared.chain.Piece.{Piece}
use Rattle.vd_ring.specs.declared.act.DriverAct.{DriverAct}
use Rattle.vd_ring.specs.declared.act.DriverAct.TheVariants as driver_act
use Rattle.vd_ring.specs.declared.act.DeviceAct.{DeviceAct}
use Rattle.vd_ring.specs.declared.act.DeviceAct.TheVariants as device_act
use Rattle.vd_ring.specs.declared.driver.DriverDone.{DriverDone}
use Rattle.vd_ring.specs.declared.driver.DriverDone.TheVariants.{Collect}
use Rattle.vd_ring.specs.declared.device.DeviceDone.{DeviceDone}
use Rattle.vd_ring.specs.declared.device.DeviceDone.TheVariants.{Take, Give}
use Rattle.vd_ring.specs.declared.frame.Frame.{Frame}
use Rattle.vd_ring.specs.declared.frame.Used.{Used}
use Rattle.vd_ring.specs.History.{entry, used_at, chain_at, without, offers, collects, takes, gives}
use Rattle.vd_ring.specs.Lists.{Lists}
use Rattle.vd_layout.specs.Begun.{DriverOp, DeviceOp, MayWake, DeviceMayWake, DriverGoesOn, DeviceGoesOn}
use Rattle.vd_layout.specs.Control.{ControlWords}
use Rattle.vd_layout.specs.Driver.{DriverSays}
use Rattle.vd_layout.specs.Device.{DeviceSays}
use Rattle.vd_layout.specs.RingLists.{RingLists, lists_of, and_offered, and_given, and_rested, after_driver, after_device}
use Rattle.vd_layout.specs.PlainRing.{IsCollect, IsTake, IsDriverArm, IsDriverHear, IsDeviceArm, IsDeviceHear}
use Rattle.vd_layout.proofs.OnePair.{says_collected, says_given}

-- ---- the driver

pub offered : (x : DriverAct) (b : DriverOp) (f : Frame) (o o' : List DriverDone) (s : List DeviceDone) (c : List Piece)
    → b ≡ DriverOp.offer c → DriverSays x b DriverOp.idle f o o' → (x ≡ driver_act.Offered (length (offers o)))
    × (lists_of o' s ≡ and_offered c (lists_of o s))
offered driver_act.Moved b f o o' s c is h =
    absurd (let e : DriverOp.idle ≡ DriverOp.offer c = subst (λ y. DriverGoesOn y DriverOp.idle) is h.0 in cc e)
offered driver_act.Nothing b f o o' s c is h = absurd (cc (is, h.0))
offered (driver_act.Offered k) b f o o' s c is h = (
  ap driver_act.Offered h.3,
  ap (λ (z : List DriverDone). lists_of z s) h.4 ∙ ap (λ (d : List Piece). and_offered d (lists_of o s))
      (let e : h.0 ≡ c = cc (is, h.1) in e),
)
offered (driver_act.Collected k n i) b f o o' s c is h = absurd (cc (is, h.1))
offered driver_act.Armed b f o o' s c is h = absurd (cc (is, h.0))
offered driver_act.Awake b f o o' s c is h = absurd (subst (λ y. MayWake y) is h.0)
offered driver_act.Asleep b f o o' s c is h = absurd (cc (is, h.0))

next_is : (xs ys : List Used) (u : Used) → xs ++ u ∷ [] ≡ take (length (xs ++ u ∷ [])) ys → used_at ys (length xs) ≡ u
next_is xs ys u is = sym (get_or-take (length (xs ++ u ∷ [])) ys (length xs) (entry 0 0) (omega (arith, length_push xs u)))
    ∙ ap (λ (zs : List Used). used_at zs (length xs)) (sym is) ∙ get_or_push xs u (entry 0 0) (length xs) refl

abbrev with_entry : Used → RingLists → RingLists
with_entry u h = record {
  offered = h.offered;
  taken = h.taken;
  given = h.given;
  collected = h.collected ++ u ∷ [];
  standing =
      without u.number h.standing;
  running = h.running;
}

back : (k n i : ℕ) (f g : Frame) (o o' : List DriverDone) (s : List DeviceDone) → o' ≡ Collect (entry k n ∷ []) ∷ o → Lists g o' s
    → IsCollect (lists_of o s) (driver_act.Collected k n i) × (lists_of o' s ≡ after_driver (driver_act.Collected k n i) (lists_of o s))
back k n i f g o o' s is l =
    let m : Lists g (Collect (entry k n ∷ []) ∷ o) s = subst (λ (z : List DriverDone). Lists g z s) is l in
    let next : used_at (gives s) (length (collects o)) ≡ entry k n = next_is (collects o) (gives s) (entry k n) m.collected in (
      (omega (arith, length_push (collects o) (entry k n), m.fewer), next),
      ap (λ (z : List DriverDone). lists_of z s) is
          ∙ ap (λ (u : Used). with_entry u (lists_of o s)) (sym next),
    )

pub collected : (x : DriverAct) (b : DriverOp) (f g : Frame) (o o' : List DriverDone) (s : List DeviceDone) → b ≡ DriverOp.collect
    → DriverSays x b DriverOp.idle f o o' → Lists g o' s → (x ≡ driver_act.Nothing → collects o ≡ gives s)
    → IsCollect (lists_of o s) x × (lists_of o' s ≡ after_driver x (lists_of o s))
collected driver_act.Moved b f g o o' s is h l none =
    absurd (let e : DriverOp.idle ≡ DriverOp.collect = subst (λ y. DriverGoesOn y DriverOp.idle) is h.0 in cc e)
collected driver_act.Nothing b f g o o' s is h l none = (none refl, ap (λ (z : List DriverDone). lists_of z s) h.2)
collected (driver_act.Offered k) b f g o o' s is h l none = absurd (cc (is, h.1))
collected (driver_act.Collected k n i) b f g o o' s is h l none =
    back k n i f g o o' s (says_collected k n i b DriverOp.idle f o o' h).done l
collected driver_act.Armed b f g o o' s is h l none = absurd (cc (is, h.0))
collected driver_act.Awake b f g o o' s is h l none = absurd (subst (λ y. MayWake y) is h.0)
collected driver_act.Asleep b f g o o' s is h l none = absurd (cc (is, h.0))

pub driver_armed : (x : DriverAct) (b : DriverOp) (f : Frame) (o o' : List DriverDone) → b ≡ DriverOp.arm
    → DriverSays x b DriverOp.idle f o o' → IsDriverArm x × (o' ≡ o)
driver_armed driver_act.Moved b f o o' is h =
    absurd (let e : DriverOp.idle ≡ DriverOp.arm = subst (λ y. DriverGoesOn y DriverOp.idle) is h.0 in cc e)
driver_armed driver_act.Nothing b f o o' is h = absurd (cc (is, h.0))
driver_armed (driver_act.Offered k) b f o o' is h = absurd (cc (is, h.1))
driver_armed (driver_act.Collected k n i) b f o o' is h = absurd (cc (is, h.1))
driver_armed driver_act.Armed b f o o' is h = (tt, h.2)
driver_armed driver_act.Awake b f o o' is h = (tt, h.2)
driver_armed driver_act.Asleep b f o o' is h = absurd (cc (is, h.0))

pub driver_heard : (x : DriverAct) (b : DriverOp) (f : Frame) (o o' : List DriverDone) → b ≡ DriverOp.hear
    → DriverSays x b DriverOp.idle f o o' → IsDriverHear x × (o' ≡ o)
driver_heard driver_act.Moved b f o o' is h =
    absurd (let e : DriverOp.idle ≡ DriverOp.hear = subst (λ y. DriverGoesOn y DriverOp.idle) is h.0 in cc e)
driver_heard driver_act.Nothing b f o o' is h = absurd (cc (is, h.0))
driver_heard (driver_act.Offered k) b f o o' is h = absurd (cc (is, h.1))
driver_heard (driver_act.Collected k n i) b f o o' is h = absurd (cc (is, h.1))
driver_heard driver_act.Armed b f o o' is h = absurd (cc (is, h.0))
driver_heard driver_act.Awake b f o o' is h = (tt, h.2)
driver_heard driver_act.Asleep b f o o' is h = (tt, h.2)

pub driver_disarmed : (x : DriverAct) (b : DriverOp) (f : Frame) (o o' : List DriverDone) → b ≡ DriverOp.disarm
    → DriverSays x b DriverOp.idle f o o' → (x ≡ driver_act.Awake) × (o' ≡ o)
driver_disarmed driver_act.Moved b f o o' is h =
    absurd (let e : DriverOp.idle ≡ DriverOp.disarm = subst (λ y. DriverGoesOn y DriverOp.idle) is h.0 in cc e)
driver_disarmed driver_act.Nothing b f o o' is h = absurd (cc (is, h.0))
driver_disarmed (driver_act.Offered k) b f o o' is h = absurd (cc (is, h.1))
driver_disarmed (driver_act.Collected k n i) b f o o' is h = absurd (cc (is, h.1))
driver_disarmed driver_act.Armed b f o o' is h = absurd (cc (is, h.0))
driver_disarmed driver_act.Awake b f o o' is h = (refl, h.2)
driver_disarmed driver_act.Asleep b f o o' is h = absurd (cc (is, h.0))

-- ---- the device

abbrev with_chain : List Piece → RingLists → RingLists
with_chain c h = record {
  offered = h.offered;
  taken = h.taken ++ c ∷ [];
  given = h.given;
  collected = h.collected;
  standing =
      h.standing;
  running = h.running ++ length h.taken ∷ [];
}

came : (k : ℕ) (c : List Piece) (i : ℕ) (g : Frame) (o : List DriverDone) (s s' : List DeviceDone) → k ≡ length (takes s)
    → s' ≡ Take c i ∷ s → Lists g o s'
    → IsTake (lists_of o s) (device_act.Taken k c) × (lists_of o s' ≡ after_device (device_act.Taken k c) 0 (lists_of o s))
came k c i g o s s' number is l =
    let m : Lists g o (Take c i ∷ s) = subst (λ (z : List DeviceDone). Lists g o z) is l in (
      (m.ever.0, number, m.ever.1 ∙ ap (chain_at (offers o)) (sym number)),
      ap (λ (z : List DeviceDone). lists_of o z) is
          ∙ ap (λ (d : List Piece). with_chain d (lists_of o s)) m.ever.1,
    )

pub taken : (words : ControlWords) (x : DeviceAct) (b : DeviceOp) (f g : Frame) (o : List DriverDone) (s s' : List DeviceDone)
    → b ≡ DeviceOp.take → DeviceSays words x b DeviceOp.idle f s s' → Lists g o s' → (x ≡ device_act.Nothing → takes s ≡ offers o)
    → IsTake (lists_of o s) x × (lists_of o s' ≡ after_device x 0 (lists_of o s))
taken words device_act.Moved b f g o s s' is h l none =
    absurd (let e : DeviceOp.idle ≡ DeviceOp.take = subst (λ y. DeviceGoesOn y DeviceOp.idle) is h.0 in cc e)
taken words device_act.Nothing b f g o s s' is h l none = (none refl, ap (λ (z : List DeviceDone). lists_of o z) h.2)
taken words (device_act.Taken k c) b f g o s s' is h l none = came k c h.0 g o s s' h.3 h.4 l
taken words (device_act.Given k) b f g o s s' is h l none = absurd (cc (is, h.2))
taken words device_act.Rested b f g o s s' is h l none = absurd (cc (is, h.0))
taken words device_act.Armed b f g o s s' is h l none = absurd (cc (is, h.0))
taken words device_act.Awake b f g o s s' is h l none = absurd (subst (λ y. DeviceMayWake y) is h.0)
taken words device_act.Asleep b f g o s s' is h l none = absurd (cc (is, h.0))

gave : (j k m n : ℕ) (b : DeviceOp) (o : List DriverDone) (s s' : List DeviceDone) → b ≡ DeviceOp.give k n → b ≡ DeviceOp.give j m
    → s' ≡ Give (entry j m ∷ []) ∷ s → (device_act.Given j ≡ device_act.Given k) × (lists_of o s' ≡ and_given k n (lists_of o s))
gave j k m n b o s s' is was done =
    let same : j ≡ k = cc (is, was) in
    let long : m ≡ n = cc (is, was) in (
      ap device_act.Given same,
      ap (λ (z : List DeviceDone). lists_of o z) done ∙ ap (λ i. and_given i m (lists_of o s)) same
          ∙ ap (λ i. and_given k i (lists_of o s)) long,
    )

pub given : (words : ControlWords) (x : DeviceAct) (b : DeviceOp) (f : Frame) (o : List DriverDone) (s s' : List DeviceDone) (k n : ℕ)
    → b ≡ DeviceOp.give k n → DeviceSays words x b DeviceOp.idle f s s'
    → (x ≡ device_act.Given k) × (lists_of o s' ≡ and_given k n (lists_of o s))
given words device_act.Moved b f o s s' k n is h =
    absurd (let e : DeviceOp.idle ≡ DeviceOp.give k n = subst (λ y. DeviceGoesOn y DeviceOp.idle) is h.0 in cc e)
given words device_act.Nothing b f o s s' k n is h = absurd (cc (is, h.0))
given words (device_act.Taken j c) b f o s s' k n is h = absurd (cc (is, h.1))
given words (device_act.Given j) b f o s s' k n is h = let one = says_given words j b DeviceOp.idle f s s' h in
    gave j k h.0 n b o s s' is one.begun one.done
given words device_act.Rested b f o s s' k n is h = absurd (cc (is, h.0))
given words device_act.Armed b f o s s' k n is h = absurd (cc (is, h.0))
given words device_act.Awake b f o s s' k n is h = absurd (subst (λ y. DeviceMayWake y) is h.0)
given words device_act.Asleep b f o s s' k n is h = absurd (cc (is, h.0))

pub rested : (words : ControlWords) (x : DeviceAct) (b : DeviceOp) (f : Frame) (o : List DriverDone) (s s' : List DeviceDone)
    → b ≡ DeviceOp.rest → DeviceSays words x b DeviceOp.idle f s s' → (x ≡ device_act.Rested) × (lists_of o s' ≡ and_rested (lists_of o s))
rested words device_act.Moved b f o s s' is h =
    absurd (let e : DeviceOp.idle ≡ DeviceOp.rest = subst (λ y. DeviceGoesOn y DeviceOp.idle) is h.0 in cc e)
rested words device_act.Nothing b f o s s' is h = absurd (cc (is, h.0))
rested words (device_act.Taken j c) b f o s s' is h = absurd (cc (is, h.1))
rested words (device_act.Given j) b f o s s' is h = absurd (cc (is, h.2))
rested words device_act.Rested b f o s s' is h = (refl, ap (λ (z : List DeviceDone). lists_of o z) h.2)
rested words device_act.Armed b f o s s' is h = absurd (cc (is, h.0))
rested words device_act.Awake b f o s s' is h = absurd (subst (λ y. DeviceMayWake y) is h.0)
rested words device_act.Asleep b f o s s' is h = absurd (cc (is, h.0))

pub device_armed : (words : ControlWords) (x : DeviceAct) (b : DeviceOp) (f : Frame) (s s' : List DeviceDone) → b ≡ DeviceOp.arm
    → DeviceSays words x b DeviceOp.idle f s s' → IsDeviceArm x × (s' ≡ s)
device_armed words device_act.Moved b f s s' is h =
    absurd (let e : DeviceOp.idle ≡ DeviceOp.arm = subst (λ y. DeviceGoesOn y DeviceOp.idle) is h.0 in cc e)
device_armed words device_act.Nothing b f s s' is h = absurd (cc (is, h.0))
device_armed words (device_act.Taken j c) b f s s' is h = absurd (cc (is, h.1))
device_armed words (device_act.Given j) b f s s' is h = absurd (cc (is, h.2))
device_armed words device_act.Rested b f s s' is h = absurd (cc (is, h.0))
device_armed words device_act.Armed b f s s' is h = (tt, h.2)
device_armed words device_act.Awake b f s s' is h = (tt, h.2)
device_armed words device_act.Asleep b f s s' is h = absurd (cc (is, h.0))

pub device_heard : (words : ControlWords) (x : DeviceAct) (b : DeviceOp) (f : Frame) (s s' : List DeviceDone) → b ≡ DeviceOp.hear
    → DeviceSays words x b DeviceOp.idle f s s' → IsDeviceHear x × (s' ≡ s)
device_heard words device_act.Moved b f s s' is h =
    absurd (let e : DeviceOp.idle ≡ DeviceOp.hear = subst (λ y. DeviceGoesOn y DeviceOp.idle) is h.0 in cc e)
device_heard words device_act.Nothing b f s s' is h = absurd (cc (is, h.0))
device_heard words (device_act.Taken j c) b f s s' is h = absurd (cc (is, h.1))
device_heard words (device_act.Given j) b f s s' is h = absurd (cc (is, h.2))
device_heard words device_act.Rested b f s s' is h = absurd (cc (is, h.0))
device_heard words device_act.Armed b f s s' is h = absurd (cc (is, h.0))
device_heard words device_act.Awake b f s s' is h = (tt, h.2)
device_heard words device_act.Asleep b f s s' is h = (tt, h.2)

pub device_disarmed : (words : ControlWords) (x : DeviceAct) (b : DeviceOp) (f : Frame) (s s' : List DeviceDone) → b ≡ DeviceOp.disarm
    → DeviceSays words x b DeviceOp.idle f s s' → (x ≡ device_act.Awake) × (s' ≡ s)
device_disarmed words device_act.Moved b f s s' is h =
    absurd (let e : DeviceOp.idle ≡ DeviceOp.disarm = subst (λ y. DeviceGoesOn y DeviceOp.idle) is h.0 in cc e)
device_disarmed words device_act.Nothing b f s s' is h = absurd (cc (is, h.0))
device_disarmed words (device_act.Taken j c) b f s s' is h = absurd (cc (is, h.1))
device_disarmed words (device_act.Given j) b f s s' is h = absurd (cc (is, h.2))
device_disarmed words device_act.Rested b f s s' is h = absurd (cc (is, h.0))
device_disarmed words device_act.Armed b f s s' is h = absurd (cc (is, h.0))
device_disarmed words device_act.Awake b f s s' is h = (refl, h.2)
device_disarmed words device_act.Asleep b f s s' is h = absurd (cc (is, h.0))
