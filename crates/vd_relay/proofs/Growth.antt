-- By how much each answer of an end lets its acts grow.
use Rattle.std.proofs.Common.{◌≡◌, ℕ, ◌+◌, ◌≤◌, List, [], ◌∷◌, length, if◌then◌else◌, ◌∙◌, ap, arith}
use Rattle.std.proofs.Math.ListN.{length-append}
use Rattle.vd_model.specs.declared.chain.Piece.{Piece}
use Rattle.vd_ring.specs.declared.act.DriverAct.{DriverAct}
use Rattle.vd_ring.specs.declared.act.DriverAct.TheVariants as driver_act
use Rattle.vd_ring.specs.declared.act.DeviceAct.{DeviceAct}
use Rattle.vd_ring.specs.declared.act.DeviceAct.TheVariants as device_act
use Rattle.vd_ring.specs.declared.frame.Frame.{Frame}
use Rattle.vd_ring.specs.declared.frame.Used.{Used}
use Rattle.vd_ring.specs.declared.driver.DriverDone.{DriverDone}
use Rattle.vd_ring.specs.declared.driver.DriverDone.TheVariants.{Offer, Collect}
use Rattle.vd_ring.specs.declared.device.DeviceDone.{DeviceDone}
use Rattle.vd_ring.specs.declared.device.DeviceDone.TheVariants.{Take, Give}
use Rattle.vd_ring.specs.History.{entry, offers, collects, takes, gives}
use Rattle.vd_layout.specs.Begun.{DriverOp, DeviceOp}
use Rattle.vd_layout.specs.Control.{ControlWords}
use Rattle.vd_layout.specs.Device.{DeviceSays, is_rested}
use Rattle.vd_layout.specs.Driver.{DriverSays}
use Rattle.vd_layout.proofs.OnePair.{says_collected, says_given}
use Rattle.vd_relay.specs.Pace.{guest_handled, shadow_handled}

module _ (s s' : List DeviceDone) where
  took : (c : List Piece) (h : ℕ) → s' ≡ Take c h ∷ s → length (takes s') ≡ length (takes s) + 1
  took c h is = ap (λ (y : List DeviceDone). length (takes y)) is ∙ length-append (takes s) (c ∷ [])

  took_none : (c : List Piece) (h : ℕ) → s' ≡ Take c h ∷ s → length (gives s') ≡ length (gives s)
  took_none c h is = ap (λ (y : List DeviceDone). length (gives y)) is

  gave : (us : List Used) → s' ≡ Give us ∷ s → length (gives s') ≡ length (gives s) + length us
  gave us is = ap (λ (y : List DeviceDone). length (gives y)) is ∙ length-append (gives s) us

  gave_none : (us : List Used) → s' ≡ Give us ∷ s → length (takes s') ≡ length (takes s)
  gave_none us is = ap (λ (y : List DeviceDone). length (takes y)) is

  pub guest_same : s' ≡ s → length (takes s) + length (gives s) + 0 ≤ length (takes s') + length (gives s')
  guest_same is = omega (
    arith,
    ap (λ (y : List DeviceDone). length (takes y)) is,
    ap (λ (y : List DeviceDone). length (gives y)) is,
  )

  pub guest_grown : (words : ControlWords) (f : Frame) (answer : DeviceAct) (a a' : DeviceOp) → DeviceSays words answer a a' f s s'
      → length (takes s) + length (gives s) + guest_handled answer
      ≤ (if is_rested answer then length (takes s) else length (takes s')) + length (gives s')
  guest_grown words f device_act.Moved a a' says = guest_same says.1
  guest_grown words f device_act.Nothing a a' says = guest_same says.2
  guest_grown words f (device_act.Taken k c) a a' says = omega (arith, took c says.0 says.4, took_none c says.0 says.4)
  guest_grown words f (device_act.Given k) a a' says =
      let one = says_given words k a a' f s s' says in
      omega (arith, gave (entry k says.0 ∷ []) one.done, gave_none (entry k says.0 ∷ []) one.done)
  guest_grown words f device_act.Rested a a' says = omega (arith, ap (λ (y : List DeviceDone). length (gives y)) says.2)
  guest_grown words f device_act.Armed a a' says = guest_same says.2
  guest_grown words f device_act.Awake a a' says = guest_same says.2
  guest_grown words f device_act.Asleep a a' says = guest_same says.2

module _ (o o' : List DriverDone) where
  pub shadow_same : o' ≡ o → length (offers o) + length (collects o) + 0 ≤ length (offers o') + length (collects o')
  shadow_same is = omega (
    arith,
    ap (λ (y : List DriverDone). length (offers y)) is,
    ap (λ (y : List DriverDone). length (collects y)) is,
  )

  offered : (c : List Piece) → o' ≡ Offer c ∷ o → length (offers o') ≡ length (offers o) + 1
  offered c is = ap (λ (y : List DriverDone). length (offers y)) is ∙ length-append (offers o) (c ∷ [])

  offered_none : (c : List Piece) → o' ≡ Offer c ∷ o → length (collects o') ≡ length (collects o)
  offered_none c is = ap (λ (y : List DriverDone). length (collects y)) is

  collected : (us : List Used) → o' ≡ Collect us ∷ o → length (collects o') ≡ length (collects o) + length us
  collected us is = ap (λ (y : List DriverDone). length (collects y)) is ∙ length-append (collects o) us

  collected_none : (us : List Used) → o' ≡ Collect us ∷ o → length (offers o') ≡ length (offers o)
  collected_none us is = ap (λ (y : List DriverDone). length (offers y)) is

  pub shadow_grown : (f : Frame) (answer : DriverAct) (a a' : DriverOp) → DriverSays answer a a' f o o'
      → length (offers o) + length (collects o) + shadow_handled answer ≤ length (offers o') + length (collects o')
  shadow_grown f driver_act.Moved a a' says = shadow_same says.1
  shadow_grown f driver_act.Nothing a a' says = shadow_same says.2
  shadow_grown f (driver_act.Offered k) a a' says = omega (arith, offered says.0 says.4, offered_none says.0 says.4)
  shadow_grown f (driver_act.Collected k n h) a a' says =
      let one = says_collected k n h a a' f o o' says in
      omega (arith, collected (entry k n ∷ []) one.done, collected_none (entry k n ∷ []) one.done)
  shadow_grown f driver_act.Armed a a' says = shadow_same says.2
  shadow_grown f driver_act.Awake a a' says = shadow_same says.2
  shadow_grown f driver_act.Asleep a a' says = shadow_same says.2
