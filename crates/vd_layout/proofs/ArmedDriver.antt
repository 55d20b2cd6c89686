-- A ring over plain words after an arming, a hearing or a disarming of the driver's end: nothing but whether it is armed changed.
use Rattle.std.proofs.Common.{◌≡◌, ◌↔◌, ℕ, Bool, true, false}
use Rattle.vd_words.specs.Plain.{RingWords}
use Rattle.vd_ring.specs.declared.frame.Frame.{Frame}
use Rattle.vd_ring.specs.declared.act.DriverAct.{DriverAct}
use Rattle.vd_ring.specs.declared.act.DriverAct.TheVariants as driver_act
use Rattle.vd_layout.specs.Begun.{DriverOp}
use Rattle.vd_layout.specs.Driver.{DriverModel}
use Rattle.vd_layout.specs.Device.{DeviceModel}
use Rattle.vd_layout.specs.Ended.{DriverEnded}
use Rattle.vd_layout.specs.Layout.{LayoutModel, IsLawfulLayout}
use Rattle.vd_layout.specs.Both.{AreOn}
use Rattle.vd_layout.specs.RingLists.{RingLists}
use Rattle.vd_layout.specs.PlainRing.{frame_at, IsPlainRing, IsDriverArm, IsDriverHear}
use Rattle.vd_layout.proofs.RingSteps.{driver_armed, driver_heard, driver_disarmed}
use Rattle.vd_layout.proofs.PlainRings.{Kept, driver_begun, driver_kept, driver_same, driver_arms_on, driver_hears_on, driver_disarms_on}

module _ {D E : Type 0} {d : DriverModel D} {e : DeviceModel E} {l : LayoutModel} (law : IsLawfulLayout d e l) {x x' : D} (x'' : D) {y : E}
    {ws : RingWords} (us : RingWords) {h : RingLists} {count most : ℕ} {resting : Bool} (answer : DriverAct)
    (i : IsPlainRing d e l x y ws h count most resting) (stands : d.stands x' i.on.view)
    (did : (f : Frame) (a : AreOn d e l f x' y ws.words) → DriverEnded d e l f x' x'' y ws.words us.words answer a)
    (ring : us.ring ≡ ws.ring) (idle : d.begun x'' ≡ DriverOp.idle) where
  ended : DriverEnded d e l (frame_at d l x ws) x' x'' y ws.words us.words answer
      (driver_begun d e l (frame_at d l x ws) x x' y ws.words i.on stands)
  ended = did (frame_at d l x ws) (driver_begun d e l (frame_at d l x ws) x x' y ws.words i.on stands)

  same_lists : ended.on.view.done ≡ i.on.view.done → Kept d e l x x'' y ws us h count most resting
  same_lists same = driver_kept d e l law x x' x'' y ws us h h count most resting answer i stands ended ring idle
      (driver_same d e l law x x' x'' y ws us h h count most resting answer i stands ended same)

  pub armed_driver : d.begun x' ≡ DriverOp.arm
      → IsDriverArm answer × ((answer ≡ driver_act.Armed) ↔ (d.armed x'' ≡ true)) × Kept d e l x x'' y ws us h count most resting
  armed_driver begun =
      let is = driver_armed answer (d.begun x') i.on.view.frame i.on.view.done ended.on.view.done begun ended.says in (
        is.0,
        driver_arms_on d e l law x x' x'' y ws us h h count most resting answer i stands ended is.0,
        same_lists is.1,
      )

  pub heard_driver : d.begun x' ≡ DriverOp.hear
      → IsDriverHear answer × (d.armed x ≡ true → (answer ≡ driver_act.Asleep) ↔ (d.armed x'' ≡ true))
      × Kept d e l x x'' y ws us h count most resting
  heard_driver begun =
      let is = driver_heard answer (d.begun x') i.on.view.frame i.on.view.done ended.on.view.done begun ended.says in (
        is.0,
        driver_hears_on d e l law x x' x'' y ws us h h count most resting answer i stands ended is.0,
        same_lists is.1,
      )

  pub disarmed_driver : d.begun x' ≡ DriverOp.disarm
      → (answer ≡ driver_act.Awake) × (d.armed x'' ≡ false) × Kept d e l x x'' y ws us h count most resting
  disarmed_driver begun =
      let is = driver_disarmed answer (d.begun x') i.on.view.frame i.on.view.done ended.on.view.done begun ended.says in (
        is.0,
        driver_disarms_on d e l law x x' x'' y ws us h h count most resting answer i stands ended is.0,
        same_lists is.1,
      )
