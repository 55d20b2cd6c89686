-- A ring over plain words after an arming, a hearing or a disarming of the device's end: nothing but whether it is armed changed, and
-- it doesn't rest.
use Rattle.std.proofs.Common.{◌≡◌, ◌≢◌, ◌↔◌, ◌∙◌, ℕ, Bool, true, false, sym}
use Rattle.vd_words.specs.Plain.{RingWords}
use Rattle.vd_ring.specs.declared.frame.Frame.{Frame}
use Rattle.vd_ring.specs.declared.act.DeviceAct.{DeviceAct}
use Rattle.vd_ring.specs.declared.act.DeviceAct.TheVariants as device_act
use Rattle.vd_layout.specs.Begun.{DeviceOp}
use Rattle.vd_layout.specs.Driver.{DriverModel}
use Rattle.vd_layout.specs.Device.{DeviceModel, is_rested}
use Rattle.vd_layout.specs.Ended.{DeviceEnded}
use Rattle.vd_layout.specs.Layout.{LayoutModel, IsLawfulLayout}
use Rattle.vd_layout.specs.Both.{AreOn}
use Rattle.vd_layout.specs.RingLists.{RingLists}
use Rattle.vd_layout.specs.PlainRing.{frame_at, IsPlainRing, IsDeviceArm, IsDeviceHear}
use Rattle.vd_layout.proofs.RingSteps.{device_armed, device_heard, device_disarmed}
use Rattle.vd_layout.proofs.PlainRings.{Kept, device_begun, device_kept, device_same, device_awake, device_arms_on, device_hears_on, device_disarms_on}

module _ {D E : Type 0} {d : DriverModel D} {e : DeviceModel E} {l : LayoutModel} (law : IsLawfulLayout d e l) {x : D} {y y' : E} (y'' : E)
    {ws : RingWords} (us : RingWords) {h : RingLists} {count most : ℕ} {resting : Bool} (answer : DeviceAct)
    (i : IsPlainRing d e l x y ws h count most resting) (stands : e.stands y' i.on.device_view)
    (did : (f : Frame) (a : AreOn d e l f x y' ws.words) → DeviceEnded d e l f x y' y'' ws.words us.words answer a)
    (ring : us.ring ≡ ws.ring) (idle : e.begun y'' ≡ DeviceOp.idle) (rests : e.resting y'' ≡ is_rested answer) where
  ended : DeviceEnded d e l (frame_at d l x ws) x y' y'' ws.words us.words answer
      (device_begun d e l (frame_at d l x ws) x y y' ws.words i.on stands)
  ended = did (frame_at d l x ws) (device_begun d e l (frame_at d l x ws) x y y' ws.words i.on stands)

  same_lists : e.begun y' ≢ DeviceOp.rest → resting ≡ false → ended.on.device_view.done ≡ i.on.device_view.done
      → Kept d e l x x y'' ws us h count most resting
  same_lists other awake same =
      device_kept d e l law x y y' y'' ws us h h count most resting answer i stands ended resting ring idle
      (device_awake d e l law x y y' y'' ws us h h count most resting answer i stands ended other rests ∙ sym awake)
      (device_same d e l law x y y' y'' ws us h h count most resting answer i stands ended same)

  pub armed_device : e.begun y' ≡ DeviceOp.arm → IsDeviceArm answer × ((answer ≡ device_act.Armed) ↔ (e.armed y'' ≡ true))
      × (resting ≡ false → Kept d e l x x y'' ws us h count most resting)
  armed_device begun =
      let is = device_armed e.words answer (e.begun y') i.on.device_view.frame i.on.device_view.done ended.on.device_view.done begun
      ended.says in (
        is.0,
        device_arms_on d e l law x y y' y'' ws us h h count most resting answer i stands ended is.0,
        λ awake. same_lists (λ w. cc (w, begun)) awake is.1,
      )

  pub heard_device : e.begun y' ≡ DeviceOp.hear
      → IsDeviceHear answer × (e.armed y ≡ true → (answer ≡ device_act.Asleep) ↔ (e.armed y'' ≡ true))
      × (resting ≡ false → Kept d e l x x y'' ws us h count most resting)
  heard_device begun =
      let is = device_heard e.words answer (e.begun y') i.on.device_view.frame i.on.device_view.done ended.on.device_view.done begun
      ended.says in (
        is.0,
        device_hears_on d e l law x y y' y'' ws us h h count most resting answer i stands ended is.0,
        λ awake. same_lists (λ w. cc (w, begun)) awake is.1,
      )

  pub disarmed_device : e.begun y' ≡ DeviceOp.disarm → (answer ≡ device_act.Awake) × (e.armed y'' ≡ false)
      × (resting ≡ false → Kept d e l x x y'' ws us h count most resting)
  disarmed_device begun =
      let is = device_disarmed e.words answer (e.begun y') i.on.device_view.frame i.on.device_view.done ended.on.device_view.done begun
      ended.says in (
        is.0,
        device_disarms_on d e l law x y y' y'' ws us h h count most resting answer i stands ended is.0,
        λ awake. same_lists (λ w. cc (w, begun)) awake is.1,
      )
