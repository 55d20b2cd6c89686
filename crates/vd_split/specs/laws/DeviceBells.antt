-- The stores of event words: each is next in a view that the end stands for, and the end stands for the view after it.
use Rattle.std.proofs.Common.{◌≡◌, ℕ, ◌+◌, ◌<◌, ◌≤◌, Bool, true, false, Option, Some, None, length, if◌then◌else◌, slice_index, slice_set, refl, sym, ap, ◌∙◌, subst, arith}
use Rattle.std.proofs.lemmas.List.{length-set}
use Rattle.std.specs.Vec.{with_item}
use Rattle.vd_bits.specs.Lanes.{set_lane16}
use Rattle.vd_words.specs.declared.access.Access.TheVariants.{Store}
use Rattle.vd_words.specs.declared.access.Op.{Op}
use Rattle.vd_words.specs.declared.access.Op.TheVariants as op
use Rattle.vd_model.specs.declared.features.Features.{Features}
use Rattle.vd_ring.specs.declared.act.DeviceAct.TheVariants as act
use Rattle.vd_ring.specs.declared.frame.Frame.{Frame}
use Rattle.vd_ring.specs.declared.device.DeviceNow.{DeviceNow}
use Rattle.vd_ring.specs.declared.device.DeviceNow.TheVariants as now
use Rattle.vd_ring.specs.declared.device.DeviceView.{DeviceView}
use Rattle.vd_ring.specs.History.{takes}
use Rattle.vd_split_ring.specs.SplitWords.{used_from, device_event_word, device_event_lane, armed_value}
use Rattle.vd_split_ring.specs.SplitDevice.{DeviceNextAt, device_after_at, device_after, device_act_at}
use Rattle.vd_split_ring.proofs.Areas.{areas}
use Rattle.vd_layout.specs.Begun.{IsDeviceOp, DeviceOp}
use Rattle.vd_layout.specs.Device.{DeviceSays}
use Rattle.vd_split.specs.declared.device.SplitDevice.{SplitDevice}
use Rattle.vd_split.specs.declared.device.DeviceStep.{DeviceStep}
use Rattle.vd_split.specs.declared.device.DeviceStep.TheVariants as step
use Rattle.vd_split.specs.DriverEnd.{split_words}
use Rattle.vd_split.specs.DeviceEnd.{DeviceStands, DeviceStepStands, DeviceStepArmed, device_owes, device_begun, device_left, Wakes}
use Rattle.vd_split.specs.laws.DeviceEnd.{not_armed, is_armed}
use Rattle.vd_split.specs.laws.DeviceSteps.{Goes}
use Rattle.vd_split.specs.Parts.{used_area, event_offset, own_value}
use Rattle.vd_split.specs.laws.Plans.{copies_set}

-- the end after the store of word i of its area, and the view
stands_with : (e : SplitDevice) (v : DeviceView) (i x : ℕ) (t : DeviceStep) (b : Bool) (d : DeviceNow) (at : Option ℕ)
    → DeviceStands e v → i ≤ v.frame.size → at ≡ (if b then Some (length (takes v.done)) else None) → e.bells + device_owes t ≤ e.given
    → DeviceStepArmed t b
    → DeviceStepStands t e.pieces.items e.addr v.frame v.done d
    → DeviceStands (record e { area = with_item e.area i x; armed = b; doing = t })
    (record v { stored = slice_set v.stored (used_from v.frame + i) x; armed = at; doing = d })
stands_with e v i x t b d at st low armed few awake doing = record {
  made = st.made;
  counts = st.counts;
  holds = st.holds;
  area = copies_set (used_from v.frame) (v.frame.size + 1) e.area.items v.stored i x st.area (omega arith)
      (omega (arith, st.wide, areas v.frame));
  wide = length-set v.stored (used_from v.frame + i) x ∙ st.wide;
  shown = st.shown;
  kick = st.kick;
  signals = record { is_armed = armed; hears = st.signals.hears; rings = st.signals.rings; few = few; awake = awake };
  doing = doing;
}

-- ---- arming

arm_at : (e : SplitDevice) (v : DeviceView) (i r x : ℕ) → e.doing ≡ step.Arm → DeviceStands e v
    → used_from v.frame + i ≡ device_event_word v.frame → i ≤ v.frame.size
    → x ≡ set_lane16 (slice_index v.stored (used_from v.frame + i)) (device_event_lane v.frame)
    (armed_value v.frame (length (takes v.done)))
    → Goes e (record e { area = with_item e.area i x; armed = true; doing = step.LookAgain }) v op.Arm
    (Store (used_from v.frame + i) x) r act.Moved
arm_at e v i r x is st here low word =
    let f : Frame = v.frame in
    let p : ℕ = used_from f + i in
    let n : v.doing ≡ now.Idle = subst (λ t. DeviceStepStands t e.pieces.items e.addr f v.done v.doing) is st.doing in
    let off : e.armed ≡ false = subst (λ t. DeviceStepArmed t e.armed) is st.signals.awake in
    let few : e.bells + 0 ≤ e.given = subst (λ t. e.bells + device_owes t ≤ e.given) is st.signals.few in
    let is_after : device_after v op.Arm (Store p x) r ≡ record v {
      stored = slice_set v.stored p x;
      armed =
          Some (length (takes v.done));
      doing = now.Arming;
    } = ap (λ t. device_after_at t v op.Arm (Store p x) r) n in
    let e' : SplitDevice = record e { area = with_item e.area i x; armed = true; doing = step.LookAgain } in
    record {
      next = subst (λ t. DeviceNextAt t v op.Arm (Store p x)) (sym n) (not_armed e v st off, record { place = here; word = word });
      stands = subst (λ w. DeviceStands e' w) (sym is_after)
          (stands_with e v i x step.LookAgain true now.Arming (Some (length (takes v.done))) st low refl few refl refl);
      is = sym (ap (λ t. device_act_at t v op.Arm (Store p x) r) n);
      of_it = subst (λ t. IsDeviceOp (device_begun t) op.Arm) (sym is) refl;
      left = subst (λ t. 2 < device_left t (length e.pieces.items)) (sym is) (let z : 2 < 3 = omega arith in z);
      says = subst (λ t. DeviceSays split_words act.Moved (device_begun t) DeviceOp.arm f v.done
          (device_after v op.Arm (Store p x) r).done) (sym is) (refl, ap (λ (w : DeviceView). w.done) is_after);
      rests = refl;
    }

pub offset_is : (e : SplitDevice) (v : DeviceView) (i : ℕ) → DeviceStands e v → i ≡ event_offset e.size e.features.event_idx
    → (used_from v.frame + i ≡ device_event_word v.frame) × (i ≤ v.frame.size)
offset_is e v i st is =
    let here : i ≡ event_offset v.frame.size v.frame.features.event_idx =
    is ∙ ap (λ m. event_offset m e.features.event_idx) st.made.sized
    ∙ ap (λ (z : Features). event_offset v.frame.size z.event_idx) st.made.featured in
    subst (λ k. (used_from v.frame + k ≡ device_event_word v.frame) × (k ≤ v.frame.size)) (sym here) (at v.frame.features.event_idx)
  where
    at : (b : Bool) → (used_from v.frame
        + event_offset v.frame.size b ≡ (if b then used_from v.frame + v.frame.size else used_from v.frame))
        × (event_offset v.frame.size b ≤ v.frame.size)
    at true = (refl, omega arith)
    at false = (omega arith, omega arith)

pub arm_goes : (e : SplitDevice) (v : DeviceView) (r x i y k : ℕ) → e.doing ≡ step.Arm → DeviceStands e v
    → i ≡ event_offset e.size e.features.event_idx → y ≡ own_value e.taken e.features.event_idx
    → k ≡ (if e.features.event_idx then 2 else 0)
    → x ≡ set_lane16 (slice_index e.area.items i) k y
    → Goes e (record e { area = with_item e.area i x; armed = true; doing = step.LookAgain }) v op.Arm
    (Store (used_area e.size + i) x) r act.Moved
arm_goes e v r x i y k is st offset value lane word =
    let f : Frame = v.frame in
    let at = offset_is e v i st offset in
    let held : y ≡ armed_value f (length (takes v.done)) = value ∙ ap (λ m. own_value m e.features.event_idx) st.counts.takes
    ∙ ap (λ (z : Features). own_value (length (takes v.done)) z.event_idx) st.made.featured in
    let lane2 : k ≡ device_event_lane f = lane ∙ ap (λ (z : Features). if z.event_idx then 2 else 0) st.made.featured in
    let whole : x ≡ set_lane16 (slice_index v.stored (used_from f + i)) (device_event_lane f) (armed_value f (length (takes v.done))) =
    word ∙ ap (λ w. set_lane16 w k y) (st.area.same i (omega (arith, at.1)))
    ∙ ap (λ m. set_lane16 (slice_index v.stored (used_from f + i)) m y) lane2
    ∙ ap (λ m. set_lane16 (slice_index v.stored (used_from f + i)) (device_event_lane f) m) held in
    subst (λ q. Goes e (record e { area = with_item e.area i x; armed = true; doing = step.LookAgain }) v op.Arm
    (Store (used_area q + i) x) r act.Moved) (sym st.made.sized) (arm_at e v i r x is st at.0 at.1 whole)

-- ---- the disarming store

wake_at : (t : DeviceStep) (e : SplitDevice) (v : DeviceView) (o : Op) (r x : ℕ) → e.doing ≡ t → Wakes t o
    → e.features.event_idx ≡ false → DeviceStands e v → x ≡ set_lane16 (slice_index v.stored (used_from v.frame + 0)) 0 1
    → Goes e (record e { area = with_item e.area 0 x; armed = false; doing = step.Idle }) v o (Store (used_from v.frame + 0) x) r act.Awake
wake_at step.WakeArming e v o r x is wakes idx st word =
    let p : ℕ = used_from v.frame + 0 in
    let n = subst (λ t. DeviceStepStands t e.pieces.items e.addr v.frame v.done v.doing) is st.doing in
    let few : e.bells + 0 ≤ e.given = subst (λ t. e.bells + device_owes t ≤ e.given) is st.signals.few in
    let is_after : device_after v op.Arm (Store p x) r ≡ record v {
      stored = slice_set v.stored p x;
      armed = None;
      doing = now.Idle;
    } =
    ap (λ t. device_after_at t v op.Arm (Store p x) r) n.0 in
    subst (λ (k : Op). Goes e (record e { area = with_item e.area 0 x; armed = false; doing = step.Idle }) v k (Store p x) r act.Awake)
    (sym wakes) record {
      next = subst (λ t. DeviceNextAt t v op.Arm (Store p x)) (sym n.0) (
        refl,
        record { flagged = n.1; place = (let y : used_from v.frame + 0 ≡ used_from v.frame = omega arith in y); word = word },
      );
      stands = subst (λ w. DeviceStands (record e { area = with_item e.area 0 x; armed = false; doing = step.Idle }) w) (sym is_after)
          (stands_with e v 0 x step.Idle false now.Idle None st (omega arith) refl few tt refl);
      is = sym (ap (λ t. device_act_at t v op.Arm (Store p x) r) n.0);
      of_it = subst (λ t. IsDeviceOp (device_begun t) op.Arm) (sym is) refl;
      left = subst (λ t. 0 < device_left t (length e.pieces.items)) (sym is) (let z : 0 < 1 = omega arith in z);
      says = subst (λ t. DeviceSays split_words act.Awake (device_begun t) DeviceOp.idle v.frame v.done
          (device_after v op.Arm (Store p x) r).done) (sym is) (tt, refl, ap (λ (w : DeviceView). w.done) is_after);
      rests = refl;
    }
wake_at step.WakeHearing e v o r x is wakes idx st word =
    let p : ℕ = used_from v.frame + 0 in
    let n = subst (λ t. DeviceStepStands t e.pieces.items e.addr v.frame v.done v.doing) is st.doing in
    let few : e.bells + 0 ≤ e.given = subst (λ t. e.bells + device_owes t ≤ e.given) is st.signals.few in
    let is_after : device_after v op.Hear (Store p x) r ≡ record v {
      stored = slice_set v.stored p x;
      armed = None;
      doing = now.Idle;
    } =
    ap (λ t. device_after_at t v op.Hear (Store p x) r) n.0 in
    subst (λ (k : Op). Goes e (record e { area = with_item e.area 0 x; armed = false; doing = step.Idle }) v k (Store p x) r act.Awake)
    (sym wakes) record {
      next = subst (λ t. DeviceNextAt t v op.Hear (Store p x)) (sym n.0) (
        refl,
        record { flagged = n.1; place = (let y : used_from v.frame + 0 ≡ used_from v.frame = omega arith in y); word = word },
      );
      stands = subst (λ w. DeviceStands (record e { area = with_item e.area 0 x; armed = false; doing = step.Idle }) w) (sym is_after)
          (stands_with e v 0 x step.Idle false now.Idle None st (omega arith) refl few tt refl);
      is = sym (ap (λ t. device_act_at t v op.Hear (Store p x) r) n.0);
      of_it = subst (λ t. IsDeviceOp (device_begun t) op.Hear) (sym is) refl;
      left = subst (λ t. 0 < device_left t (length e.pieces.items)) (sym is) (let z : 0 < 1 = omega arith in z);
      says = subst (λ t. DeviceSays split_words act.Awake (device_begun t) DeviceOp.idle v.frame v.done
          (device_after v op.Hear (Store p x) r).done) (sym is) (tt, refl, ap (λ (w : DeviceView). w.done) is_after);
      rests = refl;
    }
wake_at step.Disarm e v o r x is wakes idx st word =
    let p : ℕ = used_from v.frame + 0 in
    let n : v.doing ≡ now.Idle = subst (λ t. DeviceStepStands t e.pieces.items e.addr v.frame v.done v.doing) is st.doing in
    let on : e.armed ≡ true = subst (λ t. DeviceStepArmed t e.armed) is st.signals.awake in
    let few : e.bells + 0 ≤ e.given = subst (λ t. e.bells + device_owes t ≤ e.given) is st.signals.few in
    let flagged : v.frame.features.event_idx ≡ false = ap (λ (y : Features). y.event_idx) (sym st.made.featured) ∙ idx in
    let is_after : device_after v op.Disarm (Store p x) r ≡ record v {
      stored = slice_set v.stored p x;
      armed = None;
      doing =
          now.Idle;
    } = ap (λ t. device_after_at t (record v { doing = t }) op.Disarm (Store p x) r) n in
    subst (λ (k : Op). Goes e (record e { area = with_item e.area 0 x; armed = false; doing = step.Idle }) v k (Store p x) r act.Awake)
    (sym wakes) record {
      next = subst (λ t. DeviceNextAt t v op.Disarm (Store p x)) (sym n) (
        (length (takes v.done), is_armed e v st on),
        record { flagged = flagged; place = (let y : used_from v.frame + 0 ≡ used_from v.frame = omega arith in y); word = word },
      );
      stands = subst (λ w. DeviceStands (record e { area = with_item e.area 0 x; armed = false; doing = step.Idle }) w) (sym is_after)
          (stands_with e v 0 x step.Idle false now.Idle None st (omega arith) refl few tt refl);
      is = sym (ap (λ t. device_act_at t v op.Disarm (Store p x) r) n);
      of_it = subst (λ t. IsDeviceOp (device_begun t) op.Disarm) (sym is) refl;
      left = subst (λ t. 0 < device_left t (length e.pieces.items)) (sym is) (let z : 0 < 1 = omega arith in z);
      says = subst (λ t. DeviceSays split_words act.Awake (device_begun t) DeviceOp.idle v.frame v.done
          (device_after v op.Disarm (Store p x) r).done) (sym is) (tt, refl, ap (λ (w : DeviceView). w.done) is_after);
      rests = refl;
    }
wake_at _ e v o r x is wakes idx st word = absurd wakes

pub wake_goes : (e : SplitDevice) (v : DeviceView) (o : Op) (r x : ℕ) → Wakes e.doing o → e.features.event_idx ≡ false
    → DeviceStands e v → x ≡ set_lane16 (slice_index e.area.items 0) 0 1
    → Goes e (record e { area = with_item e.area 0 x; armed = false; doing = step.Idle }) v o (Store (used_area e.size) x) r act.Awake
wake_goes e v o r x wakes idx st word =
    subst (λ q. Goes e (record e { area = with_item e.area 0 x; armed = false; doing = step.Idle }) v o (Store q x) r act.Awake)
    (let z : used_from v.frame + 0 ≡ used_area e.size = omega (arith, ap used_area (sym st.made.sized)) in z)
    (wake_at e.doing e v o r x refl wakes idx st
    (word ∙ ap (λ w. set_lane16 w 0 1) (st.area.same 0 (omega (arith, st.made.lawful.some_place)))))
