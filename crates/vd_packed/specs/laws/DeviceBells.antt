-- The check and the second look: each is next in a view that the end stands for, and the end stands for the view after it.
use Rattle.std.proofs.Common.{◌≡◌, ℕ, ◌+◌, ◌-◌, ◌*◌, ◌<◌, ◌≤◌, Bool, true, false, Option, Some, None, List, length, if◌then◌else◌, refl, sym, ap, ◌∙◌, subst, arith, inl, inr}
use Rattle.vd_bits.specs.Lanes.{lane32}
use Rattle.vd_event.specs.Rings.{wants}
use Rattle.vd_event.specs.declared.rule.EventRule.TheVariants.{Packed}
use Rattle.vd_words.specs.declared.access.Access.TheVariants.{Load}
use Rattle.vd_words.specs.declared.access.Op.TheVariants as op
use Rattle.vd_model.specs.declared.features.Features.{Features}
use Rattle.vd_ring.specs.declared.act.DeviceAct.TheVariants as act
use Rattle.vd_ring.specs.declared.frame.Frame.{Frame}
use Rattle.vd_ring.specs.declared.device.DeviceNow.{DeviceNow}
use Rattle.vd_ring.specs.declared.device.DeviceNow.TheVariants as now
use Rattle.vd_ring.specs.declared.device.DeviceView.{DeviceView}
use Rattle.vd_packed_ring.specs.PackedWords.{is_available}
use Rattle.vd_packed_ring.specs.PackedPositions.{give_position, take_position, later}
use Rattle.vd_packed_ring.specs.PackedSignals.{asks}
use Rattle.vd_packed_ring.specs.PackedDevice.{DeviceNextAt, DeviceNext, device_after_at, device_after, device_act_at, device_wakes, woken_act}
use Rattle.vd_layout.specs.Begun.{DeviceOp, DevicePublished, IsDeviceOp}
use Rattle.vd_layout.specs.Device.{DeviceSays, is_rested}
use Rattle.vd_packed.specs.declared.device.PackedDevice.{PackedDevice}
use Rattle.vd_packed.specs.declared.device.DeviceStep.{DeviceStep}
use Rattle.vd_packed.specs.declared.device.DeviceStep.TheVariants as step
use Rattle.vd_packed.specs.DriverEnd.{packed_words}
use Rattle.vd_packed.specs.DeviceEnd.{DeviceStands, DeviceStepStands, DeviceStepArmed, device_owes, device_begun, device_left, is_resting}
use Rattle.vd_packed.specs.laws.DeviceGiving.{Goes, at_step}
use Rattle.vd_packed.specs.laws.Places.{second_at, shows_available_at}
use Rattle.vd_packed.specs.Seconds.{shows_available}

-- the end after such a step, and the view
stands_with : (e : PackedDevice) (v : DeviceView) (t : DeviceStep) (b x : Bool) (h k : ℕ) (us : List ℕ) (d : DeviceNow) (at : Option ℕ)
    (h' k' n : ℕ) → DeviceStands e v → at ≡ (if b then Some (take_position v.frame v.done) else None) → h ≡ h' → k ≡ k'
    → k + device_owes t ≤ e.given → DeviceStepArmed t b
    → DeviceStepStands t e.pieces.items e.second e.at v.frame v.done d
    → DeviceStands (record e { doing = t; armed = b; heard = h; bells = k })
    (record v { stored = us; doing = d; armed = at; heard = h'; bells = k'; seen = n; shown = x })
stands_with e v t b x h k us d at h' k' n st armed hears rings few awake doing = record {
  made = st.made;
  counts = st.counts;
  holds = st.holds;
  kick = st.kick;
  signals = record { is_armed = armed; hears = hears; rings = rings; few = few; awake = awake };
  doing = doing;
}

pub check_facts : (e : PackedDevice) (v : DeviceView) (n : ℕ) → e.doing ≡ step.Check n → DeviceStands e v
    → (n ≤ e.used_position) × (0 < n) × (n ≤ e.size)
check_facts e v n is st = let s = (at_step e v (step.Check n) is st).0 in
    (omega (arith, s.2, st.counts.used_is), s.3, omega (arith, s.4, st.made.sized))

pub check_goes : (e : PackedDevice) (v : DeviceView) (n r : ℕ) (b : Bool) → e.doing ≡ step.Check n → DeviceStands e v
    → b ≡ wants (Packed e.size) (e.used_position - n) e.used_position (lane32 r 0)
    → Goes e (record e { doing = if b then step.Ring else step.Idle }) v op.Give (Load (2 * e.size)) r act.Moved
check_goes e v n r b is st asked =
    let f : Frame = v.frame in let p : ℕ = 2 * e.size in
    let s = at_step e v (step.Check n) is st in
    let old : ℕ = s.0.0 in let new : ℕ = give_position f v.done in
    let from : e.used_position - n ≡ old = omega (arith, s.0.2, st.counts.used_is) in
    let same : b ≡ asks f old new r =
    asked ∙ (ap (λ k. wants (Packed k) (e.used_position - n) e.used_position (lane32 r 0)) st.made.sized
    ∙ (ap (λ k. wants (Packed f.size) k e.used_position (lane32 r 0)) from
    ∙ ap (λ k. wants (Packed f.size) old k (lane32 r 0)) st.counts.used_is)) in
    let v2 : DeviceView = record v { doing = if asks f old new r then now.Ringing old new else now.Idle } in
    let is_after : device_after v op.Give (Load p) r ≡ v2 = ap (λ t. device_after_at t v op.Give (Load p) r) s.0.1 in
    record {
      of_it = subst (λ t. IsDeviceOp (device_begun t) op.Give) (sym is) refl;
      next = subst (λ t. DeviceNextAt t v op.Give (Load p)) (sym s.0.1) (ap (λ k. 2 * k) st.made.sized);
      stands = subst (λ w. DeviceStands (record e { doing = if b then step.Ring else step.Idle }) w) (sym is_after)
          (stands_at b (asks f old new r) same);
      is = sym (ap (λ t. device_act_at t v op.Give (Load p) r) s.0.1);
      left = subst (λ t. device_left (if b then step.Ring else step.Idle) (length e.pieces.items) < device_left t
          (length e.pieces.items)) (sym is) (nearer b);
      says = subst (λ t. DeviceSays packed_words act.Moved (device_begun t) (device_begun (if b then step.Ring else step.Idle)) f v.done
          (device_after v op.Give (Load p) r).done) (sym is) (published b, ap (λ (w : DeviceView). w.done) is_after);
      rests = awake b;
    }
  where
    nearer : (b : Bool) → device_left (if b then step.Ring else step.Idle) (length e.pieces.items) < 2
    nearer true = omega arith
    nearer false = omega arith

    awake : (b : Bool) → is_resting (if b then step.Ring else step.Idle) ≡ false
    awake true = refl
    awake false = refl

    published : (b : Bool) → DevicePublished (device_begun (if b then step.Ring else step.Idle))
    published true = inr refl
    published false = inl refl

    stands_at : (b c : Bool) → b ≡ c
        → DeviceStands (record e { doing = if b then step.Ring else step.Idle })
        (record v { doing = if c then now.Ringing (at_step e v (step.Check n) is st).0.0 (give_position v.frame v.done) else now.Idle })
    stands_at true true same = let s = at_step e v (step.Check n) is st in
        stands_with e v step.Ring e.armed v.shown e.heard e.bells v.stored (now.Ringing s.0.0 (give_position v.frame v.done)) v.armed
        v.heard v.bells v.seen st st.signals.is_armed st.signals.hears st.signals.rings s.2 s.1 (s.0.0, give_position v.frame v.done, refl)
    stands_at false false same = let s = at_step e v (step.Check n) is st in
        stands_with e v step.Idle e.armed v.shown e.heard e.bells v.stored now.Idle v.armed v.heard v.bells v.seen st
        st.signals.is_armed st.signals.hears st.signals.rings (omega (arith, s.2)) tt refl
    stands_at true false same = absurd (cc same)
    stands_at false true same = absurd (cc same)

-- ---- the second look

idx_is : (e : PackedDevice) (v : DeviceView) → DeviceStands e v → e.features.event_idx ≡ v.frame.features.event_idx
idx_is e v st = ap (λ (y : Features). y.event_idx) st.made.featured

pub again_next : (e : PackedDevice) (v : DeviceView) → e.doing ≡ step.LookAgain → DeviceStands e v
    → DeviceNext v op.Arm (Load (2 * e.next.place + 1))
again_next e v is st = subst (λ t. DeviceNextAt t v op.Arm (Load (2 * e.next.place + 1))) (sym (at_step e v step.LookAgain is st).0)
    (second_at e.next v.frame.size (take_position v.frame v.done) st.counts.next_at)

pub armed_goes : (e : PackedDevice) (v : DeviceView) (w : ℕ) → e.doing ≡ step.LookAgain → DeviceStands e v
    → shows_available e.next.wrap w ≡ false
    → Goes e (record e { doing = step.Idle }) v op.Arm (Load (2 * e.next.place + 1)) w act.Armed
armed_goes e v w is st off =
    let f : Frame = v.frame in let q : ℕ = take_position f v.done in let p : ℕ = 2 * e.next.place + 1 in
    let s = at_step e v step.LookAgain is st in
    let none : is_available f.size q w ≡ false = sym (shows_available_at e.next f.size q w st.counts.next_at) ∙ off in
    let v2 : DeviceView = record v { seen = later v.seen q; shown = false; doing = now.Idle } in
    let is_after : device_after v op.Arm (Load p) w ≡ v2 = ap (λ t. device_after_at t v op.Arm (Load p) w) s.0
    ∙ ap (λ (b : Bool). if b then record v {
      seen = later v.seen (q + 1);
      shown = true;
      armed = None;
      doing =
          device_wakes f op.Arm;
    } else v2) none in
    record {
      of_it = subst (λ t. IsDeviceOp (device_begun t) op.Arm) (sym is) refl;
      next = again_next e v is st;
      stands = subst (λ t. DeviceStands (record e { doing = step.Idle }) t) (sym is_after)
          (stands_with e v step.Idle e.armed false e.heard e.bells v.stored now.Idle v.armed v.heard v.bells
          (later v.seen q) st st.signals.is_armed st.signals.hears st.signals.rings s.2 tt refl);
      is = sym (ap (λ t. device_act_at t v op.Arm (Load p) w) s.0 ∙ ap (λ (b : Bool). if b then woken_act f else act.Armed) none);
      left = subst (λ t. 0 < device_left t (length e.pieces.items)) (sym is) (let z : 0 < 2 = omega arith in z);
      says = subst (λ t. DeviceSays packed_words act.Armed (device_begun t) DeviceOp.idle f v.done
          (device_after v op.Arm (Load p) w).done) (sym is) (refl, refl, ap (λ (u : DeviceView). u.done) is_after);
      rests = refl;
    }

-- what comes after a side woke: with EVENT_IDX nothing
abbrev pub woken_step : Bool → DeviceStep → DeviceStep
woken_step event_idx t = if event_idx then step.Idle else t

pub awake_goes : (e : PackedDevice) (v : DeviceView) (w : ℕ) → e.doing ≡ step.LookAgain → DeviceStands e v
    → shows_available e.next.wrap w ≡ true
    → (b : Bool) → e.features.event_idx ≡ b → Goes e (record e { armed = false; doing = woken_step b step.WakeArming }) v op.Arm
    (Load (2 * e.next.place + 1)) w (if b then act.Awake else act.Moved)
awake_goes e v w is st on b idx =
    let f : Frame = v.frame in let q : ℕ = take_position f v.done in let p : ℕ = 2 * e.next.place + 1 in
    let s = at_step e v step.LookAgain is st in
    let shows : is_available f.size q w ≡ true = sym (shows_available_at e.next f.size q w st.counts.next_at) ∙ on in
    let rule : f.features.event_idx ≡ b = sym (idx_is e v st) ∙ idx in
    let v2 : DeviceView = record v {
      seen = later v.seen (q + 1);
      shown = true;
      armed = None;
      doing =
          if b then now.Idle else now.Disarming op.Arm;
    } in
    let is_after : device_after v op.Arm (Load p) w ≡ v2 = ap (λ t. device_after_at t v op.Arm (Load p) w) s.0
    ∙ (ap (λ (i : Bool). if i then record v {
      seen = later v.seen (q + 1);
      shown = true;
      armed = None;
      doing =
          device_wakes f op.Arm;
    } else record v { seen = later v.seen q; shown = false; doing = now.Idle }) shows
    ∙ ap (λ (i : Bool). record v {
      seen = later v.seen (q + 1);
      shown = true;
      armed = None;
      doing =
          if i then now.Idle else now.Disarming op.Arm;
    }) rule) in
    record {
      of_it = subst (λ t. IsDeviceOp (device_begun t) op.Arm) (sym is) refl;
      next = again_next e v is st;
      stands = subst (λ t. DeviceStands (record e { armed = false; doing = woken_step b step.WakeArming }) t) (sym is_after)
          (stands_at b rule s.2);
      is = sym (ap (λ t. device_act_at t v op.Arm (Load p) w) s.0
          ∙ (ap (λ (i : Bool). if i then woken_act f else act.Armed) shows ∙ ap (λ (i : Bool). if i then act.Awake else act.Moved) rule));
      left = subst (λ t. device_left (woken_step b step.WakeArming) (length e.pieces.items) < device_left t (length e.pieces.items))
          (sym is) (nearer b);
      says = subst (λ t. DeviceSays packed_words (if b then act.Awake else act.Moved) (device_begun t)
          (device_begun (woken_step b step.WakeArming)) f v.done (device_after v op.Arm (Load p) w).done) (sym is)
          (subst (λ (u : DeviceView). DeviceSays packed_words (if b then act.Awake else act.Moved) DeviceOp.arm
          (device_begun (woken_step b step.WakeArming)) f v.done u.done) (sym is_after) (told b));
      rests = awake b;
    }
  where
    nearer : (b : Bool) → device_left (woken_step b step.WakeArming) (length e.pieces.items) < 2
    nearer true = omega arith
    nearer false = omega arith

    awake : (b : Bool) → is_resting (woken_step b step.WakeArming) ≡ is_rested (if b then act.Awake else act.Moved)
    awake true = refl
    awake false = refl

    told : (b : Bool) → DeviceSays packed_words (if b then act.Awake else act.Moved) DeviceOp.arm
        (device_begun (woken_step b step.WakeArming)) v.frame v.done v.done
    told true = (tt, refl, refl)
    told false = (refl, refl)

    stands_at : (b : Bool) → v.frame.features.event_idx ≡ b → e.bells + 0 ≤ e.given
        → DeviceStands (record e { armed = false; doing = woken_step b step.WakeArming })
        (record v {
          seen = later v.seen (take_position v.frame v.done + 1);
          shown = true;
          armed = None;
          doing =
              if b then now.Idle else now.Disarming op.Arm;
        })
    stands_at true rule few = stands_with e v step.Idle false true e.heard e.bells v.stored now.Idle None v.heard v.bells
        (later v.seen (take_position v.frame v.done + 1)) st refl st.signals.hears st.signals.rings few tt refl
    stands_at false rule few = stands_with e v step.WakeArming false true e.heard e.bells v.stored
        (now.Disarming op.Arm) None v.heard v.bells (later v.seen (take_position v.frame v.done + 1)) st refl st.signals.hears
        st.signals.rings few refl (refl, rule)
