-- The stores of event words: each is next in a view that the end stands for, and the end stands for the view after it.
use Rattle.std.proofs.Common.{◌≡◌, ℕ, ◌+◌, ◌*◌, ◌/◌, ◌%◌, ◌<◌, ◌≤◌, Bool, true, false, Option, Some, None, List, length, if◌then◌else◌, slice_index, slice_set, refl, sym, ap, ◌∙◌, subst, arith}
use Rattle.std.proofs.lemmas.List.{length-set}
use Rattle.std.specs.Vec.{with_item}
use Rattle.vd_bits.specs.Lanes.{set_lane16}
use Rattle.vd_words.specs.declared.access.Access.TheVariants.{Store}
use Rattle.vd_words.specs.declared.access.Op.{Op}
use Rattle.vd_words.specs.declared.access.Op.TheVariants as op
use Rattle.vd_model.specs.declared.features.Features.{Features}
use Rattle.vd_ring.specs.declared.act.DriverAct.TheVariants as act
use Rattle.vd_ring.specs.declared.frame.Frame.{Frame}
use Rattle.vd_ring.specs.declared.driver.DriverNow.{DriverNow}
use Rattle.vd_ring.specs.declared.driver.DriverNow.TheVariants as now
use Rattle.vd_ring.specs.declared.driver.DriverView.{DriverView}
use Rattle.vd_ring.specs.History.{collects}
use Rattle.vd_split_ring.specs.SplitWords.{avail_from, kick_at, width, lane_word, with_lane, driver_event_lane, armed_value}
use Rattle.vd_split_ring.specs.SplitDriver.{DriverNextAt, driver_after_at, driver_after, driver_act_at}
use Rattle.vd_split_ring.proofs.Areas.{areas, lane_inside}
use Rattle.vd_split_ring.proofs.Bells.{driver_event_low}
use Rattle.vd_layout.specs.Begun.{IsDriverOp, DriverOp}
use Rattle.vd_layout.specs.Driver.{DriverSays}
use Rattle.vd_split.specs.declared.driver.SplitDriver.{SplitDriver}
use Rattle.vd_split.specs.declared.driver.DriverStep.{DriverStep}
use Rattle.vd_split.specs.declared.driver.DriverStep.TheVariants as step
use Rattle.vd_split.specs.DriverEnd.{DriverStands, DriverStepStands, DriverStepArmed, driver_owes, driver_begun, driver_left, Wakes}
use Rattle.vd_split.specs.laws.DriverEnd.{not_armed, is_armed}
use Rattle.vd_split.specs.laws.DriverSteps.{Goes}
use Rattle.vd_split.specs.Parts.{Copies, own_lane, own_value, all_words}
use Rattle.vd_split.specs.laws.Plans.{copies_set}

-- the end after such a step, and the view
pub stands_with : (e g : SplitDriver) (v : DriverView) (t : DriverStep) (b x : Bool) (h k : ℕ) (stored : List ℕ) (d : DriverNow)
    (at : Option ℕ) (h' k' n : ℕ) (x' : Bool) → DriverStands e v
    → Copies g.area.items (avail_from v.frame) ((v.frame.size + 6) / 4) stored → length stored ≡ width v.frame
    → at ≡ (if b then Some (length (collects v.done)) else None) → h ≡ h' → k ≡ k' → x ≡ x' → k + driver_owes t ≤ e.offered
    → DriverStepArmed t b → DriverStepStands t e.pieces.items v.frame v.done d
    → DriverStands (record e { area = g.area; doing = t; armed = b; heard = h; bells = k; shown = x })
    (record v { stored = stored; doing = d; armed = at; heard = h'; bells = k'; seen = n; shown = x' })
stands_with e g v t b x h k stored d at h' k' n x' st area wide armed hears rings shown few awake doing = record {
  made = st.made;
  counts = st.counts;
  holds = st.holds;
  area = area;
  wide = wide;
  shown = shown;
  kick = st.kick;
  signals = record { is_armed = armed; hears = hears; rings = rings; few = few; awake = awake };
  doing = doing;
}

-- ---- the place of the bell

pub kick_is : (n k : ℕ) (fs : Features) (control : Bool) (f : Frame) → n ≡ f.size → fs ≡ f.features → f.control ≡ control
    → k + 2 ≡ all_words n fs.indirect control → k ≡ kick_at f
kick_is n k fs control f size features same is =
    let w : all_words n fs.indirect control ≡ width f = ap (λ m. all_words m fs.indirect control) size
    ∙ ap (λ (y : Features). all_words f.size y.indirect control) features
    ∙ ap (λ (b : Bool). all_words f.size f.features.indirect b) (sym same) in
    omega (arith, is, w)

-- ---- arming

arm_at : (e : SplitDriver) (v : DriverView) (i r x : ℕ) → e.doing ≡ step.Arm → DriverStands e v → i ≡ driver_event_lane v.frame / 4
    → x ≡ with_lane v.frame v.stored (driver_event_lane v.frame) (armed_value v.frame (length (collects v.done)))
    → Goes e (record e { area = with_item e.area i x; armed = true; doing = step.LookAgain }) v op.Arm
    (Store (avail_from v.frame + i) x) r act.Moved
arm_at e v i r x is st here word =
    let f : Frame = v.frame in
    let p : ℕ = avail_from f + i in
    let n : v.doing ≡ now.Idle = subst (λ t. DriverStepStands t e.pieces.items f v.done v.doing) is st.doing in
    let off : e.armed ≡ false = subst (λ t. DriverStepArmed t e.armed) is st.signals.awake in
    let few : e.bells + 0 ≤ e.offered = subst (λ t. e.bells + driver_owes t ≤ e.offered) is st.signals.few in
    let at : p ≡ lane_word f (driver_event_lane f) = ap (λ k. avail_from f + k) here in
    let low = lane_inside f (driver_event_lane f) (driver_event_low f) in
    let is_after : driver_after v op.Arm (Store p x) r ≡ record v {
      stored = slice_set v.stored p x;
      armed =
          Some (length (collects v.done));
      doing = now.Arming;
    } = ap (λ t. driver_after_at t v op.Arm (Store p x) r) n in
    let e' : SplitDriver = record e { area = with_item e.area i x; armed = true; doing = step.LookAgain } in
    record {
      next = subst (λ t. DriverNextAt t v op.Arm (Store p x)) (sym n) (not_armed e v st off, record { place = at; word = word });
      stands = subst (λ w. DriverStands e' w) (sym is_after)
          (stands_with e (record e { area = with_item e.area i x }) v step.LookAgain true e.shown e.heard e.bells
          (slice_set v.stored p x) now.Arming (Some (length (collects v.done))) v.heard v.bells v.seen v.shown st
          (copies_set (avail_from f) ((f.size + 6) / 4) e.area.items v.stored i x st.area (omega (arith, low, at))
          (omega (arith, st.wide, areas f, low, at))) (length-set v.stored p x ∙ st.wide) refl st.signals.hears st.signals.rings
          st.shown few refl refl);
      is = sym (ap (λ t. driver_act_at t v op.Arm (Store p x) r) n);
      of_it = subst (λ t. IsDriverOp (driver_begun t e.pieces.items) op.Arm) (sym is) refl;
      left = subst (λ t. 2 < driver_left t e.pieces.items) (sym is) (let z : 2 < 3 = omega arith in z);
      says = subst (λ t. DriverSays act.Moved (driver_begun t e.pieces.items) DriverOp.arm f v.done
          (driver_after v op.Arm (Store p x) r).done) (sym is) (refl, ap (λ (w : DriverView). w.done) is_after);
    }

pub arm_goes : (e : SplitDriver) (v : DriverView) (r x j y : ℕ) → e.doing ≡ step.Arm → DriverStands e v
    → j ≡ own_lane e.size e.features.event_idx → y ≡ own_value e.collected e.features.event_idx
    → x ≡ set_lane16 (slice_index e.area.items (j / 4)) (j % 4) y
    → Goes e (record e { area = with_item e.area (j / 4) x; armed = true; doing = step.LookAgain }) v op.Arm
    (Store (2 * e.size + j / 4) x) r act.Moved
arm_goes e v r x j y is st lane value word =
    let f : Frame = v.frame in
    let k : ℕ = driver_event_lane f in
    let here : j ≡ k = lane ∙ ap (λ m. own_lane m e.features.event_idx) st.made.sized
    ∙ ap (λ (z : Features). own_lane f.size z.event_idx) st.made.featured in
    let low = lane_inside f k (driver_event_low f) in
    let held : y ≡ armed_value f (length (collects v.done)) = value ∙ ap (λ m. own_value m e.features.event_idx) st.counts.collects
    ∙ ap (λ (z : Features). own_value (length (collects v.done)) z.event_idx) st.made.featured in
    let old : slice_index e.area.items (j / 4) ≡ slice_index v.stored (lane_word f k) = st.area.same (j / 4) (omega (arith, low, here))
    ∙ ap (λ m. slice_index v.stored (avail_from f + m / 4)) here in
    let whole : x ≡ with_lane f v.stored k (armed_value f (length (collects v.done))) = word ∙ ap (λ w. set_lane16 w (j % 4) y) old
    ∙ ap (λ m. set_lane16 (slice_index v.stored (lane_word f k)) (m % 4) y) here
    ∙ ap (λ m. set_lane16 (slice_index v.stored (lane_word f k)) (k % 4) m) held in
    subst (λ n. Goes e (record e { area = with_item e.area (j / 4) x; armed = true; doing = step.LookAgain }) v op.Arm
    (Store (2 * n + j / 4) x) r act.Moved) (sym st.made.sized) (arm_at e v (j / 4) r x is st (ap (λ m. m / 4) here) whole)

pub own_lane_below : (e : SplitDriver) (v : DriverView) (j : ℕ) → DriverStands e v → j ≡ own_lane e.size e.features.event_idx
    → j / 4 < length e.area.items
own_lane_below e v j st lane =
    let f : Frame = v.frame in
    let here : j ≡ driver_event_lane f = lane ∙ ap (λ m. own_lane m e.features.event_idx) st.made.sized
    ∙ ap (λ (z : Features). own_lane f.size z.event_idx) st.made.featured in
    omega (arith, lane_inside f (driver_event_lane f) (driver_event_low f), here, st.area.as_many)

-- ---- the disarming store

wake_at : (t : DriverStep) (e : SplitDriver) (v : DriverView) (o : Op) (r x : ℕ) → e.doing ≡ t → Wakes t o
    → e.features.event_idx ≡ false → DriverStands e v → x ≡ with_lane v.frame v.stored 0 1
    → Goes e (record e { area = with_item e.area 0 x; armed = false; doing = step.Idle }) v o (Store (avail_from v.frame + 0) x) r act.Awake
wake_at step.WakeArming e v o r x is wakes idx st word =
    let p : ℕ = avail_from v.frame + 0 in
    let n = subst (λ t. DriverStepStands t e.pieces.items v.frame v.done v.doing) is st.doing in
    let few : e.bells + 0 ≤ e.offered = subst (λ t. e.bells + driver_owes t ≤ e.offered) is st.signals.few in
    let is_after : driver_after v op.Arm (Store p x) r ≡ record v {
      stored = slice_set v.stored p x;
      armed = None;
      doing = now.Idle;
    } =
    ap (λ t. driver_after_at t v op.Arm (Store p x) r) n.0 in
    subst (λ (k : Op). Goes e (record e { area = with_item e.area 0 x; armed = false; doing = step.Idle }) v k (Store p x) r act.Awake)
    (sym wakes) record {
      next = subst (λ t. DriverNextAt t v op.Arm (Store p x)) (sym n.0) (refl, record { flagged = n.1; place = refl; word = word });
      stands = subst (λ w. DriverStands (record e { area = with_item e.area 0 x; armed = false; doing = step.Idle }) w) (sym is_after)
          (stands_with e (record e { area = with_item e.area 0 x }) v step.Idle false e.shown e.heard e.bells
          (slice_set v.stored p x) now.Idle None v.heard v.bells v.seen v.shown st
          (copies_set (avail_from v.frame) ((v.frame.size + 6) / 4) e.area.items v.stored 0 x st.area (omega arith)
          (omega (arith, st.wide, areas v.frame))) (length-set v.stored p x ∙ st.wide) refl st.signals.hears
          st.signals.rings st.shown few tt refl);
      is = sym (ap (λ t. driver_act_at t v op.Arm (Store p x) r) n.0);
      of_it = subst (λ t. IsDriverOp (driver_begun t e.pieces.items) op.Arm) (sym is) refl;
      left = subst (λ t. 0 < driver_left t e.pieces.items) (sym is) (let z : 0 < 1 = omega arith in z);
      says = subst (λ t. DriverSays act.Awake (driver_begun t e.pieces.items) DriverOp.idle v.frame v.done
          (driver_after v op.Arm (Store p x) r).done) (sym is) (tt, refl, ap (λ (w : DriverView). w.done) is_after);
    }
wake_at step.WakeHearing e v o r x is wakes idx st word =
    let p : ℕ = avail_from v.frame + 0 in
    let n = subst (λ t. DriverStepStands t e.pieces.items v.frame v.done v.doing) is st.doing in
    let few : e.bells + 0 ≤ e.offered = subst (λ t. e.bells + driver_owes t ≤ e.offered) is st.signals.few in
    let is_after : driver_after v op.Hear (Store p x) r ≡ record v {
      stored = slice_set v.stored p x;
      armed = None;
      doing = now.Idle;
    } =
    ap (λ t. driver_after_at t v op.Hear (Store p x) r) n.0 in
    subst (λ (k : Op). Goes e (record e { area = with_item e.area 0 x; armed = false; doing = step.Idle }) v k (Store p x) r act.Awake)
    (sym wakes) record {
      next = subst (λ t. DriverNextAt t v op.Hear (Store p x)) (sym n.0) (refl, record { flagged = n.1; place = refl; word = word });
      stands = subst (λ w. DriverStands (record e { area = with_item e.area 0 x; armed = false; doing = step.Idle }) w) (sym is_after)
          (stands_with e (record e { area = with_item e.area 0 x }) v step.Idle false e.shown e.heard e.bells
          (slice_set v.stored p x) now.Idle None v.heard v.bells v.seen v.shown st
          (copies_set (avail_from v.frame) ((v.frame.size + 6) / 4) e.area.items v.stored 0 x st.area (omega arith)
          (omega (arith, st.wide, areas v.frame))) (length-set v.stored p x ∙ st.wide) refl st.signals.hears
          st.signals.rings st.shown few tt refl);
      is = sym (ap (λ t. driver_act_at t v op.Hear (Store p x) r) n.0);
      of_it = subst (λ t. IsDriverOp (driver_begun t e.pieces.items) op.Hear) (sym is) refl;
      left = subst (λ t. 0 < driver_left t e.pieces.items) (sym is) (let z : 0 < 1 = omega arith in z);
      says = subst (λ t. DriverSays act.Awake (driver_begun t e.pieces.items) DriverOp.idle v.frame v.done
          (driver_after v op.Hear (Store p x) r).done) (sym is) (tt, refl, ap (λ (w : DriverView). w.done) is_after);
    }
wake_at step.Disarm e v o r x is wakes idx st word =
    let p : ℕ = avail_from v.frame + 0 in
    let n : v.doing ≡ now.Idle = subst (λ t. DriverStepStands t e.pieces.items v.frame v.done v.doing) is st.doing in
    let on : e.armed ≡ true = subst (λ t. DriverStepArmed t e.armed) is st.signals.awake in
    let few : e.bells + 0 ≤ e.offered = subst (λ t. e.bells + driver_owes t ≤ e.offered) is st.signals.few in
    let flagged : v.frame.features.event_idx ≡ false = ap (λ (y : Features). y.event_idx) (sym st.made.featured) ∙ idx in
    let is_after : driver_after v op.Disarm (Store p x) r ≡ record v {
      stored = slice_set v.stored p x;
      armed = None;
      doing =
          now.Idle;
    } = ap (λ t. driver_after_at t (record v { doing = t }) op.Disarm (Store p x) r) n in
    subst (λ (k : Op). Goes e (record e { area = with_item e.area 0 x; armed = false; doing = step.Idle }) v k (Store p x) r act.Awake)
    (sym wakes) record {
      next = subst (λ t. DriverNextAt t v op.Disarm (Store p x)) (sym n) (
        (length (collects v.done), is_armed e v st on),
        record { flagged = flagged; place = refl; word = word },
      );
      stands = subst (λ w. DriverStands (record e { area = with_item e.area 0 x; armed = false; doing = step.Idle }) w) (sym is_after)
          (stands_with e (record e { area = with_item e.area 0 x }) v step.Idle false e.shown e.heard e.bells
          (slice_set v.stored p x) now.Idle None v.heard v.bells v.seen v.shown st
          (copies_set (avail_from v.frame) ((v.frame.size + 6) / 4) e.area.items v.stored 0 x st.area (omega arith)
          (omega (arith, st.wide, areas v.frame))) (length-set v.stored p x ∙ st.wide) refl st.signals.hears st.signals.rings
          st.shown few tt refl);
      is = sym (ap (λ t. driver_act_at t v op.Disarm (Store p x) r) n);
      of_it = subst (λ t. IsDriverOp (driver_begun t e.pieces.items) op.Disarm) (sym is) refl;
      left = subst (λ t. 0 < driver_left t e.pieces.items) (sym is) (let z : 0 < 1 = omega arith in z);
      says = subst (λ t. DriverSays act.Awake (driver_begun t e.pieces.items) DriverOp.idle v.frame v.done
          (driver_after v op.Disarm (Store p x) r).done) (sym is) (tt, refl, ap (λ (w : DriverView). w.done) is_after);
    }
wake_at _ e v o r x is wakes idx st word = absurd wakes

pub wake_goes : (e : SplitDriver) (v : DriverView) (o : Op) (r x : ℕ) → Wakes e.doing o → e.features.event_idx ≡ false
    → DriverStands e v → x ≡ set_lane16 (slice_index e.area.items 0) 0 1
    → Goes e (record e { area = with_item e.area 0 x; armed = false; doing = step.Idle }) v o (Store (2 * e.size) x) r act.Awake
wake_goes e v o r x wakes idx st word =
    subst (λ q. Goes e (record e { area = with_item e.area 0 x; armed = false; doing = step.Idle }) v o (Store q x) r act.Awake)
    (let z : avail_from v.frame + 0 ≡ 2 * e.size = omega (arith, st.made.sized) in z)
    (wake_at e.doing e v o r x refl wakes idx st
    (word ∙ ap (λ w. set_lane16 w 0 1) (st.area.same 0 (omega (arith, st.made.lawful.some_place)))))
