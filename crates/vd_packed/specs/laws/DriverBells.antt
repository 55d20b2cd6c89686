-- The step of a check: it is next in a view that the end stands for, and the end stands for the view after it.
use Rattle.std.proofs.Common.{◌≡◌, ℕ, ◌+◌, ◌-◌, ◌*◌, ◌<◌, ◌≤◌, Bool, true, false, Option, Some, None, List, if◌then◌else◌, refl, sym, ap, ◌∙◌, subst, arith, inl, inr}
use Rattle.vd_bits.specs.Lanes.{lane32}
use Rattle.vd_event.specs.Rings.{wants}
use Rattle.vd_event.specs.declared.rule.EventRule.TheVariants.{Packed}
use Rattle.vd_words.specs.declared.access.Access.TheVariants.{Load}
use Rattle.vd_words.specs.declared.access.Op.TheVariants as op
use Rattle.vd_ring.specs.declared.act.DriverAct.TheVariants as act
use Rattle.vd_ring.specs.declared.frame.Frame.{Frame}
use Rattle.vd_ring.specs.declared.driver.DriverNow.{DriverNow}
use Rattle.vd_ring.specs.declared.driver.DriverNow.TheVariants as now
use Rattle.vd_ring.specs.declared.driver.DriverView.{DriverView}
use Rattle.vd_packed_ring.specs.PackedPositions.{offer_position, collect_position}
use Rattle.vd_packed_ring.specs.PackedSignals.{asks}
use Rattle.vd_packed_ring.specs.PackedDriver.{DriverNextAt, driver_after_at, driver_after, driver_act_at}
use Rattle.vd_layout.specs.Begun.{DriverPublished, IsDriverOp}
use Rattle.vd_layout.specs.Driver.{DriverSays}
use Rattle.vd_packed.specs.declared.driver.PackedDriver.{PackedDriver}
use Rattle.vd_packed.specs.declared.driver.DriverStep.{DriverStep}
use Rattle.vd_packed.specs.declared.driver.DriverStep.TheVariants as step
use Rattle.vd_packed.specs.DriverEnd.{DriverStands, DriverStepStands, DriverStepArmed, driver_owes, driver_begun, driver_left}
use Rattle.vd_packed.specs.laws.DriverSteps.{Goes}

-- the end after such a step, and the view
stands_with : (e : PackedDriver) (v : DriverView) (t : DriverStep) (b x : Bool) (h k : ℕ) (us : List ℕ) (d : DriverNow) (at : Option ℕ)
    (h' k' n : ℕ) → DriverStands e v → at ≡ (if b then Some (collect_position v.frame v.done) else None) → h ≡ h' → k ≡ k'
    → k + driver_owes t ≤ e.offered → DriverStepArmed t b
    → DriverStepStands t e.pieces.items e.at v.frame v.done d
    → DriverStands (record e { doing = t; armed = b; heard = h; bells = k })
    (record v { stored = us; doing = d; armed = at; heard = h'; bells = k'; seen = n; shown = x })
stands_with e v t b x h k us d at h' k' n st armed hears rings few awake doing = record {
  made = st.made;
  counts = st.counts;
  holds = st.holds;
  kick = st.kick;
  signals = record { is_armed = armed; hears = hears; rings = rings; few = few; awake = awake };
  doing = doing;
}

-- what a step's stage says
at_step : (e : PackedDriver) (v : DriverView) (t : DriverStep) → e.doing ≡ t → DriverStands e v
    → DriverStepStands t e.pieces.items e.at v.frame v.done v.doing × DriverStepArmed t e.armed × (e.bells + driver_owes t ≤ e.offered)
at_step e v t is st = (
  subst (λ s. DriverStepStands s e.pieces.items e.at v.frame v.done v.doing) is st.doing,
  subst (λ s. DriverStepArmed s e.armed) is st.signals.awake,
  subst (λ s. e.bells + driver_owes s ≤ e.offered) is st.signals.few,
)

pub check_facts : (e : PackedDriver) (v : DriverView) (n : ℕ) → e.doing ≡ step.Check n → DriverStands e v
    → (n ≤ e.next_position) × (0 < n) × (n ≤ e.size)
check_facts e v n is st = let s = (at_step e v (step.Check n) is st).0 in
    (omega (arith, s.2, st.counts.next_is), s.3, omega (arith, s.4, st.made.sized))

pub check_goes : (e : PackedDriver) (v : DriverView) (n r : ℕ) (b : Bool) → e.doing ≡ step.Check n → DriverStands e v
    → b ≡ wants (Packed e.size) (e.next_position - n) e.next_position (lane32 r 0)
    → Goes e (record e { doing = if b then step.Ring else step.Idle }) v op.Offer (Load (2 * e.size + 1)) r act.Moved
check_goes e v n r b is st asked =
    let f : Frame = v.frame in let p : ℕ = 2 * e.size + 1 in
    let s = at_step e v (step.Check n) is st in
    let old : ℕ = s.0.0 in let new : ℕ = offer_position f v.done in
    let from : e.next_position - n ≡ old = omega (arith, s.0.2, st.counts.next_is) in
    let same : b ≡ asks f old new r =
    asked ∙ (ap (λ k. wants (Packed k) (e.next_position - n) e.next_position (lane32 r 0)) st.made.sized
    ∙ (ap (λ k. wants (Packed f.size) k e.next_position (lane32 r 0)) from
    ∙ ap (λ k. wants (Packed f.size) old k (lane32 r 0)) st.counts.next_is)) in
    let v2 : DriverView = record v { doing = if asks f old new r then now.Ringing old new else now.Idle } in
    let is_after : driver_after v op.Offer (Load p) r ≡ v2 = ap (λ t. driver_after_at t v op.Offer (Load p) r) s.0.1 in
    record {
      of_it = subst (λ t. IsDriverOp (driver_begun t e.pieces.items) op.Offer) (sym is) refl;
      next = subst (λ t. DriverNextAt t v op.Offer (Load p)) (sym s.0.1) (ap (λ k. 2 * k + 1) st.made.sized);
      stands = subst (λ w. DriverStands (record e { doing = if b then step.Ring else step.Idle }) w) (sym is_after)
          (stands_at b (asks f old new r) same);
      is = sym (ap (λ t. driver_act_at t v op.Offer (Load p) r) s.0.1);
      left = subst (λ t. driver_left (if b then step.Ring else step.Idle) e.pieces.items < driver_left t e.pieces.items) (sym is)
          (nearer b);
      says = subst (λ t. DriverSays act.Moved (driver_begun t e.pieces.items)
          (driver_begun (if b then step.Ring else step.Idle) e.pieces.items) f v.done (driver_after v op.Offer (Load p) r).done)
          (sym is) (published b, ap (λ (w : DriverView). w.done) is_after);
    }
  where
    nearer : (b : Bool) → driver_left (if b then step.Ring else step.Idle) e.pieces.items < 2
    nearer true = omega arith
    nearer false = omega arith

    published : (b : Bool) → DriverPublished (driver_begun (if b then step.Ring else step.Idle) e.pieces.items)
    published true = inr refl
    published false = inl refl

    stands_at : (b c : Bool) → b ≡ c
        → DriverStands (record e { doing = if b then step.Ring else step.Idle })
        (record v { doing = if c then now.Ringing (at_step e v (step.Check n) is st).0.0 (offer_position v.frame v.done) else now.Idle })
    stands_at true true same = let s = at_step e v (step.Check n) is st in
        stands_with e v step.Ring e.armed v.shown e.heard e.bells v.stored (now.Ringing s.0.0 (offer_position v.frame v.done)) v.armed
        v.heard v.bells v.seen st st.signals.is_armed st.signals.hears st.signals.rings s.2 s.1 (s.0.0, offer_position v.frame v.done, refl)
    stands_at false false same = let s = at_step e v (step.Check n) is st in
        stands_with e v step.Idle e.armed v.shown e.heard e.bells v.stored now.Idle v.armed v.heard v.bells v.seen st
        st.signals.is_armed st.signals.hears st.signals.rings (omega (arith, s.2)) tt refl
    stands_at true false same = absurd (cc same)
    stands_at false true same = absurd (cc same)
