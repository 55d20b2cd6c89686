-- A control access leaves what a model device holds as it was, seen as a device of a data queue.
use Rattle.std.proofs.Common.{◌≡◌, ◌≢◌, ℕ, ◌+◌, ◌≤◌, ◌<◌, Bool, true, false, None, List, [], ◌∷◌, length, drop, nat_lt, refl, sym, ◌∙◌, ap, subst, arith, inl, inr}
use Rattle.std.specs.List.{All}
use Rattle.vd_model.specs.declared.record.Begun.{Begun}
use Rattle.vd_ring.specs.declared.device.DeviceDone.{DeviceDone}
use Rattle.vd_ring.specs.declared.device.DeviceNow.{DeviceNow}
use Rattle.vd_ring.specs.declared.device.DeviceNow.TheVariants as now
use Rattle.vd_ring.specs.declared.device.DeviceView.{DeviceView}
use Rattle.vd_ring.specs.declared.frame.Frame.{Frame}
use Rattle.vd_ring.specs.declared.frame.Used.{Used}
use Rattle.vd_ring.specs.History.{takes, gives, running, occurs, numbers}
use Rattle.vd_ring.proofs.Counts.{one}
use Rattle.vd_layout.specs.Begun.{DeviceOp}
use Rattle.vd_layout.specs.Device.{DeviceModel}
use Rattle.vd_bus.specs.declared.device.Attached.{Attached}
use Rattle.vd_bus.specs.Device.{IsServing, IsJournalled}
use Rattle.vd_bus.specs.Entries.{Reserved}
use Rattle.vd_models.specs.declared.serving.Stage.{Stage}
use Rattle.vd_models.specs.declared.serving.Stage.TheVariants as stage
use Rattle.vd_models.specs.declared.window.Held.{Held}
use Rattle.vd_models.specs.Holding.{IsHeld, HaveLens}
use Rattle.vd_models.specs.Serving.{State, Serves, all_of}
use Rattle.vd_models.specs.Stages.{StageIs, ArmedIs, OpIs, is_done}

-- nothing was taken or given
pub record IsQuiet (s s' : List DeviceDone) : Type 0 where
  pub takes : Rattle.vd_ring.specs.History.takes s' ≡ Rattle.vd_ring.specs.History.takes s
  pub gives : Rattle.vd_ring.specs.History.gives s' ≡ Rattle.vd_ring.specs.History.gives s
  pub running : Rattle.vd_ring.specs.History.running s' ≡ Rattle.vd_ring.specs.History.running s

serving_same : (bs : List Begun) (by : Attached) (s s' : List DeviceDone) → IsQuiet s s' → IsServing bs by s → IsServing bs by s'
serving_same bs by s s' q v = record {
  as_many = omega (arith, v.as_many, ap length q.takes);
  after = v.after;
  before = omega (arith, v.before, ap length q.gives);
  few = v.few;
  chains = v.chains ∙ ap (drop by.from) (sym q.takes);
  each = v.each;
  given = subst (λ (us : List Used). All (IsJournalled bs by.at by.from) (drop by.from us)) (sym q.gives) v.given;
}

held_same : (bs : List Begun) (by : Attached) (hs : List Held) (f : Frame) (s s' : List DeviceDone) → IsQuiet s s' → IsHeld bs by hs f s
    → IsHeld bs by hs f s'
held_same bs by hs f s s' q i = record {
  spread = λ k. omega (
    arith,
    i.spread k,
    ap (occurs k) q.running,
    ap (λ (us : List Used). occurs k (numbers us)) q.gives,
    ap (λ n. one (nat_lt k n)) (ap length q.takes),
  );
  hand = i.hand ∙ sym q.running;
  as_many = omega (arith, i.as_many, ap length q.takes, ap length q.gives);
  noted = i.noted;
  order = λ io j d below. i.order io j d below ∙ ap (λ (us : List Used). length us + j) (sym q.gives);
}

-- the same journal, with at least the room
pub serves_roomy : {E : Type 0} (e : DeviceModel E) (x : State E) (b : Reserved Begun) (w : DeviceView) → b.items ≡ x.begun.items
    → x.begun.room ≤ b.room → Serves e x w
    → Serves e (record { end = x.end; by = x.by; stage = x.stage; held = x.held; begun = b }) w
serves_roomy e x b w same room v = record {
  stands = v.stands;
  serving = subst (λ (bs : List Begun). IsServing bs x.by w.done) (sym same) v.serving;
  held = subst (λ (bs : List Begun). IsHeld bs x.by x.held.items w.frame w.done) (sym same) v.held;
  stage = subst (λ (bs : List Begun). StageIs x.stage (e.begun x.end) w.frame.features.in_order x.held.items (length bs) (all_of x.by))
      (sym same) v.stage;
  armed = v.armed;
  op = v.op;
  rests = v.rests;
  last = v.last;
  window = v.window;
  room = omega (arith, v.room, room, ap length same);
  small = v.small;
  lens = subst HaveLens (sym same) v.lens;
}

giving_armed : (st : Stage) (b : DeviceOp) (d d' : DeviceNow) (a a' : _) → st ≡ stage.Giving → a' ≡ a → ArmedIs st b d a
    → ArmedIs st b d' a'
giving_armed stage.Giving b d d' a a' is same h = same ∙ h
giving_armed stage.Taking b d d' a a' is same h = same ∙ h
giving_armed stage.Arming b d d' a a' is same h = absurd (cc is)
giving_armed stage.Hearing b d d' a a' is same h = absurd (cc is)
giving_armed stage.Done b d d' a a' is same h = absurd (cc is)

idle_op : (b : DeviceOp) (d : DeviceNow) (shown : Bool) (left : ℕ) → b ≡ DeviceOp.idle → OpIs b d shown left
idle_op b d shown left is = subst (λ o. OpIs o d shown left) (sym is) tt

-- the same at a view in which nothing more was taken or given
pub serves_same : {E : Type 0} (e : DeviceModel E) (x : State E) (w w' : DeviceView) → x.stage ≡ stage.Giving
    → e.begun x.end ≡ DeviceOp.idle
    → e.stands x.end w' → w'.frame ≡ w.frame → w'.armed ≡ w.armed → IsQuiet w.done w'.done → Serves e x w → Serves e x w'
serves_same e x w w' giving idle stands framed armed quiet v = record {
  stands = stands;
  serving = serving_same x.begun.items x.by w.done w'.done quiet v.serving;
  held = subst (λ (f : Frame). IsHeld x.begun.items x.by x.held.items f w'.done) (sym framed)
      (held_same x.begun.items x.by x.held.items w.frame w.done w'.done quiet v.held);
  stage = subst (λ (f : Frame). StageIs x.stage (e.begun x.end) f.features.in_order x.held.items (length x.begun.items) (all_of x.by))
      (sym framed) v.stage;
  armed = giving_armed x.stage (e.begun x.end) w.doing w'.doing w.armed w'.armed giving armed v.armed;
  op = idle_op (e.begun x.end) w'.doing w'.shown (e.left x.end) idle;
  rests = v.rests;
  last = λ d. absurd (cc (ap is_done giving, d));
  window = v.window;
  room = v.room;
  small = v.small;
  lens = v.lens;
}
