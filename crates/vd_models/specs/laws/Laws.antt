-- A model device's laws.
use Rattle.std.specs.Prelude.{◌≡◌, ℕ, ◌+◌, ◌<◌, Bool, true, Option, Some, IsSome, List, [], length, if◌then◌else◌}
use Rattle.std.proofs.Common.{refl, sym, ◌∙◌, ap, subst, arith}
use Rattle.std.proofs.lemmas.Bool.{lt-ltb}
use Rattle.vd_model.specs.declared.record.Begun.{Begun}
use Rattle.vd_ring.specs.declared.device.DeviceDone.{DeviceDone}
use Rattle.vd_ring.specs.declared.device.DeviceNow.{DeviceNow}
use Rattle.vd_ring.specs.declared.device.DeviceView.{DeviceView}
use Rattle.vd_ring.specs.declared.frame.Frame.{Frame}
use Rattle.vd_ring.specs.History.{takes, gives, running, occurs, IsWhole}
use Rattle.vd_layout.specs.Begun.{DeviceOp}
use Rattle.vd_layout.specs.Device.{DeviceModel, IsLawfulDevice}
use Rattle.vd_bus.specs.declared.device.Attached.{Attached}
use Rattle.vd_bus.specs.declared.journal.Journal.{Journal}
use Rattle.vd_control.specs.declared.settings.Settings.{Settings}
use Rattle.vd_bus.specs.Device.{IsServing, IsCommanded, HasServedAll, ArmsRightly, gave}
use Rattle.vd_bus.specs.Orders.{IsData, IsControl}
use Rattle.vd_bus.specs.Pace.{KeepsPace, attaches}
use Rattle.vd_models.specs.declared.counts.Counts.{Counts}
use Rattle.vd_models.specs.declared.serving.Phase.{Phase}
use Rattle.vd_models.specs.declared.serving.Phase.TheVariants as phase
use Rattle.vd_models.specs.declared.serving.Stage.{Stage}
use Rattle.vd_models.specs.declared.serving.Stage.TheVariants as stage
use Rattle.vd_models.specs.declared.window.Held.{Held}
use Rattle.vd_models.specs.Hands.{seen}
use Rattle.vd_models.specs.Holding.{IsHeld}
use Rattle.vd_models.specs.Stages.{StageIs, ArmedIs, is_done}
use Rattle.vd_models.specs.Phases.{Holds, attached_of, is_done_of, settings_of}
use Rattle.vd_models.specs.Serving.{all_of}
use Rattle.vd_models.specs.laws.CommandLaws.{commanded, done_free, seen_length}

at_done : (st : Stage) (op : DeviceOp) (io : Bool) (hs : List Held) (n all : ℕ) → is_done st ≡ true → StageIs st op io hs n all
    → (op ≡ DeviceOp.idle) × (hs ≡ []) × (n ≡ all)
at_done stage.Done DeviceOp.idle io hs n all d h = (refl, h.0, h.1)
at_done stage.Done DeviceOp.signal io hs n all d h = absurd h
at_done stage.Done DeviceOp.take io hs n all d h = absurd h
at_done stage.Done (DeviceOp.give k l) io hs n all d h = absurd h
at_done stage.Done DeviceOp.rest io hs n all d h = absurd h
at_done stage.Done DeviceOp.arm io hs n all d h = absurd h
at_done stage.Done DeviceOp.hear io hs n all d h = absurd h
at_done stage.Done DeviceOp.disarm io hs n all d h = absurd h
at_done stage.Taking op io hs n all d h = absurd (cc)
at_done stage.Giving op io hs n all d h = absurd (cc)
at_done stage.Arming op io hs n all d h = absurd (cc)
at_done stage.Hearing op io hs n all d h = absurd (cc)

whole : (begun : List Begun) (by : Attached) (hs : List Held) (f : Frame) (s : List DeviceDone) → hs ≡ [] → IsHeld begun by hs f s
    → (running s ≡ []) × (length (takes s) ≡ length (gives s)) × IsWhole s
whole begun by hs f s empty h =
    let none : running s ≡ [] = sym h.hand ∙ ap (λ (zs : List Held). Rattle.vd_models.specs.Holding.held_numbers zs) empty in
    let even : length (takes s) ≡ length (gives s) = omega (arith, h.as_many, ap length empty) in (
      none,
      even,
      λ k below. omega (
        arith,
        h.spread k,
        ap (occurs k) none,
        ap {B = ℕ} (λ (b : Bool). if b then 1 else 0)
            (lt-ltb k (length (takes s)) (omega arith)),
      ),
    )

-- where an end is armed its device arms or hears
arms : (st : Stage) (op : DeviceOp) (d : DeviceNow) (io : Bool) (hs : List Held) (n all t : ℕ) (o : Option ℕ) → o ≡ Some t
    → ArmedIs st op d o
    → StageIs st op io hs n all → (hs ≡ []) × (n < all)
arms stage.Hearing DeviceOp.idle d io hs n all t o is a h = h
arms stage.Hearing DeviceOp.hear d io hs n all t o is a h = h
arms stage.Hearing DeviceOp.signal d io hs n all t o is a h = absurd h
arms stage.Hearing DeviceOp.take d io hs n all t o is a h = absurd h
arms stage.Hearing (DeviceOp.give k l) d io hs n all t o is a h = absurd h
arms stage.Hearing DeviceOp.rest d io hs n all t o is a h = absurd h
arms stage.Hearing DeviceOp.arm d io hs n all t o is a h = absurd h
arms stage.Hearing DeviceOp.disarm d io hs n all t o is a h = absurd h
arms stage.Arming DeviceOp.idle d io hs n all t o is a h = h
arms stage.Arming DeviceOp.arm d io hs n all t o is a h = h
arms stage.Arming DeviceOp.hear d io hs n all t o is a h = absurd h
arms stage.Arming DeviceOp.signal d io hs n all t o is a h = absurd h
arms stage.Arming DeviceOp.take d io hs n all t o is a h = absurd h
arms stage.Arming (DeviceOp.give k l) d io hs n all t o is a h = absurd h
arms stage.Arming DeviceOp.rest d io hs n all t o is a h = absurd h
arms stage.Arming DeviceOp.disarm d io hs n all t o is a h = absurd h
arms stage.Taking op d io hs n all t o is a h = absurd (cc (is, a))
arms stage.Giving op d io hs n all t o is a h = absurd (cc (is, a))
arms stage.Done op d io hs n all t o is a h = absurd (cc (is, a))

same_by : (x y : Attached) → ◌≡◌ {A = Option Attached} (Some x) (Some y) → x ≡ y
same_by x y e = cc

module _ {E : Type 0} (e : DeviceModel E) where
  pub held_law : (p : Phase E) (j : Journal) (c : Counts) (now : Settings) (w : DeviceView) → Holds e p j c now w → IsSome (attached_of p)
  held_law phase.Unreserved j c now w h = absurd h
  held_law (phase.Free b) j c now w h = absurd h
  held_law (phase.Serving s) j c now w h = refl
  held_law (phase.Commanding k) j c now w h = refl

  pub serves_law : (p : Phase E) (j : Journal) (c : Counts) (now : Settings) (w : DeviceView) (a : Attached)
      → Holds e p j c now w → attached_of p ≡ Some a
      → IsData a.queue → IsServing j.begun.items a w.done
  serves_law phase.Unreserved j c now w a h is d = absurd h
  serves_law (phase.Free b) j c now w a h is d = absurd h
  serves_law (phase.Serving s) j c now w a h is d = subst (λ (b : Attached). IsServing j.begun.items b w.done)
      (same_by s.by a is) h.serves.serving
  serves_law (phase.Commanding k) j c now w a h is d = absurd (d (ap (λ (b : Attached). b.queue) (sym (same_by k.session.by a is))
      ∙ h.for_control))

  pub commanded_law : (p : Phase E) (j : Journal) (c : Counts) (now : Settings) (w : DeviceView) (a : Attached)
      → Holds e p j c now w → attached_of p ≡ Some a → IsControl a.queue
      → IsCommanded j.begun.items a (settings_of p now) now w.done
  commanded_law phase.Unreserved j c now w a h is q = absurd h
  commanded_law (phase.Free b) j c now w a h is q = absurd h
  commanded_law (phase.Serving s) j c now w a h is q = absurd (h.for_data (ap (λ (b : Attached). b.queue) (same_by s.by a is) ∙ q))
  commanded_law (phase.Commanding k) j c now w a h is q = subst (λ (b : Attached). IsCommanded j.begun.items b k.at_attach now w.done)
      (same_by k.session.by a is) (commanded e k.session k.hand j.begun w k.at_attach now h.commands h.set)

  pub done_law : (law : IsLawfulDevice e) (p : Phase E) (j : Journal) (c : Counts) (now : Settings) (w : DeviceView) (a : Attached)
      → Holds e p j c now w → attached_of p ≡ Some a → is_done_of p ≡ true → HasServedAll (length j.begun.items) a w
  done_law law phase.Unreserved j c now w a h is d = absurd h
  done_law law (phase.Free b) j c now w a h is d = absurd h
  done_law law (phase.Serving s) j c now w a h is d =
      let v = h.serves in
      let f = at_done s.stage (e.begun s.end) w.frame.features.in_order s.held.items (length j.begun.items) (all_of s.by) d v.stage in
      let g = whole j.begun.items s.by s.held.items w.frame w.done f.1 v.held in
      let l = v.last d in
      record {
        all = f.2 ∙ ap all_of (same_by s.by a is);
        none_runs = g.0;
        as_many = g.1;
        whole = g.2;
        idle = law.at_rest s.end w v.stands f.0;
        before = l.0;
        rests = l.1;
      }
  done_law law (phase.Commanding k) j c now w a h is d =
      let s = k.session in
      let v = h.commands.serves in
      let long = seen_length j.begun.items k.hand in
      let free = done_free k.hand s.stage (e.begun s.end) h.commands.at d in
      let f = at_done s.stage (e.begun s.end) w.frame.features.in_order s.held.items (length (seen j.begun.items k.hand)) (all_of s.by) d
      v.stage in
      let g = whole (seen j.begun.items k.hand) s.by s.held.items w.frame w.done f.1 v.held in
      let l = v.last d in
      record {
        all = omega (arith, long, free, f.2, ap all_of (same_by s.by a is));
        none_runs = g.0;
        as_many = g.1;
        whole = g.2;
        idle = law.at_rest s.end w v.stands f.0;
        before = l.0;
        rests = l.1;
      }

  -- and it gave all that it began
  pub gave_law : (law : IsLawfulDevice e) (p : Phase E) (j : Journal) (c : Counts) (now : Settings) (w : DeviceView) (a : Attached)
      → Holds e p j c now w → attached_of p ≡ Some a → is_done_of p ≡ true → gave a w ≡ length j.begun.items
  gave_law law phase.Unreserved j c now w a h is d = absurd h
  gave_law law (phase.Free b) j c now w a h is d = absurd h
  gave_law law (phase.Serving s) j c now w a h is d =
      let v = serves_law (phase.Serving s) j c now w a h is (λ z. h.for_data (ap (λ (b : Attached). b.queue) (same_by s.by a is) ∙ z)) in
      omega (arith, v.as_many, v.before, (done_law law (phase.Serving s) j c now w a h is d).as_many)
  gave_law law (phase.Commanding k) j c now w a h is d =
      let v = subst (λ (b : Attached). IsServing (seen j.begun.items k.hand) b w.done) (same_by k.session.by a is)
      h.commands.serves.serving in
      omega (
        arith,
        v.as_many,
        v.before,
        seen_length j.begun.items k.hand,
        done_free k.hand k.session.stage (e.begun k.session.end) h.commands.at d,
        (done_law law (phase.Commanding k) j c now w a h is d).as_many,
      )

  pub armed_law : (p : Phase E) (j : Journal) (c : Counts) (now : Settings) (w : DeviceView) (a : Attached)
      → Holds e p j c now w → attached_of p ≡ Some a
      → ArmsRightly (length j.begun.items) a w
  armed_law phase.Unreserved j c now w a h is t some = absurd h
  armed_law (phase.Free b) j c now w a h is t some = absurd h
  armed_law (phase.Serving s) j c now w a h is t some =
      let v = h.serves in
      let f = arms s.stage (e.begun s.end) w.doing w.frame.features.in_order s.held.items (length j.begun.items)
      (all_of s.by) t w.armed some v.armed v.stage in
      let g = whole j.begun.items s.by s.held.items w.frame w.done f.0 v.held in
      (g.0, subst (λ (b : Attached). length j.begun.items < all_of b) (same_by s.by a is) f.1)
  armed_law (phase.Commanding k) j c now w a h is t some =
      let s = k.session in
      let v = h.commands.serves in
      let f = arms s.stage (e.begun s.end) w.doing w.frame.features.in_order s.held.items (length (seen j.begun.items k.hand))
      (all_of s.by) t w.armed some v.armed v.stage in
      let g = whole (seen j.begun.items k.hand) s.by s.held.items w.frame w.done f.0 v.held in
      (g.0, omega (arith, seen_length j.begun.items k.hand, f.1, ap all_of (same_by s.by a is)))

  pub pace_law : (p : Phase E) (j : Journal) (c : Counts) (now : Settings) (w : DeviceView) (a : Attached)
      → Holds e p j c now w → attached_of p ≡ Some a
      → KeepsPace c.accesses c.heard (length j.begun.items + gave a w + c.heard + attaches j.events.items)
  pace_law phase.Unreserved j c now w a h is few fewer = absurd h
  pace_law (phase.Free b) j c now w a h is few fewer = absurd h
  pace_law (phase.Serving s) j c now w a h is few fewer =
      let paid = h.paid few fewer in
      omega (arith, paid, ap (λ (b : Attached). gave b w) (same_by s.by a is))
  pace_law (phase.Commanding k) j c now w a h is few fewer =
      let paid = h.paid few fewer in
      omega (arith, paid, ap (λ (b : Attached). gave b w) (same_by k.session.by a is))
