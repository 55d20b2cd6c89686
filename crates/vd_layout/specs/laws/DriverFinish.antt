-- Lemmas: an operation of a driver's end made to its end, step by step.
use Rattle.std.proofs.Common.{◌≡◌, ◌≢◌, ◌⊎◌, ℕ, Option, List, [], ◌∷◌, sym, ap, ◌∙◌, subst, refl, inl, inr}
use Rattle.vd_words.specs.declared.access.Op.{Op}
use Rattle.vd_words.specs.declared.access.Op.TheVariants.{Arm}
use Rattle.vd_words.specs.Model.{PortModel}
use Rattle.vd_ring.specs.declared.act.DriverAct.{DriverAct}
use Rattle.vd_ring.specs.declared.act.DriverAct.TheVariants as driver_act
use Rattle.vd_ring.specs.declared.driver.DriverDone.{DriverDone}
use Rattle.vd_ring.specs.declared.driver.DriverView.{DriverView}
use Rattle.vd_ring.specs.declared.frame.Frame.{Frame}
use Rattle.vd_layout.specs.Begun.{DriverOp, DriverPublished, DriverGoesOn, MayWake, IsDriverOp}
use Rattle.vd_layout.specs.Driver.{DriverModel, DriverSays, IsDriverStep, IsLawfulDriver}
use Rattle.vd_layout.specs.Run.{IsToldAt}
use Rattle.vd_layout.specs.DriverFinish.{IsDriverWork, driver_told, IsDriverFinish, DriverGoing, DriverLeaves, DriverSignals}
use Rattle.vd_layout.specs.laws.DriverLeaves.{driver_way, driver_on, driver_leaves}

pub driver_starts : {P E : Type 0} (port : PortModel P) (m : DriverModel E) (p : P) (v : DriverView) (e : E) → m.stands e v
    → DriverGoing port m (m.begun e) p v p e driver_act.Moved
driver_starts port m p v e stands = record {
  view = v;
  made = [];
  run = (refl, refl);
  stands = stands;
  framed = refl;
  unarmed =
      λ other none. none;
  phase = inl (refl, refl, refl, λ idle. driver_way (m.begun e) v idle);
}

-- what one step's answer says, where nothing was told before it
said : (x : DriverAct) (b b' : DriverOp) (f : Frame) (o o' : List DriverDone) → IsDriverWork b → DriverSays x b b' f o o'
    → ((x ≡ driver_act.Moved) × (b' ≡ b) × (o' ≡ o)) ⊎ ((x ≢ driver_act.Moved) × DriverSignals x b' × DriverSays x b DriverOp.idle f o o')
said driver_act.Moved (DriverOp.offer c) b' f o o' w s = inl (refl, s.0, s.1)
said driver_act.Moved DriverOp.collect b' f o o' w s = inl (refl, s.0, s.1)
said driver_act.Moved DriverOp.arm b' f o o' w s = inl (refl, s.0, s.1)
said driver_act.Moved DriverOp.hear b' f o o' w s = inl (refl, s.0, s.1)
said driver_act.Moved DriverOp.disarm b' f o o' w s = inl (refl, s.0, s.1)
said driver_act.Moved DriverOp.idle b' f o o' w s = absurd w
said driver_act.Moved DriverOp.signal b' f o o' w s = absurd w
said driver_act.Nothing b b' f o o' w s = inr (λ e. cc, s.1, (s.0, refl, s.2))
said (driver_act.Offered k) b b' f o o' w s = inr (λ e. cc, s.2, (s.0, s.1, inl refl, s.3, s.4, s.5))
said (driver_act.Collected k n h) b b' f o o' w s = inr (λ e. cc, s.2, (s.0, s.1, refl, s.3, s.4, s.5))
said driver_act.Armed b b' f o o' w s = inr (λ e. cc, s.1, (s.0, refl, s.2))
said driver_act.Awake b b' f o o' w s = inr (λ e. cc, s.1, (s.0, refl, s.2))
said driver_act.Asleep b b' f o o' w s = inr (λ e. cc, s.1, (s.0, refl, s.2))

-- once it was told only a signal is made
signalled : (x : DriverAct) (b b' : DriverOp) (f : Frame) (o o' : List DriverDone) → b ≡ DriverOp.signal → DriverSays x b b' f o o'
    → (x ≡ driver_act.Moved) × DriverPublished b' × (o' ≡ o)
signalled driver_act.Moved b b' f o o' is s = (refl, subst (λ y. DriverGoesOn y b') is s.0, s.1)
signalled driver_act.Nothing b b' f o o' is s = absurd (cc (is, s.0))
signalled (driver_act.Offered k) b b' f o o' is s = absurd (cc (is, s.1))
signalled (driver_act.Collected k n h) b b' f o o' is s = absurd (cc (is, s.1))
signalled driver_act.Armed b b' f o o' is s = absurd (cc (is, s.0))
signalled driver_act.Awake b b' f o o' is s = absurd (subst (λ y. MayWake y) is s.0)
signalled driver_act.Asleep b b' f o o' is s = absurd (cc (is, s.0))

-- which only an offer leaves
still : (x : DriverAct) (b b' : DriverOp) → DriverSignals x b → b ≡ DriverOp.signal → DriverPublished b' → DriverSignals x b'
still (driver_act.Offered k) b b' h is next = next
still _ b b' h is next = absurd (cc (h, is))

still_leaves : (x : DriverAct) (b : DriverOp) (a a' : Option ℕ) → DriverSignals x b → b ≡ DriverOp.signal → DriverLeaves x a a'
still_leaves (driver_act.Offered k) b a a' h is = tt
still_leaves _ b a a' h is = absurd (cc (h, is))

only_signal : (x : DriverAct) (b : DriverOp) → DriverSignals x b → DriverPublished b
only_signal (driver_act.Offered k) b h = h
only_signal _ b h = inl h

told_first : (x y : DriverAct) → x ≡ driver_act.Moved → y ≢ driver_act.Moved → driver_told x y ≡ y
told_first x driver_act.Moved is ne = absurd (ne refl)
told_first x driver_act.Nothing is ne = refl
told_first x (driver_act.Offered k) is ne = refl
told_first x (driver_act.Collected k n h) is ne = refl
told_first x driver_act.Armed is ne = refl
told_first x driver_act.Awake is ne = refl
told_first x driver_act.Asleep is ne = refl

pub not_arm : (x : DriverOp) (o : Op) → IsDriverOp x o → x ≢ DriverOp.arm → o ≢ Arm
not_arm DriverOp.idle o is other = absurd is
not_arm (DriverOp.offer c) o is other = λ e. cc (is, e)
not_arm DriverOp.collect o is other = λ e. cc (is, e)
not_arm DriverOp.arm o is other = absurd (other refl)
not_arm DriverOp.hear o is other = λ e. cc (is, e)
not_arm DriverOp.disarm o is other = λ e. cc (is, e)
not_arm DriverOp.signal o is other = λ e. cc (is, e)

pub driver_goes : {P E : Type 0} (port : PortModel P) (m : DriverModel E) (law : IsLawfulDriver m) (b : DriverOp) (p q q' : P)
    (v : DriverView) (e e' : E) (answer x : DriverAct) → IsDriverWork b → (g : DriverGoing port m b p v q e answer)
    → (m.begun e ≡ DriverOp.idle → ⊥)
    → IsDriverStep port m q q' g.view e e' x → DriverGoing port m b p v q' e' (driver_told answer x)
driver_goes {P} {E} port m law b p q q' v e e' answer x work g busy s =
    let w : DriverView = g.view in
    let u : DriverView = m.side.after w s.op s.access s.got in
    record {
      view = u;
      made = record { op = s.op; access = s.access; got = s.got } ∷ g.made;
      run = (q, w, g.run, record { was_next = s.was_next; moved = s.moved; is_after = refl });
      stands = s.now_stands;
      framed = law.framed w s.op s.access s.got ∙ g.framed;
      unarmed = λ other none. law.stays_unarmed w s.op s.access s.got (not_arm (m.begun e) s.op s.of_it (goes_unarmed other))
          (g.unarmed other none);
      phase = elim g.phase [
        | inl a ↦ elim (said x b (m.begun e') v.frame v.done u.done work (at a.1 a.2)) [
          | inl t ↦ inl (
            ap (driver_told answer) t.0 ∙ a.0,
            t.1,
            t.2,
            λ idle. driver_on m law v w s.op s.access s.got s.was_next b (of_it a.1) idle (sym s.is_answer ∙ t.0) (a.3 idle),
          )
          | inr t ↦ (
              let is = told_first answer x a.0 t.0 in
              inr (
                λ z. t.0 (sym is ∙ z),
                subst (λ y. DriverSignals y (m.begun e')) (sym is) t.1,
                subst (λ y. DriverSays y b DriverOp.idle v.frame v.done u.done) (sym is) t.2,
                λ idle. subst (λ y. DriverLeaves y v.armed u.armed) (sym is)
                    (driver_leaves m law v w s.op s.access s.got s.was_next x b (of_it a.1) s.is_answer (a.3 idle)),
                subst (λ y. IsToldAt port m.side m.act (λ u. u.done ≡ v.done) p v y) (sym is) (here a.2),
              )
              )
        ]
        | inr a ↦ (
            let t = signalled x (m.begun e) (m.begun e') w.frame w.done u.done (which a.1) s.says in
            let is : driver_told answer x ≡ answer = ap (driver_told answer) t.0 in
            inr (
              λ z. a.0 (sym is ∙ z),
              subst (λ y. DriverSignals y (m.begun e')) (sym is) (still answer (m.begun e) (m.begun e') a.1 (which a.1) t.1),
              subst (λ y. DriverSays y b DriverOp.idle v.frame v.done u.done) (sym is)
                  (subst (λ (o : List DriverDone). DriverSays answer b DriverOp.idle v.frame v.done o) (sym t.2) a.2),
              λ idle. subst (λ y. DriverLeaves y v.armed u.armed) (sym is)
                  (still_leaves answer (m.begun e) v.armed u.armed a.1 (which a.1)),
              subst (λ y. IsToldAt port m.side m.act (λ u. u.done ≡ v.done) p v y) (sym is) a.4,
            )
            )
      ];
    }
  where
    here : g.view.done ≡ v.done → IsToldAt port m.side m.act (λ u. u.done ≡ v.done) p v x
    here kept = record {
      made = g.made;
      mid = q;
      view = g.view;
      run = g.run;
      meets = kept;
      next = q';
      op = s.op;
      access = s.access;
      got = s.got;
      was_next = s.was_next;
      moved = s.moved;
      is_answer = s.is_answer;
    }

    at : m.begun e ≡ b → g.view.done ≡ v.done → DriverSays x b (m.begun e') v.frame v.done (m.side.after g.view s.op s.access s.got).done
    at is same = subst (λ y. DriverSays x y (m.begun e') v.frame v.done (m.side.after g.view s.op s.access s.got).done) is
        (subst (λ (f : Frame). DriverSays x (m.begun e) (m.begun e') f v.done (m.side.after g.view s.op s.access s.got).done) g.framed
        (subst (λ (o : List DriverDone). DriverSays x (m.begun e) (m.begun e') g.view.frame o
        (m.side.after g.view s.op s.access s.got).done) same s.says))

    of_it : m.begun e ≡ b → IsDriverOp b s.op
    of_it is = subst (λ y. IsDriverOp y s.op) is s.of_it

    which : DriverSignals answer (m.begun e) → m.begun e ≡ DriverOp.signal
    which h = elim (only_signal answer (m.begun e) h) [ inl is ↦ absurd (busy is) | inr is ↦ is ]

    goes_unarmed : b ≢ DriverOp.arm → m.begun e ≢ DriverOp.arm
    goes_unarmed other is = elim g.phase [ inl a ↦ other (sym a.1 ∙ is) | inr a ↦ absurd (cc (which a.1, is)) ]

pub driver_ends : {P E : Type 0} (port : PortModel P) (m : DriverModel E) (p q : P) (v : DriverView) (e e' : E) (answer : DriverAct)
    → IsDriverWork (m.begun e) → DriverGoing port m (m.begun e) p v q e' answer → m.begun e' ≡ DriverOp.idle
    → IsDriverFinish port m p q v e e' answer
driver_ends port m p q v e e' answer work g idle = elim g.phase [
  | inl a ↦ absurd (no (m.begun e) work (sym a.1 ∙ idle))
  | inr a ↦ record {
    view = g.view;
    made = g.made;
    run = g.run;
    now_stands = g.stands;
    idle = idle;
    told = a.0;
    says = a.2;
    unarmed =
        g.unarmed;
    leaves = a.3;
    at = a.4;
  }
]
  where
    no : (b : DriverOp) → IsDriverWork b → b ≡ DriverOp.idle → ⊥
    no (DriverOp.offer c) w is = cc is
    no DriverOp.collect w is = cc is
    no DriverOp.arm w is = cc is
    no DriverOp.hear w is = cc is
    no DriverOp.disarm w is = cc is
    no DriverOp.idle w is = w
    no DriverOp.signal w is = w
