-- Lemmas: an operation of a device's end made to its end, step by step.
use Rattle.std.proofs.Common.{Bool, false, ◌≡◌, ◌≢◌, ◌⊎◌, ℕ, Option, List, [], ◌∷◌, sym, ap, ◌∙◌, subst, refl, inl, inr}
use Rattle.vd_words.specs.declared.access.Op.{Op}
use Rattle.vd_words.specs.declared.access.Op.TheVariants.{Arm}
use Rattle.vd_words.specs.Model.{PortModel}
use Rattle.vd_ring.specs.declared.act.DeviceAct.{DeviceAct}
use Rattle.vd_ring.specs.declared.act.DeviceAct.TheVariants as act
use Rattle.vd_ring.specs.declared.device.DeviceDone.{DeviceDone}
use Rattle.vd_ring.specs.declared.device.DeviceView.{DeviceView}
use Rattle.vd_ring.specs.declared.frame.Frame.{Frame}
use Rattle.vd_layout.specs.Begun.{DeviceOp, DevicePublished, DeviceGoesOn, DeviceMayWake, IsDeviceOp}
use Rattle.vd_layout.specs.Control.{ControlWords}
use Rattle.vd_layout.specs.Device.{DeviceModel, DeviceSays, IsDeviceStep, IsLawfulDevice, is_rested}
use Rattle.vd_layout.specs.Run.{IsToldAt}
use Rattle.vd_layout.specs.DeviceFinish.{IsDeviceWork, device_told, IsDeviceFinish, DeviceToldStage, DeviceGoing, DeviceLeaves, DeviceSignals}
use Rattle.vd_layout.specs.laws.DeviceLeaves.{device_way, device_on, device_leaves}

pub device_starts : {P E : Type 0} (port : PortModel P) (m : DeviceModel E) (p : P) (v : DeviceView) (e : E) → m.stands e v
    → DeviceGoing port m (m.begun e) p v p e act.Moved
device_starts port m p v e stands = record {
  view = v;
  made = [];
  run = (refl, refl);
  stands = stands;
  framed = refl;
  unarmed =
      λ other none. none;
  phase = inl (refl, refl, refl, λ idle. device_way (m.begun e) v idle);
}

-- what one step's answer says, where nothing was told before it
said : (words : ControlWords) (x : DeviceAct) (b b' : DeviceOp) (f : Frame) (s s' : List DeviceDone) (resting : Bool) → IsDeviceWork b
    → DeviceSays words x b b' f s s' → resting ≡ is_rested x
    → ((x ≡ act.Moved) × (b' ≡ b) × (s' ≡ s)) ⊎ ((x ≢ act.Moved) × DeviceToldStage x b' resting × DeviceSays words x b DeviceOp.idle f s s')
said words act.Moved DeviceOp.take b' f s s' r w h e = inl (refl, h.0, h.1)
said words act.Moved (DeviceOp.give k n) b' f s s' r w h e = inl (refl, h.0, h.1)
said words act.Moved DeviceOp.rest b' f s s' r w h e = inl (refl, h.0, h.1)
said words act.Moved DeviceOp.arm b' f s s' r w h e = inl (refl, h.0, h.1)
said words act.Moved DeviceOp.hear b' f s s' r w h e = inl (refl, h.0, h.1)
said words act.Moved DeviceOp.disarm b' f s s' r w h e = inl (refl, h.0, h.1)
said words act.Moved DeviceOp.idle b' f s s' r w h e = absurd w
said words act.Moved DeviceOp.signal b' f s s' r w h e = absurd w
said words act.Nothing b b' f s s' r w h e = inr (λ z. cc, inl (h.1, e), (h.0, refl, h.2))
said words (act.Taken k c) b b' f s s' r w h e = inr (λ z. cc, inl (h.2, e), (h.0, h.1, refl, h.3, h.4, h.5))
said words (act.Given k) b b' f s s' r w h e =
    inr (
      λ z. cc,
      elim h.3 as (λ _. DeviceToldStage (act.Given k) b' r) [ inl i ↦ inl (i, e) | inr i ↦ inr (i, tt) ],
      (h.0, h.1, h.2, inl refl, h.4, h.5),
    )
said words act.Rested b b' f s s' r w h e = inr (λ z. cc, inl (h.1, e), (h.0, refl, h.2, h.3))
said words act.Armed b b' f s s' r w h e = inr (λ z. cc, inl (h.1, e), (h.0, refl, h.2))
said words act.Awake b b' f s s' r w h e = inr (λ z. cc, inl (h.1, e), (h.0, refl, h.2))
said words act.Asleep b b' f s s' r w h e = inr (λ z. cc, inl (h.1, e), (h.0, refl, h.2))

-- once it was told only a signal is made
signalled : (words : ControlWords) (x : DeviceAct) (b b' : DeviceOp) (f : Frame) (s s' : List DeviceDone) → b ≡ DeviceOp.signal
    → DeviceSays words x b b' f s s' → (x ≡ act.Moved) × DevicePublished b' × (s' ≡ s)
signalled words act.Moved b b' f s s' is h = (refl, subst (λ y. DeviceGoesOn y b') is h.0, h.1)
signalled words act.Nothing b b' f s s' is h = absurd (cc (is, h.0))
signalled words (act.Taken k c) b b' f s s' is h = absurd (cc (is, h.1))
signalled words (act.Given k) b b' f s s' is h = absurd (cc (is, h.2))
signalled words act.Rested b b' f s s' is h = absurd (cc (is, h.0))
signalled words act.Armed b b' f s s' is h = absurd (cc (is, h.0))
signalled words act.Awake b b' f s s' is h = absurd (subst (λ y. DeviceMayWake y) is h.0)
signalled words act.Asleep b b' f s s' is h = absurd (cc (is, h.0))

-- which only a give leaves
not_rested : (x : DeviceAct) → DeviceSignals x → is_rested x ≡ false
not_rested (act.Given k) h = refl
not_rested _ h = absurd h

still_leaves : (x : DeviceAct) (a a' : Option ℕ) → DeviceSignals x → DeviceLeaves x a a'
still_leaves (act.Given k) a a' h = tt
still_leaves _ a a' h = absurd h

told_first : (x y : DeviceAct) → x ≡ act.Moved → y ≢ act.Moved → device_told x y ≡ y
told_first x act.Moved is ne = absurd (ne refl)
told_first x act.Nothing is ne = refl
told_first x (act.Taken k c) is ne = refl
told_first x (act.Given k) is ne = refl
told_first x act.Rested is ne = refl
told_first x act.Armed is ne = refl
told_first x act.Awake is ne = refl
told_first x act.Asleep is ne = refl

pub not_arm : (x : DeviceOp) (o : Op) → IsDeviceOp x o → x ≢ DeviceOp.arm → o ≢ Arm
not_arm DeviceOp.idle o is other = absurd is
not_arm DeviceOp.take o is other = λ e. cc (is, e)
not_arm (DeviceOp.give k n) o is other = λ e. cc (is, e)
not_arm DeviceOp.rest o is other = λ e. cc (is, e)
not_arm DeviceOp.arm o is other = absurd (other refl)
not_arm DeviceOp.hear o is other = λ e. cc (is, e)
not_arm DeviceOp.disarm o is other = λ e. cc (is, e)
not_arm DeviceOp.signal o is other = λ e. cc (is, e)

pub device_goes : {P E : Type 0} (port : PortModel P) (m : DeviceModel E) (law : IsLawfulDevice m) (b : DeviceOp) (p q q' : P)
    (v : DeviceView) (e e' : E) (answer x : DeviceAct) → IsDeviceWork b → (g : DeviceGoing port m b p v q e answer)
    → (m.begun e ≡ DeviceOp.idle → ⊥)
    → IsDeviceStep port m q q' g.view e e' x → DeviceGoing port m b p v q' e' (device_told answer x)
device_goes {P} {E} port m law b p q q' v e e' answer x work g busy s =
    let w : DeviceView = g.view in
    let u : DeviceView = m.side.after w s.op s.access s.got in
    record {
      view = u;
      made = record { op = s.op; access = s.access; got = s.got } ∷ g.made;
      run = (q, w, g.run, record { was_next = s.was_next; moved = s.moved; is_after = refl });
      stands = s.now_stands;
      framed = law.framed w s.op s.access s.got ∙ g.framed;
      unarmed = λ other none. law.stays_unarmed w s.op s.access s.got (not_arm (m.begun e) s.op s.of_it (goes_unarmed other))
          (g.unarmed other none);
      phase = elim g.phase [
        | inl a ↦ elim (said m.words x b (m.begun e') v.frame v.done u.done (m.resting e') work (at a.1 a.2) s.rests) [
          | inl t ↦ inl (
            ap (device_told answer) t.0 ∙ a.0,
            t.1,
            t.2,
            λ idle. device_on m law v w s.op s.access s.got s.was_next b (of_it a.1) idle (sym s.is_answer ∙ t.0) (a.3 idle),
          )
          | inr t ↦ (
              let is = told_first answer x a.0 t.0 in
              inr (
                λ z. t.0 (sym is ∙ z),
                subst (λ y. DeviceToldStage y (m.begun e') (m.resting e')) (sym is) t.1,
                subst (λ y. DeviceSays m.words y b DeviceOp.idle v.frame v.done u.done) (sym is) t.2,
                λ idle. subst (λ y. DeviceLeaves y v.armed u.armed) (sym is)
                    (device_leaves m law v w s.op s.access s.got s.was_next x b (of_it a.1) s.is_answer (a.3 idle)),
                subst (λ y. IsToldAt port m.side m.act (λ u. u.done ≡ v.done) p v y) (sym is) (here a.2),
              )
              )
        ]
        | inr a ↦ (
            let only = which a.1 in
            let t = signalled m.words x (m.begun e) (m.begun e') w.frame w.done u.done only.0 s.says in
            let is : device_told answer x ≡ answer = ap (device_told answer) t.0 in
            let rests : m.resting e' ≡ is_rested answer = s.rests ∙ ap is_rested t.0 ∙ sym (not_rested answer only.1) in
            inr (
              λ z. a.0 (sym is ∙ z),
              subst (λ y. DeviceToldStage y (m.begun e') (m.resting e')) (sym is) (left t.1 rests only.1),
              subst (λ y. DeviceSays m.words y b DeviceOp.idle v.frame v.done u.done) (sym is)
                  (subst (λ (s2 : List DeviceDone). DeviceSays m.words answer b DeviceOp.idle v.frame v.done s2) (sym t.2) a.2),
              λ idle. subst (λ y. DeviceLeaves y v.armed u.armed) (sym is) (still_leaves answer v.armed u.armed only.1),
              subst (λ y. IsToldAt port m.side m.act (λ u. u.done ≡ v.done) p v y) (sym is) a.4,
            )
            )
      ];
    }
  where
    here : g.view.done ≡ v.done → IsToldAt port m.side m.act (λ u. u.done ≡ v.done) p v x
    here kept = record {
      made = g.made;
      mid = q;
      view = g.view;
      run = g.run;
      meets = kept;
      next = q';
      op = s.op;
      access = s.access;
      got = s.got;
      was_next = s.was_next;
      moved = s.moved;
      is_answer = s.is_answer;
    }

    at : m.begun e ≡ b → g.view.done ≡ v.done
        → DeviceSays m.words x b (m.begun e') v.frame v.done (m.side.after g.view s.op s.access s.got).done
    at is same = subst (λ y. DeviceSays m.words x y (m.begun e') v.frame v.done (m.side.after g.view s.op s.access s.got).done) is
        (subst (λ (f : Frame). DeviceSays m.words x (m.begun e) (m.begun e') f v.done (m.side.after g.view s.op s.access s.got).done)
        g.framed
        (subst (λ (s2 : List DeviceDone). DeviceSays m.words x (m.begun e) (m.begun e') g.view.frame s2
        (m.side.after g.view s.op s.access s.got).done) same s.says))

    of_it : m.begun e ≡ b → IsDeviceOp b s.op
    of_it is = subst (λ y. IsDeviceOp y s.op) is s.of_it

    which : DeviceToldStage answer (m.begun e) (m.resting e) → (m.begun e ≡ DeviceOp.signal) × DeviceSignals answer
    which (inl i) = absurd (busy i.0)
    which (inr i) = i

    goes_unarmed : b ≢ DeviceOp.arm → m.begun e ≢ DeviceOp.arm
    goes_unarmed other is = elim g.phase [ inl a ↦ other (sym a.1 ∙ is) | inr a ↦ absurd (cc ((which a.1).0, is)) ]

    left : DevicePublished (m.begun e') → m.resting e' ≡ is_rested answer → DeviceSignals answer
        → DeviceToldStage answer (m.begun e') (m.resting e')
    left (inl i) rests none = inl (i, rests)
    left (inr i) rests none = inr (i, none)

pub device_ends : {P E : Type 0} (port : PortModel P) (m : DeviceModel E) (p q : P) (v : DeviceView) (e e' : E) (answer : DeviceAct)
    → IsDeviceWork (m.begun e) → DeviceGoing port m (m.begun e) p v q e' answer → m.begun e' ≡ DeviceOp.idle
    → IsDeviceFinish port m p q v e e' answer
device_ends port m p q v e e' answer work g idle = elim g.phase [
  | inl a ↦ absurd (no (m.begun e) work (sym a.1 ∙ idle))
  | inr a ↦ record {
    view = g.view;
    made = g.made;
    run = g.run;
    now_stands = g.stands;
    idle = idle;
    told = a.0;
    says = a.2;
    rests =
        at_end a.1;
    unarmed = g.unarmed;
    leaves = a.3;
    at = a.4;
  }
]
  where
    no : (b : DeviceOp) → IsDeviceWork b → b ≡ DeviceOp.idle → ⊥
    no DeviceOp.take w is = cc is
    no (DeviceOp.give k n) w is = cc is
    no DeviceOp.rest w is = cc is
    no DeviceOp.arm w is = cc is
    no DeviceOp.hear w is = cc is
    no DeviceOp.disarm w is = cc is
    no DeviceOp.idle w is = w
    no DeviceOp.signal w is = w

    at_end : DeviceToldStage answer (m.begun e') (m.resting e') → m.resting e' ≡ is_rested answer
    at_end (inl i) = i.1
    at_end (inr i) = absurd (cc (idle, i.0))
