-- What a look that shows nothing, an arming and a hearing leave of a model device.
use Rattle.std.proofs.Common.{◌≡◌, ◌≢◌, ℕ, ◌+◌, ◌*◌, ◌<◌, ◌≤◌, ◌==◌, Bool, true, false, Option, Some, None, List, [], length, refl, sym, ◌∙◌, ap, subst, arith, inl, inr}
use Rattle.std.proofs.lemmas.List.{nil_from_length}
use Rattle.vd_words.specs.declared.access.Op.TheVariants as op
use Rattle.vd_words.specs.Model.{PortModel}
use Rattle.vd_words.specs.Own.{IsOwn}
use Rattle.vd_ring.specs.declared.act.DeviceAct.TheVariants as act
use Rattle.vd_ring.specs.declared.device.DeviceNow.{DeviceNow}
use Rattle.vd_ring.specs.declared.device.DeviceNow.TheVariants as now
use Rattle.vd_ring.specs.declared.device.DeviceView.{DeviceView}
use Rattle.vd_ring.specs.Looks.{DeviceGoes}
use Rattle.vd_ring.specs.Sleep.{device_woken}
use Rattle.vd_layout.specs.Begun.{DeviceOp, IsDeviceOp}
use Rattle.vd_layout.specs.Device.{DeviceModel, IsDeviceStep, IsLawfulDevice}
use Rattle.vd_models.specs.declared.counts.Turn.{Turn}
use Rattle.vd_models.specs.declared.counts.Turn.TheVariants.{Worked, Woke, Slept}
use Rattle.vd_models.specs.declared.serving.Stage.{Stage}
use Rattle.vd_models.specs.declared.serving.Stage.TheVariants as stage
use Rattle.vd_models.specs.declared.window.Held.{Held}
use Rattle.vd_models.specs.Counting.{counted, woke}
use Rattle.vd_models.specs.Stages.{StageIs, HasWindow, ArmedIs, OpIs, owes, idle_owes, take_owes, hear_owes, nothing_stage, woken_stage, waking_turn, is_done}
use Rattle.vd_models.specs.Serving.{State, Opens, IsTurnBy, all_of}
use Rattle.vd_models.proofs.Stages.{at_take, at_arm, at_hear, wakes_at, unarming, armed_none, idle_small, nothing_small, zero_test, some_test, window_empty}
use Rattle.vd_models.proofs.Turns.{to, same_turn, not_woken, no_sleep}

nothing_is : (empty : Bool) (io : Bool) (hs : List Held) (n all : ℕ) → empty ≡ (length hs == 0) → n < all
    → StageIs (nothing_stage empty) DeviceOp.idle io hs n all
nothing_is true io hs n all t more = (nil_from_length hs (zero_test (length hs) true t refl), more)
nothing_is false io hs n all t more = some_test (length hs) false t refl

nothing_window : (empty : Bool) (n capacity : ℕ) → n < capacity → HasWindow (nothing_stage empty) n capacity
nothing_window true n capacity h = (omega arith, omega arith)
nothing_window false n capacity h = (omega arith, omega arith)

nothing_live : (empty : Bool) → (is_done (nothing_stage empty) ≡ false) × (nothing_stage empty ≢ stage.Hearing)
nothing_live true = (refl, λ z. cc z)
nothing_live false = (refl, λ z. cc z)

woken_is : (armed : Bool) (io : Bool) (hs : List Held) (n all : ℕ) → hs ≡ [] → n < all
    → StageIs (woken_stage armed) DeviceOp.idle io hs n all
woken_is true io hs n all none more = (none, more)
woken_is false io hs n all none more = inl none

woken_live : (armed : Bool) → is_done (woken_stage armed) ≡ false
woken_live true = refl
woken_live false = refl

woken_owes : (armed : Bool) (shown : Bool) → shown ≡ true → idle_owes (woken_stage armed) shown ≤ 36
woken_owes true shown is = omega arith
woken_owes false true is = omega arith
woken_owes false false is = absurd (cc is)

arms_at : (d : DeviceNow) (armed : Option ℕ) → ArmedIs stage.Arming DeviceOp.arm d armed → d ≡ now.Arming → (t : ℕ) × (armed ≡ Some t)
arms_at d armed (inl x) again = absurd (cc (x, again))
arms_at d armed (inr (inl x)) again = (x.1, x.2)
arms_at d armed (inr (inr x)) again = absurd (cc (x, again))

sleeps : (d : DeviceNow) (armed : Option ℕ) → ArmedIs stage.Hearing DeviceOp.hear d armed → d ≡ now.Idle → (t : ℕ) × (armed ≡ Some t)
sleeps d armed (inl x) idle = (x.1, x.2)
sleeps d armed (inr x) idle = absurd (cc (x, idle))

woken_armed : {E : Type 0} {e : DeviceModel E} (law : IsLawfulDevice e) (y : E) (armed : Bool) (v : DeviceView) → e.stands y v
    → e.armed y ≡ armed → ArmedIs (woken_stage armed) DeviceOp.idle v.doing v.armed
woken_armed law y true v stands is = law.armed y v stands is
woken_armed law y false v stands is = law.not_armed y v stands is

module _ {P E : Type 0} {port : PortModel P} {e : DeviceModel E} (law : IsLawfulDevice e) (from : State E) {p q : P} {w : DeviceView}
    {y : E} where
  -- ---- a look that shows nothing

  -- it was not shown a chain before
  unshown : (shown : Bool) → (s : IsDeviceStep port e p q w from.end y act.Nothing) → w.shown ≡ shown → IsOwn port e.side p w
      → take_owes shown (e.left from.end) ≡ 40
  unshown false s is own = refl
  unshown true s is own =
      let n = (law.looks.nothing w s.op s.access s.got s.was_next).0 (sym s.is_answer) in
      let t : e.shows w s.got ≡ true = law.stays.again w s.op s.access s.got s.was_next
      (own.told s.op s.access s.was_next s.got q s.moved) (inl (n.0, n.1)) is in
      absurd (cc (t, n.2))

  pub found_none : (empty : Bool) → Opens e from w
      → IsOwn port e.side p w → (s : IsDeviceStep port e p q w from.end y act.Nothing)
      → empty ≡ (length from.held.items == 0)
      → IsTurnBy port e p q w from (to from y (nothing_stage empty)) Worked s.op s.access s.got
  found_none empty opens own s is_empty =
      let v = opens.serves in
      let io = w.frame.features.in_order in
      let w' : DeviceView = e.side.after w s.op s.access s.got in
      let n = length from.begun.items in
      let t = at_take io from.held.items n (all_of from.by) from.stage (subst (λ o. StageIs from.stage o io from.held.items n
      (all_of from.by)) s.says.0 v.stage) in
      let u = unarming from.stage (e.begun from.end) w.doing io from.held.items n (all_of from.by) s.op w.armed (λ z. cc (z, s.says.0))
      (λ z. cc
      (z, s.says.0)) v.stage s.of_it v.armed in
      let unarmed : w'.armed ≡ None = law.stays_unarmed w s.op s.access s.got u.other u.none in
      let live = nothing_live empty in
      same_turn law from opens act.Nothing s (nothing_stage empty) Worked s.says.2 live.0 s.rests
      (subst (λ o. StageIs (nothing_stage empty) o io from.held.items n (all_of from.by)) (sym s.says.1)
      (nothing_is empty io from.held.items n
      (all_of from.by) is_empty t.1))
      (nothing_window empty (length from.held.items) from.held.capacity (subst
      (λ (z : Stage). HasWindow z (length from.held.items) from.held.capacity) t.0 v.window))
      (armed_none (nothing_stage empty) (e.begun y) w'.doing w'.armed live.1 (λ z. cc (z, s.says.1)) unarmed)
      (subst (λ o. OpIs o w'.doing w'.shown (e.left y)) (sym s.says.1) tt)
      (no_sleep act.Nothing (λ z. cc z)) (not_woken s.op act.Nothing (λ z. cc z)) (λ z. cc z)
      (omega (
        arith,
        nothing_small empty w'.shown,
        ap (λ o. owes (nothing_stage empty) o w'.doing w'.shown (e.left y)) s.says.1,
        ap
            (λ o. owes from.stage o w.doing w.shown (e.left from.end)) s.says.0,
        unshown w.shown s refl own,
      ))

  pub armed_at : Opens e from w
      → (s : IsDeviceStep port e p q w from.end y act.Armed)
      → IsTurnBy port e p q w from (to from y stage.Hearing) Worked s.op s.access s.got
  armed_at opens s =
      let v = opens.serves in
      let io = w.frame.features.in_order in
      let w' : DeviceView = e.side.after w s.op s.access s.got in
      let n = length from.begun.items in
      let t = at_arm io from.held.items n (all_of from.by) from.stage (subst (λ o. StageIs from.stage o io from.held.items n
      (all_of from.by)) s.says.0 v.stage) in
      let again : w.doing ≡ now.Arming = ((law.looks.armed w s.op s.access s.got s.was_next).0 (sym s.is_answer)).1 in
      let stands : (x : ℕ) × (w.armed ≡ Some x) = arms_at w.doing w.armed (subst (λ o. ArmedIs stage.Arming o w.doing w.armed) s.says.0
      (subst (λ (z : Stage). ArmedIs z (e.begun from.end) w.doing w.armed) t.0 v.armed)) again in
      let some : (x : ℕ) × (w'.armed ≡ Some x) = (
        stands.0,
        law.stays.armed w s.op s.access s.got s.was_next (sym s.is_answer)
            ∙ stands.1,
      ) in
      same_turn law from opens act.Armed s stage.Hearing Worked s.says.2 refl s.rests
      (subst (λ o. StageIs stage.Hearing o io from.held.items n (all_of from.by)) (sym s.says.1) (t.1, t.2))
      (window_empty from.stage stage.Hearing (length from.held.items) from.held.capacity (ap length t.1) v.window)
      (subst (λ o. ArmedIs stage.Hearing o w'.doing w'.armed) (sym s.says.1) some)
      (subst (λ o. OpIs o w'.doing w'.shown (e.left y)) (sym s.says.1) tt)
      (no_sleep act.Armed (λ z. cc z)) (not_woken s.op act.Armed (λ z. cc z)) (λ z. cc z)
      (omega (
        arith,
        s.left,
        ap (λ o. owes stage.Hearing o w'.doing w'.shown (e.left y)) s.says.1,
        ap (λ o. owes from.stage o w.doing w.shown
            (e.left from.end)) s.says.0,
      ))

  pub slept_at : Opens e from w
      → (s : IsDeviceStep port e p q w from.end y act.Asleep)
      → IsTurnBy port e p q w from (to from y from.stage) Slept s.op s.access s.got
  slept_at opens s =
      let v = opens.serves in
      let io = w.frame.features.in_order in
      let w' : DeviceView = e.side.after w s.op s.access s.got in
      let n = length from.begun.items in
      let t = at_hear io from.held.items n (all_of from.by) from.stage (subst (λ o. StageIs from.stage o io from.held.items n
      (all_of from.by)) s.says.0 v.stage) in
      let idle : w.doing ≡ now.Idle = ((law.looks.asleep w s.op s.access s.got s.was_next).0 (sym s.is_answer)).1 in
      let stays : w' ≡ w = law.stays.asleep w s.op s.access s.got s.was_next (sym s.is_answer) in
      let some = sleeps w.doing w.armed (subst (λ o. ArmedIs stage.Hearing o w.doing w.armed) s.says.0
      (subst (λ (z : Stage). ArmedIs z (e.begun from.end) w.doing w.armed) t.0 v.armed)) idle in
      let here : ArmedIs stage.Hearing DeviceOp.idle w'.doing w'.armed = (some.0, ap (λ (x : DeviceView). x.armed) stays ∙ some.1) in
      same_turn law from opens act.Asleep s from.stage Slept s.says.2 opens.live s.rests
      (subst (λ (z : Stage). StageIs z (e.begun y) io from.held.items n (all_of from.by)) (sym t.0) (subst
      (λ o. StageIs stage.Hearing o io from.held.items n (all_of from.by)) (sym s.says.1) (t.1, t.2)))
      v.window
      (subst (λ (z : Stage). ArmedIs z (e.begun y) w'.doing w'.armed) (sym t.0) (subst (λ o. ArmedIs stage.Hearing o w'.doing w'.armed)
      (sym s.says.1) here))
      (subst (λ o. OpIs o w'.doing w'.shown (e.left y)) (sym s.says.1) tt)
      ((λ z. refl), λ z. refl) (not_woken s.op act.Asleep (λ z. cc z)) (λ z. cc z)
      (omega (
        arith,
        ap (λ o. owes from.stage o w'.doing w'.shown (e.left y)) s.says.1,
        ap (λ (z : Stage). idle_owes z w'.shown) t.0,
        ap
            (λ o. owes from.stage o w.doing w.shown (e.left from.end)) s.says.0,
        ap hear_owes idle,
      ))

  -- an arming that ends with Awake was shown a chain
  shown_at : (s : IsDeviceStep port e p q w from.end y act.Awake) → s.op ≡ op.Arm → OpIs DeviceOp.arm w.doing w.shown (e.left from.end)
      → (e.side.after w s.op s.access s.got).shown ≡ true
  shown_at s arm i = law.stays.shown w s.op s.access s.got s.was_next (subst (λ z. DeviceGoes z) s.is_answer tt)
      (elim ((law.looks.awake w s.op s.access s.got s.was_next).0 (sym s.is_answer)) [
        | inl x ↦ elim x.0 [ inl a ↦ inr (inr (a.0, a.1)) | inr h ↦ absurd (cc (arm, h.0)) ]
        | inr (inl d) ↦ inl (i (d ∙ ap now.Disarming arm))
        | inr (inr d) ↦ absurd (cc (arm, d))
      ])

  pub woken_at : (armed : Bool) → Opens e from w
      → (s : IsDeviceStep port e p q w from.end y act.Awake) → e.armed y ≡ armed
      → IsTurnBy port e p q w from (to from y (woken_stage armed)) (waking_turn from.stage) s.op s.access s.got
  woken_at armed opens s is_armed =
      let v = opens.serves in
      let io = w.frame.features.in_order in
      let w' : DeviceView = e.side.after w s.op s.access s.got in
      let n = length from.begun.items in
      let t = wakes_at io from.held.items n (all_of from.by) from.stage (e.begun from.end) s.says.0 v.stage in
      let idle = s.says.1 in
      let build : (u : Turn) → (u ≡ Slept → ⊥) → woke u ≡ device_woken s.op act.Awake
      → idle_owes (woken_stage armed) w'.shown + counted u ≤ owes from.stage (e.begun from.end) w.doing w.shown
      (e.left from.end) + 64 * woke u
      → IsTurnBy port e p q w from (to from y (woken_stage armed)) u s.op s.access s.got =
      λ u no woken paid. same_turn law from opens act.Awake s (woken_stage armed) u s.says.2 (woken_live armed) s.rests
      (subst (λ o. StageIs (woken_stage armed) o io from.held.items n (all_of from.by)) (sym idle) (woken_is armed io from.held.items n
      (all_of from.by) t.1 t.2))
      (window_empty from.stage (woken_stage armed) (length from.held.items) from.held.capacity (ap length t.1) v.window)
      (subst (λ o. ArmedIs (woken_stage armed) o w'.doing w'.armed) (sym idle) (woken_armed law y armed w' s.now_stands is_armed))
      (subst (λ o. OpIs o w'.doing w'.shown (e.left y)) (sym idle) tt)
      ((λ z. absurd (no z)), λ z. absurd (cc z)) woken (λ z. cc z)
      (omega (arith, paid, ap (λ o. owes (woken_stage armed) o w'.doing w'.shown (e.left y)) idle)) in
      elim t.0 [
        | inl a ↦ (
            let arm : s.op ≡ op.Arm = subst (λ o. IsDeviceOp o s.op) a.0 s.of_it in
            let shown : w'.shown ≡ true = shown_at s arm (subst (λ o. OpIs o w.doing w.shown (e.left from.end)) a.0 v.op) in
            subst (λ u. IsTurnBy port e p q w from (to from y (woken_stage armed)) u s.op s.access s.got) (sym (ap waking_turn a.1))
            (build Worked (λ z. cc z) (sym (ap (λ o. device_woken o act.Awake) arm)) (omega
            (arith, s.left, woken_owes armed w'.shown shown, ap (λ o. owes from.stage o w.doing w.shown (e.left from.end)) a.0)))
            )
        | inr h ↦ (
            let hears : s.op ≡ op.Hear = subst (λ o. IsDeviceOp o s.op) h.0 s.of_it in
            subst (λ u. IsTurnBy port e p q w from (to from y (woken_stage armed)) u s.op s.access s.got) (sym (ap waking_turn h.1))
            (build Woke (λ z. cc z) (sym (ap (λ o. device_woken o act.Awake) hears)) (omega
            (arith, idle_small (woken_stage armed) w'.shown)))
            )
      ]
