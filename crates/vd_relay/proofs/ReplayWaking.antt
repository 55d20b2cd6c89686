-- A replay's arming, hearing and disarming of its shadow end, by the answer.
use Rattle.std.proofs.Common.{◌≡◌, ◌≢◌, ◌⊎◌, ℕ, ◌+◌, ◌*◌, ◌≤◌, Bool, true, false, if◌then◌else◌, refl, sym, ◌∙◌, ap, subst, arith, inl, inr}
use Rattle.vd_words.specs.declared.access.Op.TheVariants as op
use Rattle.vd_words.specs.Model.{PortModel}
use Rattle.vd_ring.specs.declared.act.DriverAct.TheVariants as act
use Rattle.vd_ring.specs.declared.driver.DriverNow.TheVariants as now
use Rattle.vd_ring.specs.declared.driver.DriverView.{DriverView}
use Rattle.vd_ring.specs.Looks.{DriverGoes}
use Rattle.vd_ring.specs.Sleep.{driver_woken}
use Rattle.vd_layout.specs.Begun.{DriverOp, MayWake, IsDriverOp}
use Rattle.vd_layout.specs.Driver.{DriverModel, IsLawfulDriver, IsDriverStep}
use Rattle.vd_layout.specs.Layout.{LayoutModel}
use Rattle.vd_control.specs.Settings.{replay}
use Rattle.vd_relay.specs.declared.counts.Turn.{Turn}
use Rattle.vd_relay.specs.declared.counts.Turn.TheVariants.{Worked, Woke, Slept, Again}
use Rattle.vd_relay.specs.declared.stage.Stage.TheVariants as stage
use Rattle.vd_relay.specs.declared.replay.Replay.{Replay}
use Rattle.vd_relay.specs.declared.replay.ReplayStage.{ReplayStage}
use Rattle.vd_relay.specs.declared.replay.ReplayStage.TheVariants.{Collecting, Arming, Hearing, Disarming}
use Rattle.vd_relay.specs.Pace.{counted, handled, woke, shadow_owes, shadow_hears, collect_owes, take_owes, hear_owes}
use Rattle.vd_relay.specs.Stages.{IsSome, ShadowIs, ShadowArmed, ShadowArms, ShadowHears, ShadowShown}
use Rattle.vd_relay.specs.Replays.{as_stage, replay_owes, replay_waking, IsAt, Replays, ReplayHolds, ReplayTurn}
use Rattle.vd_relay.proofs.ShadowGoing.{collect_most}
use Rattle.vd_relay.proofs.ShadowTurns.{not_woken}
use Rattle.vd_relay.proofs.Turns.{worked_only}
use Rattle.vd_relay.proofs.ReplayStages.{at_arming, at_hearing, at_disarming}
use Rattle.vd_relay.proofs.Replaying.{to_stage, same_grown, made, once, settled, owes_idle, most_few}

-- an arming that was shown an entry pays for the collect
arm_pays : (w : Bool) (n : ℕ) → 1 ≤ n → collect_owes w false true + 1 ≤ n + (if w then 6 else 39)
arm_pays true n some = omega arith
arm_pays false n some = omega arith

module _ {Q D : Type 0} (port : PortModel Q) (l : LayoutModel) (d : DriverModel D) (ldr : IsLawfulDriver d) (p q : Q) (r : Replay) (x y : D)
    (v : DriverView) (b : D) (h : Replays l d r y v) (less : replay_owes d r.winding r.stage y v ≤ replay_owes d r.winding r.stage x v)
  where
    armed_at : (s : IsDriverStep port d p q v y b act.Armed) → ShadowArms DriverOp.arm v.doing v.armed
        → IsSome (d.side.after v s.op s.access s.got).armed
    armed_at s a =
        let again : v.doing ≡ now.Arming = ((ldr.looks.armed v s.op s.access s.got s.was_next).0 (sym s.is_answer)).1 in
        elim a [
          | inl z ↦ absurd (cc (z, again))
          | inr (inl z) ↦ (z.1.0, ldr.stays.armed v s.op s.access s.got s.was_next (sym s.is_answer) ∙ z.1.1)
          | inr (inr z) ↦ absurd (cc (z, again))
        ]

    pub armed : r.winding ≡ false → IsDriverStep port d p q v y b act.Armed → ReplayTurn port l d p q r (to_stage r Hearing) x b v Worked
    armed off s =
        let v' : DriverView = d.side.after v s.op s.access s.got in
        let cs = replay r.settings in
        let e : r.stage ≡ Arming = at_arming r.stage (subst (λ o. ShadowIs (as_stage r.stage) o) s.says.0 h.op) in
        let at : IsAt Arming cs r.next v.frame v.done = subst (λ (z : ReplayStage). IsAt z cs r.next v.frame v.done) e h.at in
        let arms : ShadowArms DriverOp.arm v.doing v.armed = subst (λ o. ShadowArms o v.doing v.armed) s.says.0
        (subst (λ (z : ReplayStage). ShadowArmed (as_stage z) (d.begun y) v.doing v.armed) e h.armed) in
        made port l d ldr p q r x y v b h less act.Armed s (to_stage r Hearing) Worked
        (settled port l d ldr p q r x y v b h less act.Armed s Hearing v.done s.says.2 (at, h.carried, h.acked) s.says.1 tt (armed_at s arms)
        (λ z. absurd (cc z)) (λ z. off) (λ z. cc z)) (λ z. absurd (cc z)) refl
        (same_grown v.done v'.done s.says.2) (worked_only act.Armed (λ z. cc z)) (once port l d ldr p q r x y v b h less act.Armed Worked
        (λ z. cc z) (λ z. cc z)) (λ z. absurd (cc z)) (not_woken s.op act.Armed (λ z. cc z))
        (omega (
          arith,
          s.left,
          owes_idle port l d ldr p q r x y v b h less Hearing v' refl s.says.1,
          ap (λ (z : ReplayStage). replay_owes d r.winding z y v) e,
          ap (λ o. shadow_owes r.winding stage.ArmingShadow o v.doing false v.shown (d.left y)) s.says.0,
          ap hear_owes off,
          ap {B = ℕ} (λ (z : Bool). if z then 6 else 39) off,
        ))

    -- in a wind-up it is disarmed again
    pub armed_winding : r.winding ≡ true → IsDriverStep port d p q v y b act.Armed
        → ReplayTurn port l d p q r (to_stage r Disarming) x b v Worked
    armed_winding on s =
        let v' : DriverView = d.side.after v s.op s.access s.got in
        let cs = replay r.settings in
        let e : r.stage ≡ Arming = at_arming r.stage (subst (λ o. ShadowIs (as_stage r.stage) o) s.says.0 h.op) in
        let at : IsAt Arming cs r.next v.frame v.done = subst (λ (z : ReplayStage). IsAt z cs r.next v.frame v.done) e h.at in
        let arms : ShadowArms DriverOp.arm v.doing v.armed = subst (λ o. ShadowArms o v.doing v.armed) s.says.0
        (subst (λ (z : ReplayStage). ShadowArmed (as_stage z) (d.begun y) v.doing v.armed) e h.armed) in
        made port l d ldr p q r x y v b h less act.Armed s (to_stage r Disarming) Worked
        (settled port l d ldr p q r x y v b h less act.Armed s Disarming v.done s.says.2 (at, h.carried, h.acked) s.says.1 tt
        (armed_at s arms) (λ z. on) (λ z. absurd (cc z)) (λ z. cc z)) (λ z. absurd (cc z)) refl
        (same_grown v.done v'.done s.says.2) (worked_only act.Armed (λ z. cc z))
        (once port l d ldr p q r x y v b h less act.Armed Worked (λ z. cc z) (λ z. cc z)) (λ z. absurd (cc z)) (not_woken s.op act.Armed (λ z. cc z))
        (omega (
          arith,
          s.left,
          owes_idle port l d ldr p q r x y v b h less Disarming v' refl s.says.1,
          ap (λ z. take_owes z false v'.shown) on,
          ap (λ (z : ReplayStage). replay_owes d r.winding z y v) e,
          ap (λ o. shadow_owes r.winding stage.ArmingShadow o v.doing false v.shown (d.left y)) s.says.0,
          ap {B = ℕ} (λ (z : Bool). if z then 6 else 39) on,
        ))

    look_at : (s : IsDriverStep port d p q v y b act.Asleep) → v.doing ≡ now.Idle
    look_at s = ((ldr.looks.asleep v s.op s.access s.got s.was_next).0 (sym s.is_answer)).1

    -- a wind-up makes no such look: between two steps it hears none, and begins to hear none
    pub awake_at : ReplayHolds l d r x v → (d.begun x ≡ DriverOp.idle) ⊎ (y ≡ x) → IsDriverStep port d p q v y b act.Asleep
        → (w : Bool) → r.winding ≡ w → r.winding ≡ false
    awake_at k was s false is = is
    awake_at k was s true is =
        let e : r.stage ≡ Hearing = at_hearing r.stage (subst (λ o. ShadowIs (as_stage r.stage) o) s.says.0 h.op) in
        absurd (elim was [
          | inl idle ↦ k.leaves is e idle
          | inr same ↦ k.hears (ap d.begun (sym same) ∙ s.says.0) (look_at s)
        ])

    pub slept : r.winding ≡ false → IsDriverStep port d p q v y b act.Asleep → ReplayTurn port l d p q r r x b v Slept
    slept off s =
        let v' : DriverView = d.side.after v s.op s.access s.got in
        let cs = replay r.settings in
        let e : r.stage ≡ Hearing = at_hearing r.stage (subst (λ o. ShadowIs (as_stage r.stage) o) s.says.0 h.op) in
        let at : IsAt Hearing cs r.next v.frame v.done = subst (λ (z : ReplayStage). IsAt z cs r.next v.frame v.done) e h.at in
        let hears : ShadowHears DriverOp.hear v.doing v.armed = subst (λ o. ShadowHears o v.doing v.armed) s.says.0
        (subst (λ (z : ReplayStage). ShadowArmed (as_stage z) (d.begun y) v.doing v.armed) e h.armed) in
        let look : v.doing ≡ now.Idle = look_at s in
        let same : v' ≡ v = ldr.stays.asleep v s.op s.access s.got s.was_next (sym s.is_answer) in
        let some : IsSome v.armed = elim hears [ inl z ↦ z.1 | inr z ↦ absurd (cc (z, look)) ] in
        subst (λ (z : ReplayStage). ReplayTurn port l d p q r (to_stage r z) x b v Slept) (sym e)
        (made port l d ldr p q r x y v b h less act.Asleep s (to_stage r Hearing) Slept
        (settled port l d ldr p q r x y v b h less act.Asleep s Hearing v.done s.says.2 (at, h.carried, h.acked) s.says.1 tt
        (subst (λ (u : DriverView). IsSome u.armed) (sym same) some) (λ z. absurd (cc z)) (λ z. off) (λ z. cc z)) (λ z. (off, refl, s.says.1)) refl
        (same_grown v.done v'.done s.says.2) ((λ z. refl), λ z. refl)
        (once port l d ldr p q r x y v b h less act.Asleep Slept (λ z. cc z) (λ z. cc z)) (λ z. absurd (cc z)) (not_woken s.op act.Asleep (λ z. cc z))
        (omega (
          arith,
          owes_idle port l d ldr p q r x y v b h less Hearing v' refl s.says.1,
          ap (λ (z : ReplayStage). replay_owes d r.winding z y v) e,
          ap (λ o. shadow_owes r.winding stage.HearingShadow o v.doing false v.shown (d.left y)) s.says.0,
          ap (shadow_hears r.winding) look,
        )))

    -- ---- awake

    woken_to : (t : Turn) (s : IsDriverStep port d p q v y b act.Awake) → IsAt Collecting (replay r.settings) r.next v.frame v.done
        → handled t ≡ 0 → t ≢ Slept → t ≢ Again → woke t ≡ driver_woken s.op act.Awake
        → collect_owes r.winding false (d.side.after v s.op s.access s.got).shown + counted t
        ≤ replay_owes d r.winding r.stage y v + 64 * woke t
        → ReplayTurn port l d p q r (to_stage r Collecting) x b v t
    woken_to t s at none ns na wakes paid =
        let v' : DriverView = d.side.after v s.op s.access s.got in
        made port l d ldr p q r x y v b h less act.Awake s (to_stage r Collecting) t
        (settled port l d ldr p q r x y v b h less act.Awake s Collecting v.done s.says.2 (at, h.carried, h.acked) s.says.1 tt
        (ldr.stays.awake v s.op s.access s.got s.was_next (sym s.is_answer)) (λ z. absurd (cc z)) (λ z. absurd (cc z)) (λ z. cc z))
        (λ z. absurd (ns z)) none
        (omega (arith, same_grown v.done v'.done s.says.2, none)) ((λ z. absurd (ns z)), λ z. absurd (cc z))
        (once port l d ldr p q r x y v b h less act.Awake t (λ z. cc z) na) (λ z. absurd (na z)) wakes
        (omega (arith, paid, none, owes_idle port l d ldr p q r x y v b h less Collecting v' refl s.says.1))

    shown_at : (s : IsDriverStep port d p q v y b act.Awake) → s.op ≡ op.Arm → ShadowShown DriverOp.arm v.doing v.shown (d.left y)
        → (d.side.after v s.op s.access s.got).shown ≡ true
    shown_at s arm i = ldr.stays.shown v s.op s.access s.got s.was_next (subst (λ z. DriverGoes z) s.is_answer tt)
        (elim ((ldr.looks.awake v s.op s.access s.got s.was_next).0 (sym s.is_answer)) [
          | inl z ↦ elim z.0 [ inl a ↦ inr (inr (a.0, a.1)) | inr a ↦ absurd (cc (arm, a.0)) ]
          | inr (inl z) ↦ inl (i (z ∙ ap now.Disarming arm))
          | inr (inr z) ↦ absurd (cc (arm, z))
        ])

    woken : (a : DriverOp) → d.begun y ≡ a → (s : IsDriverStep port d p q v y b act.Awake) → MayWake a → ShadowIs (as_stage r.stage) a
        → ReplayTurn port l d p q r (to_stage r Collecting) x b v (replay_waking r.stage)
    woken DriverOp.arm is s m g =
        let v' : DriverView = d.side.after v s.op s.access s.got in
        let e = at_arming r.stage g in
        let of : s.op ≡ op.Arm = subst (λ o. IsDriverOp o s.op) is s.of_it in
        let shown : v'.shown ≡ true = shown_at s of (subst (λ o. ShadowShown o v.doing v.shown (d.left y)) is h.shown) in
        subst (λ (z : ReplayStage). ReplayTurn port l d p q r (to_stage r Collecting) x b v (replay_waking z)) (sym e)
        (woken_to Worked s (subst (λ (z : ReplayStage). IsAt z (replay r.settings) r.next v.frame v.done) e h.at) refl (λ z. cc z) (λ z. cc z)
        (sym (ap (λ o. driver_woken o act.Awake) of))
        (omega (
          arith,
          s.left,
          ap (λ z. collect_owes r.winding false z) shown,
          arm_pays r.winding (d.left y) (omega (arith, s.left)),
          ap (λ (z : ReplayStage). replay_owes d r.winding z y v) e,
          ap (λ o. shadow_owes r.winding stage.ArmingShadow o v.doing false v.shown (d.left y)) is,
        )))
    woken DriverOp.hear is s m g =
        let v' : DriverView = d.side.after v s.op s.access s.got in
        let e = at_hearing r.stage g in
        let of : s.op ≡ op.Hear = subst (λ o. IsDriverOp o s.op) is s.of_it in
        subst (λ (z : ReplayStage). ReplayTurn port l d p q r (to_stage r Collecting) x b v (replay_waking z)) (sym e)
        (woken_to Woke s (subst (λ (z : ReplayStage). IsAt z (replay r.settings) r.next v.frame v.done) e h.at) refl (λ z. cc z) (λ z. cc z)
        (sym (ap (λ o. driver_woken o act.Awake) of)) (omega (arith, collect_most r.winding false v'.shown, most_few r.winding)))
    woken DriverOp.disarm is s m g =
        let v' : DriverView = d.side.after v s.op s.access s.got in
        let e = at_disarming r.stage g in
        let on : r.winding ≡ true = h.disarms e in
        let of : s.op ≡ op.Disarm = subst (λ o. IsDriverOp o s.op) is s.of_it in
        subst (λ (z : ReplayStage). ReplayTurn port l d p q r (to_stage r Collecting) x b v (replay_waking z)) (sym e)
        (woken_to Worked s (subst (λ (z : ReplayStage). IsAt z (replay r.settings) r.next v.frame v.done) e h.at) refl (λ z. cc z) (λ z. cc z)
        (sym (ap (λ o. driver_woken o act.Awake) of))
        (omega (
          arith,
          ap (λ z. collect_owes z false v'.shown) on,
          ap (λ (z : ReplayStage). replay_owes d r.winding z y v) e,
          ap (λ o. shadow_owes r.winding stage.DisarmingShadow o v.doing false v.shown (d.left y)) is,
          ap (λ z. take_owes z false v.shown) on,
        )))
    woken DriverOp.idle is s m g = absurd m
    woken (DriverOp.offer c) is s m g = absurd m
    woken DriverOp.collect is s m g = absurd m
    woken DriverOp.signal is s m g = absurd m

    pub woken_at : IsDriverStep port d p q v y b act.Awake
        → ReplayTurn port l d p q r (to_stage r Collecting) x b v (replay_waking r.stage)
    woken_at s = woken (d.begun y) refl s s.says.0 h.op
