-- In the wind-up, a look of the shadow end that shows no entry.
use Rattle.std.proofs.Common.{◌≡◌, ◌↔◌, Bool, true, false, None, List, length, refl, sym, ◌∙◌, ap, subst, arith, IsTrue}
use Rattle.vd_words.specs.Model.{PortModel}
use Rattle.vd_words.specs.Own.{IsOwn}
use Rattle.vd_ring.specs.declared.act.DriverAct.TheVariants as act
use Rattle.vd_ring.specs.declared.driver.DriverDone.{DriverDone}
use Rattle.vd_ring.specs.declared.driver.DriverView.{DriverView}
use Rattle.vd_ring.specs.declared.device.DeviceView.{DeviceView}
use Rattle.vd_ring.specs.History.{collects}
use Rattle.vd_layout.specs.Driver.{DriverModel, IsLawfulDriver, IsDriverStep}
use Rattle.vd_layout.specs.Device.{DeviceModel, IsLawfulDevice}
use Rattle.vd_layout.specs.laws.Unarmed.{device_unarmed, driver_unarmed}
use Rattle.vd_relay.specs.declared.counts.Turn.TheVariants.{Worked, Again}
use Rattle.vd_relay.specs.declared.stage.Stage.{Stage}
use Rattle.vd_relay.specs.declared.stage.Stage.TheVariants as stage
use Rattle.vd_relay.specs.declared.state.State.{State}
use Rattle.vd_relay.specs.Pace.{repeating, idle_owes, collect_owes}
use Rattle.vd_relay.specs.Stages.{roused, ShadowIs}
use Rattle.vd_relay.specs.Tie.{Course}
use Rattle.vd_relay.specs.Relay.{Stands, ShadowTurn, IsRoused, IsFinished}
use Rattle.vd_relay.proofs.Calm.{at_stage, owes_idle, stands_roused}
use Rattle.vd_relay.proofs.Ops.{at_collect}
use Rattle.vd_relay.proofs.Turns.{worked_only}
use Rattle.vd_relay.proofs.ShadowTurns.{made_at, next_at, not_woken, to_stage, with_shadow}
use Rattle.vd_relay.proofs.ShadowFree.{freed_at}
use Rattle.vd_relay.proofs.ShadowNothing.{collects_of, look_owes}

module _ {P E D : Type 0} (port : PortModel P) (e : DeviceModel E) (d : DriverModel D) (law : IsLawfulDevice e) (ldr : IsLawfulDriver d)
    (z : Course) (p q : P) (r : State E D) (w : DeviceView) (v : DriverView) (b : D) where
  finished_same : (s : IsDriverStep port d p q v r.shadow b act.Nothing)
      → IsFinished (with_shadow r b) w (d.side.after v s.op s.access s.got)
      ↔ IsFinished r w v
  finished_same s =
      let same = ap (λ (o : List DriverDone). length (collects o)) s.says.2 in
      ((λ f. (f.0, omega (arith, f.1, same), f.2)), λ f. (f.0, omega (arith, f.1, same), f.2))

  again_to : (none finished : Bool) → r.winding ≡ true → (h : Stands e d z (at_stage r (stage.Collecting none)) w v)
      → IsOwn port d.side p v → (s : IsDriverStep port d p q v r.shadow b act.Nothing)
      → Stands e d z (next_at r b (roused false false true finished)) w (d.side.after v s.op s.access s.got)
      → IsTrue finished ↔ IsFinished (with_shadow r b) w (d.side.after v s.op s.access s.got)
      → ShadowTurn port e d z p q (at_stage r (stage.Collecting none)) (next_at r b (roused false false true finished)) w v
      (repeating (roused false false true finished))
  again_to none false on h own s stands exact =
      let v' : DriverView = d.side.after v s.op s.access s.got in
      let f = freed_at port e d law ldr z p q r w v b act.Nothing s (stage.Collecting none) refl refl h s.says.2 s.says.1 in
      made_at port e d law ldr z p q r w v b act.Nothing s (stage.Collecting none) (next_at r b (stage.Collecting false)) Again stands refl
      (not_woken s.op act.Nothing (λ y. cc y)) ((λ y. absurd (cc y)), λ y. absurd (cc y))
      ((λ y. (refl, on, λ fin. absurd (cc (exact.1 ((finished_same s).1 fin))))), λ y. refl) refl
      (omega (
        arith,
        owes_idle e d law ldr z (with_shadow r b) w v' (stage.Collecting false) f,
        ap (λ x. idle_owes x (stage.Collecting false) w.shown v'.shown) on,
        look_owes port e d law ldr z p q r w v b none s own,
        ap (λ x. collect_owes x none false) on,
      )) refl (λ y. absurd (cc y)) (λ y. absurd (cc y)) (λ n on at. absurd (cc at))
  again_to none true on h own s stands exact =
      let v' : DriverView = d.side.after v s.op s.access s.got in
      let f = freed_at port e d law ldr z p q r w v b act.Nothing s (stage.Collecting none) refl refl h s.says.2 s.says.1 in
      made_at port e d law ldr z p q r w v b act.Nothing s (stage.Collecting none) (next_at r b stage.Resting) Worked stands refl
      (not_woken s.op act.Nothing (λ y. cc y)) (worked_only act.Nothing (λ y. cc y))
      ((λ y. absurd (cc y)), λ y. absurd (y.2 ((finished_same s).0 (exact.0 refl)))) refl
      (omega (
        arith,
        owes_idle e d law ldr z (with_shadow r b) w v' stage.Resting f,
        look_owes port e d law ldr z p q r w v b none s own,
        ap (λ x. collect_owes x none false) on,
      )) refl (λ y. absurd (cc y)) (λ y. absurd (cc y)) (λ n on at. absurd (cc at))

  again_now : (none : Bool) (st' : Stage) → r.winding ≡ true → (h : Stands e d z (at_stage r (stage.Collecting none)) w v)
      → IsOwn port d.side p v → (s : IsDriverStep port d p q v r.shadow b act.Nothing)
      → IsRoused e d (with_shadow r b) w (d.side.after v s.op s.access s.got) st'
      → ShadowTurn port e d z p q (at_stage r (stage.Collecting none)) (next_at r b st') w v (repeating st')
  again_now none st' on h own s a =
      let v' : DriverView = d.side.after v s.op s.access s.got in
      let f = freed_at port e d law ldr z p q r w v b act.Nothing s (stage.Collecting none) refl refl h s.says.2 s.says.1 in
      let unarmed : v'.armed ≡ None = ldr.stays_unarmed v s.op s.access s.got
      (λ y. cc (collects_of port e d law ldr z p q r w v b s, y)) h.shadow_armed in
      let ga : e.armed r.guest ≡ false = device_unarmed e law r.guest w h.serves h.guest_armed in
      let sa : d.armed b ≡ false = driver_unarmed d ldr b v' s.now_stands unarmed in
      let is : st' ≡ roused false false true a.finished = a.is ∙ ap (λ x. roused x (d.armed b) r.winding a.finished) ga
      ∙ ap (λ x. roused false x r.winding a.finished) sa ∙ ap (λ x. roused false false x a.finished) on in
      let stands : Stands e d z (next_at r b (roused false false true a.finished)) w v' =
      subst (λ (x : Stage). Stands e d z (next_at r b x) w v') is (stands_roused e d law ldr z (with_shadow r b) w v' st' f a) in
      subst (λ (x : Stage). ShadowTurn port e d z p q (at_stage r (stage.Collecting none)) (next_at r b x) w v (repeating x)) (sym is)
      (again_to none a.finished on h own s stands a.exact)

  pub again_collected : (st' : Stage) → r.winding ≡ true → Stands e d z r w v → IsOwn port d.side p v
      → (s : IsDriverStep port d p q v r.shadow b act.Nothing)
      → IsRoused e d (with_shadow r b) w (d.side.after v s.op s.access s.got) st'
      → ShadowTurn port e d z p q r (next_at r b st') w v (repeating st')
  again_collected st' on h own s a =
      let at = at_collect r.stage (subst (λ o. ShadowIs r.stage o) s.says.0 h.shadow) in
      to_stage port e d law ldr z p q r w v b (stage.Collecting at.none) (next_at r b st') (repeating st') at.is
      (λ x. again_now at.none st' on x own s a) h
