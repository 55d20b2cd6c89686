-- What the wakings of the shadow end share.
use Rattle.std.proofs.Common.{◌≡◌, ◌≢◌, ◌+◌, ◌*◌, ◌≤◌, Bool, true, false, refl, sym, ◌∙◌, ap, subst, arith}
use Rattle.vd_words.specs.Model.{PortModel}
use Rattle.vd_ring.specs.declared.act.DriverAct.TheVariants as act
use Rattle.vd_ring.specs.declared.driver.DriverView.{DriverView}
use Rattle.vd_ring.specs.declared.device.DeviceView.{DeviceView}
use Rattle.vd_ring.specs.Sleep.{driver_woken}
use Rattle.vd_layout.specs.Driver.{DriverModel, IsLawfulDriver, IsDriverStep}
use Rattle.vd_layout.specs.Device.{DeviceModel, IsLawfulDevice}
use Rattle.vd_relay.specs.declared.counts.Turn.{Turn}
use Rattle.vd_relay.specs.declared.counts.Turn.TheVariants.{Slept, Again}
use Rattle.vd_relay.specs.declared.stage.Stage.{Stage}
use Rattle.vd_relay.specs.declared.state.State.{State}
use Rattle.vd_relay.specs.Pace.{counted, handled, woke, waking, shadow_owes, idle_owes}
use Rattle.vd_relay.specs.Stages.{is_rested, is_shadow, is_hearing, roused}
use Rattle.vd_relay.specs.Tie.{Course}
use Rattle.vd_relay.specs.Relay.{Stands, ShadowTurn}
use Rattle.vd_relay.proofs.Calm.{Free, at_stage, owes_idle, roused_small, roused_most, roused_live, roused_deaf, is_calm}
use Rattle.vd_relay.proofs.ShadowTurns.{made_at, next_at, once, owes_here, with_shadow}
use Rattle.vd_relay.proofs.ShadowFree.{freed_at}

module _ {P E D : Type 0} (port : PortModel P) (e : DeviceModel E) (d : DriverModel D) (law : IsLawfulDevice e) (ldr : IsLawfulDriver d)
    (z : Course) (p q : P) (r : State E D) (w : DeviceView) (v : DriverView) (b : D) where
  pub awake_at : (st : Stage) → is_calm st ≡ true → is_shadow st ≡ true → (h : Stands e d z (at_stage r st) w v)
      → (s : IsDriverStep port d p q v r.shadow b act.Awake) → Free e d z (with_shadow r b) w (d.side.after v s.op s.access s.got)
  awake_at st calm side h s = freed_at port e d law ldr z p q r w v b act.Awake s st calm side h s.says.2 s.says.1

  pub woke_to : (st st' : Stage) (t : Turn) → is_calm st ≡ true → is_shadow st ≡ true → (h : Stands e d z (at_stage r st) w v)
      → (s : IsDriverStep port d p q v r.shadow b act.Awake) → Stands e d z (next_at r b st') w (d.side.after v s.op s.access s.got)
      → handled t ≡ 0 → t ≢ Slept → t ≢ Again → woke t ≡ driver_woken s.op act.Awake → is_rested st' ≡ false
      → (is_hearing st' ≡ true → ⊥)
      → idle_owes r.winding st' w.shown (d.side.after v s.op s.access s.got).shown + counted t
      ≤ shadow_owes r.winding st (d.begun r.shadow) v.doing w.shown v.shown (d.left r.shadow) + 64 * woke t
      → ShadowTurn port e d z p q (at_stage r st) (next_at r b st') w v t
  woke_to st st' t calm side h s stands none ns na wakes live leaves paid =
      let f = awake_at st calm side h s in
      let v' : DriverView = d.side.after v s.op s.access s.got in
      made_at port e d law ldr z p q r w v b act.Awake s st (next_at r b st') t stands none wakes ((λ y. absurd (ns y)), λ y. absurd (cc y))
      (once port e d law ldr z p q r w v b act.Awake t (λ y. cc y) na) live
      (omega (
        arith,
        none,
        paid,
        owes_idle e d law ldr z (with_shadow r b) w v' st' f,
        owes_here port e d law ldr z p q r w v b (at_stage r st) v side,
      )) refl (λ y. absurd (cc y)) (λ y. absurd (ns y)) (λ n on at guest shadow. leaves at)

  -- by how much a rousing is paid for
  pub roused_by : (st : Stage) (g s : Bool) → (a : (finished : Bool) × (st ≡ roused (e.armed r.guest) (d.armed b) r.winding finished))
      → idle_owes r.winding st g s ≤ roused_most r.winding g s
  roused_by st g s a = omega (
    arith,
    ap (λ (x : Stage). idle_owes r.winding x g s) a.1,
    roused_small (e.armed r.guest) (d.armed b) r.winding a.0 g s,
  )

  -- it hears no bell next
  pub roused_off : (st : Stage) → (a : (finished : Bool) × (st ≡ roused (e.armed r.guest) (d.armed b) r.winding finished))
      → is_hearing st ≡ true → ⊥
  roused_off st a at = roused_deaf (e.armed r.guest) (d.armed b) r.winding a.0 (sym (ap is_hearing a.1) ∙ at)

  pub roused_on : (st : Stage) → (a : (finished : Bool) × (st ≡ roused (e.armed r.guest) (d.armed b) r.winding finished))
      → is_rested st ≡ false
  roused_on st a = ap is_rested a.1 ∙ roused_live (e.armed r.guest) (d.armed b) r.winding a.0

  pub waking_at : (st st' : Stage) (t : Turn) → r.stage ≡ st → ShadowTurn port e d z p q r (next_at r b st') w v t → t ≡ waking st
      → ShadowTurn port e d z p q r (next_at r b st') w v (waking r.stage)
  waking_at st st' t is g e' = subst (λ (x : Turn). ShadowTurn port e d z p q r (next_at r b st') w v x) (e' ∙ ap waking (sym is)) g
