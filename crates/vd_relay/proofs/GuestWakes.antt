-- What the wakings of the guest's end share.
use Rattle.std.proofs.Common.{◌≡◌, ◌≢◌, ◌+◌, ◌*◌, ◌≤◌, Bool, true, false, [], refl, sym, ◌∙◌, ap, subst, arith}
use Rattle.vd_words.specs.Model.{PortModel}
use Rattle.vd_ring.specs.declared.act.DeviceAct.TheVariants as act
use Rattle.vd_ring.specs.declared.driver.DriverView.{DriverView}
use Rattle.vd_ring.specs.declared.device.DeviceView.{DeviceView}
use Rattle.vd_ring.specs.Sleep.{device_woken}
use Rattle.vd_layout.specs.Driver.{DriverModel, IsLawfulDriver}
use Rattle.vd_layout.specs.Device.{DeviceModel, IsLawfulDevice, IsDeviceStep}
use Rattle.vd_relay.specs.declared.counts.Turn.{Turn}
use Rattle.vd_relay.specs.declared.counts.Turn.TheVariants.{Slept, Again}
use Rattle.vd_relay.specs.declared.stage.Stage.{Stage}
use Rattle.vd_relay.specs.declared.state.State.{State}
use Rattle.vd_relay.specs.Pace.{counted, handled, woke, waking, guest_owes, idle_owes}
use Rattle.vd_relay.specs.Stages.{is_shadow, is_hearing, roused}
use Rattle.vd_relay.specs.Tie.{Course}
use Rattle.vd_relay.specs.Relay.{Stands, GuestTurn}
use Rattle.vd_relay.proofs.Calm.{Free, at_stage, owes_idle, roused_small, roused_most, roused_deaf, is_calm}
use Rattle.vd_relay.proofs.GuestTurns.{bag_same, made_at, next_at, owes_here, with_guest}
use Rattle.vd_relay.proofs.GuestFree.{freed_at}

module _ {P E D : Type 0} (port : PortModel P) (e : DeviceModel E) (d : DriverModel D) (law : IsLawfulDevice e) (ldr : IsLawfulDriver d)
    (z : Course) (p q : P) (r : State E D) (w : DeviceView) (v : DriverView) (b : E) where
  pub awake_at : (st : Stage) → is_calm st ≡ true → is_shadow st ≡ false → (h : Stands e d z (at_stage r st) w v) → h.back ≡ []
      → (s : IsDeviceStep port e p q w r.guest b act.Awake) → Free e d z (with_guest r b) (e.side.after w s.op s.access s.got) v
  awake_at st calm side h back s = freed_at port e d law ldr z p q r w v b act.Awake s st calm side h back s.says.2 s.says.1 s.rests

  -- a turn that woke, at a stage that goes on
  pub woke_to : (st st' : Stage) (t : Turn) → is_calm st ≡ true → is_shadow st ≡ false → (h : Stands e d z (at_stage r st) w v)
      → h.back ≡ []
      → (s : IsDeviceStep port e p q w r.guest b act.Awake) → Stands e d z (next_at r b st') (e.side.after w s.op s.access s.got) v
      → handled t ≡ 0 → t ≢ Slept → t ≢ Again → woke t ≡ device_woken s.op act.Awake
      → (is_hearing st' ≡ true → ⊥)
      → idle_owes r.winding st' (e.side.after w s.op s.access s.got).shown v.shown + counted t
      ≤ guest_owes r.winding st (e.begun r.guest) w.doing w.shown v.shown (e.left r.guest) + 64 * woke t
      → GuestTurn port e d z p q (at_stage r st) (next_at r b st') w v t
  woke_to st st' t calm side h back s stands none ns na wakes leaves paid =
      let f = awake_at st calm side h back s in
      let w' : DeviceView = e.side.after w s.op s.access s.got in
      made_at port e d law ldr z p q r w v b act.Awake s st (next_at r b st') t stands
      (bag_same port e d law ldr z p q r w v b act.Awake s s.says.2) none wakes
      ((λ y. absurd (ns y)), λ y. absurd (cc y)) na (λ y. absurd (ns y))
      (omega (
        arith,
        none,
        paid,
        owes_idle e d law ldr z (with_guest r b) w' v st' f,
        owes_here port e d law ldr z p q r w v b (at_stage r st) w side,
      )) refl (λ y. absurd (cc y)) (λ y. absurd (ns y)) (λ n on at guest shadow. leaves at)

  -- by how much a rousing is paid for
  pub roused_by : (st : Stage) (g s : Bool) → (a : (finished : Bool) × (st ≡ roused (e.armed b) (d.armed r.shadow) r.winding finished))
      → idle_owes r.winding st g s ≤ roused_most r.winding g s
  roused_by st g s a = omega (
    arith,
    ap (λ (x : Stage). idle_owes r.winding x g s) a.1,
    roused_small (e.armed b)
        (d.armed r.shadow) r.winding a.0 g s,
  )

  -- it hears no bell next
  pub roused_off : (st : Stage) → (a : (finished : Bool) × (st ≡ roused (e.armed b) (d.armed r.shadow) r.winding finished))
      → is_hearing st ≡ true → ⊥
  roused_off st a at = roused_deaf (e.armed b) (d.armed r.shadow) r.winding a.0 (sym (ap is_hearing a.1) ∙ at)

  pub waking_at : (st st' : Stage) (t : Turn) → r.stage ≡ st → GuestTurn port e d z p q r (next_at r b st') w v t → t ≡ waking st
      → GuestTurn port e d z p q r (next_at r b st') w v (waking r.stage)
  waking_at st st' t is g e' = subst (λ (x : Turn). GuestTurn port e d z p q r (next_at r b st') w v x) (e' ∙ ap waking (sym is)) g
