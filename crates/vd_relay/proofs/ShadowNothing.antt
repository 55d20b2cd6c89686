-- A look of the shadow end that shows no entry.
use Rattle.std.proofs.Common.{◌≡◌, ◌+◌, ◌≤◌, Bool, true, false, None, refl, sym, ◌∙◌, ap, subst, arith, inl}
use Rattle.vd_words.specs.declared.access.Op.TheVariants as op
use Rattle.vd_words.specs.Model.{PortModel}
use Rattle.vd_words.specs.Own.{IsOwn}
use Rattle.vd_ring.specs.declared.act.DriverAct.TheVariants as act
use Rattle.vd_ring.specs.declared.driver.DriverView.{DriverView}
use Rattle.vd_ring.specs.declared.device.DeviceView.{DeviceView}
use Rattle.vd_layout.specs.Begun.{IsDriverOp}
use Rattle.vd_layout.specs.Driver.{DriverModel, IsLawfulDriver, IsDriverStep}
use Rattle.vd_layout.specs.Device.{DeviceModel, IsLawfulDevice}
use Rattle.vd_relay.specs.declared.counts.Turn.TheVariants.{Worked}
use Rattle.vd_relay.specs.declared.stage.Stage.{Stage}
use Rattle.vd_relay.specs.declared.stage.Stage.TheVariants as stage
use Rattle.vd_relay.specs.declared.state.State.{State}
use Rattle.vd_relay.specs.Pace.{shadow_owes, idle_owes, collect_owes, collecting_owes}
use Rattle.vd_relay.specs.Stages.{is_rested, none_next, ShadowIs}
use Rattle.vd_relay.specs.Tie.{Course}
use Rattle.vd_relay.specs.Relay.{Stands, ShadowTurn}
use Rattle.vd_relay.proofs.Calm.{Free, at_stage, settled, owes_idle}
use Rattle.vd_relay.proofs.Ops.{at_collect}
use Rattle.vd_relay.proofs.Turns.{worked_only}
use Rattle.vd_relay.proofs.ShadowTurns.{made_at, next_at, not_woken, to_stage, with_shadow}
use Rattle.vd_relay.proofs.ShadowFree.{freed_at}

none_small : (none g s : Bool) → idle_owes false (none_next (stage.Collecting none)) g s + 1 ≤ collect_owes false none false
none_small true g s = omega arith
none_small false true s = omega arith
none_small false false true = omega arith
none_small false false false = omega arith

none_live : (none : Bool) → is_rested (none_next (stage.Collecting none)) ≡ false
none_live true = refl
none_live false = refl

module _ {P E D : Type 0} (port : PortModel P) (e : DeviceModel E) (d : DriverModel D) (law : IsLawfulDevice e) (ldr : IsLawfulDriver d)
    (z : Course) (p q : P) (r : State E D) (w : DeviceView) (v : DriverView) (b : D) where
  -- it was not shown an entry before
  unshown : (s : IsDriverStep port d p q v r.shadow b act.Nothing) → (x : Bool) → v.shown ≡ x → IsOwn port d.side p v → x ≡ false
  unshown s false is own = refl
  unshown s true is own =
      let n = (ldr.looks.nothing v s.op s.access s.got s.was_next).0 (sym s.is_answer) in
      let t : d.shows v s.got ≡ true = ldr.stays.again v s.op s.access s.got s.was_next
      (own.told s.op s.access s.was_next s.got q s.moved) (inl (n.0, n.1)) is in
      absurd (cc (t, n.2))

  pub collects_of : (s : IsDriverStep port d p q v r.shadow b act.Nothing) → s.op ≡ op.Collect
  collects_of s = subst (λ o. IsDriverOp o s.op) s.says.0 s.of_it

  pub look_owes : (none : Bool) → (s : IsDriverStep port d p q v r.shadow b act.Nothing) → IsOwn port d.side p v
      → shadow_owes r.winding (stage.Collecting none) (d.begun r.shadow) v.doing w.shown v.shown (d.left r.shadow)
      ≡ collect_owes r.winding none false
  look_owes none s own = ap (λ o. shadow_owes r.winding (stage.Collecting none) o v.doing w.shown v.shown (d.left r.shadow)) s.says.0
      ∙ ap (λ x. collecting_owes r.winding none x (d.left r.shadow)) (unshown s v.shown refl own)

  none_settled : (none : Bool) → (s : IsDriverStep port d p q v r.shadow b act.Nothing)
      → Free e d z (with_shadow r b) w (d.side.after v s.op s.access s.got) → w.armed ≡ None
      → (d.side.after v s.op s.access s.got).armed ≡ None
      → Stands e d z (next_at r b (none_next (stage.Collecting none))) w (d.side.after v s.op s.access s.got)
  none_settled true s f ga sa = settled e d law ldr z (with_shadow r b) w
      (d.side.after v s.op s.access s.got) stage.ArmingGuest refl f tt ga sa
  none_settled false s f ga sa = settled e d law ldr z (with_shadow r b) w (d.side.after v s.op s.access s.got) stage.Taking refl f tt ga sa

  found_none : (none : Bool) → r.winding ≡ false → Stands e d z (at_stage r (stage.Collecting none)) w v → IsOwn port d.side p v
      → IsDriverStep port d p q v r.shadow b act.Nothing
      → ShadowTurn port e d z p q (at_stage r (stage.Collecting none)) (next_at r b (none_next (stage.Collecting none))) w v Worked
  found_none none off h own s =
      let v' : DriverView = d.side.after v s.op s.access s.got in
      let f = freed_at port e d law ldr z p q r w v b act.Nothing s (stage.Collecting none) refl refl h s.says.2 s.says.1 in
      let unarmed : v'.armed ≡ None = ldr.stays_unarmed v s.op s.access s.got (λ y. cc (collects_of s, y)) h.shadow_armed in
      made_at port e d law ldr z p q r w v b act.Nothing s (stage.Collecting none) (next_at r b (none_next (stage.Collecting none))) Worked
      (none_settled none s f h.guest_armed unarmed) refl (not_woken s.op act.Nothing (λ y. cc y)) (worked_only act.Nothing (λ y. cc y))
      ((λ y. absurd (cc y)), λ y. absurd (cc (off, y.1))) (none_live none)
      (omega (
        arith,
        owes_idle e d law ldr z (with_shadow r b) w v' (none_next (stage.Collecting none)) f,
        ap (λ x. idle_owes x (none_next (stage.Collecting none)) w.shown v'.shown) off,
        look_owes none s own,
        ap (λ x. collect_owes x none false) off,
        none_small none w.shown v'.shown,
      )) refl (λ y. absurd (cc y)) (λ y. absurd (cc y)) (λ n on. absurd (cc (off, on)))

  pub none_collected : r.winding ≡ false → Stands e d z r w v → IsOwn port d.side p v → IsDriverStep port d p q v r.shadow b act.Nothing
      → ShadowTurn port e d z p q r (next_at r b (none_next r.stage)) w v Worked
  none_collected off h own s =
      let at = at_collect r.stage (subst (λ o. ShadowIs r.stage o) s.says.0 h.shadow) in
      subst (λ (x : Stage). ShadowTurn port e d z p q r (next_at r b (none_next x)) w v Worked) (sym at.is)
      (to_stage port e d law ldr z p q r w v b (stage.Collecting at.none) (next_at r b (none_next (stage.Collecting at.none))) Worked at.is
      (λ x. found_none at.none off x own s) h)
