-- A collect of the shadow end: the give of the chain is begun.
use Rattle.std.proofs.Common.{◌≡◌, ℕ, ◌<◌, ◌≤◌, Bool, false, Some, None, List, [], ◌∷◌, length, slice_set, refl, sym, ◌∙◌, ap, subst, arith, inr}
use Rattle.vd_words.specs.declared.access.Op.TheVariants as op
use Rattle.vd_words.specs.Model.{PortModel}
use Rattle.vd_ring.specs.declared.act.DriverAct.TheVariants as act
use Rattle.vd_ring.specs.declared.frame.Used.{Used}
use Rattle.vd_ring.specs.declared.driver.DriverDone.TheVariants.{Collect}
use Rattle.vd_ring.specs.declared.driver.DriverView.{DriverView}
use Rattle.vd_ring.specs.declared.device.DeviceDone.{DeviceDone}
use Rattle.vd_ring.specs.declared.device.DeviceView.{DeviceView}
use Rattle.vd_ring.specs.History.{entry, open_at, occurs}
use Rattle.vd_ring.proofs.Counts.{occurs_from}
use Rattle.vd_layout.proofs.OnePair.{CollectedOne, says_collected}
use Rattle.vd_layout.specs.Begun.{DeviceOp, IsDriverOp}
use Rattle.vd_layout.specs.Driver.{DriverModel, IsLawfulDriver, IsDriverStep}
use Rattle.vd_layout.specs.Device.{DeviceModel, IsLawfulDevice, MayGive}
use Rattle.vd_table.specs.Rows.{row}
use Rattle.vd_relay.specs.declared.counts.Turn.TheVariants.{Handled}
use Rattle.vd_relay.specs.declared.stage.Stage.{Stage}
use Rattle.vd_relay.specs.declared.stage.Stage.TheVariants as stage
use Rattle.vd_relay.specs.declared.state.State.{State}
use Rattle.vd_relay.specs.Pace.{guest_owes}
use Rattle.vd_relay.specs.Stages.{is_offering, GuestIs, ShadowIs, TakesFrom, OffersHand, BackIs, GuestShown, ShadowShown}
use Rattle.vd_relay.specs.Tie.{Course, IsTied, guests, origin}
use Rattle.vd_relay.specs.Relay.{Stands}
use Rattle.vd_relay.specs.Carriers.{CarrierModel}
use Rattle.vd_relay.specs.Tellings.{MayTell, TellsOf}
use Rattle.vd_relay.proofs.Ways.{alike}
use Rattle.vd_relay.proofs.Ties.{tied_collected, head_stored, may_give}
use Rattle.vd_relay.proofs.Calm.{at_stage}
use Rattle.vd_relay.proofs.Ops.{at_collect, CollectsAt}
use Rattle.vd_relay.proofs.Turns.{handled_only}
use Rattle.vd_relay.proofs.ShadowTurns.{TurnsTo, framed_at, made_to, not_woken, once, tied_after, to_stage_to}
use Rattle.vd_relay.proofs.ShadowFree.{none_back}

module _ {P E D : Type 0} (port : PortModel P) (e : DeviceModel E) (d : DriverModel D) (law : IsLawfulDevice e) (ldr : IsLawfulDriver d)
    (z : Course) (p q : P) (r : State E D) (w : DeviceView) (v : DriverView) (b : D) where
  -- where a collected chain's origin is taken out and its give is begun
  abbrev pub giving : E → D → ℕ → State E D
  giving a' b' head = record {
    guest = a';
    shadow = b';
    table = slice_set r.table head None;
    stage = stage.Giving;
    winding = r.winding;
    target = r.target;
  }

  module _ (k l m : ℕ) (s : IsDriverStep port d p q v r.shadow b (act.Collected k l m)) where
    said_at : CollectedOne k l m (d.begun r.shadow) (d.begun b) v.frame v.done (d.side.after v s.op s.access s.got).done
    said_at = says_collected k l m (d.begun r.shadow) (d.begun b) v.frame v.done (d.side.after v s.op s.access s.got).done s.says

    was_open : 1 ≤ occurs k (open_at v.done)
    was_open = occurs_from k (open_at v.done) said_at.was_open

    tied_here : (none : Bool) → (h : Stands e d z (at_stage r (stage.Collecting none)) w v)
        → IsTied z r.table h.hand [] h.acts v.frame v.done
    tied_here none h = subst (λ (us : List Used). IsTied z r.table h.hand us h.acts v.frame v.done)
        (none_back port e d law ldr z p q r w v b (stage.Collecting none) refl h) h.tied

    collected_now : (none : Bool) (number : ℕ) (a' : E) → (h : Stands e d z (at_stage r (stage.Collecting none)) w v)
        → number ≡ guests z k → e.stands a' w → e.begun a' ≡ DeviceOp.give number l → e.resting a' ≡ false → e.left a' ≤ 5
        → TurnsTo port e d z p q (at_stage r (stage.Collecting none)) (giving a' b m) w v Handled (d.side.after v s.op s.access s.got)
    collected_now none number a' h is serves begun awake few =
        let v' : DriverView = d.side.after v s.op s.access s.got in
        let of : s.op ≡ op.Collect = subst (λ o. IsDriverOp o s.op) said_at.begun s.of_it in
        let gives : e.begun a' ≡ DeviceOp.give (guests z k) l = begun ∙ ap (λ (y : ℕ). DeviceOp.give y l) is in
        made_to port e d law ldr z p q r w v b (act.Collected k l m) s (stage.Collecting none) (giving a' b m) Handled (record {
          serves = serves;
          drives = s.now_stands;
          paired = framed_at port e d law ldr z p q r w v b (act.Collected k l m) s h.paired;
          rests = awake;
          acts = h.acts;
          before = h.before;
          hand = h.hand;
          back = entry (guests z k) l ∷ [];
          tied = tied_after port e d law ldr z p q r w v b (act.Collected k l m) s (slice_set r.table m None) h.hand
              (entry (guests z k) l ∷ []) h.acts
              (Collect (entry k l ∷ []) ∷ v.done) said_at.done
              (subst (λ (y : ℕ). IsTied z (slice_set r.table y None) h.hand (entry (guests z k) l ∷ []) h.acts v.frame
              (Collect (entry k l ∷ []) ∷ v.done)) (sym said_at.is_head)
              (tied_collected z r.table h.hand h.acts v.frame v.done k l (ldr.places r.shadow v h.drives) was_open (tied_here none h)));
          guest = subst (λ o. GuestIs stage.Giving o) (sym gives) tt;
          shadow = subst (λ o. ShadowIs stage.Giving o) (sym said_at.idle) tt;
          takes = subst (λ o. TakesFrom o h.hand) (sym gives) tt;
          offers = subst (λ o. OffersHand o h.hand) (sym said_at.idle) tt;
          in_hand = h.in_hand;
          offer = tt;
          to_give = subst (λ o. BackIs o (entry (guests z k) l ∷ [])) (sym gives) refl;
          ends = tt;
          guest_armed = h.guest_armed;
          shadow_armed = ldr.stays_unarmed v s.op s.access s.got (λ y. cc (of, y)) h.shadow_armed;
          guest_shown = subst (λ o. GuestShown o w.doing w.shown (e.left a')) (sym gives) tt;
          shadow_shown = subst (λ o. ShadowShown o v'.doing v'.shown (d.left b)) (sym said_at.idle) tt;
        }) refl (not_woken s.op (act.Collected k l m) (λ y. cc y)) (handled_only (act.Collected k l m) (λ y. cc y))
        (once port e d law ldr z p q r w v b (act.Collected k l m) Handled (λ y. cc y) (λ y. cc y)) refl
        (omega (arith, few, ap (λ o. guest_owes r.winding stage.Giving o w.doing w.shown v'.shown (e.left a')) gives))
        refl (λ y. absurd (cc y)) (λ y. absurd (cc y)) (λ n on at. absurd (cc at))

  collects_at : (k l m : ℕ) → Stands e d z r w v → (s : IsDriverStep port d p q v r.shadow b (act.Collected k l m))
      → CollectsAt r.stage
  collects_at k l m h s = at_collect r.stage (subst (λ o. ShadowIs r.stage o) (said_at k l m s).begun h.shadow)

  at_collecting : (k l m : ℕ) → (h : Stands e d z r w v) → (s : IsDriverStep port d p q v r.shadow b (act.Collected k l m))
      → Stands e d z (at_stage r (stage.Collecting (collects_at k l m h s).none)) w v
  at_collecting k l m h s = subst (λ (x : Stage). Stands e d z (at_stage r x) w v) (collects_at k l m h s).is h

  -- the table has the chain's number on the guest's ring
  pub stored_there : (k l m : ℕ) → Stands e d z r w v → IsDriverStep port d p q v r.shadow b (act.Collected k l m)
      → row r.table m ≡ Some (origin (guests z k))
  stored_there k l m h s = ap (row r.table) (said_at k l m s).is_head ∙ h.tied.holds.stored k (was_open k l m s)

  pub stored_inside : (k l m : ℕ) → Stands e d z r w v → IsDriverStep port d p q v r.shadow b (act.Collected k l m) → m < length r.table
  stored_inside k l m h s = omega (
    arith,
    (said_at k l m s).is_head,
    head_stored (guests z) r.table v.frame v.done k l (ldr.places r.shadow v h.drives) (was_open k l m s) h.tied.holds,
  )

  pub may_give_it : (k l m : ℕ) → Stands e d z r w v → IsDriverStep port d p q v r.shadow b (act.Collected k l m)
      → MayGive w.frame w.done (guests z k)
  may_give_it k l m h s =
      let u = at_collecting k l m h s in
      subst (λ (y : List DeviceDone). MayGive w.frame y (guests z k)) (sym u.before)
      (may_give z r.table u.hand u.acts w.frame v.frame v.done k (tied_here k l m s (collects_at k l m h s).none u) (was_open k l m s)
      (said_at k l m s).in_order (alike z.way w.frame v.frame u.paired).features)

  -- the carrier may be told that it came back
  pub may_collect : {C : Type 0} (t : CarrierModel C) (c : C) (k l m : ℕ) → MayTell t c r v
      → IsDriverStep port d p q v r.shadow b (act.Collected k l m) → t.may_collect c m
  may_collect t c k l m tells s = subst (λ (y : ℕ). t.may_collect c y) (sym (said_at k l m s).is_head) (tells.collect k (was_open k l m s))

  -- and is told so
  pub collected : {C : Type 0} (t : CarrierModel C) (c c' : C) (k l m number : ℕ) (a' : E) → Stands e d z r w v
      → IsDriverStep port d p q v r.shadow b (act.Collected k l m) → number ≡ guests z k → e.stands a' w
      → e.begun a' ≡ DeviceOp.give number l → e.resting a' ≡ false → e.left a' ≤ 5 → t.collected c m c'
      → TellsOf t port e d z c c' p q r (giving a' b m) w v Handled
  collected t c c' k l m number a' h s is serves begun awake few told =
      let at = collects_at k l m h s in
      let turn = to_stage_to port e d law ldr z p q r w v b (stage.Collecting at.none) (giving a' b m) Handled
      (d.side.after v s.op s.access s.got) at.is (λ x. collected_now k l m s at.none number a' x is serves begun awake few) h in (
        turn.0,
        inr (inr (record {
          other = ap is_offering at.is;
          k = k;
          len = l;
          was_open = was_open k l m s;
          done = ap (λ (u : DriverView). u.done) turn.1 ∙ (said_at k l m s).done;
          next = refl;
          begun = begun ∙ ap (λ (y : ℕ). DeviceOp.give y l) is;
          short = few;
          idle = (said_at k l m s).idle;
          told = subst (λ (y : ℕ). t.collected c y c') (said_at k l m s).is_head told;
        })),
      )
