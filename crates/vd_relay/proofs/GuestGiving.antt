-- A give of the guest's end.
use Rattle.std.proofs.Common.{◌≡◌, ℕ, ◌+◌, ◌≤◌, Bool, true, false, List, [], ◌∷◌, if◌then◌else◌, refl, sym, ◌∙◌, ap, subst, arith, inl, inr}
use Rattle.std.specs.List.{Contains}
use Rattle.std.proofs.lemmas.List.Elements.{Contains-push}
use Rattle.vd_model.specs.declared.chain.Piece.{Piece}
use Rattle.vd_words.specs.declared.access.Op.TheVariants as op
use Rattle.vd_words.specs.Model.{PortModel}
use Rattle.vd_ring.specs.declared.act.DeviceAct.TheVariants as act
use Rattle.vd_ring.specs.declared.frame.Used.{Used}
use Rattle.vd_ring.specs.declared.driver.DriverView.{DriverView}
use Rattle.vd_ring.specs.declared.device.DeviceDone.{DeviceDone}
use Rattle.vd_ring.specs.declared.device.DeviceDone.TheVariants.{Give}
use Rattle.vd_ring.specs.declared.device.DeviceView.{DeviceView}
use Rattle.vd_ring.specs.History.{entry, gives, running}
use Rattle.vd_ring.proofs.Counts.{occurs_from}
use Rattle.vd_layout.proofs.OnePair.{says_given}
use Rattle.vd_layout.specs.Begun.{DeviceOp, DevicePublished, IsDeviceOp}
use Rattle.vd_layout.specs.Driver.{DriverModel, IsLawfulDriver}
use Rattle.vd_layout.specs.Device.{DeviceModel, IsLawfulDevice, IsDeviceStep}
use Rattle.vd_relay.specs.declared.counts.Turn.TheVariants.{Handled}
use Rattle.vd_relay.specs.declared.stage.Stage.TheVariants as stage
use Rattle.vd_relay.specs.declared.state.State.{State}
use Rattle.vd_relay.specs.Pace.{guest_owes, take_owes}
use Rattle.vd_relay.specs.Stages.{GuestIs, TakesFrom, BackIs, GuestShown}
use Rattle.vd_relay.specs.Tie.{Course, IsTied}
use Rattle.vd_relay.specs.Relay.{Stands, GuestTurn}
use Rattle.vd_relay.proofs.Ties.{tied_given}
use Rattle.vd_relay.proofs.Calm.{at_stage}
use Rattle.vd_relay.proofs.Ops.{at_give}
use Rattle.vd_relay.proofs.Turns.{handled_only}
use Rattle.vd_relay.proofs.GuestTurns.{framed_at, made_at, next_at, not_woken, to_stage}

published_takes : (o : DeviceOp) (hand : List (List Piece)) → DevicePublished o → (GuestIs stage.Taking o) × (TakesFrom o hand)
    × (BackIs o []) × ((u : _) (g : Bool) (n : ℕ) → GuestShown o u g n)
    × ((winding g s : Bool) (u : _) (n : ℕ) → guest_owes winding stage.Taking o u g s n ≤ n + 47)
published_takes o hand (inl i) = subst (λ x. (GuestIs stage.Taking x) × (TakesFrom x hand) × (BackIs x [])
    × ((u : _) (g : Bool) (n : ℕ) → GuestShown x u g n)
    × ((winding g s : Bool) (u : _) (n : ℕ) → guest_owes winding stage.Taking x u g s n ≤ n + 47)) (sym i)
    (tt, tt, refl, λ u g n. tt, λ winding g s u n. idle_few winding g s n)
  where
    idle_few : (winding g s : Bool) (n : ℕ) → take_owes winding g s ≤ n + 47
    idle_few true g s n = omega arith
    idle_few false true s n = omega arith
    idle_few false false true n = omega arith
    idle_few false false false n = omega arith
published_takes o hand (inr i) = subst (λ x. (GuestIs stage.Taking x) × (TakesFrom x hand) × (BackIs x [])
    × ((u : _) (g : Bool) (n : ℕ) → GuestShown x u g n)
    × ((winding g s : Bool) (u : _) (n : ℕ) → guest_owes winding stage.Taking x u g s n ≤ n + 47)) (sym i)
    (tt, tt, refl, λ u g n. tt, λ winding g s u n. signal_few winding n)
  where
    signal_few : (winding : Bool) (n : ℕ) → n + (if winding then 4 else 47) ≤ n + 47
    signal_few true n = omega arith
    signal_few false n = omega arith

module _ {P E D : Type 0} (port : PortModel P) (e : DeviceModel E) (d : DriverModel D) (law : IsLawfulDevice e) (ldr : IsLawfulDriver d)
    (z : Course) (p q : P) (r : State E D) (w : DeviceView) (v : DriverView) (b : E) where
  gives_now : (k : ℕ) → (h : Stands e d z (at_stage r stage.Giving) w v) → IsDeviceStep port e p q w r.guest b (act.Given k)
      → GuestTurn port e d z p q (at_stage r stage.Giving) (next_at r b stage.Taking) w v Handled
  gives_now k h s =
      let w' : DeviceView = e.side.after w s.op s.access s.got in
      let said = says_given e.words k (e.begun r.guest) (e.begun b) w.frame w.done w'.done s.says in
      let m : ℕ = s.says.0 in
      let of : s.op ≡ op.Give = subst (λ o. IsDeviceOp o s.op) said.begun s.of_it in
      let back : h.back ≡ entry k m ∷ [] = subst (λ o. BackIs o h.back) said.begun h.to_give in
      let tied : IsTied z r.table h.hand (entry k m ∷ []) h.acts v.frame v.done =
      subst (λ (us : List Used). IsTied z r.table h.hand us h.acts v.frame v.done) back h.tied in
      let at = published_takes (e.begun b) h.hand said.published in
      made_at port e d law ldr z p q r w v b (act.Given k) s stage.Giving (next_at r b stage.Taking) Handled (record {
        serves = s.now_stands;
        drives = h.drives;
        paired = framed_at port e d law ldr z p q r w v b (act.Given k) s h.paired;
        rests = s.rests;
        acts = Give (entry k m ∷ []) ∷ h.acts;
        before = said.done ∙ ap (λ (y : List DeviceDone). Give (entry k m ∷ []) ∷ y) h.before;
        hand = h.hand;
        back = [];
        tied = tied_given z r.table h.hand h.acts v.frame v.done k m tied;
        guest = at.0;
        shadow = h.shadow;
        takes = at.1;
        offers = h.offers;
        in_hand = h.in_hand;
        offer = tt;
        to_give = at.2;
        ends = tt;
        guest_armed = law.stays_unarmed w s.op s.access s.got (λ y. cc (of, y)) h.guest_armed;
        shadow_armed = h.shadow_armed;
        guest_shown = at.3 w'.doing w'.shown (e.left b);
        shadow_shown = h.shadow_shown;
      })
      (inr (
        entry k m,
        ap gives said.done,
        occurs_from k (running w.done) said.may.runs,
        subst (λ (us : List Used). Contains us (entry k m)) (sym tied.given) (Contains-push tied.got (entry k m)),
      ))
      refl (not_woken s.op (act.Given k) (λ y. cc y)) (handled_only (act.Given k) (λ y. cc y)) (λ y. cc y) (λ y. absurd (cc y))
      (omega (
        arith,
        s.left,
        at.4 r.winding w'.shown v.shown w'.doing (e.left b),
        ap (λ o. guest_owes r.winding stage.Giving o w.doing w.shown v.shown (e.left r.guest)) said.begun,
      )) refl (λ y. absurd (cc y)) (λ y. absurd (cc y)) (λ n on at. absurd (cc at))

  pub gave : (k : ℕ) → Stands e d z r w v → IsDeviceStep port e p q w r.guest b (act.Given k)
      → GuestTurn port e d z p q r (next_at r b stage.Taking) w v Handled
  gave k h s = to_stage port e d law ldr z p q r w v b stage.Giving (next_at r b stage.Taking) Handled
      (at_give k s.says.0 r.stage (subst (λ o. GuestIs r.stage o) s.says.2 h.guest)) (λ x. gives_now k x s) h
