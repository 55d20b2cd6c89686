-- An offer of the shadow end: the chain's number is stored.
use Rattle.std.proofs.Common.{◌≡◌, ℕ, ◌+◌, ◌≤◌, Bool, true, false, Option, Some, List, [], ◌∷◌, length, slice_set, if◌then◌else◌, refl, sym, ◌∙◌, ap, subst, arith, inl, inr}
use Rattle.vd_model.specs.declared.chain.Piece.{Piece}
use Rattle.vd_words.specs.declared.access.Op.TheVariants as op
use Rattle.vd_words.specs.Model.{PortModel}
use Rattle.vd_ring.specs.declared.act.DriverAct.TheVariants as act
use Rattle.vd_ring.specs.declared.driver.DriverDone.TheVariants.{Offer}
use Rattle.vd_ring.specs.declared.driver.DriverView.{DriverView}
use Rattle.vd_ring.specs.declared.device.DeviceView.{DeviceView}
use Rattle.vd_ring.specs.History.{offers, next_head}
use Rattle.vd_layout.specs.Begun.{DriverOp, DriverPublished, IsDriverOp}
use Rattle.vd_layout.specs.Driver.{DriverModel, IsLawfulDriver, IsDriverStep}
use Rattle.vd_layout.specs.Device.{DeviceModel, IsLawfulDevice}
use Rattle.vd_table.specs.declared.Origin.{Origin}
use Rattle.vd_table.specs.declared.Origin.TheVariants.{Guest}
use Rattle.vd_relay.specs.declared.counts.Turn.TheVariants.{Handled}
use Rattle.vd_relay.specs.declared.stage.Stage.{Stage}
use Rattle.vd_relay.specs.declared.stage.Stage.TheVariants as stage
use Rattle.vd_relay.specs.declared.state.State.{State}
use Rattle.vd_relay.specs.Pace.{shadow_owes}
use Rattle.vd_relay.specs.Stages.{is_offering, GuestIs, ShadowIs, TakesFrom, OffersHand, OfferIs, BackIs, ShadowShown}
use Rattle.vd_relay.specs.Tie.{Course, IsTied, guests, origin}
use Rattle.vd_relay.specs.Relay.{Stands}
use Rattle.vd_relay.specs.Carriers.{CarrierModel}
use Rattle.vd_relay.specs.Tellings.{TellsOf}
use Rattle.vd_relay.proofs.Ties.{tied_offered}
use Rattle.vd_relay.proofs.Calm.{FewInHand, at_stage, hand_to}
use Rattle.vd_relay.proofs.Ops.{at_offer}
use Rattle.vd_relay.proofs.ShadowGoing.{collect_most}
use Rattle.vd_relay.proofs.Turns.{handled_only}
use Rattle.vd_relay.proofs.ShadowTurns.{TurnsTo, framed_at, made_to, not_woken, once, tied_after, to_stage_to}
use Rattle.vd_relay.proofs.ShadowFree.{guest_free}
use Rattle.vd_relay.proofs.ShadowRows.{fits, ok, room, tied_now}

few_none : (y : Bool) → FewInHand y []
few_none false = refl
few_none true = omega arith

most_few : (y : Bool) → (if y then 4 else 48) ≤ 48
most_few true = omega arith
most_few false = omega arith

module _ {P E D : Type 0} (port : PortModel P) (e : DeviceModel E) (d : DriverModel D) (law : IsLawfulDevice e) (ldr : IsLawfulDriver d)
    (z : Course) (p q : P) (r : State E D) (w : DeviceView) (v : DriverView) (b : D) where
  -- where an offered chain's origin is stored
  abbrev pub stored : D → ℕ → ℕ → State E D
  stored b' number head = record {
    guest = r.guest;
    shadow = b';
    table = slice_set r.table head (Some (Guest number 0));
    stage = stage.Collecting false;
    winding = r.winding;
    target = r.target;
  }

  published_owes : (o : DriverOp) (u : DriverView) (n : ℕ) → DriverPublished o
      → shadow_owes r.winding (stage.Collecting false) o u.doing w.shown u.shown n ≤ n + 48
  published_owes o u n (inl i) = omega (
    arith,
    ap (λ x. shadow_owes r.winding (stage.Collecting false) x u.doing w.shown u.shown n) i,
    collect_most r.winding false u.shown,
    most_few r.winding,
  )
  published_owes o u n (inr i) = omega (
    arith,
    ap (λ x. shadow_owes r.winding (stage.Collecting false) x u.doing w.shown u.shown n) i,
    most_few r.winding,
  )

  published_is : (o : DriverOp) → DriverPublished o → (ShadowIs (stage.Collecting false) o) × (OffersHand o [])
      × ((u : _) (g : Bool) (n : ℕ) → ShadowShown o u g n)
  published_is o (inl i) = subst (λ x. (ShadowIs (stage.Collecting false) x) × (OffersHand x [])
      × ((u : _) (g : Bool) (n : ℕ) → ShadowShown x u g n)) (sym i) (tt, tt, λ u g n. tt)
  published_is o (inr i) = subst (λ x. (ShadowIs (stage.Collecting false) x) × (OffersHand x [])
      × ((u : _) (g : Bool) (n : ℕ) → ShadowShown x u g n)) (sym i) (tt, tt, λ u g n. tt)

  module _ (number head : ℕ) (h : Stands e d z (at_stage r (stage.Offering number head)) w v) (k : ℕ)
      (s : IsDriverStep port d p q v r.shadow b (act.Offered k)) where
    offered_now : TurnsTo port e d z p q (at_stage r (stage.Offering number head)) (stored b number head) w v Handled
        (d.side.after v s.op s.access s.got)
    offered_now =
        let x : List Piece = s.says.0 in
        let v' : DriverView = d.side.after v s.op s.access s.got in
        let of : s.op ≡ op.Offer = subst (λ o. IsDriverOp o s.op) s.says.1 s.of_it in
        let table : slice_set r.table (next_head v.frame v.done) (Some (origin (guests z (length (offers v.done)))))
        ≡ slice_set r.table head (Some (Guest number 0)) =
        ap (λ (y : ℕ). slice_set r.table y (Some (origin (guests z (length (offers v.done)))))) (sym h.offer.1)
        ∙ ap (λ (y : ℕ). slice_set r.table head (Some (Guest y 0))) (sym h.offer.0) in
        let at = published_is (d.begun b) s.says.2 in
        made_to port e d law ldr z p q r w v b (act.Offered k) s (stage.Offering number head) (stored b number head) Handled (record {
          serves = h.serves;
          drives = s.now_stands;
          paired = framed_at port e d law ldr z p q r w v b (act.Offered k) s h.paired;
          rests = h.rests;
          acts = h.acts;
          before = h.before;
          hand = [];
          back = [];
          tied = tied_after port e d law ldr z p q r w v b (act.Offered k) s (slice_set r.table head (Some (Guest number 0))) [] [] h.acts
              (Offer x ∷ v.done) s.says.4
              (subst (λ (y : List (Option Origin)). IsTied z y [] [] h.acts v.frame (Offer x ∷ v.done)) table
              (tied_offered z r.table h.acts v.frame v.done x (ok port e d law ldr z p q r w v b number head h k s)
              (fits port e d law ldr z p q r w v b number head h k s) (room port e d law ldr z p q r w v b number head h k s)
              (tied_now port e d law ldr z p q r w v b number head h k s)));
          guest = subst (λ o. GuestIs (stage.Collecting false) o)
              (sym (guest_free port e d law ldr z p q r w v b (stage.Offering number head) refl h)) tt;
          shadow = at.0;
          takes = subst (λ o. TakesFrom o []) (sym (guest_free port e d law ldr z p q r w v b (stage.Offering number head) refl h)) tt;
          offers = at.1;
          in_hand = hand_to (stage.Collecting false) r.winding [] (few_none r.winding);
          offer = tt;
          to_give = subst (λ o. BackIs o []) (sym (guest_free port e d law ldr z p q r w v b (stage.Offering number head) refl h)) refl;
          ends = tt;
          guest_armed = h.guest_armed;
          shadow_armed = ldr.stays_unarmed v s.op s.access s.got (λ y. cc (of, y)) h.shadow_armed;
          guest_shown = h.guest_shown;
          shadow_shown = at.2 v'.doing v'.shown (d.left b);
        }) refl (not_woken s.op (act.Offered k) (λ y. cc y)) (handled_only (act.Offered k) (λ y. cc y))
        (once port e d law ldr z p q r w v b (act.Offered k) Handled (λ y. cc y) (λ y. cc y)) refl
        (omega (
          arith,
          s.left,
          published_owes (d.begun b) v' (d.left b) s.says.2,
          ap (λ o. shadow_owes r.winding (stage.Offering number head) o v.doing w.shown v.shown (d.left r.shadow)) s.says.1,
        )) refl (λ y. absurd (cc y)) (λ y. absurd (cc y)) (λ n on at. absurd (cc at))

  -- the carrier is told so
  pub offered : {C : Type 0} (m : CarrierModel C) (c c' : C) (number head k : ℕ) → r.stage ≡ stage.Offering number head → Stands e d z r w v
      → IsDriverStep port d p q v r.shadow b (act.Offered k) → m.offered c head c'
      → TellsOf m port e d z c c' p q r (stored b number head) w v Handled
  offered m c c' number head k is h s told =
      let t = to_stage_to port e d law ldr z p q r w v b (stage.Offering number head) (stored b number head) Handled
      (d.side.after v s.op s.access s.got) is (λ x. offered_now number head x k s) h in (
        t.0,
        inr (inl (record {
          chain = s.says.0;
          at = ap is_offering is;
          begun = s.says.1;
          was = s.says.5;
          done = ap (λ (u : DriverView). u.done) t.1 ∙ s.says.4;
          next = refl;
          guest = refl;
          told = subst (λ (y : ℕ). m.offered c y c')
              (subst (λ (x : Stage). OfferIs x (guests z) v.frame v.done) is h.offer).1 told;
        })),
      )

  pub offers_at : (k : ℕ) → Stands e d z r w v → IsDriverStep port d p q v r.shadow b (act.Offered k)
      → (number : ℕ) × (head : ℕ) × (r.stage ≡ stage.Offering number head)
  offers_at k h s = let at = at_offer s.says.0 r.stage (subst (λ o. ShadowIs r.stage o) s.says.1 h.shadow) in (at.number, at.head, at.is)
