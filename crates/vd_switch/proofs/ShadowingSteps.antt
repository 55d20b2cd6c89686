-- One step of a party keeps a shadowing lane.
use Rattle.std.proofs.Common.{◌≡◌, ◌⊎◌, ℕ, arith, true, false, Some, List, [], ◌∷◌, ◌++◌, length, refl, sym, ◌∙◌, subst, inl, inr}
use Rattle.vd_model.specs.declared.chain.Piece.{Piece}
use Rattle.vd_model.specs.declared.record.Begun.{Begun}
use Rattle.vd_words.specs.Model.{PortModel, IsLawfulPort}
use Rattle.vd_words.specs.Step.{written}
use Rattle.vd_ring.specs.declared.driver.DriverView.{DriverView}
use Rattle.vd_ring.specs.declared.device.DeviceView.{DeviceView}
use Rattle.vd_ring.specs.declared.frame.Used.{Used}
use Rattle.vd_ring.specs.History.{offers, collects, gives}
use Rattle.vd_ring.specs.Account.{Lawful}
use Rattle.vd_layout.specs.declared.moves.Move.{Move}
use Rattle.vd_layout.specs.Driver.{DriverModel}
use Rattle.vd_layout.specs.Device.{DeviceModel}
use Rattle.vd_layout.specs.Layout.{LayoutModel, IsLawfulLayout}
use Rattle.vd_layout.specs.laws.Plain.{plain_step}
use Rattle.vd_bus.specs.declared.device.Attached.{Attached}
use Rattle.vd_bus.specs.Device.{DeviceParty, IsLawfulDeviceParty, IsDeviceAccess}
use Rattle.vd_bus.specs.Guest.{GuestParty, IsGuestAccess}
use Rattle.vd_bus.specs.Orders.{IsData}
use Rattle.vd_relay.specs.Tie.{Start, since}
use Rattle.vd_relay.specs.declared.state.State.{State}
use Rattle.vd_relay.specs.declared.counts.Counts.{Counts}
use Rattle.vd_relay.specs.Moving.{IsRelayStep, OnGuest, OnShadow, GivesOne}
use Rattle.vd_relay.specs.Relay.{IsKept}
use Rattle.vd_switch.specs.Account.{lane_account}
use Rattle.vd_switch.specs.ShadowingLanes.{IsShadowing, IsWinding, lane_begun}
use Rattle.vd_switch.specs.ShadowingSteps.{RelayStepped, DeviceStepped, GuestStepped}
use Rattle.vd_switch.proofs.ShadowingLanes.{lawful, begun_count}
use Rattle.vd_ring.proofs.OneEnd.{ends_one}
use Rattle.vd_switch.specs.LaneBag.{MayEndOne}
use Rattle.vd_switch.proofs.LaneBag.{may_offer, may_begin, one_taken}

module _ {P Q E D : Type 0} (p : PortModel P) (q : PortModel Q) (plaw : IsLawfulPort p) (qlaw : IsLawfulPort q) (e : DeviceModel E)
    (d : DriverModel D) (l : LayoutModel) (law : IsLawfulLayout d e l) (z : Start) (old : List (List Piece × ℕ)) (r r' : State E D)
    (begun : List Begun) (by : Attached) (words shadow_words : List ℕ) (v : DriverView) (w : DeviceView) (sv : DriverView) (sw : DeviceView)
    (h : IsShadowing e d l z old r begun by words shadow_words v w sv sw) where
  winds : IsKept r r' → r'.winding ≡ true → IsWinding r' sw
  winds same on = let was = h.winds (sym same.0 ∙ on) in record { target = same.1 ∙ was.target; even = was.even; whole = was.whole }

  ends_at : (x : DeviceView) (words' : List ℕ) → IsShadowing e d l z old r' begun by words' shadow_words v x sv sw
      → GivesOne (since z) w.done sv.done x.done
      → MayEndOne (length (offers v.done)) (length (lane_begun z old begun by)) (gives w.done) (gives x.done)
  ends_at x words' lane (inl same) = inl same
  ends_at x words' lane (inr one) =
      let account = lawful e d l law z old r' begun by words' shadow_words v x sv sw lane in
      let now : Lawful (record {
        offers = offers v.done;
        begun = lane_begun z old begun by;
        given = gives w.done ++ one.0 ∷ [];
        collected =
            collects v.done;
      }) =
      subst (λ (us : List Used). Lawful
      (record { offers = offers v.done; begun = lane_begun z old begun by; given = us; collected = collects v.done })) one.1 account in
      inr (
        one.0,
        one.1,
        λ in_order b stands. ends_one in_order (offers v.done) (lane_begun z old begun by) (gives w.done)
            (collects v.done) one.0 b now stands,
      )

  stepped : (a a' : P) (b b' : Q) (c c' : Counts) (said : Move) → p.plain a words → q.plain b shadow_words → IsKept r r'
      → ((b' ≡ b) × OnGuest p e d z a a' r r' c c' w sv said) ⊎ ((a' ≡ a) × OnShadow q e d z b b' r r' c c' w sv said)
      → RelayStepped p q e d l z old r' begun by a' b' v w sw
  stepped a a' b b' c c' said plain shadow_plain same (inl (stays, m)) =
      let s = plain_step p plaw e.side (λ us x. l.ring us v x) a a' words w m.op m.access m.got
      (law.device_keeps words v w m.op m.access h.ring m.was_next) plain m.moved in
      let lane : IsShadowing e d l z old r' begun by (written words m.access) shadow_words v
      (e.side.after w m.op m.access m.got) sv sw = record {
        ring = s.meets;
        shadow_ring = h.shadow_ring;
        relays = m.holds.stands;
        serves = h.serves;
        from = h.from;
        winds = winds same;
        before = h.before;
        undone = h.undone;
      } in
      record {
        words = written words m.access;
        shadow_words = shadow_words;
        view = e.side.after w m.op m.access m.got;
        shadow_view = sv;
        plain = s.plain;
        shadow_plain = subst (λ (y : Q). q.plain y shadow_words) (sym stays) shadow_plain;
        lane = lane;
        gave = ends_at (e.side.after w m.op m.access m.got) (written words m.access) lane m.bag;
      }
  stepped a a' b b' c c' said plain shadow_plain same (inr (stays, m)) =
      let s = plain_step q qlaw d.side (λ us x. l.ring us x sw) b b' shadow_words sv m.op m.access m.got
      (law.driver_keeps shadow_words sv sw m.op m.access h.shadow_ring m.was_next) shadow_plain m.moved in
      record {
        words = words;
        shadow_words = written shadow_words m.access;
        view = w;
        shadow_view = d.side.after sv m.op m.access m.got;
        plain = subst (λ (y : P). p.plain y words) (sym stays) plain;
        shadow_plain = s.plain;
        lane = record {
          ring = h.ring;
          shadow_ring = s.meets;
          relays = m.holds.stands;
          serves = h.serves;
          from = h.from;
          winds = winds same;
          before = h.before;
          undone = h.undone;
        };
        gave = inl refl;
      }

  pub relay_stepped : (a a' : P) (b b' : Q) (c c' : Counts) (said : Move) → p.plain a words → q.plain b shadow_words
      → IsRelayStep p q e d z a a' b b' w sv r r' c c' said → RelayStepped p q e d l z old r' begun by a' b' v w sw
  relay_stepped a a' b b' c c' said plain shadow_plain s = stepped a a' b b' c c' said plain shadow_plain s.kept s.made

module _ {Q E D X C : Type 0} (q : PortModel Q) (qlaw : IsLawfulPort q) (e : DeviceModel E) (d : DriverModel D) (l : LayoutModel)
    (law : IsLawfulLayout d e l) (m : DeviceParty X C) (mlaw : IsLawfulDeviceParty e m) (z : Start) (old : List (List Piece × ℕ))
    (r : State E D) (by : Attached) (words shadow_words : List ℕ) (v : DriverView) (w : DeviceView) (sv : DriverView)
    (sw : DeviceView) where
  pub device_stepped : (x y : X) (b b' : Q) (said : Move) → IsShadowing e d l z old r (m.begun x) by words shadow_words v w sv sw
      → r.winding ≡ false → m.attached x ≡ Some by → IsData by.queue → q.plain b shadow_words → (s : IsDeviceAccess q e m b b' sw x y said)
      → DeviceStepped q e d l z old r (m.begun x) (m.begun y) by words b' v w sv (e.side.after sw s.op s.access s.got)
  device_stepped x y b b' said h off attached data_queue plain s =
      let k = plain_step q qlaw e.side (λ us u. l.ring us sv u) b b' shadow_words sw s.op s.access s.got
      (law.device_keeps shadow_words sv sw s.op s.access h.shadow_ring s.was_next) plain s.moved in
      let lane : IsShadowing e d l z old r (m.begun y) by words (written shadow_words s.access) v w sv
      (e.side.after sw s.op s.access s.got) = record {
        ring = h.ring;
        shadow_ring = k.meets;
        relays = h.relays;
        serves = mlaw.serves y (e.side.after sw s.op s.access s.got) by s.holds (s.served.attached ∙ attached) data_queue;
        from = h.from;
        winds = λ on. let no_winding : true ≡ false = sym on ∙ off in absurd (cc);
        before = h.before;
        undone = h.undone;
      } in
      let was = begun_count e d l law z old r (m.begun x) by words shadow_words v w sv sw h in
      let is = begun_count e d l law z old r (m.begun y) by words (written shadow_words s.access) v w sv
      (e.side.after sw s.op s.access s.got) lane in
      record {
        shadow_words = written shadow_words s.access;
        plain = k.plain;
        lane = lane;
        began = may_begin (lane_account v.done (lane_begun z old (m.begun x) by) w.done)
            (lane_account v.done (lane_begun z old (m.begun y) by) w.done)
            (lawful e d l law z old r (m.begun x) by words shadow_words v w sv sw h)
            (lawful e d l law z old r (m.begun y) by words (written shadow_words s.access) v w sv
            (e.side.after sw s.op s.access s.got) lane)
            refl (elim (one_taken sw.done (e.side.after sw s.op s.access s.got).done s.grows.takes s.acts) [
              | inl a ↦ inl (omega (arith, was, is, a))
              | inr a ↦ inr (omega (arith, was, is, a))
            ]);
      }

module _ {P E D G : Type 0} (p : PortModel P) (plaw : IsLawfulPort p) (e : DeviceModel E) (d : DriverModel D) (l : LayoutModel)
    (law : IsLawfulLayout d e l) (m : GuestParty G) (z : Start) (old : List (List Piece × ℕ)) (r : State E D) (begun : List Begun)
    (by : Attached) (words shadow_words : List ℕ) (v : DriverView) (w : DeviceView) (sv : DriverView) (sw : DeviceView)
    (h : IsShadowing e d l z old r begun by words shadow_words v w sv sw) where
  pub guest_stepped : (x y : G) (a a' : P) (said : Move) → p.plain a words → (s : IsGuestAccess p d m a a' v x y said)
      → GuestStepped p e d l z old r begun by shadow_words a' v (d.side.after v s.op s.access s.got) w sv sw
  guest_stepped x y a a' said plain s =
      let k = plain_step p plaw d.side (λ us u. l.ring us u w) a a' words v s.op s.access s.got
      (law.driver_keeps words v w s.op s.access h.ring s.was_next) plain s.moved in
      record {
        words = written words s.access;
        plain = k.plain;
        lane = record {
          ring = k.meets;
          shadow_ring = h.shadow_ring;
          relays = h.relays;
          serves = h.serves;
          from = h.from;
          winds = h.winds;
          before = h.before;
          undone = h.undone;
        };
        offered = may_offer (lane_account v.done (lane_begun z old begun by) w.done) v.done (d.side.after v s.op s.access s.got).done
            (lawful e d l law z old r begun by words shadow_words v w sv sw h) refl s.acts;
      }
