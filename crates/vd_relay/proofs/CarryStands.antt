-- An access of a command or ack word leaves a relay of a control queue standing, and owing as much as before.
use Rattle.std.proofs.Common.{◌≡◌, ℕ, Bool, List, ◌∷◌, length, Option, slice_set, refl, sym, ◌∙◌, ap, subst, inl, inr, ◌⊎◌}
use Rattle.vd_model.specs.declared.chain.Piece.{Piece}
use Rattle.vd_ring.specs.declared.frame.Frame.{Frame}
use Rattle.vd_ring.specs.declared.frame.Used.{Used}
use Rattle.vd_ring.specs.declared.device.DeviceDone.{DeviceDone}
use Rattle.vd_ring.specs.declared.device.DeviceDone.TheVariants.{LoadCommand, StoreAck}
use Rattle.vd_ring.specs.declared.device.DeviceView.{DeviceView}
use Rattle.vd_ring.specs.declared.driver.DriverDone.{DriverDone}
use Rattle.vd_ring.specs.declared.driver.DriverDone.TheVariants.{StoreCommand, LoadAck}
use Rattle.vd_ring.specs.declared.driver.DriverView.{DriverView}
use Rattle.vd_ring.specs.History.{offers, next_head}
use Rattle.vd_layout.specs.Driver.{DriverModel}
use Rattle.vd_layout.specs.Device.{DeviceModel}
use Rattle.vd_table.specs.declared.Origin.{Origin}
use Rattle.vd_relay.specs.declared.stage.Stage.{Stage}
use Rattle.vd_relay.specs.declared.stage.Stage.TheVariants as stage
use Rattle.vd_relay.specs.declared.state.State.{State}
use Rattle.vd_relay.specs.Stages.{BeforeRest, EndsIs, OfferIs}
use Rattle.vd_relay.specs.Tie.{IsTied, guests}
use Rattle.vd_relay.specs.Ways.{Pairs}
use Rattle.vd_relay.specs.Relay.{Stands, owes}
use Rattle.vd_relay.specs.Commanding.{Takeover, carries}

-- a command is in hand: it is to be offered, or to be given
abbrev pub IsBusy : Stage → Type 0
IsBusy st = ((number : ℕ) × (head : ℕ) × (st ≡ stage.Offering number head)) ⊎ (st ≡ stage.Giving)

pub acts_done : (st : Stage) (s t : List DeviceDone) → IsBusy st → BeforeRest st s t → t ≡ s
acts_done st s t busy h = elim busy [
  | inl b ↦ subst (λ (x : Stage). BeforeRest x s t) b.2 h
  | inr b ↦ subst (λ (x : Stage). BeforeRest x s t) b h
]

before_more : (st : Stage) (a : DeviceDone) (s t : List DeviceDone) → IsBusy st → BeforeRest st s t → BeforeRest st (a ∷ s) (a ∷ t)
before_more st a s t busy h =
    let more : a ∷ t ≡ a ∷ s = ap (λ (x : List DeviceDone). a ∷ x) (acts_done st s t busy h) in
    elim busy [
      | inl b ↦ subst (λ (x : Stage). BeforeRest x (a ∷ s) (a ∷ t)) (sym b.2) more
      | inr b ↦ subst (λ (x : Stage). BeforeRest x (a ∷ s) (a ∷ t)) (sym b) more
    ]

ends_on : (st : Stage) (winding : Bool) (target : ℕ) (s : List DeviceDone) (o : List DriverDone) → IsBusy st → EndsIs st winding target s o
ends_on st winding target s o busy = elim busy [
  | inl b ↦ subst (λ (x : Stage). EndsIs x winding target s o) (sym b.2) tt
  | inr b ↦ subst (λ (x : Stage). EndsIs x winding target s o) (sym b) tt
]

module _ (z : Takeover) (table : List (Option Origin)) (hand : List (List Piece)) (back : List Used) (s : List DeviceDone) (g : Frame)
    (o : List DriverDone) (t : IsTied (carries z) table hand back s g o) where
  tied_loaded : (k i x : ℕ) → IsTied (carries z) table hand back (LoadCommand k i x ∷ s) g o
  tied_loaded k i x = record {
    past = t.past;
    got = t.got;
    takes = t.takes;
    gives = t.gives;
    even = t.even;
    offered = t.offered;
    given = t.given;
    runs = t.runs;
    holds = t.holds;
    follows = t.follows;
  }

  tied_acked : (h x : ℕ) → IsTied (carries z) table hand back (StoreAck h x ∷ s) g o
  tied_acked h x = record {
    past = t.past;
    got = t.got;
    takes = t.takes;
    gives = t.gives;
    even = t.even;
    offered = t.offered;
    given = t.given;
    runs = t.runs;
    holds = t.holds;
    follows = t.follows;
  }

  tied_stored : (h i x : ℕ) → IsTied (carries z) table hand back s g (StoreCommand h i x ∷ o)
  tied_stored h i x = record {
    past = t.past;
    got = t.got;
    takes = t.takes;
    gives = t.gives;
    even = t.even;
    offered = t.offered;
    given = t.given;
    runs = t.runs;
    holds = record { sized = t.holds.sized; stored = t.holds.stored; only = t.holds.only };
    follows = record { few = t.follows.few; offered = t.follows.offered; collected = t.follows.collected; closed = t.follows.closed };
  }

  tied_answered : (k x : ℕ) → IsTied (carries z) table hand back s g (LoadAck k x ∷ o)
  tied_answered k x = record {
    past = t.past;
    got = t.got;
    takes = t.takes;
    gives = t.gives;
    even = t.even;
    offered = t.offered;
    given = t.given;
    runs = t.runs;
    holds = record { sized = t.holds.sized; stored = t.holds.stored; only = t.holds.only };
    follows = record { few = t.follows.few; offered = t.follows.offered; collected = t.follows.collected; closed = t.follows.closed };
  }

-- the offer's number and head go by what was offered, and by the places that are free
offer_on : (st : Stage) (number : ℕ → ℕ) (g : Frame) (o o' : List DriverDone) → offers o' ≡ offers o → next_head g o' ≡ next_head g o
    → IsBusy st → OfferIs st number g o → OfferIs st number g o'
offer_on st number g o o' count next busy h = elim busy [
  | inl b ↦
      let was = subst (λ (x : Stage). OfferIs x number g o) b.2 h in
      subst (λ (x : Stage). OfferIs x number g o') (sym b.2)
      (was.0 ∙ ap (λ (cs : List (List Piece)). number (length cs)) (sym count), was.1 ∙ sym next)
  | inr b ↦ subst (λ (x : Stage). OfferIs x number g o') (sym b) tt
]

module _ {E D : Type 0} (e : DeviceModel E) (d : DriverModel D) (z : Takeover) (r : State E D) (w : DeviceView) (v : DriverView)
    (h : Stands e d (carries z) r w v) (busy : IsBusy r.stage) where
  -- on the guest's ring
  on_guest : (w' : DeviceView) (a : DeviceDone) → w'.frame ≡ w.frame → w'.doing ≡ w.doing → w'.armed ≡ w.armed → w'.shown ≡ w.shown
      → w'.done ≡ a ∷ w.done → e.stands r.guest w' → IsTied (carries z) r.table h.hand h.back (a ∷ h.acts) v.frame v.done
      → Stands e d (carries z) r w' v
  on_guest w' a frame doing armed shown done serves tied = record {
    serves = serves;
    drives = h.drives;
    paired = subst (λ (f : Frame). Pairs (carries z).way f v.frame) (sym frame) h.paired;
    rests = h.rests;
    acts = a ∷ h.acts;
    before = subst (λ (x : List DeviceDone). BeforeRest r.stage (a ∷ h.acts) x) (sym done)
        (before_more r.stage a h.acts w.done busy h.before);
    hand = h.hand;
    back = h.back;
    tied = tied;
    guest = h.guest;
    shadow = h.shadow;
    takes = h.takes;
    offers = h.offers;
    in_hand = h.in_hand;
    offer = h.offer;
    to_give = h.to_give;
    ends = ends_on r.stage r.winding r.target (a ∷ h.acts) v.done busy;
    guest_armed = rw (doing, armed) h.guest_armed;
    shadow_armed = h.shadow_armed;
    guest_shown = rw (doing, shown) h.guest_shown;
    shadow_shown = h.shadow_shown;
  }

  pub stands_loaded : (w' : DeviceView) (k i x : ℕ) → w' ≡ record w { done = LoadCommand k i x ∷ w.done } → e.stands r.guest w'
      → Stands e d (carries z) r w' v
  stands_loaded w' k i x is serves = on_guest w' (LoadCommand k i x) (ap (λ (y : DeviceView). y.frame) is)
      (ap (λ (y : DeviceView). y.doing) is)
      (ap (λ (y : DeviceView). y.armed) is) (ap (λ (y : DeviceView). y.shown) is) (ap (λ (y : DeviceView). y.done) is) serves
      (tied_loaded z r.table h.hand h.back h.acts v.frame v.done h.tied k i x)

  pub stands_acked : (w' : DeviceView) (p q x : ℕ) → w' ≡ record w { done = StoreAck q x ∷ w.done; stored = slice_set w.stored p x }
      → e.stands r.guest w' → Stands e d (carries z) r w' v
  stands_acked w' p q x is serves = on_guest w' (StoreAck q x) (ap (λ (y : DeviceView). y.frame) is) (ap (λ (y : DeviceView). y.doing) is)
      (ap (λ (y : DeviceView). y.armed) is) (ap (λ (y : DeviceView). y.shown) is) (ap (λ (y : DeviceView). y.done) is) serves
      (tied_acked z r.table h.hand h.back h.acts v.frame v.done h.tied q x)

  -- on the shadow ring
  on_shadow : (v' : DriverView) (a : DriverDone) → v'.frame ≡ v.frame → v'.doing ≡ v.doing → v'.armed ≡ v.armed → v'.shown ≡ v.shown
      → v'.done ≡ a ∷ v.done → d.stands r.shadow v' → IsTied (carries z) r.table h.hand h.back h.acts v.frame (a ∷ v.done)
      → offers (a ∷ v.done) ≡ offers v.done → next_head v.frame (a ∷ v.done) ≡ next_head v.frame v.done
      → Stands e d (carries z) r w v'
  on_shadow v' a frame doing armed shown done drives tied count next = record {
    serves = h.serves;
    drives = drives;
    paired = subst (λ (f : Frame). Pairs (carries z).way w.frame f) (sym frame) h.paired;
    rests = h.rests;
    acts = h.acts;
    before = h.before;
    hand = h.hand;
    back = h.back;
    tied = subst (λ (f : Frame). IsTied (carries z) r.table h.hand h.back h.acts f v'.done) (sym frame)
        (subst (λ (o : List DriverDone). IsTied (carries z) r.table h.hand h.back h.acts v.frame o) (sym done) tied);
    guest = h.guest;
    shadow = h.shadow;
    takes = h.takes;
    offers = h.offers;
    in_hand = h.in_hand;
    offer = offer_on r.stage (guests (carries z)) v'.frame v.done v'.done
        (ap (λ (o : List DriverDone). offers o) done ∙ count) (ap (λ (o : List DriverDone). next_head v'.frame o) done
        ∙ subst (λ (f : Frame). next_head f (a ∷ v.done) ≡ next_head f v.done) (sym frame) next) busy
        (subst (λ (f : Frame). OfferIs r.stage (guests (carries z)) f v.done) (sym frame) h.offer);
    to_give = h.to_give;
    ends = ends_on r.stage r.winding r.target h.acts v'.done busy;
    guest_armed = h.guest_armed;
    shadow_armed = rw (doing, armed) h.shadow_armed;
    guest_shown = h.guest_shown;
    shadow_shown = rw (doing, shown) h.shadow_shown;
  }

  pub stands_stored : (v' : DriverView) (p q i x : ℕ)
      → v' ≡ record v { done = StoreCommand q i x ∷ v.done; stored = slice_set v.stored p x }
      → d.stands r.shadow v' → Stands e d (carries z) r w v'
  stands_stored v' p q i x is drives = on_shadow v' (StoreCommand q i x) (ap (λ (y : DriverView). y.frame) is)
      (ap (λ (y : DriverView). y.doing) is)
      (ap (λ (y : DriverView). y.armed) is) (ap (λ (y : DriverView). y.shown) is) (ap (λ (y : DriverView). y.done) is) drives
      (tied_stored z r.table h.hand h.back h.acts v.frame v.done h.tied q i x) refl refl

  pub stands_answered : (v' : DriverView) (k x : ℕ) → v' ≡ record v { done = LoadAck k x ∷ v.done }
      → d.stands r.shadow v' → Stands e d (carries z) r w v'
  stands_answered v' k x is drives = on_shadow v' (LoadAck k x) (ap (λ (y : DriverView). y.frame) is) (ap (λ (y : DriverView). y.doing) is)
      (ap (λ (y : DriverView). y.armed) is) (ap (λ (y : DriverView). y.shown) is) (ap (λ (y : DriverView). y.done) is) drives
      (tied_answered z r.table h.hand h.back h.acts v.frame v.done h.tied k x) refl refl

-- ---- what it owes

module _ {E D : Type 0} (e : DeviceModel E) (d : DriverModel D) (r : State E D) (w w' : DeviceView) (v v' : DriverView) where
  pub owes_guest : w'.doing ≡ w.doing → w'.shown ≡ w.shown → owes e d r w' v ≡ owes e d r w v
  owes_guest doing shown = rw (doing, shown) refl

  pub owes_shadow : v'.doing ≡ v.doing → v'.shown ≡ v.shown → owes e d r w v' ≡ owes e d r w v
  owes_shadow doing shown = rw (doing, shown) refl
