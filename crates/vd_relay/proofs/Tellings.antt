-- What a carrier is told by a turn of the shadow end.
use Rattle.std.proofs.Common.{◌≡◌, ◌⊎◌, ℕ, Bool, true, false, List, refl, sym, ◌∙◌, ap, subst, inl, inr}
use Rattle.vd_model.specs.declared.chain.Piece.{Piece}
use Rattle.vd_ring.specs.declared.driver.DriverView.{DriverView}
use Rattle.vd_ring.specs.declared.device.DeviceView.{DeviceView}
use Rattle.vd_layout.specs.Begun.{DriverOp, DeviceOp, DriverGoesOn, MayWake}
use Rattle.vd_layout.specs.Driver.{DriverModel}
use Rattle.vd_layout.specs.Device.{DeviceModel}
use Rattle.vd_relay.specs.declared.counts.Turn.{Turn}
use Rattle.vd_relay.specs.declared.counts.Turn.TheVariants.{Worked}
use Rattle.vd_relay.specs.declared.stage.Stage.{Stage}
use Rattle.vd_relay.specs.declared.stage.Stage.TheVariants as stage
use Rattle.vd_relay.specs.declared.state.State.{State}
use Rattle.vd_relay.specs.Pace.{handled}
use Rattle.vd_relay.specs.Stages.{GuestIs, ShadowIs, is_offering}
use Rattle.vd_relay.specs.Tie.{Course}
use Rattle.vd_relay.specs.Relay.{Stands}
use Rattle.vd_relay.specs.Carriers.{CarrierModel}
use Rattle.vd_relay.specs.Tellings.{MayTell, GoesOn, IsOffered, IsCollected, TellsTurn}
use Rattle.vd_relay.proofs.Ops.{at_give}
use Rattle.vd_relay.proofs.ShadowTurns.{with_shadow}

-- an offer goes with its stage
pub offers_of : (st : Stage) (a : DriverOp) → ShadowIs st a → is_offering st ≡ true → (c : List Piece) × (a ≡ DriverOp.offer c)
offers_of (stage.Offering n h) (DriverOp.offer c) is on = (c, refl)
offers_of (stage.Offering n h) DriverOp.idle is on = absurd is
offers_of (stage.Offering n h) DriverOp.collect is on = absurd is
offers_of (stage.Offering n h) DriverOp.arm is on = absurd is
offers_of (stage.Offering n h) DriverOp.hear is on = absurd is
offers_of (stage.Offering n h) DriverOp.disarm is on = absurd is
offers_of (stage.Offering n h) DriverOp.signal is on = absurd is
offers_of stage.Taking a is on = absurd (cc on)
offers_of (stage.Collecting n) a is on = absurd (cc on)
offers_of stage.Giving a is on = absurd (cc on)
offers_of stage.ArmingGuest a is on = absurd (cc on)
offers_of stage.ArmingShadow a is on = absurd (cc on)
offers_of stage.HearingGuest a is on = absurd (cc on)
offers_of stage.HearingShadow a is on = absurd (cc on)
offers_of stage.DisarmingGuest a is on = absurd (cc on)
offers_of stage.DisarmingShadow a is on = absurd (cc on)
offers_of stage.Resting a is on = absurd (cc on)
offers_of stage.Rested a is on = absurd (cc on)

no_way : (x : Bool) → (x ≡ true → ⊥) → x ≡ false
no_way true never = absurd (never refl)
no_way false never = refl

some_way : (x : Bool) → (x ≡ false → ⊥) → x ≡ true
some_way true never = refl
some_way false never = absurd (never refl)

-- another operation goes with another stage
pub none_of : (st : Stage) (a : DriverOp) → ShadowIs st a → ((c : List Piece) → a ≡ DriverOp.offer c → ⊥) → is_offering st ≡ false
none_of st a is other = no_way (is_offering st) (λ on. let c = offers_of st a is on in other c.0 c.1)

pub wakes_none : (a : DriverOp) → MayWake a → (c : List Piece) → a ≡ DriverOp.offer c → ⊥
wakes_none a may c is = subst MayWake is may

same_offer : (a b : DriverOp) (c : List Piece) → a ≡ DriverOp.offer c → DriverGoesOn a b → b ≡ a
same_offer a b c is on = subst (λ (x : DriverOp). DriverGoesOn x b → b ≡ x) (sym is) (λ y. y) on

module _ {E D : Type 0} (d : DriverModel D) (r : State E D) where
  -- an access in the middle of an operation
  pub moved_on : (b : D) → ShadowIs r.stage (d.begun r.shadow) → DriverGoesOn (d.begun r.shadow) (d.begun b)
      → GoesOn d r (with_shadow r b) Worked
  moved_on b is on = record {
    none = refl;
    guest = refl;
    offers = λ i. let c = offers_of r.stage (d.begun r.shadow) is i in (refl, same_offer (d.begun r.shadow) (d.begun b) c.0 c.1 on);
    other = λ i. i;
  }

  -- the end of another operation
  pub ended : (r' : State E D) (turn : Turn) → handled turn ≡ 0 → r'.guest ≡ r.guest → ShadowIs r.stage (d.begun r.shadow)
      → ((c : List Piece) → d.begun r.shadow ≡ DriverOp.offer c → ⊥) → is_offering r'.stage ≡ false → GoesOn d r r' turn
  ended r' turn none guest is other after = record {
    none = none;
    guest = guest;
    offers = λ i. let c = offers_of r.stage (d.begun r.shadow) is i in absurd (other c.0 c.1);
    other = λ i. after;
  }

-- ---- from before the operation was begun

pub may_tell_from : {C E D : Type 0} (m : CarrierModel C) (x : C) (r u : State E D) (v : DriverView)
    → (is_offering r.stage ≡ true → u.stage ≡ r.stage) → (is_offering r.stage ≡ false → is_offering u.stage ≡ false)
    → MayTell m x r v → MayTell m x u v
may_tell_from m x r u v on off t = record {
  offer = λ number head is.
      let was : is_offering r.stage ≡ true = some_way (is_offering r.stage) (λ n. cc (off n, ap is_offering is)) in
      t.offer number head (sym (on was) ∙ is);
  collect = t.collect;
}

-- what is begun between two operations is no offer and no give
module _ {E D : Type 0} (e : DeviceModel E) (d : DriverModel D) (z : Course) (r t u : State E D) (w : DeviceView) (v : DriverView) where
  pub offers_on : (is_offering r.stage ≡ true → t.stage ≡ r.stage) → u.stage ≡ t.stage → t.shadow ≡ r.shadow → Stands e d z t w v
      → (d.begun t.shadow ≡ DriverOp.idle) ⊎ (u.shadow ≡ t.shadow) → is_offering r.stage ≡ true
      → (u.stage ≡ r.stage) × (d.begun u.shadow ≡ d.begun r.shadow)
  offers_on on at same h was i = (
    at ∙ on i,
    elim was [
      | inl idle ↦ let c = offers_of t.stage (d.begun t.shadow) h.shadow (ap is_offering (on i) ∙ i) in absurd (cc (c.1, idle))
      | inr is ↦ ap d.begun (is ∙ same)
    ],
  )

  pub gives_on : u.stage ≡ t.stage → t.guest ≡ r.guest → Stands e d z t w v → Stands e d z u w v
      → (e.begun t.guest ≡ DeviceOp.idle) ⊎ (u.guest ≡ t.guest) → (k n : ℕ) → e.begun u.guest ≡ DeviceOp.give k n
      → e.begun r.guest ≡ DeviceOp.give k n
  gives_on at same h i was k n begun = elim was [
    | inl idle ↦
        let giving = at_give k n u.stage (subst (λ (o : DeviceOp). GuestIs u.stage o) begun i.guest) in
        let none : GuestIs stage.Giving DeviceOp.idle = subst (λ (x : Stage). GuestIs x DeviceOp.idle) (sym at ∙ giving)
        (subst (λ (o : DeviceOp). GuestIs t.stage o) idle h.guest) in
        absurd none
    | inr is ↦ ap e.begun (sym same ∙ sym is) ∙ begun
  ]

module _ {C E D : Type 0} (m : CarrierModel C) (e : DeviceModel E) (d : DriverModel D) (z : Course) (x x' : C) (r u r' : State E D)
    (v v' : DriverView) (turn : Turn) where
  pub told_from : u.guest ≡ r.guest → (is_offering r.stage ≡ true → (u.stage ≡ r.stage) × (d.begun u.shadow ≡ d.begun r.shadow))
      → (is_offering r.stage ≡ false → is_offering u.stage ≡ false) → TellsTurn m e d z x x' u r' v v' turn
      → TellsTurn m e d z x x' r r' v v' turn
  told_from guest on off t = elim t [
    | inl k ↦ inl (
      k.0,
      record {
        none = k.1.none;
        guest = k.1.guest ∙ guest;
        offers = λ i.
            let s = on i in
            let g = k.1.offers (ap is_offering s.0 ∙ i) in
            (g.0 ∙ s.0, g.1 ∙ s.1);
        other = λ i. k.1.other (off i);
      },
    )
    | inr more ↦ elim more [
      | inl o ↦ inr (inl (offered_from o))
      | inr c ↦ inr (inr (collected_from c))
    ]
  ]
    where
      offered_from : IsOffered m d x x' u r' v v' → IsOffered m d x x' r r' v v'
      offered_from o =
          let was : is_offering r.stage ≡ true = some_way (is_offering r.stage) (λ n. cc (off n, o.at)) in
          record {
            chain = o.chain;
            at = was;
            begun = sym (on was).1 ∙ o.begun;
            was = o.was;
            done = o.done;
            next = o.next;
            guest = o.guest ∙ guest;
            told = o.told;
          }

      collected_from : IsCollected m e d z x x' u r' v v' → IsCollected m e d z x x' r r' v v'
      collected_from c = record {
        other = no_way (is_offering r.stage) (λ i. cc (ap is_offering (on i).0 ∙ i, c.other));
        k = c.k;
        len = c.len;
        was_open = c.was_open;
        done = c.done;
        next = c.next;
        begun = c.begun;
        short = c.short;
        idle = c.idle;
        told = c.told;
      }
