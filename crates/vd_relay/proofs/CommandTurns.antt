-- What a turn of the rings leaves of a relay of a control queue: a command is taken, offered, collected or given, or none is.
use Rattle.std.proofs.Common.{◌≡◌, ℕ, ◌+◌, ◌*◌, ◌≤◌, true, false, Option, List, [], ◌∷◌, length, if◌then◌else◌, refl, sym, ◌∙◌, ap, subst, arith, inl, inr}
use Rattle.std.proofs.lemmas.Bool.{cases_lt}
use Rattle.vd_model.specs.declared.chain.Piece.{Piece}
use Rattle.vd_words.specs.Model.{PortModel}
use Rattle.vd_ring.specs.declared.act.DeviceAct.{DeviceAct}
use Rattle.vd_ring.specs.declared.act.DeviceAct.TheVariants as act
use Rattle.vd_ring.specs.declared.device.DeviceDone.{DeviceDone}
use Rattle.vd_ring.specs.declared.device.DeviceDone.TheVariants.{Take}
use Rattle.vd_ring.specs.declared.device.DeviceView.{DeviceView}
use Rattle.vd_ring.specs.declared.driver.DriverDone.TheVariants.{Collect}
use Rattle.vd_ring.specs.declared.driver.DriverView.{DriverView}
use Rattle.vd_ring.specs.History.{entry, free, head}
use Rattle.vd_layout.specs.Begun.{DeviceOp}
use Rattle.vd_layout.specs.Driver.{DriverModel}
use Rattle.vd_layout.specs.Device.{DeviceModel, is_rested as is_rested_act}
use Rattle.vd_layout.specs.Layout.{LayoutModel, IsLawfulLayout}
use Rattle.vd_control.specs.declared.settings.Settings.{Settings}
use Rattle.vd_table.specs.declared.Command.{Command}
use Rattle.vd_relay.specs.declared.carry.Carry.{Carry}
use Rattle.vd_relay.specs.declared.carry.Carry.TheVariants as carry
use Rattle.vd_relay.specs.declared.commander.Commander.{Commander}
use Rattle.vd_relay.specs.declared.counts.Turn.{Turn}
use Rattle.vd_relay.specs.declared.counts.Turn.TheVariants.{Worked, Handled, Woke, Slept, Again}
use Rattle.vd_relay.specs.declared.stage.Stage.{Stage}
use Rattle.vd_relay.specs.declared.stage.Stage.TheVariants as stage
use Rattle.vd_relay.specs.declared.state.State.{State}
use Rattle.vd_relay.specs.Pace.{counted, handled, woke, guest_handled, guest_owes, shadow_owes}
use Rattle.vd_relay.specs.Stages.{is_rested, is_shadow, is_offering, BackIs}
use Rattle.vd_relay.specs.Relay.{Stands, GuestDid, ShadowWaits, GuestWaits, owes}
use Rattle.vd_relay.specs.Carriers.{CarriesOn}
use Rattle.vd_relay.specs.Tellings.{TellsOf, GoesOn, IsOffered, IsCollected}
use Rattle.vd_relay.specs.Commanders.{commander}
use Rattle.vd_relay.specs.Commanding.{Takeover, carries}
use Rattle.vd_relay.specs.Underway.{Commanding, due, owed}
use Rattle.vd_relay.proofs.CarryHanded.{handed, handed_paid}
use Rattle.vd_relay.proofs.CarryKept.{kept_same, kept_taken, kept_given, kept_rested}
use Rattle.vd_relay.proofs.CarryMoved.{offered_on, collected_on, still_none, still_offers}
use Rattle.vd_relay.proofs.CommandTold.{none_due}

-- what was carried stands after it, what is owed is paid for, and a look changes nothing
pub record Leaves {E D : Type 0} (l : LayoutModel) (e : DeviceModel E) (d : DriverModel D) (z : Takeover) (r r' : State E D)
    (x x' : Commander) (s : Settings) (w w' : DeviceView) (v v' : DriverView) (turn : Turn) : Type 0 where
  pub commands : Commanding l e d z r' x'.hand x'.commands s w' v'
  pub paid : owed e d r' x'.hand w' v' + counted turn ≤ owed e d r x.hand w v + 64 * (handled turn + woke turn)
  pub still : turn ≡ Slept → x' ≡ x

counted_few : (t : Turn) → counted t ≤ 1
counted_few Worked = omega arith
counted_few Handled = omega arith
counted_few Woke = omega arith
counted_few Slept = omega arith
counted_few Again = omega arith

not_slept : (t : Turn) → 1 ≤ handled t → t ≡ Slept → ⊥
not_slept t some is = absurd (omega (arith, some, ap handled is))

rested_is : (st : Stage) → is_rested st ≡ true → st ≡ stage.Rested
rested_is stage.Rested i = refl
rested_is (stage.Offering n h) i = absurd (cc i)
rested_is stage.Taking i = absurd (cc i)
rested_is (stage.Collecting n) i = absurd (cc i)
rested_is stage.Giving i = absurd (cc i)
rested_is stage.ArmingGuest i = absurd (cc i)
rested_is stage.ArmingShadow i = absurd (cc i)
rested_is stage.HearingGuest i = absurd (cc i)
rested_is stage.HearingShadow i = absurd (cc i)
rested_is stage.DisarmingGuest i = absurd (cc i)
rested_is stage.DisarmingShadow i = absurd (cc i)
rested_is stage.Resting i = absurd (cc i)

longer : {X : Type 0} (a : X) (s : List X) → a ∷ s ≡ s → ⊥
longer a s is = absurd (omega (arith, ap length is))

-- a take is counted
took_one : {E : Type 0} (e : DeviceModel E) (a a' : E) (s s' : List DeviceDone) (c : List Piece) (h : ℕ) (answer : DeviceAct)
    → GuestDid e answer a a' s s' → s' ≡ Take c h ∷ s → guest_handled answer ≡ 1
took_one e a a' s s' c h (act.Taken k y) did more = refl
took_one e a a' s s' c h (act.Given k) did more = refl
took_one e a a' s s' c h act.Rested did more = absurd (cc (did.1, more))
took_one e a a' s s' c h act.Moved did more = absurd (longer (Take c h) s (sym more ∙ did))
took_one e a a' s s' c h act.Nothing did more = absurd (longer (Take c h) s (sym more ∙ did))
took_one e a a' s s' c h act.Armed did more = absurd (longer (Take c h) s (sym more ∙ did))
took_one e a a' s s' c h act.Awake did more = absurd (longer (Take c h) s (sym more ∙ did))
took_one e a a' s s' c h act.Asleep did more = absurd (longer (Take c h) s (sym more ∙ did))

module _ {P E D : Type 0} (port : PortModel P) (l : LayoutModel) (e : DeviceModel E) (d : DriverModel D) (lay : IsLawfulLayout d e l)
    (z : Takeover) (p q : P) (r r' : State E D) (x x' : Commander) (s : Settings) (w : DeviceView) (v : DriverView) (turn : Turn)
    (h : Commanding l e d z r x.hand x.commands s w v) (live : is_rested r.stage ≡ false) (none : due x.hand ≡ 0) where
  at_hand : (hand : Carry) → x.hand ≡ hand → Commanding l e d z r hand x.commands s w v
  at_hand hand is = subst (λ (y : Carry). Commanding l e d z r y x.commands s w v) is h

  -- ---- on the guest's ring

  no_offer : ShadowWaits d r r' → x.hand ≡ carry.None
  no_offer waits = elim (none_due x.hand none) [
    | inl idle_hand ↦ idle_hand
    | inr some ↦ absurd (cc ((at_hand (carry.Offer some.0) some.1).in_hand.0.taken.begun, waits.0))
  ]

  kept_by : (w' : DeviceView) → Commanding l e d z r carry.None x.commands s w v → Stands e d (carries z) r' w' v → w'.frame ≡ w.frame
      → is_offering r'.stage ≡ false → (answer : DeviceAct) → GuestDid e answer r.guest r'.guest w.done w'.done
      → is_rested r'.stage ≡ is_rested_act answer → Commanding l e d z r' carry.None x.commands s w' v
  kept_by w' c stands frame off act.Moved did rests = kept_same l e d lay z r r' x.commands s w w' v c stands live frame off did rests
  kept_by w' c stands frame off act.Nothing did rests = kept_same l e d lay z r r' x.commands s w w' v c stands live frame off did rests
  kept_by w' c stands frame off act.Armed did rests = kept_same l e d lay z r r' x.commands s w w' v c stands live frame off did rests
  kept_by w' c stands frame off act.Awake did rests = kept_same l e d lay z r r' x.commands s w w' v c stands live frame off did rests
  kept_by w' c stands frame off act.Asleep did rests = kept_same l e d lay z r r' x.commands s w w' v c stands live frame off did rests
  kept_by w' c stands frame off (act.Taken k y) did rests =
      kept_taken l e d lay z r r' x.commands s w w' v c stands live frame off y did.0 did.1 rests
  kept_by w' c stands frame off (act.Given k) did rests =
      kept_given l e d lay z r r' x.commands s w w' v c stands live frame off k did.0 did.1 did.2 rests
  kept_by w' c stands frame off act.Rested did rests =
      kept_rested l e d lay z r r' x.commands s w w' v c stands live frame off did.1 (rested_is r'.stage rests) did.0

  pub guest_leaves : ShadowWaits d r r' → (t : CarriesOn (commander l) port e d (carries z) x x' p q r r' w v turn)
      → Leaves l e d z r r' x x' s w (e.side.after w t.0.op t.0.access t.0.got) v v turn
  guest_leaves waits t =
      let g = t.0 in
      let w' : DeviceView = e.side.after w g.op g.access g.got in
      let idle_hand = no_offer waits in
      let c = at_hand carry.None idle_hand in
      let frame = lay.device_end.framed w g.op g.access g.got in
      elim t.1 [
        | inl same ↦ record {
          commands = subst (λ (y : Commander). Commanding l e d z r' y.hand y.commands s w' v) (sym same.0)
              (subst (λ (y : Carry). Commanding l e d z r' y x.commands s w' v) (sym idle_hand)
              (kept_by w' c g.stands frame same.1 (e.act w g.op g.access g.got) g.did g.rests));
          paid = omega (arith, g.paid, ap (λ (y : Commander). due y.hand) same.0, none);
          still = λ i. same.0;
        }
        | inr k ↦
            let one : 1 ≤ handled turn = omega (
              arith,
              g.handled,
              took_one e r.guest r'.guest w.done w'.done k.chain k.head (e.act w g.op g.access g.got) g.did k.done,
            ) in
            let room : 1 ≤ length (free v.frame v.done) = omega (arith, k.has_free) in
            record {
              commands = subst (λ (y : List (Option Command)). Commanding l e d z r' x'.hand y s w' v) (sym k.carried.took.0)
                  (handed l e d lay z r r' x.commands s x x' w w' v c live waits.0 frame g.stands k room);
              paid = omega (
                arith,
                handed_paid l e d lay z r r' x.commands s x x' w w' v c live waits.0 frame g.stands k room k.short,
                one,
                counted_few turn,
              );
              still = λ i. absurd (not_slept turn one i);
            }
      ]

  -- ---- on the shadow ring

  goes_leaves : (v' : DriverView) → Stands e d (carries z) r' w v' → is_rested r'.stage ≡ false → v'.frame ≡ v.frame → v'.done ≡ v.done
      → e.begun r.guest ≡ DeviceOp.idle → GoesOn d r r' turn → Commanding l e d z r' x.hand x.commands s w v'
  goes_leaves v' stands awake frame done idle g = elim (none_due x.hand none) [
    | inl idle_hand ↦
        let c = at_hand carry.None idle_hand in
        subst (λ (y : Carry). Commanding l e d z r' y x.commands s w v') (sym idle_hand)
        (still_none l e d lay z r r' x.commands s w v v' stands awake frame c live done (g.other c.in_hand.0) (ap e.begun g.guest ∙ idle))
    | inr some ↦
        let c = at_hand (carry.Offer some.0) some.1 in
        let on = g.offers (ap is_offering c.in_hand.0.taken.stage) in
        subst (λ (y : Carry). Commanding l e d z r' y x.commands s w v') (sym some.1)
        (still_offers l e d lay z r r' x.commands s w v v' stands awake frame some.0 c live done on.0 on.1)
  ]

  offered_leaves : (v' : DriverView) → Stands e d (carries z) r' w v' → is_rested r'.stage ≡ false → v'.frame ≡ v.frame
      → e.begun r.guest ≡ DeviceOp.idle → IsOffered (commander l) d x x' r r' v v'
      → (x'.hand ≡ carry.None) × Commanding l e d z r' carry.None x'.commands s w v'
  offered_leaves v' stands awake frame idle o = elim (none_due x.hand none) [
    | inl idle_hand ↦ absurd (cc (o.at, (at_hand carry.None idle_hand).in_hand.0))
    | inr some ↦
        let c = at_hand (carry.Offer some.0) some.1 in
        let told = o.told some.0 some.1 in (
          told.0,
          subst (λ (y : List (Option Command)). Commanding l e d z r' carry.None y s w v') (sym told.1)
              (offered_on l e d lay z r r' x.commands s w v v' stands awake frame some.0 o.chain c o.begun o.was o.done o.next
              (ap e.begun o.guest ∙ idle)),
        )
  ]

  collected_leaves : (v' : DriverView) → Stands e d (carries z) r' w v' → is_rested r'.stage ≡ false → v'.frame ≡ v.frame
      → e.begun r.guest ≡ DeviceOp.idle → (k : IsCollected (commander l) e d (carries z) x x' r r' v v')
      → (c : Command) × (x'.hand ≡ carry.LoadAck (head v.frame v.done k.k) c)
      × Commanding l e d z r' (carry.LoadAck (head v.frame v.done k.k) c) x'.commands s w v'
  collected_leaves v' stands awake frame idle k = elim (none_due x.hand none) [
    | inl idle_hand ↦
        let c = at_hand carry.None idle_hand in
        let old = c.carried.keeps.stored k.k k.was_open in
        let told = k.told old.0 old.1 in
        let back : c.stands.back ≡ [] = subst (λ (o : DeviceOp). BackIs o c.stands.back) idle c.stands.to_give in (
          old.0,
          told.0,
          subst (λ (y : List (Option Command)). Commanding l e d z r' (carry.LoadAck (head v.frame v.done k.k) old.0) y s w v') (sym told.1)
              (collected_on l e d lay z r r' x.commands s w v v' stands awake frame k.k k.len old.0 c live back k.was_open old.1 k.done
              k.next k.begun (lay.device_end.at_rest r.guest w c.stands.serves idle)
              (lay.driver_end.at_rest r'.shadow v' stands.drives k.idle)),
        )
    | inr some ↦ absurd (cc (k.other, ap is_offering (at_hand (carry.Offer some.0) some.1).in_hand.0.taken.stage))
  ]

  giving_owes : (v' : DriverView) (k n : ℕ) → r'.stage ≡ stage.Giving → e.begun r'.guest ≡ DeviceOp.give k n
      → owes e d r' w v' ≡ e.left r'.guest
  giving_owes v' k n at begun =
      ap (λ (y : Stage). if is_shadow y then shadow_owes r'.winding y (d.begun r'.shadow) v'.doing w.shown v'.shown (d.left r'.shadow)
      else guest_owes r'.winding y (e.begun r'.guest) w.doing w.shown v'.shown (e.left r'.guest)) at
      ∙ ap (λ (o : DeviceOp). guest_owes r'.winding stage.Giving o w.doing w.shown v'.shown (e.left r'.guest)) begun

  pub shadow_leaves : GuestWaits e r r' → (t : TellsOf (commander l) port e d (carries z) x x' p q r r' w v turn)
      → Leaves l e d z r r' x x' s w w v (d.side.after v t.0.op t.0.access t.0.got) turn
  shadow_leaves waits t =
      let g = t.0 in
      let v' : DriverView = d.side.after v g.op g.access g.got in
      let frame = lay.driver_end.framed v g.op g.access g.got in
      elim t.1 [
        | inl same ↦ record {
          commands = subst (λ (y : Commander). Commanding l e d z r' y.hand y.commands s w v') (sym same.0)
              (goes_leaves v' g.stands g.live frame (g.same same.1.none) waits.0 same.1);
          paid = omega (arith, g.paid, ap (λ (y : Commander). due y.hand) same.0, none);
          still = λ i. same.0;
        }
        | inr more ↦ elim more [
          | inl o ↦
              let c = offered_leaves v' g.stands g.live frame waits.0 o in
              record {
                commands = subst (λ (y : Carry). Commanding l e d z r' y x'.commands s w v') (sym c.0) c.1;
                paid = omega (arith, g.paid, ap due c.0, none);
                still = λ i. absurd (longer _ v.done (sym o.done ∙ g.same (ap handled i)));
              }
          | inr k ↦
              let c = collected_leaves v' g.stands g.live frame waits.0 k in
              let one : 1 ≤ handled turn = elim (cases_lt 0 (handled turn)) [
                | inl some ↦ some
                | inr less ↦ absurd (longer (Collect (entry k.k k.len ∷ [])) v.done (sym k.done ∙ g.same (omega (arith, less))))
              ] in
              record {
                commands = subst (λ (y : Carry). Commanding l e d z r' y x'.commands s w v') (sym c.1) c.2;
                paid = omega (
                  arith,
                  giving_owes v' _ k.len k.next k.begun,
                  k.short,
                  ap due c.1,
                  one,
                  counted_few turn,
                );
                still = λ i. absurd (not_slept turn one i);
              }
        ]
      ]
