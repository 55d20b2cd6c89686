-- The carrier of a relay of a control queue may be told of what stands on the shadow ring: what is in hand where no access is due.
use Rattle.std.proofs.Common.{◌≡◌, ◌⊎◌, ℕ, ◌<◌, ◌≤◌, Some, None, IsSome, Option, length, refl, sym, ◌∙◌, ap, subst, arith, inl, inr}
use Rattle.vd_ring.specs.declared.device.DeviceView.{DeviceView}
use Rattle.vd_ring.specs.declared.device.DeviceNow.TheVariants as device
use Rattle.vd_ring.specs.declared.driver.DriverNow.TheVariants as driver
use Rattle.vd_ring.specs.declared.driver.DriverView.{DriverView}
use Rattle.vd_ring.specs.History.{free, places, next_head, occurs}
use Rattle.vd_ring.specs.Places.{Places}
use Rattle.vd_ring.proofs.HeldPlaces.{free_inside, free_apart, head_held}
use Rattle.vd_ring.proofs.ControlSteps.{next_free}
use Rattle.vd_layout.specs.Driver.{DriverModel}
use Rattle.vd_layout.specs.Device.{DeviceModel}
use Rattle.vd_layout.specs.Layout.{LayoutModel, IsLawfulLayout}
use Rattle.vd_control.specs.declared.settings.Settings.{Settings}
use Rattle.vd_table.specs.declared.Command.{Command}
use Rattle.vd_table.specs.Rows.{row}
use Rattle.vd_relay.specs.declared.carry.Carry.{Carry}
use Rattle.vd_relay.specs.declared.carry.Carry.TheVariants as carry
use Rattle.vd_relay.specs.declared.commander.Commander.{Commander}
use Rattle.vd_relay.specs.declared.stage.Stage.{Stage}
use Rattle.vd_relay.specs.declared.stage.Stage.TheVariants as stage
use Rattle.vd_relay.specs.declared.state.State.{State}
use Rattle.vd_relay.specs.Stages.{is_offering}
use Rattle.vd_relay.specs.Tie.{guests}
use Rattle.vd_relay.specs.Tellings.{MayTell}
use Rattle.vd_relay.specs.Commanders.{commander}
use Rattle.vd_relay.specs.Commanding.{Takeover, carries}
use Rattle.vd_relay.specs.Underway.{HandIs, IsStill, Commanding, due}
use Rattle.vd_relay.proofs.CarryRows.{row_stored}

-- where none is due nothing is in hand, or a command that is to be offered
pub none_due : (hand : Carry) → due hand ≡ 0 → (hand ≡ carry.None) ⊎ ((c : Command) × (hand ≡ carry.Offer c))
none_due carry.None n = inl refl
none_due (carry.Offer c) n = inr (c, refl)
none_due (carry.First f) n = absurd (omega (arith, n))
none_due (carry.Second f x) n = absurd (omega (arith, n))
none_due (carry.StoreFirst c) n = absurd (omega (arith, n))
none_due (carry.StoreSecond c) n = absurd (omega (arith, n))
none_due (carry.LoadAck h c) n = absurd (omega (arith, n))
none_due (carry.StoreAck p x) n = absurd (omega (arith, n))

-- and where one is, the ends are still
pub still_due : (hand : Carry) (w : DeviceView) (v : DriverView) → 1 ≤ due hand → IsStill hand w v
    → (w.doing ≡ device.Idle) × (v.doing ≡ driver.Idle)
still_due carry.None w v n h = absurd (omega (arith, n))
still_due (carry.Offer c) w v n h = absurd (omega (arith, n))
still_due (carry.First f) w v n h = h
still_due (carry.Second f x) w v n h = h
still_due (carry.StoreFirst c) w v n h = h
still_due (carry.StoreSecond c) w v n h = h
still_due (carry.LoadAck k c) w v n h = h
still_due (carry.StoreAck p x) w v n h = h

abbrev head_of : Stage → ℕ
head_of (stage.Offering n h) = h
head_of _ = 0

module _ {E D : Type 0} (l : LayoutModel) (e : DeviceModel E) (d : DriverModel D) (lay : IsLawfulLayout d e l) (z : Takeover)
    (r : State E D) (x : Commander) (s : Settings) (w : DeviceView) (v : DriverView)
    (h : Commanding l e d z r x.hand x.commands s w v) (none : due x.hand ≡ 0) where
  ok : Places v.frame v.done
  ok = lay.driver_end.places r.shadow v h.stands.drives

  -- the next head is one of the table's, and nothing stands there
  next_inside : 1 ≤ length (free v.frame v.done) → next_head v.frame v.done < length x.commands
  next_inside room = omega (
    arith,
    free_inside v.frame v.done (next_head v.frame v.done) ok (next_free v.frame v.done room),
    h.carried.keeps.sized,
  )

  next_none : 1 ≤ length (free v.frame v.done) → (y : Option Command) → row x.commands (next_head v.frame v.done) ≡ y → y ≡ None
  next_none room None is = refl
  next_none room (Some y) is =
      let q : ℕ = next_head v.frame v.done in
      let k = h.carried.keeps.only q (subst (λ (o : Option Command). IsSome o) (sym is) refl) in
      absurd (omega (
        arith,
        free_apart v.frame v.done k.0 q ok k.1 (next_free v.frame v.done room),
        ap (λ (j : ℕ). occurs j (places v.frame v.done k.0)) k.2,
        head_held v.frame v.done k.0 ok k.1,
      ))

  pub may_tell : MayTell (commander l) x r v
  may_tell = record {
    offer = λ number head is. elim (none_due x.hand none) [
      | inl idle_hand ↦ absurd (cc (ap is_offering is, (subst (λ (y : Carry). HandIs e d z r w v y) idle_hand h.in_hand).0))
      | inr some ↦
          let taken = (subst (λ (y : Carry). HandIs e d z r w v y) some.1 h.in_hand).0.taken in
          let at : head ≡ next_head v.frame v.done = ap head_of (sym is ∙ taken.stage) in (
            some.0,
            some.1,
            omega (arith, at, next_inside taken.room),
            ap (λ (j : ℕ). row x.commands j) at ∙ next_none taken.room (row x.commands (next_head v.frame v.done)) refl,
          )
    ];
    collect = λ k some.
        let old = h.carried.keeps.stored k some in (
          row_stored (guests (carries z)) x.commands (e.words.ack w.frame) h.stands.acts v.frame v.done k 0 ok some h.carried.keeps,
          subst (λ (o : Option Command). IsSome o) (sym old.1) refl,
        );
  }
