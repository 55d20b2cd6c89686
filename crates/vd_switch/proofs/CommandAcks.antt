-- An ack that was loaded counts: which chains are acknowledged.
use Rattle.std.proofs.Common.{◌≡◌, ◌⊎◌, ℕ, ◌<◌, ◌≤◌, Bool, true, false, Some, None, List, [], ◌∷◌, length, refl, sym, ◌∙◌, ap, subst, arith, inl, inr, if◌then◌else◌}
use Rattle.std.proofs.lemmas.Bool.{cases_eq, eq-eqb, ne_eqb}
use Rattle.vd_model.specs.declared.record.Begun.{Begun}
use Rattle.vd_ring.specs.declared.driver.DriverDone.{DriverDone}
use Rattle.vd_ring.specs.declared.driver.DriverDone.TheVariants.{Offer, Collect, StoreCommand, LoadAck}
use Rattle.vd_ring.specs.declared.driver.DriverView.{DriverView}
use Rattle.vd_ring.specs.declared.device.DeviceView.{DeviceView}
use Rattle.vd_ring.specs.Control.{AcksAgree}
use Rattle.vd_ring.specs.History.{offers}
use Rattle.vd_layout.specs.Driver.{DriverModel}
use Rattle.vd_layout.specs.Device.{DeviceModel}
use Rattle.vd_layout.specs.Layout.{LayoutModel, IsLawfulLayout}
use Rattle.vd_bus.specs.Acts.{IsOneActMore}
use Rattle.vd_control.specs.declared.settings.Settings.{Settings}
use Rattle.vd_commands.specs.Loads.{ack_load}
use Rattle.vd_relay.specs.Settling.{is_acknowledged, is_ok}
use Rattle.vd_switch.specs.CommandLanes.{CommandStart, CommandParts}
use Rattle.vd_switch.specs.CommandSettling.{AcksCount}
use Rattle.vd_switch.proofs.CommandJournal.{was_given, begun_offered}
use Rattle.vd_switch.proofs.CommandWords.{load_given}

-- a chain of which no ack was loaded is not acknowledged
pub none_acknowledged : (o : List DriverDone) (k : ℕ) → ack_load o k ≡ None → is_acknowledged o k ≡ false
none_acknowledged [] k none = refl
none_acknowledged (Offer c ∷ o) k none = elim (cases_eq (length (offers o)) k) [
  | inl e ↦ rw (eq-eqb (length (offers o)) k e) refl
  | inr ne ↦ rw (ne_eqb (length (offers o)) k ne) (none_acknowledged o k none)
]
none_acknowledged (Collect us ∷ o) k none = none_acknowledged o k none
none_acknowledged (StoreCommand h i x ∷ o) k none = none_acknowledged o k none
none_acknowledged (LoadAck j x ∷ o) k none = elim (cases_eq j k) [
  | inl e ↦ (
      let some : Some x ≡ None = sym (ap (λ (b : Bool). if b then Some x else ack_load o k) (eq-eqb j k e)) ∙ none in
      absurd (cc)
      )
  | inr ne ↦ rw (ne_eqb j k ne) (none_acknowledged o k (sym (ap (λ (b : Bool). if b then Some x else ack_load o k) (ne_eqb j k ne)) ∙ none))
]

-- one act more of a driver that loads acks of chains offered alone
counts_more : (o : List DriverDone) (act : DriverDone) → ((k x : ℕ) → ack_load o k ≡ Some x → k < length (offers o)) → AcksCount o
    → AcksCount (act ∷ o)
counts_more o (Offer c) inside h = λ k x is.
    let low = inside k x is in
    rw (ne_eqb (length (offers o)) k (λ e. absurd (omega (arith, e, low)))) (h k x is)
counts_more o (Collect us) inside h = λ k x is. h k x is
counts_more o (StoreCommand head i y) inside h = λ k x is. h k x is
counts_more o (LoadAck j y) inside h = λ k x is. elim (cases_eq j k) [
  | inl e ↦ (
      let one : Some y ≡ Some x = sym (ap (λ (b : Bool). if b then Some y else ack_load o k) (eq-eqb j k e)) ∙ is in
      let same : y ≡ x = cc in
      ap (λ (b : Bool). if b then is_ok y else is_acknowledged o k) (eq-eqb j k e) ∙ ap is_ok same
      )
  | inr ne ↦ ap (λ (b : Bool). if b then is_ok y else is_acknowledged o k) (ne_eqb j k ne)
      ∙ h k x (sym (ap (λ (b : Bool). if b then Some y else ack_load o k) (ne_eqb j k ne)) ∙ is)
]

module _ {E D : Type 0} (e : DeviceModel E) (d : DriverModel D) (l : LayoutModel) (law : IsLawfulLayout d e l) (y : CommandStart)
    (begun : List Begun) (now : Settings) (words shadow_words : List ℕ) (v : DriverView) (w : DeviceView) (sv : DriverView)
    (sw : DeviceView) (h : CommandParts l y begun now words shadow_words v w sv sw) where
  -- of such a chain the device had given the entry
  pub load_begun : (k x : ℕ) → ack_load sv.done k ≡ Some x → k < length (Rattle.std.proofs.Common.drop y.by.at begun)
  load_begun k x is =
      let agree : AcksAgree sv.done sw.done = (law.controls shadow_words sv sw h.shadow_ring).acks.acks_agree in
      (was_given e d l law y begun now words shadow_words v w sv sw h k (load_given sv.done sw.done k x agree is)).low

  pub acks_kept : (o : List DriverDone) → IsOneActMore sv.done o → AcksCount sv.done → AcksCount o
  acks_kept o (inl same) old = subst (λ (z : List DriverDone). AcksCount z) (sym same) old
  acks_kept o (inr more) old = subst (λ (z : List DriverDone). AcksCount z) (sym more.1)
      (counts_more sv.done more.0 (λ k x is. omega (
        arith,
        load_begun k x is,
        begun_offered e d l law y begun now words shadow_words v w sv sw h,
      )) old)
