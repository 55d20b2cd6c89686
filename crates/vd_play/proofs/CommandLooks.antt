-- What a look of a relay of the control queue says of it.
use Rattle.std.proofs.Common.{◌≡◌, ◌⊎◌, inl, inr, true, false, List, ℕ, sym, ◌∙◌, ap, subst}
use Rattle.std.proofs.lemmas.Bool.{false≢true}
use Rattle.vd_model.specs.declared.record.Begun.{Begun}
use Rattle.vd_ring.specs.declared.driver.DriverView.{DriverView}
use Rattle.vd_ring.specs.declared.device.DeviceView.{DeviceView}
use Rattle.vd_layout.specs.Driver.{DriverModel}
use Rattle.vd_layout.specs.Device.{DeviceModel}
use Rattle.vd_layout.specs.Layout.{LayoutModel}
use Rattle.vd_control.specs.declared.settings.Settings.{Settings}
use Rattle.vd_relay.specs.declared.control.Control.{Control}
use Rattle.vd_relay.specs.declared.control.Mode.{Mode}
use Rattle.vd_relay.specs.declared.control.Mode.TheVariants.{Replaying, Carrying, Leaving}
use Rattle.vd_relay.specs.declared.counts.Counts.{Counts}
use Rattle.vd_relay.specs.declared.replay.ReplayStage.TheVariants.{Hearing}
use Rattle.vd_relay.specs.declared.state.State.{State}
use Rattle.vd_relay.specs.Modes.{Does}
use Rattle.vd_relay.specs.Replays.{is_done}
use Rattle.vd_switch.specs.Controlling.{ControlStart, IsControlling}
use Rattle.vd_switch.proofs.Controlling.{kind}
use Rattle.vd_turns.specs.ControlTurns.{ControlLooked, ReplayLooked}
use Rattle.vd_turns.specs.RelayTurns.{HasLooked}

-- at the shadow ring's bell alone, or at both in turn
pub looked_by : {E D : Type 0} (m : Mode) (e : DeviceModel E) (d : DriverModel D) (r r' : State E D) (k' : Control) (c c' : Counts)
    (v : DriverView) (w : DeviceView) (sv : DriverView) (sw : DeviceView) → ControlLooked m e d r r' k' c c' v w sv sw
    → ReplayLooked d r r' k' c c' sv sw ⊎ HasLooked e d r r' c c' v w sv sw
looked_by Replaying e d r r' k' c c' v w sv sw h = inl h
looked_by Carrying e d r r' k' c c' v w sv sw h = inr h
looked_by Leaving e d r r' k' c c' v w sv sw h = inr h

module _ {E D : Type 0} (l : LayoutModel) (e : DeviceModel E) (d : DriverModel D) (x : ControlStart) (r : State E D) (k : Control)
    (s : Settings) (c : Counts) (begun : List Begun) (now : Settings) (words shadow_words : List ℕ) (v : DriverView) (w : DeviceView)
    (sv : DriverView) (sw : DeviceView) (h : IsControlling l e d x r k s c begun now words shadow_words v w sv sw)
    (off : r.winding ≡ false) where
  -- without a wind-up, one that carries has replayed all
  pub carries_all : k.mode ≡ Carrying → is_done k.replay.stage ≡ true
  carries_all is = elim (h.over is) [
    | inl whole ↦ h.holds.done.1 whole
    | inr cut ↦ absurd (false≢true (sym off ∙ cut.0))
  ]

  -- and one that hears the shadow ring's bell alone replays
  pub hears_replay : k.replay.stage ≡ Hearing → k.mode ≡ Replaying
  hears_replay hearing = elim (kind k.mode) [
    | inl is ↦ is
    | inr (inl is) ↦ absurd (false≢true (sym (ap is_done hearing) ∙ carries_all is))
    | inr (inr is) ↦ absurd (false≢true (sym off
        ∙ (subst (λ (m : Mode). Does m l e d x.opening r k s c w sv) is h.holds.does).winding))
  ]
