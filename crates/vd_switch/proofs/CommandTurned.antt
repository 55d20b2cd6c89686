-- One step of a relay that carries commands, as its code makes it, is one that keeps its control lane.
use Rattle.std.proofs.Common.{◌≡◌, ◌⊎◌, sym, subst, inl, inr}
use Rattle.vd_words.specs.Model.{PortModel}
use Rattle.vd_ring.specs.declared.driver.DriverView.{DriverView}
use Rattle.vd_ring.specs.declared.device.DeviceView.{DeviceView}
use Rattle.vd_layout.specs.declared.moves.Move.{Move}
use Rattle.vd_layout.specs.Driver.{DriverModel}
use Rattle.vd_layout.specs.Device.{DeviceModel}
use Rattle.vd_layout.specs.Layout.{LayoutModel}
use Rattle.vd_control.specs.declared.settings.Settings.{Settings}
use Rattle.vd_relay.specs.declared.commander.Commander.{Commander}
use Rattle.vd_relay.specs.declared.counts.Counts.{Counts}
use Rattle.vd_relay.specs.declared.state.State.{State}
use Rattle.vd_relay.specs.Commanding.{Takeover, carries}
use Rattle.vd_relay.specs.CommandSteps.{IsCommandStep, OnGuestCommand, OnShadowCommand}
use Rattle.vd_relay.specs.Relay.{OnGuest, OnShadow}
use Rattle.vd_relay.specs.Underway.{Commanding}
use Rattle.vd_switch.specs.CommandLaneSteps.{IsCarryingStep}

module _ {P Q E D : Type 0} (p : PortModel P) (q : PortModel Q) (l : LayoutModel) (e : DeviceModel E) (d : DriverModel D) (z : Takeover)
    (a a' : P) (b b' : Q) (w : DeviceView) (v : DriverView) (r r' : State E D) (x x' : Commander) (s s' : Settings) (c c' : Counts)
    (said : Move) where
  made : ((b' ≡ b) × (s' ≡ s) × OnGuestCommand p l e d z a a' r r' x x' s c c' w v said)
      ⊎ ((a' ≡ a) × OnShadowCommand q l e d z b b' r r' x x' s' c c' w v said)
      → ((b' ≡ b) × (t : OnGuest p e d (carries z) a a' r r' c c' w v said)
      × Commanding l e d z r' x'.hand x'.commands s' (e.side.after w t.op t.access t.got) v)
      ⊎ ((a' ≡ a) × (t : OnShadow q e d (carries z) b b' r r' c c' w v said)
      × Commanding l e d z r' x'.hand x'.commands s' w (d.side.after v t.op t.access t.got))
  made (inl g) =
      let u : DeviceView = e.side.after w g.2.0.op g.2.0.access g.2.0.got in
      inl (
        g.0,
        g.2.0,
        subst (λ (y : Settings). Commanding l e d z r' x'.hand x'.commands y u v) (sym g.1) g.2.1.commands,
      )
  made (inr g) = inr (g.0, g.1.0, g.1.1.commands)

  pub carrying : IsCommandStep p q l e d z a a' b b' w v r r' x x' s s' c c' said
      → IsCarryingStep p q l e d z a a' b b' w v r r' x'.hand x'.commands s' c c' said
  carrying step = record { made = made step.made; kept = step.kept }
