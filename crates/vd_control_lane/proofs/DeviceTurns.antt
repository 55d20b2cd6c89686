-- A turn of the shadow ring's device keeps the lane of the control queue.
use Rattle.std.proofs.Common.{◌≡◌, ℕ, false, Some, List, sym, ◌∙◌, subst, inl, inr}
use Rattle.std.proofs.lemmas.Bool.{false≢true}
use Rattle.vd_ring.specs.declared.driver.DriverView.{DriverView}
use Rattle.vd_ring.specs.declared.device.DeviceView.{DeviceView}
use Rattle.vd_layout.specs.Driver.{DriverModel}
use Rattle.vd_layout.specs.Device.{DeviceModel}
use Rattle.vd_layout.specs.Layout.{LayoutModel}
use Rattle.vd_bus.specs.Device.{DeviceParty, IsCommanded, IsLawfulDeviceParty}
use Rattle.vd_bus.specs.Orders.{IsControl}
use Rattle.vd_control.specs.declared.settings.Settings.{Settings}
use Rattle.vd_relay.specs.declared.control.Control.{Control}
use Rattle.vd_relay.specs.declared.counts.Counts.{Counts}
use Rattle.vd_relay.specs.declared.state.State.{State}
use Rattle.vd_switch.specs.Controlling.{ControlStart, IsControlling}
use Rattle.vd_turns.specs.Turns.{DeviceRun}

module _ {E D X C : Type 0} (l : LayoutModel) (e : DeviceModel E) (d : DriverModel D) (m : DeviceParty X C)
    (mlaw : IsLawfulDeviceParty e m) (x : ControlStart) (r : State E D) (k : Control) (s : Settings) (c : Counts)
    (words shadow_words shadow_words' : List ℕ) (v : DriverView) (w : DeviceView) (sv : DriverView) (sw : DeviceView) (y z : X) (made : ℕ)
    (h : IsControlling l e d x r k s c (m.begun y) (m.settings y) words shadow_words v w sv sw) (off : r.winding ≡ false)
    (attached : m.attached y ≡ Some x.by) (for_control : IsControl x.by.queue) (from : m.attached_with y ≡ x.settings)
    (t : DeviceRun l m shadow_words' sv sw y z made) where
  commanded : IsCommanded (m.begun z) x.by x.settings (m.settings z) t.view.done
  commanded =
      subst (λ (o : Settings). IsCommanded (m.begun z) x.by o (m.settings z) t.view.done) (t.served.attached_with ∙ from)
      (mlaw.commanded z t.view x.by t.holds (t.served.attached ∙ attached) for_control)

  pub device_keeps : IsControlling l e d x r k s c (m.begun z) (m.settings z) words shadow_words' v w sv t.view
  device_keeps = record {
    holds = h.holds;
    parts = record {
      ring = h.parts.ring;
      shadow_ring = t.ring;
      control = h.parts.control;
      commanded = commanded;
      from_first = h.parts.from_first;
      counted = h.parts.counted;
      are_spelled = h.parts.are_spelled;
      begun_before = h.parts.begun_before;
      ones = h.parts.ones;
    };
    even = h.even;
    are_spelled = h.are_spelled;
    carried = h.carried;
    winds = λ on. absurd (false≢true (sym off ∙ on));
    over = λ is. elim (h.over is) [
      | inl whole ↦ inl whole
      | inr cut ↦ absurd (false≢true (sym off ∙ cut.0))
    ];
  }
