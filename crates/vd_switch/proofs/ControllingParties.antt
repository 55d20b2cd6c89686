-- One access of the shadow ring's device, or of the guest, keeps a control lane, whatever its relay does.
use Rattle.std.proofs.Common.{◌≡◌, ℕ, false, Some, List, sym, ◌∙◌, inl, inr}
use Rattle.std.proofs.lemmas.Bool.{false≢true}
use Rattle.vd_model.specs.declared.record.Begun.{Begun}
use Rattle.vd_words.specs.Model.{PortModel, IsLawfulPort}
use Rattle.vd_ring.specs.declared.driver.DriverView.{DriverView}
use Rattle.vd_ring.specs.declared.device.DeviceView.{DeviceView}
use Rattle.vd_layout.specs.declared.moves.Move.{Move}
use Rattle.vd_layout.specs.Driver.{DriverModel}
use Rattle.vd_layout.specs.Device.{DeviceModel}
use Rattle.vd_layout.specs.Layout.{LayoutModel, IsLawfulLayout}
use Rattle.vd_bus.specs.Device.{DeviceParty, IsDeviceAccess, IsLawfulDeviceParty}
use Rattle.vd_bus.specs.Guest.{GuestParty, IsGuestAccess}
use Rattle.vd_bus.specs.Orders.{IsControl}
use Rattle.vd_control.specs.declared.settings.Settings.{Settings}
use Rattle.vd_relay.specs.declared.control.Control.{Control}
use Rattle.vd_relay.specs.declared.counts.Counts.{Counts}
use Rattle.vd_relay.specs.declared.state.State.{State}
use Rattle.vd_switch.specs.CommandLanes.{CommandParts}
use Rattle.vd_switch.specs.CommandLaneSteps.{DeviceCommanded, GuestCommanded}
use Rattle.vd_switch.specs.Controlling.{ControlStart, IsControlling, start_of}
use Rattle.vd_switch.proofs.CommandServed.{replay_commanded, lane_commanded}
use Rattle.vd_switch.proofs.CommandDriven.{replay_driven, lane_driven}
use Rattle.vd_switch.proofs.Controlling.{is_carrying, carrying, replaying}

module _ {Q E D X C : Type 0} (q : PortModel Q) (qlaw : IsLawfulPort q) (l : LayoutModel) (e : DeviceModel E) (d : DriverModel D)
    (law : IsLawfulLayout d e l) (m : DeviceParty X C) (mlaw : IsLawfulDeviceParty e m) (x : ControlStart) (r : State E D) (k : Control)
    (s : Settings) (c : Counts) (words shadow_words : List ℕ) (v : DriverView) (w : DeviceView) (sv : DriverView) (sw : DeviceView)
    (y z : X) (b b' : Q) (said : Move)
    (h : IsControlling l e d x r k s c (m.begun y) (m.settings y) words shadow_words v w sv sw) (off : r.winding ≡ false)
    (attached : m.attached y ≡ Some x.by) (for_control : IsControl x.by.queue) (from : m.attached_with y ≡ x.settings)
    (plain : q.plain b shadow_words) (t : IsDeviceAccess q e m b b' sw y z said) where
  abbrev sw' : DeviceView
  sw' = e.side.after sw t.op t.access t.got

  abbrev Lane : List ℕ → Type 0
  Lane us = IsControlling l e d x r k s c (m.begun z) (m.settings z) words us v w sv sw'

  lane_of : (us : List ℕ) → CommandParts l (start_of x k) (m.begun z) (m.settings z) words us v w sv sw' → Lane us
  lane_of us parts = record {
    holds = h.holds;
    parts = parts;
    even = h.even;
    are_spelled = h.are_spelled;
    carried = h.carried;
    winds = λ on. absurd (false≢true (sym off ∙ on));
    over = λ is. elim (h.over is) [
      | inl whole ↦ inl whole
      | inr cut ↦ absurd (false≢true (sym off ∙ cut.0))
    ];
  }

  pub device_controlled : DeviceCommanded q (start_of x k) Lane (m.begun y) (m.begun z) b' v w sw sw'
  device_controlled = elim (is_carrying k.mode) [
    | inl is ↦ (
        let a = lane_commanded q qlaw e d l law m mlaw (start_of x k) words shadow_words v w sv sw y z b b' said attached for_control from
        plain t r k.commander.commands s off (carrying l e d x r k s c (m.begun y) (m.settings y) words shadow_words v w sv sw h is) in
        record {
          shadow_words = a.shadow_words;
          plain = a.plain;
          lane = lane_of a.shadow_words a.lane.parts;
          began = a.began;
          exact = a.exact;
        }
        )
    | inr never ↦ (
        let a = replay_commanded q qlaw e d l law m mlaw (start_of x k) words shadow_words v w sv sw y z b b' said attached for_control
        from plain t (replaying l e d x r k s c (m.begun y) (m.settings y) words shadow_words v w sv sw h never) in
        record {
          shadow_words = a.shadow_words;
          plain = a.plain;
          lane = lane_of a.shadow_words a.lane.parts;
          began = a.began;
          exact = a.exact;
        }
        )
  ]

module _ {P E D G : Type 0} (p : PortModel P) (plaw : IsLawfulPort p) (l : LayoutModel) (e : DeviceModel E) (d : DriverModel D)
    (law : IsLawfulLayout d e l) (m : GuestParty G) (x : ControlStart) (r : State E D) (k : Control) (s : Settings) (c : Counts)
    (begun : List Begun) (now : Settings) (words shadow_words : List ℕ) (v : DriverView) (w : DeviceView) (sv : DriverView)
    (sw : DeviceView) (y z : G) (a a' : P) (said : Move)
    (h : IsControlling l e d x r k s c begun now words shadow_words v w sv sw) (plain : p.plain a words)
    (t : IsGuestAccess p d m a a' v y z said) where
  abbrev v' : DriverView
  v' = d.side.after v t.op t.access t.got

  abbrev Driven : List ℕ → Type 0
  Driven us = IsControlling l e d x r k s c begun now us shadow_words v' w sv sw

  driven_of : (us : List ℕ) → CommandParts l (start_of x k) begun now us shadow_words v' w sv sw → Driven us
  driven_of us parts = record {
    holds = h.holds;
    parts = parts;
    even = h.even;
    are_spelled = h.are_spelled;
    carried = h.carried;
    winds = h.winds;
    over = h.over;
  }

  pub guest_controlled : GuestCommanded p (start_of x k) Driven begun a' v v' w
  guest_controlled = elim (is_carrying k.mode) [
    | inl is ↦ (
        let u = lane_driven p plaw e d l law m (start_of x k) begun now words shadow_words v w sv sw y z a a' said plain t r
        k.commander.commands s (carrying l e d x r k s c begun now words shadow_words v w sv sw h is) in
        record {
          words = u.words;
          plain = u.plain;
          lane = driven_of u.words u.lane.parts;
          offered = u.offered;
          answers = u.answers;
        }
        )
    | inr never ↦ (
        let u = replay_driven p plaw e d l law m (start_of x k) begun now words shadow_words v w sv sw y z a a' said plain t
        (replaying l e d x r k s c begun now words shadow_words v w sv sw h never) in
        record {
          words = u.words;
          plain = u.plain;
          lane = driven_of u.words u.lane.parts;
          offered = u.offered;
          answers = u.answers;
        }
        )
  ]
