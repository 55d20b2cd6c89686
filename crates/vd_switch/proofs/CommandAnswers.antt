-- The acks of a control lane over all its epochs, and its device's settings.
use Rattle.std.proofs.Common.{◌≡◌, ℕ, ◌≤◌, Some, List, ◌++◌, length, map, take, drop, sym, ◌∙◌, ap, inl, inr}
use Rattle.std.proofs.lemmas.Bool.{cases_lt}
use Rattle.std.proofs.lemmas.List.{length-map, take_at}
use Rattle.vd_model.specs.declared.record.Begun.{Begun}
use Rattle.vd_ring.specs.declared.driver.DriverView.{DriverView}
use Rattle.vd_ring.specs.declared.device.DeviceView.{DeviceView}
use Rattle.vd_ring.specs.History.{gives, numbers, occurs}
use Rattle.vd_layout.specs.Driver.{DriverModel}
use Rattle.vd_layout.specs.Device.{DeviceModel}
use Rattle.vd_layout.specs.Layout.{LayoutModel, IsLawfulLayout}
use Rattle.vd_bus.specs.DeviceCommands.{commands_of}
use Rattle.vd_control.specs.declared.settings.Settings.{Settings}
use Rattle.vd_control.specs.Commands.{spelled}
use Rattle.vd_commands.specs.Loads.{ack_load}
use Rattle.vd_commands.specs.Words.{ack_byte, set_by}
use Rattle.vd_commands.proofs.Agreeing.{load_agrees}
use Rattle.vd_relay.specs.Settling.{bytes_of}
use Rattle.vd_switch.specs.CommandLanes.{CommandStart, CommandParts, KeepsCommands, IsAnsweredTo, AreAnsweredTo, before, guest_commands}

-- ---- the acks of all epochs

pub all_answers : {E D : Type 0} (e : DeviceModel E) (d : DriverModel D) (l : LayoutModel) (law : IsLawfulLayout d e l) (y : CommandStart)
    (begun : List Begun) (words : List ℕ) (v : DriverView) (w : DeviceView) → l.ring words v w → KeepsCommands y begun v w
    → AreAnsweredTo (before y) v w
    → ((k : ℕ) → 1 ≤ occurs k (numbers (gives w.done)) → IsAnsweredTo v w k)
    × ((k x : ℕ) → ack_load v.done k ≡ Some x → x ≡ ack_byte (bytes_of v.frame v.done k))
all_answers e d l law y begun words v w ring h old = (
  λ k some. elim (cases_lt k (before y)) [
    | inl early ↦ old k early
    | inr late ↦ h.answered k late some
  ],
  λ k x is. elim (cases_lt k (before y)) [
    | inl early ↦ load_agrees v.done w.done k x (law.controls words v w ring).acks.acks_agree is ∙ old k early
    | inr late ↦ h.loaded k x late is
  ],
)

-- ---- the settings of the device

pub device_settings : (l : LayoutModel) (y : CommandStart) (begun : List Begun) (now : Settings) (words shadow_words : List ℕ)
    (v : DriverView) (w : DeviceView) (sv : DriverView) (sw : DeviceView) → CommandParts l y begun now words shadow_words v w sv sw
    → KeepsCommands y begun v w
    → now ≡ set_by y.settings (take (length (drop y.by.at begun)) (map spelled y.replays ++ drop (before y) (guest_commands v)))
device_settings l y begun now words shadow_words v w sv sw h k =
    let ds : List Begun = drop y.by.at begun in
    h.commanded.settings ∙ ap (set_by y.settings) (sym (take_at (commands_of ds) k.journal.0 (length ds)
    (length-map ds (λ (b : Begun). b.bytes.items))) ∙ ap (take (length ds)) k.journal.1)
