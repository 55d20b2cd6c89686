-- One access of a party of a bridge, as the contract of that party has it, on the words of its ring.
use Rattle.std.specs.Prelude.{◌≡◌, ◌<◌, true, false, length}
use Rattle.vd_words.specs.Model.{PortModel}
use Rattle.vd_words.specs.Plain.{RingWords}
use Rattle.vd_words.specs.Step.{place_of, PlainMoves, AreAlike}
use Rattle.vd_ring.specs.declared.device.DeviceView.{DeviceView}
use Rattle.vd_ring.specs.declared.driver.DriverView.{DriverView}
use Rattle.vd_layout.specs.declared.moves.Move.{Move}
use Rattle.vd_layout.specs.Driver.{DriverModel}
use Rattle.vd_layout.specs.Device.{DeviceModel}
use Rattle.vd_layout.specs.Layout.{LayoutModel}
use Rattle.vd_bus.specs.Device.{DeviceParty, IsDeviceAccess}
use Rattle.vd_bus.specs.Guest.{GuestParty, IsGuestAccess}
use Rattle.vd_relay.specs.Moving.{Holds, IsRelayStep}
use Rattle.vd_relay.specs.Stages.{is_rested}
use Rattle.vd_relay.specs.Tie.{Start}
use Rattle.vd_relayed.specs.Bridges.{Parts}

-- the words of a ring as a port
abbrev pub on_words : PortModel RingWords
on_words = record {
  ring = λ s. s.ring;
  count = λ s. length s.words;
  allows = λ s op a. place_of a < length s.words;
  moves = λ s op a r t. PlainMoves s a r t;
  plain = λ s ws. s.words ≡ ws;
  same = λ s t. AreAlike s t;
}

-- of the guest, at each view for which it holds its end of the first ring
abbrev pub GuestSteps : {D E G V : Type 0} → DriverModel D → LayoutModel → GuestParty G → Parts E D G V → Parts E D G V → Move
    → Type 0
GuestSteps d l g b b' said = (v : DriverView) (w : DeviceView) → l.ring b.words.words v w → g.holds b.guest v
    → IsGuestAccess on_words d g b.words b'.words v b.guest b'.guest said

-- of the device, at each view for which it holds its end of the second ring
abbrev pub DeviceSteps : {D E G V C : Type 0} → DeviceModel E → LayoutModel → DeviceParty V C → Parts E D G V → Parts E D G V → Move
    → Type 0
DeviceSteps e l m b b' said = (v : DriverView) (w : DeviceView) → l.ring b.shadow.words v w → m.holds b.device w
    → IsDeviceAccess on_words e m b.shadow b'.shadow w b.device b'.device said

-- of the relay, on one of the two rings, at all views for which it holds its two ends
abbrev pub RelaySteps : {D E G V : Type 0} → DriverModel D → DeviceModel E → LayoutModel → Parts E D G V → Parts E D G V → Move
    → Type 0
RelaySteps d e l b b' said = (z : Start) (v : DriverView) (w : DeviceView) (sv : DriverView) (sw : DeviceView)
    → l.ring b.words.words v w → l.ring b.shadow.words sv sw → Holds e d z b.state b.counts w sv → b.map ≡ z.map
    → IsRelayStep on_words on_words e d z b.words b'.words b.shadow b'.shadow w sv b.state b'.state b.counts b'.counts said

-- the relay winds up until it has collected as many chains as the device has begun, and holds its two ends at the same views
pub record BeginsWindUp {D E G V C : Type 0} (d : DriverModel D) (e : DeviceModel E) (m : DeviceParty V C) (b b' : Parts E D G V)
    : Type 0 where
  pub winding : b'.state.winding ≡ true
  pub target : b'.state.target ≡ length (m.begun b.device)
  pub live : is_rested b'.state.stage ≡ false
  pub holds : (z : Start) (w : DeviceView) (v : DriverView) → Holds e d z b.state b.counts w v → Holds e d z b'.state b'.counts w v
