-- A guest, a relay and a device over two rings of plain words: what is seen of them, and how they hold the rings' ends.
use Rattle.std.specs.Prelude.{◌≡◌, ℕ, ◌∷◌, [], None, Some, List, replicate, false}
use Rattle.vd_model.specs.declared.chain.Piece.{Piece}
use Rattle.vd_model.specs.declared.features.Features.{Features}
use Rattle.vd_model.specs.declared.map.Mapping.{Mapping}
use Rattle.vd_words.specs.Plain.{RingWords}
use Rattle.vd_ring.specs.declared.device.DeviceView.{DeviceView}
use Rattle.vd_ring.specs.declared.driver.DriverView.{DriverView}
use Rattle.vd_ring.specs.declared.frame.Frame.{Frame}
use Rattle.vd_ring.specs.Fresh.{fresh_driver, fresh_device}
use Rattle.vd_layout.specs.Both.{plain_frame}
use Rattle.vd_layout.specs.Driver.{DriverModel}
use Rattle.vd_layout.specs.Device.{DeviceModel}
use Rattle.vd_layout.specs.Layout.{LayoutModel}
use Rattle.vd_bus.specs.Device.{DeviceParty}
use Rattle.vd_bus.specs.Guest.{GuestParty}
use Rattle.vd_control.specs.declared.settings.Settings.{Settings}
use Rattle.vd_relay.specs.declared.counts.Counts.{Counts}
use Rattle.vd_relay.specs.declared.state.State.{State}
use Rattle.vd_relay.specs.Moving.{Holds}
use Rattle.vd_relay.specs.Stages.{is_rested}
use Rattle.vd_relay.specs.Tie.{Start}

-- the guest and the words of its ring; the relay; the words of the shadow ring and the device; the map
pub record Parts (E D G V : Type 0) : Type 0 where
  pub guest : G
  pub words : RingWords
  pub state : State E D
  pub counts : Counts
  pub settings : Settings
  pub shadow : RingWords
  pub device : V
  pub map : List Mapping

-- the guest holds the driver's end of the first ring, the relay the device's end, and the driver's end of the second; the device holds
-- the device's end of the second. The words of each ring meet its invariant
pub record IsBridge {D E G V C : Type 0} (d : DriverModel D) (e : DeviceModel E) (l : LayoutModel) (g : GuestParty G) (m : DeviceParty V C)
    (b : Parts E D G V) : Type 0 where
  pub start : Start
  pub view : DriverView
  pub device_view : DeviceView
  pub shadow_view : DriverView
  pub shadow_device_view : DeviceView
  pub ring : l.ring b.words.words view device_view
  pub shadow_ring : l.ring b.shadow.words shadow_view shadow_device_view
  pub drives : g.holds b.guest view
  pub serves : m.holds b.device shadow_device_view
  pub relays : Holds e d start b.state b.counts device_view shadow_view
  pub map : b.map ≡ start.map

-- the frames of its two rings: ring 0 in the bounds of the map, and ring 16 of iovas
abbrev pub guest_frame : LayoutModel → ℕ → Features → List Mapping → Frame
guest_frame l size f ms = plain_frame l 0 size f false (Some ms)

abbrev pub shadow_frame : LayoutModel → ℕ → Features → Frame
shadow_frame l size f = plain_frame l 16 size f false None

abbrev pub fresh_words : LayoutModel → Frame → RingWords
fresh_words l f = record { ring = f.ring; words = replicate (l.width f) 0 }

-- both rings are fresh, and each party is at its begin: the guest is to offer the chain `count` times, the device to begin `stop` chains
pub record IsNew {D E G V C : Type 0} (d : DriverModel D) (e : DeviceModel E) (l : LayoutModel) (g : GuestParty G) (m : DeviceParty V C)
    (first second : Frame) (ms : List Mapping) (chain : List Piece) (count stop : ℕ) (b : Parts E D G V) : Type 0 where
  pub words : b.words ≡ fresh_words l first
  pub shadow : b.shadow ≡ fresh_words l second
  pub drives : g.holds b.guest (fresh_driver first (l.width first))
  pub serves : m.holds b.device (fresh_device second (l.width second))
  pub relays : Holds e d (Rattle.vd_relay.specs.Moving.start ms (fresh_device first (l.width first))) b.state b.counts
      (fresh_device first (l.width first)) (fresh_driver second (l.width second))
  pub script : g.script b.guest ≡ Some (record { runs = record { count = count; chain = chain } ∷ []; commands = [] })
  pub offered : g.offered b.guest ≡ 0
  pub returned : g.returned b.guest ≡ []
  pub attached : m.attached b.device ≡ Some (record { queue = 0; count = stop; at = 0; from = 0 })
  pub begun : m.begun b.device ≡ []
  pub live : is_rested b.state.stage ≡ false
  pub winding : b.state.winding ≡ false
  pub counts : b.counts ≡ record { accesses = 0; handled = 0; heard = 0 }
  pub map : b.map ≡ ms
