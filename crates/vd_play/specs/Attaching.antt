-- How a lane's device is attached, and what the lane has then.
use Rattle.std.specs.Prelude.{◌≡◌, ◌≤◌, ◌-◌, false, List, length, take, slice_get, Option, Some, None, IsSomeAnd}
use Rattle.vd_layout.specs.Driver.{DriverModel}
use Rattle.vd_layout.specs.Device.{DeviceModel}
use Rattle.vd_layout.specs.Layout.{LayoutModel}
use Rattle.vd_ring.specs.declared.device.DeviceView.{DeviceView}
use Rattle.vd_bus.specs.Device.{DeviceParty, IsAttach}
use Rattle.vd_bus.specs.Orders.{Terms}
use Rattle.vd_switch.specs.Kits.{IsKit}
use Rattle.vd_switch.specs.Stills.{Shadows, IsNew}
use Rattle.vd_play.specs.declared.floor.Lane.{Lane}
use Rattle.vd_play.specs.declared.floor.Relaying.{Relaying}
use Rattle.vd_play.specs.declared.floor.ShadowRing.{ShadowRing}

-- its ring and its count of steps are the same
abbrev pub IsSameLane : {L D E : Type 0} → Lane L D E → Lane L D E → Type 0
IsSameLane a b = (b.words ≡ a.words) × (b.relayed ≡ a.relayed)

-- a list without its last member
abbrev pub removed_last : {A : Type 0} → List A → List A
removed_last xs = take (length xs - 1) xs

-- the next of a lane's shadow rings can stand for the guest's ring, which the lane's end stands for, and the order is for it
pub record CanShadow {L D E : Type 0} (d : DriverModel D) (e : DeviceModel E) (l : LayoutModel) (t : Terms) (still : Option E)
    (kits : List (ShadowRing L D E)) : Type 0 where
  pub ring : ShadowRing L D E
  pub next : slice_get kits (length kits - 1) ≡ Some ring
  pub some : 1 ≤ length kits
  pub kit : IsKit d e l t.size t.features false ring.kit.driver ring.kit.device ring.kit.table
  pub stands : IsSomeAnd still (λ end. (w : DeviceView) × e.stands end w × (false ≡ w.frame.control))
  pub framed : (end : E) (w : DeviceView) → still ≡ Some end → e.stands end w → (w.frame.size ≡ t.size) × (w.frame.features ≡ t.features)
  pub shadow : 16 ≤ t.ring
  pub base : t.base ≡ record { 0 = l.fresh_base }

-- the device was attached to that ring, with the settings of the control queue's device, and a relay was made of the lane's end and its kit
pub record HasShadowed {L D E X C : Type 0} (d : DriverModel D) (e : DeviceModel E) (m : DeviceParty X C) (t : Terms) (control : Option X)
    (a b : Lane L D E) (x y : X) : Type 0 where
  pub end : E
  pub ring : ShadowRing L D E
  pub was : a.still ≡ Some end
  pub next : slice_get a.kits.items (length a.kits.items - 1) ≡ Some ring
  pub lane : Relaying L D E
  pub is : b.relaying ≡ Some lane
  pub words : lane.words ≡ ring.words
  pub relays : Shadows e d end ring.kit.driver ring.kit.table.origins lane.lane.relay.state lane.lane.relay.counts
  pub fresh : IsNew lane.lane.relay.state lane.lane.relay.counts
  pub plain : lane.lane.relay.control ≡ None
  pub attached : IsAttach e m t control ring.kit.device x y
