-- Which two rings a relay may stand between.
use Rattle.std.specs.Prelude.{◌≡◌, ◌<◌, ◌≤◌, ◌^◌, true, false, Some, None, List}
use Rattle.vd_model.specs.declared.chain.Piece.{Piece}
use Rattle.vd_model.specs.declared.map.Mapping.{Mapping}
use Rattle.vd_model.specs.Maps.{lies_in}
use Rattle.vd_ring.specs.declared.frame.Frame.{Frame}

-- the map has an iova for each piece that lies in the bounds
abbrev pub Covers : List Mapping → List Mapping → Type 0
Covers bounds ms = (p : Piece) → lies_in bounds p ≡ true → (lies_in ms p ≡ true) × (p.addr < 2 ^ 63)

-- the guest's ring has bounds, and the map an iova for each piece in them; the shadow ring has none. Both have one size and one
-- feature set, and neither is a control ring
pub record ArePaired (ms : List Mapping) (f g : Frame) : Type 0 where
  pub bounds : List Mapping
  pub bounded : f.bounds ≡ Some bounds
  pub covers : Covers bounds ms
  pub free : g.bounds ≡ None
  pub size : g.size ≡ f.size
  pub features : g.features ≡ f.features
  pub guest_plain : f.control ≡ false
  pub shadow_plain : g.control ≡ false
  pub guest : f.ring < 16
  pub shadow : 16 ≤ g.ring

-- both are rings of a control queue, without bounds, of one size and one feature set
pub record AreControls (f g : Frame) : Type 0 where
  pub guest_control : f.control ≡ true
  pub shadow_control : g.control ≡ true
  pub guest_free : f.bounds ≡ None
  pub free : g.bounds ≡ None
  pub size : g.size ≡ f.size
  pub features : g.features ≡ f.features
  pub guest : f.ring < 16
  pub shadow : 16 ≤ g.ring
