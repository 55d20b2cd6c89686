-- What a ring was made with, and which chains may stand on it.
use Rattle.std.specs.Prelude.{◌≡◌, ℕ, ◌≤◌, true, List, Option, Some, None, if◌then◌else◌, nat_lt}
use Rattle.std.specs.List.{All}
use Rattle.vd_model.specs.declared.chain.Piece.{Piece}
use Rattle.vd_model.specs.declared.map.Mapping.{Mapping}
use Rattle.vd_model.specs.Chains.{IsChain, needs, total}
use Rattle.vd_model.specs.Maps.{lies_in}
use Rattle.vd_ring.specs.declared.frame.Frame.{Frame}

-- how many free things a chain borrows: in a packed ring one buffer id, in a split ring the places of its descriptors
abbrev pub borrowed : Frame → List Piece → ℕ
borrowed f c = if f.packed then 1 else needs f.features c

-- how many chains may be offered on a ring: guests' rings have numbers below 16
abbrev pub limit : Frame → ℕ
limit f = if nat_lt f.ring 16 then 4000000000 else 4294967295

-- each piece has a byte at least and lies in one mapping, where the ring has bounds
abbrev pub AreInBounds : Option (List Mapping) → List Piece → Type 0
AreInBounds None c = Unit {0}
AreInBounds (Some ms) c = All (λ p. lies_in ms p ≡ true) c

-- a chain that may stand on the ring, whatever stands there now
pub record Fits (f : Frame) (c : List Piece) : Type 0 where
  -- 1 to 16 pieces, the readable ones first (VIRTIO 1.2, 2.7.4.2)
  pub chain : IsChain c
  -- its descriptors are no more than the ring's places
  pub size : needs f.features c ≤ f.size
  -- its bytes are at most 2^32 - 1
  pub length : total c ≤ 4294967295
  -- it lies in the ring's bounds
  pub bounds : AreInBounds f.bounds c
