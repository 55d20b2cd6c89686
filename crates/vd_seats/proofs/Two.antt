-- The chain of two pieces may stand on a ring of four places.
use Rattle.std.proofs.Common.{◌≡◌, ◌≤◌, ℕ, Bool, true, false, List, [], ◌∷◌, Option, Some, refl, if◌then◌else◌, subst, sym, arith}
use Rattle.vd_model.specs.declared.chain.Piece.{Piece}
use Rattle.vd_model.specs.declared.features.Features.{Features}
use Rattle.vd_model.specs.declared.map.Mapping.{Mapping}
use Rattle.std.proofs.lemmas.List.Elements.{All-nil, All-cons}
use Rattle.vd_model.specs.Chains.{IsChain, needs, total}
use Rattle.vd_model.specs.Maps.{lies_in}
use Rattle.vd_ring.specs.Frames.{AreInBounds, Fits}
use Rattle.vd_seats.specs.Rule.{made_frame}
use Rattle.vd_seats.specs.Two.{two}

-- a chain of two pieces needs no more than four places
pub few : (b : Bool) → (if b then 1 else 2) ≤ 4
few true = omega arith
few false = omega arith

-- it may stand on such a ring
pub two_fit : (packed : Bool) (n : ℕ) (f : Features) (control : Bool) (bounds : Option (List Mapping)) (c : List Piece) → c ≡ two
    → IsChain c → AreInBounds bounds c → Fits (made_frame packed n 4 f control bounds) c
two_fit packed n f control bounds c is chain inside = record {
  chain = chain;
  size = subst (λ (xs : List Piece). needs f xs ≤ 4) (sym is) (few f.indirect);
  length = subst (λ (xs : List Piece). total xs ≤ 4294967295) (sym is) (omega arith);
  bounds = inside;
}

abbrev one : List Mapping
one = record { iova = 0; size = 4116; guest = 4096 } ∷ []

-- it lies in the bounds of one mapping, which ends with its last byte
pub two_in : (ms : List Mapping) → ms ≡ record { iova = 0; size = 4116; guest = 4096 } ∷ [] → AreInBounds (Some ms) two
two_in ms is = subst (λ (xs : List Mapping). AreInBounds (Some xs) two) (sym is)
    (All-cons (λ p. lies_in one p ≡ true) (record { addr = 4096; len = 10; write = false })
    (record { addr = 8192; len = 20; write = true } ∷ []) refl
    (All-cons (λ p. lies_in one p ≡ true) (record { addr = 8192; len = 20; write = true }) [] refl (All-nil (λ p. lies_in one p ≡ true))))
