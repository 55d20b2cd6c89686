-- Lemmas: a ring on which any chain of few bytes may be offered.
use Rattle.std.proofs.Common.{◌≡◌, ◌<◌, ◌≤◌, true, false, List, [], ◌∷◌, length, sym, subst, rules, nat_lt, if◌then◌else◌}
use Rattle.vd_model.specs.declared.chain.Piece.{Piece}
use Rattle.vd_model.specs.Chains.{IsChain, total}
use Rattle.vd_ring.specs.declared.driver.DriverView.{DriverView}
use Rattle.vd_ring.specs.Frames.{AreInBounds}
use Rattle.vd_ring.specs.History.{offers}
use Rattle.vd_layout.specs.Control.{ControlWords}
use Rattle.vd_layout.specs.Driver.{HasRoom, MayOffer}
use Rattle.vd_seats.specs.Open.{IsOpen, MayStand}

-- a chain that may stand on the ring may be offered where there is room
pub may_offer : (words : ControlWords) (v : DriverView) (c : List Piece) → MayStand words v c → length (offers v.done) < 1000000000
    → HasRoom v.frame v.done c → MayOffer words v c
may_offer words v c may n room = record {
  fits = may.fits;
  room = room;
  limited = elim (nat_lt v.frame.ring 16) as (λ b. length (offers v.done) < (if b then 4000000000 else 4294967295))
      [ true ↦ (search rules) | false ↦ (search rules) ];
  control = may.control;
}

-- a chain of one piece may be offered where there is room
pub may_offer_one : (words : ControlWords) (v : DriverView) → IsOpen v.frame → (piece : Piece) (c : List Piece) → c ≡ piece ∷ []
    → IsChain c → piece.len ≤ 4294967295 → length (offers v.done) < 1000000000 → HasRoom v.frame v.done c → MayOffer words v c
may_offer_one words v bare piece c is chain small n room = may_offer words v c (record {
  fits = record {
    chain = chain;
    size = search rules;
    length = subst (λ (xs : List Piece). total xs ≤ 4294967295) (sym is) (search rules);
    bounds = subst (λ b. AreInBounds b c) (sym bare.unbounded) tt;
  };
  control = λ on. absurd (cc (on, bare.uncontrolled));
}) n room
