-- A chain whose pieces lie in the machine's regions lies in the map of the mode pass.
use Rattle.std.proofs.Common.{◌≡◌, ◌&&◌, Bool, true, List, [], ◌∷◌, map, slice_index_or, refl, ◌∙◌, ap, inl, inr}
use Rattle.std.specs.List.{All, list_all}
use Rattle.std.specs.Option.{is_some}
use Rattle.std.proofs.lemmas.Bool.{false≢true, cases_Bool}
use Rattle.vd_model.specs.declared.chain.Piece.{Piece}
use Rattle.vd_model.specs.Maps as maps
use Rattle.vd_text.specs.Grammar.{has_bytes}
use Rattle.vd_text.proofs.Order.{all_at}
use Rattle.vd_machine.specs.Queues.{holds, lies_in}
use Rattle.vd_machine.specs.declared.regions.Region.{Region}
use Rattle.vd_play.specs.Journal.{own_address}

-- one of the mappings holds a piece that one of the regions holds
held : (rs : List Region) (p : Piece) → lies_in rs p ≡ true → is_some (maps.to (map own_address rs) p.addr p.len) ≡ true
held [] p lies = absurd (false≢true lies)
held (r ∷ rs) p lies = elim (cases_Bool (holds p r)) [
  | inl here ↦ rw here refl
  | inr other ↦ rw other (held rs p (rw other at lies))
]

pub chain_in_map : (rs : List Region) (c : List Piece) → list_all has_bytes c ≡ true → list_all (lies_in rs) c ≡ true
    → All (λ p. maps.lies_in (map own_address rs) p ≡ true) c
chain_in_map rs c some inside =
    λ k d below. both (all_at has_bytes c d k some below) (held rs (slice_index_or c k d) (all_at (lies_in rs) c d k inside below))
  where
    both : {a b : Bool} → a ≡ true → b ≡ true → (a && b) ≡ true
    both {a} {b} x y = ap (λ z. z && b) x ∙ y
