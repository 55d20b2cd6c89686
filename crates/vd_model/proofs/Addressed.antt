-- A chain stays lawful where the address of one piece is set.
use Rattle.std.proofs.Common.{◌≡◌, ℕ, ◌<◌, ◌^◌, List, length, slice_set, slice_index_or, drop, sym, ◌∙◌, ap, subst, arith, inl, inr}
use Rattle.std.specs.List.{refill}
use Rattle.std.proofs.lemmas.Bool.{cases_eq}
use Rattle.std.proofs.lemmas.List.{get_or-set_same, get_or-set_other, get_or_default, take_at}
use Rattle.std.proofs.lemmas.List.Elements.{All-set, All-get_or}
use Rattle.std.proofs.Math.ListN.{length-set}
use Rattle.vd_model.specs.declared.chain.Piece.{Piece}
use Rattle.vd_model.specs.Chains.{blank, IsChain, IsPiece}
use Rattle.vd_model.specs.Moved.{at_address}

-- who may write each piece has not changed
same_write : (c : List Piece) (i addr j : ℕ) (d : Piece) → i < length c → j < length c
    → (slice_index_or (slice_set c i (at_address c i addr)) j d).write ≡ (slice_index_or c j blank).write
same_write c i addr j d here below = elim (cases_eq j i) [
  | inl e ↦ subst (λ (n : ℕ). (slice_index_or (slice_set c i (at_address c i addr)) n d).write ≡ (slice_index_or c n blank).write)
      (sym e) (ap (λ (p : Piece). p.write) (get_or-set_same c i (at_address c i addr) d here))
  | inr ne ↦ ap (λ (p : Piece). p.write) (get_or-set_other c i j (at_address c i addr) d ne ∙ get_or_default c j d blank below)
]

pub is_chain_addressed : (c : List Piece) (i addr : ℕ) → i < length c → addr < 2 ^ 64 → IsChain c
    → IsChain (slice_set c i (at_address c i addr))
is_chain_addressed c i addr here fits is =
    let same : length (slice_set c i (at_address c i addr)) ≡ length c = length-set c i (at_address c i addr) in (
      omega (arith, same, is.0),
      omega (arith, same, is.1),
      λ j k d less below w. same_write c i addr k d here (omega arith)
          ∙ is.2 j k blank less (omega arith) (sym (same_write c i addr j d here (omega arith)) ∙ w),
      All-set IsPiece c i (at_address c i addr) (fits, (All-get_or IsPiece c i blank here is.3).1) is.3,
    )

-- the pieces as an ArrayVec has them after a write through its slice
pub is_chain_written : (c borrowed : List Piece) (i addr : ℕ) → borrowed ≡ c → i < length c → addr < 2 ^ 64 → IsChain c
    → IsChain (refill (length c) c (slice_set borrowed i (at_address borrowed i addr)))
is_chain_written c borrowed i addr is here fits lawful =
    let ws : List Piece = slice_set borrowed i (at_address borrowed i addr) in
    let as_many : length ws ≡ length c = length-set borrowed i (at_address borrowed i addr) ∙ ap (λ (x : List Piece). length x) is in
    subst (λ (x : List Piece). IsChain x) (sym (take_at ws (drop (length ws) c) (length c) as_many))
    (subst (λ (x : List Piece). IsChain (slice_set x i (at_address x i addr))) (sym is) (is_chain_addressed c i addr here fits lawful))
