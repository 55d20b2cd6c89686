use Rattle.std.proofs.Common.{rules, refl, not, ◌&&◌, ◌≡◌, ◌<◌, ◌-◌, ℕ, List, ◌++◌, ◌∷◌, [], length, slice_index_or, true, false, Bool, ◌⊎◌, inl, inr, arith, ap, sym, ◌∙◌, subst}
use Rattle.std.proofs.lemmas.List.{get_or_default, length_push}
use Rattle.std.proofs.lemmas.List.Quantifiers.{all_pairs_push}
use Rattle.std.proofs.lemmas.List.Elements.{All-push}
use Rattle.std.proofs.lemmas.Bool.{true≢false, cases_lt, both_ways}
use Rattle.vd_model.specs.declared.chain.Piece.{Piece}
use Rattle.vd_model.specs.Chains.{IsChain, IsPiece, IsReadableFirst, ends_writable, blank}
use Rattle.vd_model.proofs.chain.Chain.push.Goals as goal

-- where the last piece is readable, all are
all_readable : (xs : List Piece) (d : Piece) → IsReadableFirst xs → ends_writable xs ≡ false → (k : ℕ) → k < length xs
    → (slice_index_or xs k d).write ≡ true → ⊥
all_readable xs d first last k below w =
    let same : slice_index_or xs (length xs - 1) d ≡ slice_index_or xs (length xs - 1) blank =
    get_or_default xs (length xs - 1) d blank (omega arith) in
    elim (cases_lt k (length xs - 1)) [
      | inl h ↦ both_ways (ends_writable xs) last (ap (λ (x : Piece). x.write) (sym same) ∙ first k (length xs - 1) d h (omega arith) w)
      | inr h ↦ (let e : k ≡ length xs - 1 = omega arith in
          both_ways (ends_writable xs) last (ap (λ (x : Piece). x.write) (sym same)
          ∙ subst (λ (j : ℕ). (slice_index_or xs j d).write ≡ true) e w))
    ]

grows : (xs : List Piece) (p : Piece) → IsChain xs → length xs < 16 → (p.write ≡ true) ⊎ (ends_writable xs ≡ false) → IsPiece p
    → IsChain (xs ++ p ∷ [])
grows xs p is few ok small =
    let more = length_push xs p in (
      omega arith,
      omega arith,
      all_pairs_push (λ (x y : Piece). x.write ≡ true → y.write ≡ true) xs p is.2
          (λ k d below w. elim ok [ inl h ↦ h | inr h ↦ absurd (all_readable xs d is.2 h k below w) ]),
      All-push IsPiece xs p is.3 small,
    )

readable_end : (w e : Bool) → (not w && e) ≡ false → (w ≡ true) ⊎ (e ≡ false)
readable_end true e h = inl refl
readable_end false e h = inr h

refused : (w e : Bool) → (not w && e) ≡ true → (w ≡ false) × (e ≡ true)
refused true e h = absurd (true≢false (sym h))
refused false e h = (refl, h)

allowed : (w e : Bool) → (not w && e) ≡ false → w ≡ false → e ≡ true → ⊥
allowed true e h is on = true≢false is
allowed false e h is on = true≢false (sym on ∙ h)

pub invariant_of-self : goal.invariant_of-self
invariant_of-self c =
    let is : IsChain c.self.inside.pieces.items = c.self.invariant in
    rw c.push.ensures.items (grows c.self.inside.pieces.items c.args.p is (search rules)
    (readable_end c.args.p.write (ends_writable c.self.inside.pieces.items)
    (ap (λ (b : Bool). not c.args.p.write && b) (ap ends_writable (c.self.view_is) ∙ sym c.ends_writable.ensures)
    ∙ c.if-misplaced.false)) (omega arith, omega arith))

pub returns-clause-order : goal.returns-clause-order
returns-clause-order c = (
  λ e. absurd cc,
  λ h. absurd (allowed c.args.p.write c.ends_writable.result c.if-misplaced.false h.1 (c.ends_writable.ensures ∙ h.2)),
)

pub returns-then-misplaced-clause-order : goal.returns-then-misplaced-clause-order
returns-then-misplaced-clause-order c = (let r = refused c.args.p.write c.ends_writable.result c.if-misplaced.true in
    (λ e. (search rules, r.0, sym c.ends_writable.ensures ∙ r.1), λ h. refl))
