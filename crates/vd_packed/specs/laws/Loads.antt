-- Where the words of whole descriptors end, in the order of a take.
use Rattle.std.proofs.Common.{◌≡◌, ℕ, zero, suc, ◌+◌, ◌*◌, false, not, List, [], ◌∷◌, ◌++◌, length, refl, ap, ◌∙◌, arith}
use Rattle.vd_model.specs.declared.chain.Piece.{Piece}
use Rattle.vd_packed_ring.specs.PackedWords.{addr_word, second_word, id_of, goes_on}
use Rattle.vd_packed_ring.specs.PackedChains.{piece_of, pieces_in, ends, last_id, following}

pub following_even : (n q : ℕ) (ws : List ℕ) (i : ℕ) → length ws ≡ 2 * i → following n q ws ≡ second_word n (q + i)
following_even n q [] i e = ap (second_word n) (omega arith)
following_even n q (w ∷ []) i e = absurd (omega arith)
following_even n q (w ∷ a ∷ ws) zero e = absurd (omega arith)
following_even n q (w ∷ a ∷ ws) (suc i) e = following_even n (q + 1) ws i (omega arith) ∙ ap (second_word n) (omega arith)

pub following_odd : (n q : ℕ) (ws : List ℕ) (w i : ℕ) → length ws ≡ 2 * i → following n q (ws ++ w ∷ []) ≡ addr_word n (q + i)
following_odd n q [] w i e = ap (addr_word n) (omega arith)
following_odd n q (u ∷ []) w i e = absurd (omega arith)
following_odd n q (u ∷ a ∷ ws) w zero e = absurd (omega arith)
following_odd n q (u ∷ a ∷ ws) w (suc i) e = following_odd n (q + 1) ws w i (omega arith) ∙ ap (addr_word n) (omega arith)

pub ends_odd : (ws : List ℕ) (w i : ℕ) → length ws ≡ 2 * i → ends (ws ++ w ∷ []) ≡ false
ends_odd [] w i e = refl
ends_odd (u ∷ []) w i e = absurd (omega arith)
ends_odd (u ∷ a ∷ []) w i e = refl
ends_odd (u ∷ a ∷ b ∷ ws) w zero e = absurd (omega arith)
ends_odd (u ∷ a ∷ b ∷ ws) w (suc i) e = ends_odd (b ∷ ws) w i (omega arith)

pub ends_last : (ws : List ℕ) (w x i : ℕ) → length ws ≡ 2 * i → ends (ws ++ w ∷ x ∷ []) ≡ not (goes_on w)
ends_last [] w x i e = refl
ends_last (u ∷ []) w x i e = absurd (omega arith)
ends_last (u ∷ a ∷ []) w x i e = refl
ends_last (u ∷ a ∷ b ∷ ws) w x zero e = absurd (omega arith)
ends_last (u ∷ a ∷ b ∷ ws) w x (suc i) e = ends_last (b ∷ ws) w x i (omega arith)

pub pieces_last : (ws : List ℕ) (w x i : ℕ) → length ws ≡ 2 * i → pieces_in (ws ++ w ∷ x ∷ []) ≡ pieces_in ws ++ piece_of x w ∷ []
pieces_last [] w x i e = refl
pieces_last (u ∷ []) w x i e = absurd (omega arith)
pieces_last (u ∷ a ∷ ws) w x zero e = absurd (omega arith)
pieces_last (u ∷ a ∷ ws) w x (suc i) e = ap (λ (ps : List Piece). piece_of a u ∷ ps) (pieces_last ws w x i (omega arith))

pub id_last : (ws : List ℕ) (w x i : ℕ) → length ws ≡ 2 * i → last_id (ws ++ w ∷ x ∷ []) ≡ id_of w
id_last [] w x i e = refl
id_last (u ∷ []) w x i e = absurd (omega arith)
id_last (u ∷ a ∷ []) w x i e = refl
id_last (u ∷ a ∷ b ∷ ws) w x zero e = absurd (omega arith)
id_last (u ∷ a ∷ b ∷ ws) w x (suc i) e = id_last (b ∷ ws) w x i (omega arith)
