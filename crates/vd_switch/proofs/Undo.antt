-- Chains moved and moved back, and lists of them.
use Rattle.std.proofs.Common.{◌≡◌, ℕ, zero, suc, ◌+◌, ◌<◌, ◌≤◌, ◌&&◌, nat_le, true, false, Option, Some, None, List, [], ◌∷◌, ◌++◌, length, map, take, drop, refl, ◌∙◌, ap, subst, arith}
use Rattle.std.specs.List.{All}
use Rattle.std.specs.Option.{is_some, unwrap_or}
use Rattle.std.proofs.lemmas.Bool.Decides.{nat_tests}
use Rattle.std.proofs.lemmas.List.{get_or-append-add}
use Rattle.std.proofs.Math.ListN.{length-append}
use Rattle.vd_model.specs.declared.chain.Piece.{Piece}
use Rattle.vd_model.specs.declared.map.Mapping.{Mapping}
use Rattle.vd_model.specs.declared.record.Begun.{Begun}
use Rattle.vd_model.specs.Maps.{to, lies_in}
use Rattle.vd_bus.specs.Device.{chains_of}
use Rattle.vd_model.specs.Moved.{moved, moved_piece, moved_back, moved_back_piece}
use Rattle.vd_switch.specs.ShadowingLanes.{IsUndone, begun_back}

undo_at : (ms : List Mapping) → IsUndone ms → (p : Piece) (o : Option ℕ) → to ms p.addr p.len ≡ o → (nat_le 1 p.len && is_some o) ≡ true
    → moved_back_piece ms (moved_piece ms p) ≡ p
undo_at ms undone p None is in_map = let no : (nat_le 1 p.len && false) ≡ true = in_map in absurd (grind (arith, nat_tests))
undo_at ms undone p (Some x) is in_map =
    let some : 0 < p.len = grind (arith, nat_tests) in
    ap (λ (o : Option ℕ). moved_back_piece ms (record { addr = unwrap_or o p.addr; len = p.len; write = p.write })) is
    ∙ ap (λ (o : Option ℕ). record { addr = unwrap_or o x; len = p.len; write = p.write }) (undone p.addr p.len x some is)

undo_piece : (ms : List Mapping) → IsUndone ms → (p : Piece) → lies_in ms p ≡ true → moved_back_piece ms (moved_piece ms p) ≡ p
undo_piece ms undone p in_map = undo_at ms undone p (to ms p.addr p.len) refl in_map

all_tail : {X : Type 0} (P : X → Type 0) (x : X) (xs : List X) → All P (x ∷ xs) → All P xs
all_tail P x xs all = λ k d below. all (suc k) d (omega arith)

all_head : {X : Type 0} (P : X → Type 0) (x : X) (xs : List X) → All P (x ∷ xs) → P x
all_head P x xs all = all zero x (omega arith)

undo_chain : (ms : List Mapping) → IsUndone ms → (c : List Piece) → All (λ (p : Piece). lies_in ms p ≡ true) c
    → moved_back ms (moved ms c) ≡ c
undo_chain ms undone [] all = refl
undo_chain ms undone (p ∷ c) all =
    ap (λ (q : Piece). q ∷ moved_back ms (moved ms c)) (undo_piece ms undone p (all_head (λ (p : Piece). lies_in ms p ≡ true) p c all))
    ∙ ap (λ (x : List Piece). p ∷ x) (undo_chain ms undone c (all_tail (λ (p : Piece). lies_in ms p ≡ true) p c all))

pub undo_all : (ms : List Mapping) → IsUndone ms → (cs : List (List Piece))
    → All (λ (c : List Piece). All (λ (p : Piece). lies_in ms p ≡ true) c) cs → map (moved_back ms) (map (moved ms) cs) ≡ cs
undo_all ms undone [] all = refl
undo_all ms undone (c ∷ cs) all =
    ap (λ (x : List Piece). x ∷ map (moved_back ms) (map (moved ms) cs))
    (undo_chain ms undone c (all_head (λ (c : List Piece). All (λ (p : Piece). lies_in ms p ≡ true) c) c cs all))
    ∙ ap (λ (xs : List (List Piece)). c ∷ xs)
    (undo_all ms undone cs (all_tail (λ (c : List Piece). All (λ (p : Piece). lies_in ms p ≡ true) c) c cs all))

pub begun_chains : (ms : List Mapping) (bs : List Begun)
    → map (λ (x : List Piece × ℕ). x.0) (map (begun_back ms) bs) ≡ map (moved_back ms) (chains_of bs)
begun_chains ms [] = refl
begun_chains ms (b ∷ bs) = ap (λ (xs : List (List Piece)). moved_back ms b.chain ∷ xs) (begun_chains ms bs)

pub take_take : {X : Type 0} (i m : ℕ) (xs : List X) → i ≤ m → take i (take m xs) ≡ take i xs
take_take zero m xs low = refl
take_take (suc i) zero xs low = absurd (omega arith)
take_take (suc i) (suc m) [] low = refl
take_take {X} (suc i) (suc m) (x ∷ xs) low = ap (λ (ys : List X). x ∷ ys) (take_take i m xs (omega arith))

pub drop_front : {X : Type 0} (xs ys : List X) → drop (length xs) (xs ++ ys) ≡ ys
drop_front [] ys = refl
drop_front (x ∷ xs) ys = drop_front xs ys

pub all_back : {X : Type 0} (P : X → Type 0) (xs ys : List X) → All P (xs ++ ys) → All P ys
all_back P xs ys all = λ k d below. subst P (get_or-append-add xs ys k d) (all (length xs + k) d (omega (arith, length-append xs ys)))
