-- Serving one chain after the other.
use Rattle.std.proofs.Common.{◌≡◌, ℕ, zero, suc, ◌+◌, List, [], ◌∷◌, ◌++◌, length, take, drop, sym, ◌∙◌, ap, arith}
use Rattle.std.proofs.lemmas.List.{append_assoc, drop-drop, length-append, take_all}
use Rattle.vd_model.specs.declared.chain.Piece.{Piece}
use Rattle.vd_ring.specs.History.{entry}
use Rattle.vd_layout.specs.RingLists.{RingLists}
use Rattle.vd_uses.specs.Filling.{answers, filled, next_chains, IsServed}

take_plus : (n m : ℕ) (xs : List (List Piece)) → take (n + m) xs ≡ take n xs ++ take m (drop n xs)
take_plus zero m xs = let on : zero + m ≡ m = omega arith in ap (λ k. take k xs) on
take_plus (suc n) m [] =
    let on : suc n + m ≡ suc (n + m) = omega arith in
    let none : take m [] ≡ [] = take_all m [] (omega arith) in
    ap (λ k. take k []) on ∙ sym none
take_plus (suc n) m (x ∷ xs) =
    let on : suc n + m ≡ suc (n + m) = omega arith in
    ap (λ k. take k (x ∷ xs)) on ∙ ap (λ l. x ∷ l) (take_plus n m xs)

answers_plus : (most k : ℕ) (cs ds : List (List Piece)) → answers most k (cs ++ ds) ≡ answers most k cs ++ answers most (k + length cs) ds
answers_plus most k [] ds = let on : k ≡ k + 0 = omega arith in ap (λ j. answers most j ds) on
answers_plus most k (c ∷ cs) ds =
    let on : k + 1 + length cs ≡ k + length (c ∷ cs) = omega arith in
    ap (λ us. entry k (filled most c) ∷ us) (answers_plus most (k + 1) cs ds ∙ ap (λ j. answers most (k + 1) cs ++ answers most j ds) on)

-- some were served, and then some more
pub served_more : (most : ℕ) (a b c : RingLists) (n m : ℕ) → IsServed most a b n → IsServed most b c m → IsServed most a c (n + m)
served_more most a b c n m x y =
    let reached : length b.taken ≡ length a.taken + n = ap length x.taken ∙ length-append a.taken (next_chains a n) ∙ ap
    (λ k. length a.taken + k) x.many in
    let next : next_chains b m ≡ take m (drop n (drop (length a.taken) a.offered)) = ap (λ k. take m (drop k b.offered)) reached
    ∙ ap (λ xs. take m (drop (length a.taken + n) xs)) x.others.0 ∙ ap (take m) (sym (drop-drop n (length a.taken) a.offered)) in
    let all : next_chains a (n + m) ≡ next_chains a n ++ next_chains b m = take_plus n m (drop (length a.taken) a.offered) ∙ ap
    (λ xs. next_chains a n ++ xs) (sym next) in
    record {
      many = omega (arith, ap length all, length-append (next_chains a n) (next_chains b m), x.many, y.many);
      taken = y.taken ∙ ap (λ xs. xs ++ next_chains b m) x.taken ∙ append_assoc a.taken (next_chains a n) (next_chains b m)
          ∙ ap (λ xs. a.taken ++ xs) (sym all);
      given = y.given ∙ ap (λ k. b.given ++ answers most k (next_chains b m)) (reached ∙ ap (λ k. length a.taken + k) (sym x.many))
          ∙ ap (λ us. us ++ answers most (length a.taken + length (next_chains a n)) (next_chains b m)) x.given
          ∙ append_assoc a.given (answers most (length a.taken) (next_chains a n)) (answers most (length a.taken
          + length (next_chains a n)) (next_chains b m))
          ∙ ap (λ us. a.given ++ us) (sym (ap (answers most (length a.taken)) all ∙ answers_plus most (length a.taken)
          (next_chains a n) (next_chains b m)));
      others = (y.others.0 ∙ x.others.0, y.others.1 ∙ x.others.1, y.others.2 ∙ x.others.2);
    }
