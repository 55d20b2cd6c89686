use Rattle.std.proofs.Common.{arith, rules, ◌≡◌, ◌<◌, ◌≤◌, ◌^◌, ℕ, Option, Some, None, List, [], ◌∷◌, length, slice_set, ap}
use Rattle.std.proofs.lemmas.List.Sums.{sum_by-set, sum_by-cons}
use Rattle.std.proofs.Math.ListN.{length-set}
use Rattle.vd_table.specs.Rows.{row, stored, one}
use Rattle.vd_table.proofs.rows.Rows.put.Goals as goal

small : {T : Type 0} (o : Option T) → one o ≤ 1
small None = omega arith
small (Some x) = omega arith

few : {T : Type 0} (t : List (Option T)) → stored t ≤ length t
few [] = omega arith
few (o ∷ t) = omega (arith, sum_by-cons one o t, few t, small o)

fewer : {T : Type 0} (t : List (Option T)) (h : ℕ) (x : T) → h < length t → row t h ≡ None → stored t < length t
fewer t h x inside free = omega
    (arith, sum_by-set one t h (Some x) None inside, ap one free, few (slice_set t h (Some x)), length-set t h (Some x))

narrow : {T : Type 0} (t u : List (Option T)) (n h : ℕ) (x : T) → u ≡ t → n ≡ stored u → length u < 2 ^ 32 → h < length t → row t h ≡ None
    → n < 4294967295
narrow {T} t u n h x e count low inside free = omega
    (arith, fewer t h x inside free, ap (λ (l : List (Option T)). stored l) e, ap (λ (l : List (Option T)). length l) e)

pub overflow_add-self : goal.overflow_add-self
overflow_add-self g c =
    let n = narrow _ _ _ c.args.head c.args.item c.self.view_is c.self.invariant.0 c.self.invariant.1 c.requires.inside c.requires.free in
    search (rules, n)
