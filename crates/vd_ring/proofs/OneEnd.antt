-- Where one more entry of a lawful account is given, its chain ends in the bag.
use Rattle.std.proofs.Common.{◌≡◌, ◌≢◌, ℕ, ◌<◌, ◌≤◌, Bool, List, [], ◌∷◌, ◌++◌, length, slice_set, refl, sym, ◌∙◌, ap, subst, arith, inl, inr}
use Rattle.std.proofs.lemmas.Bool.{cases_lt}
use Rattle.std.proofs.lemmas.List.{length_push, length-map, length-take, get_or-set_same, get_or-set_other, get_or_append_left, get_or_push}
use Rattle.std.proofs.Math.ListN.{length-set}
use Rattle.vd_ring.specs.declared.frame.Used.{Used}
use Rattle.vd_ring.specs.History.{entry, numbers, occurs, used_at}
use Rattle.vd_ring.specs.Account.{Lawful}
use Rattle.vd_ring.specs.Bag.{State, offered, returned, state, Stands}
use Rattle.vd_ring.specs.OneEnd.{EndsOne}
use Rattle.vd_ring.proofs.Counts.{one_same}
use Rattle.vd_ring.proofs.HeldPlaces.{numbers_push}
use Rattle.vd_ring.proofs.ListSteps.{number_in}

pub ends_one : {X : Type 0} (in_order : Bool) (x : List X) (begun : List (X × ℕ)) (g c : List Used) (u : Used) (b : List State)
    → Lawful (record { offers = x; begun = begun; given = g ++ u ∷ []; collected = c }) → Stands (length x) (length begun) g b
    → EndsOne in_order (length x) (length begun) g u b
ends_one {X} in_order x begun g c u b law st =
    let k : ℕ = u.number in
    let last : used_at (g ++ u ∷ []) (length g) ≡ u = get_or_push g u (entry 0 0) (length g) refl in
    let low : k < length begun = subst (λ (y : Used). y.number < length begun) last
    (law.inside (length g) (omega (arith, length_push g u))) in
    let few : length begun ≤ length x = omega (
      arith,
      length-map begun (λ (y : X × ℕ). y.0),
      ap (λ (cs : List X). length cs) law.begun,
      length-take (length begun) x,
    ) in
    let none : occurs k (numbers g) ≡ 0 = omega (arith, law.differ k, numbers_push g u k, one_same k k refl) in
    let inside : k < length b = omega (arith, st.all) in
    let other = λ (j : ℕ) (ne : j ≢ k). get_or-set_other b k j (returned u.len) offered ne in
    record {
      bag = slice_set b k (returned u.len);
      ends = record {
        some = omega arith;
        ends = (inside, st.runs k low none, refl);
        ordered = λ two. absurd (omega arith);
        lowest = λ two. absurd (omega arith);
      };
      stands = record {
        all = length-set b k (returned u.len) ∙ st.all;
        waits = λ j a high. other j (λ e. omega (arith, low)) ∙ st.waits j a high;
        runs = λ j a no. other j (λ e. omega (arith, numbers_push g u j, one_same k j (sym e)))
            ∙ st.runs j a (omega (arith, numbers_push g u j));
        done = λ j a. elim (cases_lt j (length g)) [
          | inl h ↦ (
              let same = get_or_append_left g (u ∷ []) (entry 0 0) j h in
              subst (λ (v : Used). state (slice_set b k (returned u.len)) v.number ≡ returned v.len) (sym same)
              (other (used_at g j).number (λ e. omega (arith, number_in g j h, ap (λ n. occurs n (numbers g)) e, none)) ∙ st.done j h)
              )
          | inr h ↦ (
              let same = get_or_push g u (entry 0 0) j (let e : length g ≡ j = omega (arith, length_push g u) in e) in
              subst (λ (v : Used). state (slice_set b k (returned u.len)) v.number ≡ returned v.len) (sym same)
              (get_or-set_same b k (returned u.len) offered inside)
              )
        ];
      };
    }
