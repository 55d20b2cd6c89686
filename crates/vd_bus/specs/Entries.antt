-- A list with room that was taken before.
use Rattle.std.specs.Prelude.{ℕ, List, refl}
use Rattle.std.specs.Coded.{Coded, code_by, coded×, coded_list, coded_ℕ}

-- the items, and how many more can be appended without memory
pub record Reserved (X : Type 0) : Type 0 where
  pub items : List X
  pub room : ℕ

abbrev pub reserved_code : {X : Type 0} → Coded X → Coded (Reserved X)
reserved_code {X} c = code_by (List X × ℕ)
    (coded× (coded_list c) coded_ℕ) (λ e. (e.items, e.room)) (λ p. record { items = p.0; room = p.1 }) (λ _. refl)
