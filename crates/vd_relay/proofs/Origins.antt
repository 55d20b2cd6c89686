-- What the table answers for a chain's origin.
use Rattle.std.proofs.Common.{◌≡◌, ℕ, Option, Some, None, refl, sym, subst}
use Rattle.vd_table.specs.declared.Origin.{Origin}
use Rattle.vd_table.specs.declared.Origin.TheVariants.{Guest}
use Rattle.vd_relay.specs.Tie.{origin}

pub is_some : (x : Option Origin) (y : Origin) → x ≡ Some y → Rattle.std.specs.Prelude.IsSome x
is_some x y is = subst (λ (u : Option Origin). Rattle.std.specs.Prelude.IsSome u) (sym is) refl

pub is_none : (x : Option Origin) → Rattle.std.specs.Prelude.IsSome x → x ≡ None → ⊥
is_none None some is = cc
is_none (Some x) some is = cc

pub same_origin : (x : Option Origin) (y y' : Origin) → x ≡ Some y → x ≡ Some y' → y ≡ y'
same_origin x y y' p q = cc

pub number_is : (n place m : ℕ) → Guest n place ≡ origin m → n ≡ m
number_is n place m is = cc

pub no_replay : (x : Origin) (m : ℕ) → x ≡ origin m → ((n place : ℕ) → x ≡ Guest n place → ⊥) → ⊥
no_replay x m is other = other m 0 is
