-- What holds by the layout of a machine's rings.
use Rattle.std.specs.Prelude.{◌≡◌, ℕ, Bool, true, false, List, length, if◌then◌else◌}
use Rattle.std.specs.Option.{option_map_or}
use Rattle.vd_machine.specs.File.{Plan, means}
use Rattle.vd_play.specs.declared.bench.Bench.{Bench}

-- the one where the rings are split, the other where they are packed
pub record OfLayout (is_packed : Bool) (S P : Type 0) : Type 0 where
  pub split : is_packed ≡ false → S
  pub packed : is_packed ≡ true → P

-- whether the machine that the bytes mean has packed rings
abbrev pub orders_packed : List ℕ → Bool
orders_packed bytes = option_map_or (λ (plan : Plan). plan.packed) (means bytes) false

-- how many guests and devices the bench of the layout has that the bytes order
abbrev pub guests_for : {G V H W : Type 0} → List ℕ → Bench G V → Bench H W → ℕ
guests_for bytes split packed = if orders_packed bytes then length packed.guests.items else length split.guests.items

abbrev pub devices_for : {G V H W : Type 0} → List ℕ → Bench G V → Bench H W → ℕ
devices_for bytes split packed = if orders_packed bytes then length packed.devices.items else length split.devices.items
