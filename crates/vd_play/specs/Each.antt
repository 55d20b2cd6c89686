-- What holds of each lane with its parties.
use Rattle.std.specs.Prelude.{◌≡◌, ℕ, ◌<◌, ◌≤◌, Some, List, length, slice_get}
use Rattle.vd_play.specs.declared.bench.Bench.{Bench}

pub record EachLane {A B C : Type 0} (P : ℕ → A → B → C → Type 0) (lanes : List A) (guests : List B) (devices : List C) : Type 0 where
  pub at : (q : ℕ) (l : A) (g : B) (x : C) → slice_get lanes q ≡ Some l → slice_get guests q ≡ Some g → slice_get devices q ≡ Some x
      → P q l g x

-- below i the one, from there on the other
pub record Stage {A B C : Type 0} (i : ℕ) (P Q : ℕ → A → B → C → Type 0) (q : ℕ) (l : A) (g : B) (x : C) : Type 0 where
  pub before : q < i → P q l g x
  pub from : i ≤ q → Q q l g x

-- each of n lanes has its parties
pub record HasLanes {G V : Type 0} (n : ℕ) (bench : Bench G V) : Type 0 where
  pub guests : n ≤ length bench.guests.items
  pub devices : n ≤ length bench.devices.items
