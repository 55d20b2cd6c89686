-- Bells: what always holds between a side that publishes and the side that waits for it. A ring has this twice, once for the chains
-- offered and once for the entries given.
use Rattle.std.specs.Prelude.{◌≡◌, ◌⊎◌, ℕ, ◌+◌, ◌<◌, ◌≤◌, Bool, true, Option, Some}

-- what a side that has published has still to do for a range, its end not included: nothing; to load the event word; to store the bell
pub data Owed : Type 0 where
  nothing : Owed
  check : ℕ → ℕ → Owed
  bell : ℕ → ℕ → Owed

-- it owes the other side, which waits for position s
abbrev pub Owes : Owed → ℕ → Type 0
Owes nothing s = ⊥
Owes (check old new) s = (old ≤ s) × (s < new)
Owes (bell old new) s = (old ≤ s) × (s < new)

abbrev pub owing : Owed → ℕ
owing nothing = 0
owing (check old new) = 1
owing (bell old new) = 1

-- the publisher: up to which position it has published, what it owes, how many bells it stored, how many ranges it published
pub record Publisher : Type 0 where
  pub published : ℕ
  pub owed : Owed
  pub bells : ℕ
  pub ranges : ℕ

-- the listener: up to which position it has come, whether no operation is in progress, where it is armed, the bell heard last
pub record Listener : Type 0 where
  pub at : ℕ
  pub idle : Bool
  pub armed : Option ℕ
  pub heard : ℕ

pub record Signals (p : Publisher) (l : Listener) : Type 0 where
  -- it is armed at the position to which it has come
  pub own : (s : ℕ) → l.armed ≡ Some s → l.at ≡ s
  -- no bell was heard that wasn't stored
  pub heard : l.heard ≤ p.bells
  -- no more bells were stored than ranges published, and fewer while one is owed
  pub bells : p.bells + owing p.owed ≤ p.ranges
  -- a range that is checked ends where it was published last
  pub range : (old new : ℕ) → p.owed ≡ check old new → new ≡ p.published
  -- a sleeper that has no signal has nothing before it, or the other side owes it one
  pub sleeps : (s : ℕ) → l.idle ≡ true → l.armed ≡ Some s → l.heard ≡ p.bells → (p.published ≤ s) ⊎ Owes p.owed s
