-- What a port means, as one record.
use Rattle.std.specs.Prelude.{◌≡◌, ℕ, ◌<◌, List, length}
use Rattle.vd_words.specs.declared.access.Op.{Op}
use Rattle.vd_words.specs.declared.access.Access.{Access}
use Rattle.vd_words.specs.Step.{place_of, written, answered}

pub record PortModel (P : Type 0) : Type 1 where
  -- the ring's number, and how many words it has
  pub ring : P → ℕ
  pub count : P → ℕ
  -- the accesses that are allowed now
  pub allows : P → Op → Access → Type 0
  -- the port, an access, its answer, and the port after it
  pub moves : P → Op → Access → ℕ → P → Type 0
  -- a plain port, onto these words
  pub plain : P → List ℕ → Type 0
  -- two ports onto the same ring
  pub same : P → P → Type 0

pub record IsLawfulPort {P : Type 0} (m : PortModel P) : Type 0 where
  -- an access changes neither the ring's number nor the count of its words
  pub stays : (s : P) (op : Op) (a : Access) (r : ℕ) (t : P) → m.moves s op a r t → (m.ring t ≡ m.ring s) × (m.count t ≡ m.count s)
  -- a plain port allows each place below the count of words; a load answers the word, a store changes that word alone
  pub counted : (s : P) (ws : List ℕ) → m.plain s ws → m.count s ≡ length ws
  pub may : (s : P) (ws : List ℕ) (op : Op) (a : Access) → m.plain s ws → place_of a < length ws → m.allows s op a
  pub does : (s : P) (ws : List ℕ) (op : Op) (a : Access) (r : ℕ) (t : P) → m.plain s ws → m.moves s op a r t
      → m.plain t (written ws a) × (r ≡ answered ws a) × m.same s t
  -- they have the same number and as many words
  pub alike : (s t : P) → m.same s t → (m.ring s ≡ m.ring t) × (m.count s ≡ m.count t)
  pub same_refl : (s : P) → m.same s s
  pub same_trans : (s t u : P) → m.same s t → m.same t u → m.same s u
