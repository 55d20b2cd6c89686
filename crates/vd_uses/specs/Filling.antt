-- What a device of one's own does to a ring: it gives each chain back at once, with a length of its own.
use Rattle.std.specs.Prelude.{◌≡◌, ℕ, ◌+◌, Bool, true, false, List, [], ◌∷◌, ◌++◌, length, take, drop, min}
use Rattle.vd_model.specs.declared.chain.Piece.{Piece}
use Rattle.vd_model.specs.Chains.{writable}
use Rattle.vd_ring.specs.declared.frame.Used.{Used}
use Rattle.vd_ring.specs.History.{entry}
use Rattle.vd_layout.specs.PlainRing.{PlainView, IsAtWork}
use Rattle.vd_layout.specs.RingLists.{RingLists}

-- the length with which it gives a chain: what it may write, up to so many bytes
abbrev pub filled : ℕ → List Piece → ℕ
filled most c = min (writable c) most

-- the entries for chains, the first of which has the number k
abbrev pub answers : ℕ → ℕ → List (List Piece) → List Used
answers most k [] = []
answers most k (c ∷ cs) = entry k (filled most c) ∷ answers most (k + 1) cs

-- it holds no chain, and neither rests nor is armed
pub record IsReady (r : PlainView) : Type 0 where
  pub at_work : IsAtWork r
  pub holds_none : r.lists.running ≡ []
  pub even : length r.lists.taken ≡ length r.lists.given

-- the next n of the chains offered
abbrev pub next_chains : RingLists → ℕ → List (List Piece)
next_chains h n = take n (drop (length h.taken) h.offered)

-- there were so many; they were taken, and given in order, each with its length
pub record IsServed (most : ℕ) (a b : RingLists) (n : ℕ) : Type 0 where
  pub many : length (next_chains a n) ≡ n
  pub taken : b.taken ≡ a.taken ++ next_chains a n
  pub given : b.given ≡ a.given ++ answers most (length a.taken) (next_chains a n)
  pub others : (b.offered ≡ a.offered) × (b.collected ≡ a.collected) × (b.standing ≡ a.standing)

abbrev pub count_of : Bool → ℕ
count_of true = 1
count_of false = 0
