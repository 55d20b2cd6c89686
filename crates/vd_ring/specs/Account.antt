-- The account of a queue: what was offered, begun, given back and collected.
use Rattle.std.specs.Prelude.{◌≡◌, ℕ, ◌+◌, ◌<◌, ◌≤◌, ◌==◌, if◌then◌else◌, Bool, true, List, [], ◌∷◌, length, map, take, slice_index_or}
use Rattle.vd_model.specs.declared.chain.Piece.{Piece}
use Rattle.vd_ring.specs.declared.driver.DriverDone.{DriverDone}
use Rattle.vd_ring.specs.declared.device.DeviceDone.{DeviceDone}
use Rattle.vd_ring.specs.declared.frame.Used.{Used}
use Rattle.vd_ring.specs.History.{offers, collects, takes, gives, used_at, numbers, occurs, upto}

-- the chains offered; the chains begun by a device, with their lengths; the entries given back on the guest's ring; those collected
pub record Account (X : Type 0) : Type 0 where
  pub offers : List X
  pub begun : List (X × ℕ)
  pub given : List Used
  pub collected : List Used

-- the chains begun are a prefix of those offered; the numbers given differ, each is one of a chain begun and has the length that
-- stands there; the entries collected are a prefix of those given
pub record Lawful {X : Type 0} (a : Account X) : Type 0 where
  pub begun : map (λ x. x.0) a.begun ≡ take (length a.begun) a.offers
  pub differ : (k : ℕ) → occurs k (numbers a.given) ≤ 1
  pub inside : (j : ℕ) → j < length a.given → (used_at a.given j).number < length a.begun
  pub lengths : (j : ℕ) (d : X × ℕ) → j < length a.given → (slice_index_or a.begun (used_at a.given j).number d).1 ≡ (used_at a.given j).len
  pub collected : a.collected ≡ take (length a.collected) a.given

-- lawful, and all four lists are equally long
pub record Whole {X : Type 0} (a : Account X) : Type 0 where
  pub lawful : Lawful a
  pub begun : length a.begun ≡ length a.offers
  pub given : length a.given ≡ length a.offers
  pub collected : length a.collected ≡ length a.offers

-- the numbers given are 0, 1, 2 and so on
abbrev pub Ordered : List Used → Type 0
Ordered g = numbers g ≡ upto (length g)

-- ---- the account of one ring

-- the length with which chain k was given, and 0 where it was not
abbrev pub given_len : List Used → ℕ → ℕ
given_len [] k = 0
given_len (u ∷ us) k = if u.number == k then u.len else given_len us k

-- chains with the numbers from k on, each with its length
abbrev pub with_lengths : {X : Type 0} → List Used → ℕ → List X → List (X × ℕ)
with_lengths g k [] = []
with_lengths g k (c ∷ cs) = (c, given_len g k) ∷ with_lengths g (k + 1) cs

-- by the acts of its two sides: the chains begun are those taken, with their lengths as far as they were given
abbrev pub account_of : List DriverDone → List DeviceDone → Account (List Piece)
account_of o s = record { offers = offers o; begun = with_lengths (gives s) 0 (takes s); given = gives s; collected = collects o }

-- what always holds of it: it is lawful, under IN_ORDER the numbers given are in order, and it is whole where as many entries are
-- collected as chains were offered
pub record Accounts (in_order : Bool) (o : List DriverDone) (s : List DeviceDone) : Type 0 where
  pub lawful : Lawful (account_of o s)
  pub ordered : in_order ≡ true → Ordered (gives s)
  pub whole : length (collects o) ≡ length (offers o) → Whole (account_of o s)
