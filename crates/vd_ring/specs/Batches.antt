-- The chains that one used entry returns, as pairs of number and length: under IN_ORDER an entry may skip chains, which were used
-- completely (VIRTIO 1.2, 2.7.9). All that is said of a collect or a give is said of its list of pairs.
use Rattle.std.specs.Prelude.{◌≡◌, ℕ, ◌+◌, true, List, length}
use Rattle.vd_model.specs.declared.chain.Piece.{Piece}
use Rattle.vd_ring.specs.declared.frame.Frame.{Frame}
use Rattle.vd_ring.specs.declared.frame.Used.{Used}
use Rattle.vd_ring.specs.History.{numbers, between, batch, last_used}

-- so many chains may be returned by one used entry. Until batches come it is one; then this is relaxed, to one on a ring that is no
-- batching one. What else batches need is said already: the used index that a split driver has seen ends where an entry ends, a part of
-- that ring's invariant, without which a look might show a part of an entry
abbrev pub IsSingle : Frame → ℕ → Type 0
IsSingle f n = n ≡ 1

-- these are the pairs of one used entry, where `count` chains were returned before it
pub record IsEntry (f : Frame) (chains : ℕ → List Piece) (count : ℕ) (us : List Used) : Type 0 where
  -- the last pair has the entry's number and length, and each chain skipped its writable total
  pub is_batch : us ≡ batch f chains count (last_used us).number (last_used us).len
  -- under IN_ORDER the numbers follow each other, from the first on that was not returned
  pub in_order : f.features.in_order ≡ true → numbers us ≡ between count (count + length us)
  pub one : IsSingle f (length us)

-- an entry with this number may come next, whatever its length
abbrev pub MayReturn : Frame → (ℕ → List Piece) → ℕ → ℕ → Type 0
MayReturn f chains count number = (len : ℕ) → IsEntry f chains count (batch f chains count number len)
