-- What the two sides' acts have in common: what was taken of what was offered, and collected of what was given.
use Rattle.std.specs.Prelude.{◌≡◌, ℕ, ◌+◌, ◌<◌, ◌≤◌, ◌==◌, true, List, [], ◌∷◌, length, take, Option, Some, None, if◌then◌else◌, nat_lt, drop}
use Rattle.vd_model.specs.declared.chain.Piece.{Piece}
use Rattle.vd_ring.specs.declared.frame.Frame.{Frame}
use Rattle.vd_ring.specs.declared.frame.Used.{Used}
use Rattle.vd_ring.specs.declared.driver.DriverDone.{DriverDone}
use Rattle.vd_ring.specs.declared.driver.DriverDone.TheVariants.{Collect}
use Rattle.vd_ring.specs.declared.device.DeviceDone.{DeviceDone}
use Rattle.vd_ring.specs.declared.device.DeviceDone.TheVariants.{Take, Give, Rest, StoreAck, LoadCommand}
use Rattle.vd_ring.specs.Batches.{IsEntry}
use Rattle.vd_ring.specs.History.{offers, collects, takes, gives, heads, taken_head, running, head, numbers, occurs, used_at, last_used, chain_at, IsWhole, chain, entry, first, held, places_at}

-- the used entry that begins at entry number j: the last pair of the give that begins there
abbrev pub entry_at : List DeviceDone → ℕ → Option Used
entry_at [] j = None
entry_at (Take c h ∷ s) j = entry_at s j
entry_at (Give us ∷ s) j = if length (gives s) == j then Some (last_used us) else entry_at s j
entry_at (Rest ∷ s) j = entry_at s j
entry_at (StoreAck h x ∷ s) j = entry_at s j
entry_at (LoadCommand k i x ∷ s) j = entry_at s j

-- a give of these pairs, after the acts, is one used entry's
abbrev pub IsGive : Frame → List DeviceDone → List Used → Type 0
IsGive f s us = IsEntry f (chain_at (takes s)) (length (gives s)) us

-- each give is one used entry's
abbrev pub AreGives : Frame → List DeviceDone → Type 0
AreGives f [] = Unit {0}
AreGives f (Take c h ∷ s) = AreGives f s
AreGives f (Give us ∷ s) = IsGive f s us × AreGives f s
AreGives f (Rest ∷ s) = AreGives f s
AreGives f (StoreAck h x ∷ s) = AreGives f s
AreGives f (LoadCommand k i x ∷ s) = AreGives f s

-- each take ever made, one before a rest too, was of the chain offered with the next number, at the head that the driver gave it; the
-- chains offered, and the places that each borrowed, in order
abbrev pub AreTakes : List (List Piece) → List (List ℕ) → List DeviceDone → Type 0
AreTakes cs ps [] = Unit {0}
AreTakes cs ps (Take c h ∷ s) = (length (takes s) < length cs) × (c ≡ chain_at cs (length (takes s)))
    × (h ≡ first (places_at ps (length (takes s)))) × AreTakes cs ps s
AreTakes cs ps (Give us ∷ s) = AreTakes cs ps s
AreTakes cs ps (Rest ∷ s) = AreTakes cs ps s
AreTakes cs ps (StoreAck h x ∷ s) = AreTakes cs ps s
AreTakes cs ps (LoadCommand k i x ∷ s) = AreTakes cs ps s

pub record Lists (f : Frame) (o : List DriverDone) (s : List DeviceDone) : Type 0 where
  -- the chains taken are the first ones offered, at the heads that the driver gave them
  pub taken : takes s ≡ take (length (takes s)) (offers o)
  pub some : length (takes s) ≤ length (offers o)
  pub as_many : length (heads s) ≡ length (takes s)
  pub heads : (k : ℕ) → k < length (takes s) → taken_head s k ≡ head f o k
  pub ever : AreTakes (offers o) ((held f o).1) s
  -- each chain taken runs or is given, and only once
  pub given : (k : ℕ) → occurs k (running s) + occurs k (numbers (gives s)) ≡ (if nat_lt k (length (takes s)) then 1 else 0)
  pub count : length (takes s) ≡ length (gives s) + length (running s)
  pub entries : AreGives f s
  -- the entries collected are the first ones given, and end where a give ends
  pub collected : collects o ≡ take (length (collects o)) (gives s)
  pub fewer : length (collects o) ≤ length (gives s)
  pub cut : length (collects o) < length (gives s) → (u : Used) × (entry_at s (length (collects o)) ≡ Some u)
  -- under IN_ORDER the chains are given in the order in which they were offered (VIRTIO 1.2, 2.7.9)
  pub in_order : f.features.in_order ≡ true → (j : ℕ) → j < length (gives s) → (used_at (gives s) j).number ≡ j

-- the collect that led from the acts o to o2 took the pairs of the next used entry given, the last with this number and length
pub record Collects (f : Frame) (o : List DriverDone) (s : List DeviceDone) (o2 : List DriverDone) (number len : ℕ) : Type 0 where
  pub more : length (collects o) < length (gives s)
  pub entries : List Used
  pub is_entry : IsEntry f (chain o) (length (collects o)) entries
  pub were_given : entries ≡ take (length entries) (drop (length (collects o)) (gives s))
  pub last : last_used entries ≡ entry number len
  pub collected : o2 ≡ Collect entries ∷ o

-- a device whose last act is a rest has given all that it has taken
abbrev pub Rested : List DeviceDone → Type 0
Rested [] = Unit {0}
Rested (Rest ∷ s) = (length (takes (Rest ∷ s)) ≡ length (gives s)) × IsWhole s
Rested (_ ∷ s) = Unit {0}
