-- The positions of a packed ring, and what stands at each, by the acts of its two sides.
use Rattle.std.specs.Prelude.{nat_lt, if◌then◌else◌, ℕ, zero, suc, List, [], ◌∷◌, ◌++◌, take, replicate, Option, Some, None, slice_index_or}
use Rattle.std.specs.List.{sum_by}
use Rattle.vd_model.specs.declared.chain.Piece.{Piece}
use Rattle.vd_model.specs.Chains.{needs}
use Rattle.vd_ring.specs.declared.frame.Frame.{Frame}
use Rattle.vd_ring.specs.declared.frame.Used.{Used}
use Rattle.vd_ring.specs.declared.driver.DriverDone.{DriverDone}
use Rattle.vd_ring.specs.declared.driver.DriverDone.TheVariants.{Offer, Collect, StoreCommand, LoadAck}
use Rattle.vd_ring.specs.declared.device.DeviceDone.{DeviceDone}
use Rattle.vd_ring.specs.declared.device.DeviceDone.TheVariants.{Take, Give, Rest, StoreAck, LoadCommand}
use Rattle.vd_ring.specs.History.{offers, collects, takes, gives, head, next_head, chain, chain_at, last_used}
use Rattle.vd_packed_ring.specs.PackedWords.{used_word, base_at}
use Rattle.vd_packed_ring.specs.PackedChains.{Descriptor, blank, descriptors, avail_word}

-- ---- the positions at which each side goes on: sums of descriptors of the chains offered, collected, taken and given

abbrev pub offer_position : Frame → List DriverDone → ℕ
offer_position f o = sum_by (needs f.features) (offers o)

abbrev pub collect_position : Frame → List DriverDone → ℕ
collect_position f o = sum_by (λ u. needs f.features (chain o u.number)) (collects o)

abbrev pub take_position : Frame → List DeviceDone → ℕ
take_position f s = sum_by (needs f.features) (takes s)

abbrev pub give_position : Frame → List DeviceDone → ℕ
give_position f s = sum_by (λ u. needs f.features (chain_at (takes s) u.number)) (gives s)

-- the position at which chain number k begins
abbrev pub start : Frame → List DriverDone → ℕ → ℕ
start f o k = sum_by (needs f.features) (take k (offers o))

-- the later of two positions
abbrev pub later : ℕ → ℕ → ℕ
later a b = if nat_lt a b then b else a

-- the base of a device at rest that has taken these chains
abbrev pub base_of : Frame → List (List Piece) → ℕ
base_of f cs = base_at f.size (sum_by (needs f.features) cs)

-- ---- what stands at each position

-- the descriptors made available, by position
abbrev pub made : Frame → List DriverDone → List Descriptor
made f [] = []
made f (Offer c ∷ o) = made f o ++ descriptors f (next_head f o) c
made f (Collect us ∷ o) = made f o
made f (StoreCommand h i x ∷ o) = made f o
made f (LoadAck k x ∷ o) = made f o

abbrev pub made_at : Frame → List DriverDone → ℕ → Descriptor
made_at f o q = slice_index_or (made f o) q blank

-- an entry at the first of so many positions, and none at the others
abbrev pub block : ℕ → Used → List (Option Used)
block zero u = []
block (suc k) u = Some u ∷ replicate k None

-- the used descriptors, by position: where a give begins, its last entry. `size` is each chain's number of descriptors
abbrev pub marks : (ℕ → ℕ) → List DeviceDone → List (Option Used)
marks size [] = []
marks size (Take c h ∷ s) = marks size s
marks size (Give us ∷ s) = marks size s ++ block (sum_by (λ u. size u.number) us) (last_used us)
marks size (Rest ∷ s) = marks size s
marks size (StoreAck h x ∷ s) = marks size s
marks size (LoadCommand k i x ∷ s) = marks size s

abbrev pub mark_at : Frame → List DriverDone → List DeviceDone → ℕ → Option Used
mark_at f o s q = slice_index_or (marks (λ k. needs f.features (chain o k)) s) q None

-- the second word at a position: the used descriptor where there is one, else the driver's word
abbrev pub stands : Frame → List DriverDone → ℕ → Descriptor → Option Used → ℕ
stands f o q d None = avail_word f.size q d
stands f o q d (Some u) = used_word f.size q (head f o u.number) u.len

abbrev pub second_at : Frame → List DriverDone → List DeviceDone → ℕ → ℕ
second_at f o s q = stands f o q (made_at f o q) (mark_at f o s q)
