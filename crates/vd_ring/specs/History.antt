-- What was offered, taken, given and collected, and who holds each place. Lists of acts have the newest first.
use Rattle.std.specs.Prelude.{◌≡◌, ℕ, zero, suc, ◌+◌, ◌-◌, ◌<◌, ◌==◌, ◌&&◌, Bool, not, List, [], ◌∷◌, ◌++◌, length, take, drop, map, if◌then◌else◌, slice_index, slice_index_or}
use Rattle.std.specs.List.{sum_by}
use Rattle.vd_model.specs.declared.chain.Piece.{Piece}
use Rattle.vd_model.specs.Chains.{needs, writable}
use Rattle.vd_ring.specs.declared.frame.Frame.{Frame}
use Rattle.vd_ring.specs.declared.frame.Used.{Used}
use Rattle.vd_ring.specs.declared.driver.DriverDone.{DriverDone}
use Rattle.vd_ring.specs.declared.driver.DriverDone.TheVariants.{Offer, Collect, StoreCommand, LoadAck}
use Rattle.vd_ring.specs.declared.device.DeviceDone.{DeviceDone}
use Rattle.vd_ring.specs.declared.device.DeviceDone.TheVariants.{Take, Give, Rest, StoreAck, LoadCommand}
use Rattle.vd_ring.specs.Frames.{borrowed}

-- ---- lists of numbers

-- 0 to n - 1
abbrev pub upto : ℕ → List ℕ
upto zero = []
upto (suc n) = upto n ++ n ∷ []

-- a to b - 1
abbrev pub between : ℕ → ℕ → List ℕ
between a b = map (λ i. a + i) (upto (b - a))

-- the list with the first k taken out
abbrev pub without : ℕ → List ℕ → List ℕ
without k [] = []
without k (x ∷ xs) = if x == k then xs else x ∷ without k xs

-- how often k stands in the list
abbrev pub occurs : ℕ → List ℕ → ℕ
occurs k [] = 0
occurs k (x ∷ xs) = (if x == k then 1 else 0) + occurs k xs

-- the first number of the list with the head h, and 0 where there is none
abbrev pub with_head : (ℕ → ℕ) → List ℕ → ℕ → ℕ
with_head head [] h = 0
with_head head (k ∷ ks) h = if head k == h then k else with_head head ks h

-- the first of a list, and 0 of none
abbrev pub first : List ℕ → ℕ
first xs = slice_index xs 0

-- ---- used entries

abbrev pub entry : ℕ → ℕ → Used
entry k l = record { number = k; len = l }

abbrev pub numbers : List Used → List ℕ
numbers us = map (λ u. u.number) us

abbrev pub used_at : List Used → ℕ → Used
used_at us j = slice_index_or us j (entry 0 0)

-- the last of a list
abbrev pub last_used : List Used → Used
last_used [] = entry 0 0
last_used (u ∷ []) = u
last_used (u ∷ v ∷ us) = last_used (v ∷ us)

abbrev pub chain_at : List (List Piece) → ℕ → List Piece
chain_at cs k = slice_index_or cs k []

abbrev pub places_at : List (List ℕ) → ℕ → List ℕ
places_at pl k = slice_index_or pl k []

-- one used entry may return several chains that follow each other: under IN_ORDER, but for a control ring (VIRTIO 1.2, 2.7.9)
abbrev pub is_batching : Frame → Bool
is_batching f = f.features.in_order && not f.control

-- the chains that an entry with the number and the length returns, where `count` were returned before it: a chain that the
-- entry skips was used completely
abbrev pub batch : Frame → (ℕ → List Piece) → ℕ → ℕ → ℕ → List Used
batch f chains count number len = map (λ k. entry k (writable (chains k))) (between (if is_batching f then count else number) number)
    ++ entry number len ∷ []

-- ---- the driver

-- the chains offered, in order
abbrev pub offers : List DriverDone → List (List Piece)
offers [] = []
offers (Offer c ∷ o) = offers o ++ c ∷ []
offers (Collect us ∷ o) = offers o
offers (StoreCommand h i x ∷ o) = offers o
offers (LoadAck k x ∷ o) = offers o

-- the entries collected, in order
abbrev pub collects : List DriverDone → List Used
collects [] = []
collects (Offer c ∷ o) = collects o
collects (Collect us ∷ o) = collects o ++ us
collects (StoreCommand h i x ∷ o) = collects o
collects (LoadAck k x ∷ o) = collects o

abbrev pub without_all : List Used → List ℕ → List ℕ
without_all [] ks = ks
without_all (u ∷ us) ks = without_all us (without u.number ks)

-- the numbers of the chains offered and not collected
abbrev pub open_at : List DriverDone → List ℕ
open_at [] = []
open_at (Offer c ∷ o) = open_at o ++ length (offers o) ∷ []
open_at (Collect us ∷ o) = without_all us (open_at o)
open_at (StoreCommand h i x ∷ o) = open_at o
open_at (LoadAck k x ∷ o) = open_at o

abbrev pub places_back : List (List ℕ) → List Used → List ℕ
places_back pl [] = []
places_back pl (u ∷ us) = places_at pl u.number ++ places_back pl us

-- the queue of free places (in a packed ring ids), and what each chain borrowed: a chain takes from the front of the queue in
-- order, and when it is collected its places go to the back in the same order
abbrev pub held : Frame → List DriverDone → List ℕ × List (List ℕ)
held f [] = (upto f.size, [])
held f (Offer c ∷ o) = (drop (borrowed f c) (held f o).0, (held f o).1 ++ take (borrowed f c) (held f o).0 ∷ [])
held f (Collect us ∷ o) = ((held f o).0 ++ places_back (held f o).1 us, (held f o).1)
held f (StoreCommand h i x ∷ o) = held f o
held f (LoadAck k x ∷ o) = held f o

abbrev pub free : Frame → List DriverDone → List ℕ
free f o = (held f o).0

abbrev pub places : Frame → List DriverDone → ℕ → List ℕ
places f o k = places_at (held f o).1 k

-- the head of chain k: the first that it borrowed, in a split ring its first descriptor's place, in a packed ring its id
abbrev pub head : Frame → List DriverDone → ℕ → ℕ
head f o k = first (places f o k)

-- the head that the next chain gets
abbrev pub next_head : Frame → List DriverDone → ℕ
next_head f o = first (free f o)

abbrev pub chain : List DriverDone → ℕ → List Piece
chain o k = chain_at (offers o) k

-- the sum of descriptors of the chains offered and not collected
abbrev pub open_size : Frame → List DriverDone → ℕ
open_size f o = sum_by (λ k. needs f.features (chain o k)) (open_at o)

-- what a used entry with this id and length returns: its chain is the open one with that head
abbrev pub collected : Frame → List DriverDone → ℕ → ℕ → List Used
collected f o id len = batch f (chain o) (length (collects o)) (with_head (head f o) (open_at o) id) len

-- ---- the device

-- the entries given, in order
abbrev pub gives : List DeviceDone → List Used
gives [] = []
gives (Take c h ∷ s) = gives s
gives (Give us ∷ s) = gives s ++ us
gives (Rest ∷ s) = gives s
gives (StoreAck h x ∷ s) = gives s
gives (LoadCommand k i x ∷ s) = gives s

-- the chains taken, in order: a rest keeps as many as entries were given
abbrev pub takes : List DeviceDone → List (List Piece)
takes [] = []
takes (Take c h ∷ s) = takes s ++ c ∷ []
takes (Give us ∷ s) = takes s
takes (Rest ∷ s) = take (length (gives s)) (takes s)
takes (StoreAck h x ∷ s) = takes s
takes (LoadCommand k i x ∷ s) = takes s

-- their heads
abbrev pub heads : List DeviceDone → List ℕ
heads [] = []
heads (Take c h ∷ s) = heads s ++ h ∷ []
heads (Give us ∷ s) = heads s
heads (Rest ∷ s) = take (length (gives s)) (heads s)
heads (StoreAck h x ∷ s) = heads s
heads (LoadCommand k i x ∷ s) = heads s

abbrev pub taken_head : List DeviceDone → ℕ → ℕ
taken_head s k = slice_index (heads s) k

-- the numbers of the chains taken and not given: after a rest there are none
abbrev pub running : List DeviceDone → List ℕ
running [] = []
running (Take c h ∷ s) = running s ++ length (takes s) ∷ []
running (Give us ∷ s) = without_all us (running s)
running (Rest ∷ s) = []
running (StoreAck h x ∷ s) = running s
running (LoadCommand k i x ∷ s) = running s

-- the sum of descriptors of the chains taken and not given
abbrev pub running_size : Frame → List DeviceDone → ℕ
running_size f s = sum_by (λ k. needs f.features (chain_at (takes s) k)) (running s)

-- what a used entry stored with this id and length gives: its chain is the running one with that head
abbrev pub given : Frame → List DeviceDone → ℕ → ℕ → List Used
given f s id len = batch f (chain_at (takes s)) (length (gives s)) (with_head (taken_head s) (running s) id) len

-- the chains given are exactly those below the number of entries
abbrev pub IsWhole : List DeviceDone → Type 0
IsWhole s = (k : ℕ) → k < length (gives s) → occurs k (numbers (gives s)) ≡ 1
