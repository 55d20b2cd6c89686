-- How the acts of a relay on its two rings hang together: as the device of the guest's ring, and as the driver of the shadow
-- ring.
use Rattle.std.specs.Prelude.{◌≡◌, ℕ, ◌+◌, ◌≤◌, Option, Some, IsSome, List, [], ◌∷◌, ◌++◌, length, map}
use Rattle.vd_model.specs.declared.chain.Piece.{Piece}
use Rattle.vd_model.specs.declared.map.Mapping.{Mapping}
use Rattle.vd_ring.specs.declared.frame.Frame.{Frame}
use Rattle.vd_ring.specs.declared.frame.Used.{Used}
use Rattle.vd_ring.specs.declared.driver.DriverDone.{DriverDone}
use Rattle.vd_ring.specs.declared.device.DeviceDone.{DeviceDone}
use Rattle.vd_ring.specs.History.{entry, offers, collects, open_at, takes, gives, running, without_all, head, occurs}
use Rattle.vd_table.specs.declared.Origin.{Origin}
use Rattle.vd_table.specs.declared.Origin.TheVariants.{Guest}
use Rattle.vd_table.specs.Rows.{row}
use Rattle.vd_relay.specs.Ways.{Way, moving, Matches, sent, came, numbered_by, shift_by, Follows}

-- what stood on the guest's ring where the relay took it over, and the way by which it carries
pub record Course : Type 0 where
  pub takes : List (List Piece)
  pub gives : List Used
  pub way : Way

-- of a data queue: and the map by which it moves
pub record Start : Type 0 where
  pub takes : List (List Piece)
  pub gives : List Used
  pub map : List Mapping

abbrev pub moves : Start → Course
moves z = record { takes = z.takes; gives = z.gives; way = moving z.map }

-- how many chains were given before
abbrev pub since : Start → ℕ
since z = length z.gives

-- the number on the guest's ring of a chain of the shadow ring
abbrev pub guests : Course → ℕ → ℕ
guests z = numbered_by z.way (length z.gives)

-- the entries collected on the shadow ring, as entries of the guest's
abbrev pub returned : Course → List DriverDone → List Used
returned z o = map (shift_by z.way (length z.gives)) (came z.way o)

-- an entry of the shadow ring, as one of the guest's ring
abbrev pub shift : ℕ → Used → Used
shift b u = entry (b + u.number) u.len

-- the numbers from k on, one for each
abbrev pub numbered : {X : Type 0} → ℕ → List X → List ℕ
numbered k [] = []
numbered k (c ∷ cs) = k ∷ numbered (k + 1) cs

-- the origin of the chain of this number on the guest's ring
abbrev pub origin : ℕ → Origin
origin n = Guest n 0

-- the table has the head of each chain that is offered and not collected on the shadow ring, with its number on the guest's ring,
-- and nothing else
pub record HoldsOpen (table : List (Option Origin)) (number : ℕ → ℕ) (g : Frame) (o : List DriverDone) : Type 0 where
  pub sized : length table ≡ g.size
  pub stored : (k : ℕ) → 1 ≤ occurs k (open_at o) → row table (head g o k) ≡ Some (origin (number k))
  pub only : (h : ℕ) → IsSome (row table h) → (k : ℕ) × (1 ≤ occurs k (open_at o)) × (head g o k ≡ h)

-- `hand` is taken and not offered, and `back` is collected and not given
pub record IsTied (z : Course) (table : List (Option Origin)) (hand : List (List Piece)) (back : List Used) (s : List DeviceDone)
    (g : Frame) (o : List DriverDone) : Type 0 where
  pub past : List (List Piece)
  pub got : List Used
  -- what stood there before stands there still
  pub takes : Rattle.vd_ring.specs.History.takes s ≡ z.takes ++ past
  pub gives : Rattle.vd_ring.specs.History.gives s ≡ z.gives ++ got
  pub even : length z.takes ≡ length z.gives
  -- what was taken since then is carried by what was offered on the shadow ring and what is in hand
  pub offered : Matches z.way past (sent z.way o ++ hand)
  -- what was collected on the shadow ring is what was given since then, and what is to be given
  pub given : returned z o ≡ got ++ back
  -- the chains that run are those open on the shadow ring, in the same order, those to be given, and those in hand
  pub runs : without_all back (running s) ≡ map (guests z) (open_at o ++ numbered (length (offers o)) hand)
  pub holds : HoldsOpen table (guests z) g o
  -- and what the relay replayed itself came before
  pub follows : Follows z.way o
