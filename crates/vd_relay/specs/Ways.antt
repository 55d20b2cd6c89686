-- By which way a relay carries chains from the guest's ring to the shadow ring, and between which two rings it may stand.
use Rattle.std.specs.Prelude.{◌≡◌, ℕ, ◌+◌, ◌-◌, ◌≤◌, List, length, map, drop}
use Rattle.vd_model.specs.declared.chain.Piece.{Piece}
use Rattle.vd_model.specs.declared.map.Mapping.{Mapping}
use Rattle.vd_model.specs.Moved.{moved}
use Rattle.vd_ring.specs.declared.frame.Frame.{Frame}
use Rattle.vd_ring.specs.declared.frame.Used.{Used}
use Rattle.vd_ring.specs.declared.driver.DriverDone.{DriverDone}
use Rattle.vd_ring.specs.History.{entry, offers, collects, open_at, occurs}
use Rattle.vd_relay.specs.Pairing.{ArePaired, AreControls}

-- a data queue's chains are moved, each address by the map; a control queue's are carried to the control chains of the shadow ring,
-- after so many commands that the relay replayed itself
pub data Way : Type 0 where
  moving : List Mapping → Way
  carrying : ℕ → Way

abbrev pub Pairs : Way → Frame → Frame → Type 0
Pairs (moving ms) f g = ArePaired ms f g
Pairs (carrying n) f g = AreControls f g

-- a chain without its addresses
abbrev pub bare : List Piece → List Piece
bare c = map (λ (p : Piece). record p { addr = 0 }) c

-- x stands on the shadow ring for c
abbrev pub Carries : Way → List Piece → List Piece → Type 0
Carries (moving ms) c x = x ≡ moved ms c
Carries (carrying n) c x = bare x ≡ bare c

-- and so do those for these, one for each and in their order
abbrev pub Matches : Way → List (List Piece) → List (List Piece) → Type 0
Matches (moving ms) cs xs = map (moved ms) cs ≡ xs
Matches (carrying n) cs xs = map bare xs ≡ map bare cs

-- ---- the shadow ring without what was replayed

abbrev pub sent : Way → List DriverDone → List (List Piece)
sent (moving ms) o = offers o
sent (carrying n) o = drop n (offers o)

abbrev pub came : Way → List DriverDone → List Used
came (moving ms) o = collects o
came (carrying n) o = drop n (collects o)

-- the number on the guest's ring of chain k of the shadow ring, where b chains were given there before
abbrev pub numbered_by : Way → ℕ → ℕ → ℕ
numbered_by (moving ms) b = λ k. b + k
numbered_by (carrying n) b = λ k. b + (k - n)

abbrev pub shift_by : Way → ℕ → Used → Used
shift_by (moving ms) b = λ u. entry (b + u.number) u.len
shift_by (carrying n) b = λ u. entry (b + (u.number - n)) u.len

-- what was replayed is collected: a replay has so many commands at most
pub record IsReplayed (n : ℕ) (o : List DriverDone) : Type 0 where
  pub few : n ≤ 4105
  pub offered : n ≤ length (offers o)
  pub collected : n ≤ length (collects o)
  pub closed : (k : ℕ) → 1 ≤ occurs k (open_at o) → n ≤ k

abbrev pub Follows : Way → List DriverDone → Type 0
Follows (moving ms) o = Unit {0}
Follows (carrying n) o = IsReplayed n o
