-- Who holds the places of a ring (in a packed ring its ids), by the driver's acts.
use Rattle.std.specs.Prelude.{◌≡◌, ℕ, ◌+◌, ◌<◌, ◌≤◌, List, length, if◌then◌else◌, nat_lt}
use Rattle.std.specs.List.{All, sum_by}
use Rattle.vd_ring.specs.declared.frame.Frame.{Frame}
use Rattle.vd_ring.specs.declared.driver.DriverDone.{DriverDone}
use Rattle.vd_ring.specs.Frames.{Fits, borrowed, limit}
use Rattle.vd_ring.specs.History.{offers, collects, open_at, held, free, places, chain, numbers, occurs}

pub record Places (f : Frame) (o : List DriverDone) : Type 0 where
  -- each place below the size is free or held by one open chain, and only once
  pub once : (p : ℕ) → occurs p (free f o) + sum_by (λ k. occurs p (places f o k)) (open_at o) ≡ (if nat_lt p f.size then 1 else 0)
  -- the free places, and what the open chains hold, are as many as the ring has
  pub sizes : length (free f o) + sum_by (λ k. borrowed f (chain o k)) (open_at o) ≡ f.size
  -- each chain has as many places as it needs
  pub as_many : (k : ℕ) → k < length (offers o) → length (places f o k) ≡ borrowed f (chain o k)
  pub listed : length ((held f o).1) ≡ length (offers o)
  -- each chain offered is open or collected, and only once
  pub is_open : (k : ℕ) → occurs k (open_at o) + occurs k (numbers (collects o)) ≡ (if nat_lt k (length (offers o)) then 1 else 0)
  pub count : length (offers o) ≡ length (collects o) + length (open_at o)
  -- each chain offered was one that may stand on the ring
  pub fits : All (Fits f) (offers o)
  -- no more chains were offered than the ring's limit
  pub limited : length (offers o) ≤ limit f
