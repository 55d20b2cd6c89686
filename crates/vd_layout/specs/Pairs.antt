-- The chains that one used entry returns, as pairs of number and length: the chain that the entry names, and those that it skips.
use Rattle.std.specs.Prelude.{◌≡◌, ℕ, List, length}
use Rattle.std.specs.List.{All, Contains}
use Rattle.vd_ring.specs.declared.driver.DriverDone.{DriverDone}
use Rattle.vd_ring.specs.declared.device.DeviceDone.{DeviceDone}
use Rattle.vd_ring.specs.declared.frame.Frame.{Frame}
use Rattle.vd_ring.specs.declared.frame.Used.{Used}
use Rattle.vd_ring.specs.Batches.{IsEntry}
use Rattle.vd_ring.specs.History.{entry, chain, chain_at, collects, open_at, takes, gives, running, last_used}

-- these pairs were collected by the entry of chain k with the length n
pub record WereCollected (f : Frame) (o : List DriverDone) (us : List Used) (k n : ℕ) : Type 0 where
  pub is_entry : IsEntry f (chain o) (length (collects o)) us
  pub last : last_used us ≡ entry k n
  -- each chain was offered and not collected
  pub were_open : All (λ u. Contains (open_at o) u.number) us

-- these pairs were given by the entry of chain k with the length n
pub record WereGiven (f : Frame) (s : List DeviceDone) (us : List Used) (k n : ℕ) : Type 0 where
  pub is_entry : IsEntry f (chain_at (takes s)) (length (gives s)) us
  pub last : last_used us ≡ entry k n
  -- each chain was taken and not given
  pub were_running : All (λ u. Contains (running s) u.number) us
