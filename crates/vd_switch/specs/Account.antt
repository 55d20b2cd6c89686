-- The account of a lane over all its epochs, and what a stop leaves of it.
use Rattle.std.specs.Prelude.{◌≡◌, ℕ, ◌<◌, true, List, length, map, slice_index_or}
use Rattle.vd_model.specs.declared.chain.Piece.{Piece}
use Rattle.vd_ring.specs.declared.driver.DriverDone.{DriverDone}
use Rattle.vd_ring.specs.declared.driver.DriverView.{DriverView}
use Rattle.vd_ring.specs.declared.device.DeviceDone.{DeviceDone}
use Rattle.vd_ring.specs.declared.device.DeviceView.{DeviceView}
use Rattle.vd_ring.specs.declared.frame.Used.{Used}
use Rattle.vd_ring.specs.History.{offers, collects, takes, gives, used_at}
use Rattle.vd_ring.specs.Account.{Account, Lawful}
use Rattle.vd_layout.specs.Device.{DeviceModel}

-- the chains begun in a lane while it stood so: those taken, and what was given has the lengths that stand there
pub record IsBegunBefore {X : Type 0} (old : List (X × ℕ)) (cs : List X) (g : List Used) : Type 0 where
  pub chains : map (λ x. x.0) old ≡ cs
  pub inside : (j : ℕ) → j < length g → (used_at g j).number < length old
  pub lens : (j : ℕ) (d : X × ℕ) → j < length g → (slice_index_or old (used_at g j).number d).1 ≡ (used_at g j).len

-- what the guest offered and collected, what the lane's devices began, with the lengths, and what was given on the guest's ring
abbrev pub lane_account : List DriverDone → List (List Piece × ℕ) → List DeviceDone → Account (List Piece)
lane_account o begun s = record { offers = offers o; begun = begun; given = gives s; collected = collects o }

-- a still lane, of which these chains were begun: each was given back once with its length, the chains taken and not begun are
-- offered still, and the guest's base is that of the chains begun
pub record LeavesStill {E : Type 0} (e : DeviceModel E) (end : E) (begun : List (List Piece × ℕ)) (v : DriverView) (w : DeviceView)
    : Type 0 where
  pub rests : e.resting end ≡ true
  pub lawful : Lawful (lane_account v.done begun w.done)
  pub even : length (gives w.done) ≡ length begun
  pub chains : map (λ x. x.0) begun ≡ takes w.done
  pub base : e.base end ≡ e.base_of w.frame (map (λ x. x.0) begun)
  -- so the next epoch begins with these
  pub next : IsBegunBefore begun (takes w.done) (gives w.done)
