-- On a quiet ring nothing lies before a sleeping side: all that was offered is taken, and all that was given is collected.
use Rattle.std.proofs.Common.{◌≡◌, ◌⊎◌, inl, inr, ℕ, zero, suc, ◌+◌, ◌<◌, ◌≤◌, Bool, true, false, nat_lt, if◌then◌else◌, List, [], ◌∷◌, length, map, take, slice_index_or, refl, sym, ◌∙◌, ap, subst, arith}
use Rattle.std.specs.List.{sum_by, All, Contains}
use Rattle.std.proofs.lemmas.Bool.{cases_lt}
use Rattle.std.proofs.lemmas.List.{take_all}
use Rattle.std.proofs.lemmas.List.Sums.{sum_by-cons}
use Rattle.std.proofs.lemmas.List.Elements.{All-head, All-tail, All-weaker}
use Rattle.vd_model.specs.declared.chain.Piece.{Piece}
use Rattle.vd_model.specs.Chains.{needs}
use Rattle.vd_ring.specs.declared.frame.Frame.{Frame}
use Rattle.vd_ring.specs.declared.frame.Used.{Used}
use Rattle.vd_ring.specs.declared.driver.DriverDone.{DriverDone}
use Rattle.vd_ring.specs.declared.driver.DriverView.{DriverView}
use Rattle.vd_ring.specs.declared.device.DeviceDone.{DeviceDone}
use Rattle.vd_ring.specs.declared.device.DeviceDone.TheVariants.{Take, Give, Rest, StoreAck, LoadCommand}
use Rattle.vd_ring.specs.declared.device.DeviceView.{DeviceView}
use Rattle.vd_ring.specs.Frames.{Fits}
use Rattle.vd_ring.specs.History.{offers, collects, takes, gives, numbers, occurs, chain, chain_at}
use Rattle.vd_ring.specs.Batches.{IsEntry}
use Rattle.vd_ring.specs.Lists.{Lists, AreGives}
use Rattle.vd_ring.specs.Places.{Places}
use Rattle.vd_ring.specs.Signals.{nothing}
use Rattle.vd_ring.specs.laws.Signals.{none_before}
use Rattle.vd_ring.specs.Sleep.{span, position, used_position, gives_made, driver_owed, device_owed, driver_idle, device_idle, RingSignals, DriverWaits, DeviceWaits}
use Rattle.vd_ring.proofs.Counts.{occurs_from, one_above}

-- the first ones of a list are all of it, where they weigh as much and each weighs something
whole_by : {A : Type 0} (f : A → ℕ) (xs : List A) (n : ℕ) → All (λ x. 1 ≤ f x) xs → sum_by f xs ≤ sum_by f (take n xs) → take n xs ≡ xs
whole_by f [] n all le = take_all n [] (omega arith)
whole_by f (x ∷ xs) zero all le = absurd (omega (arith, sum_by-cons f x xs, All-head (λ y. 1 ≤ f y) x xs all))
whole_by f (x ∷ xs) (suc n) all le =
    ap (λ ys. x ∷ ys) (whole_by f xs n (All-tail (λ y. 1 ≤ f y) x xs all) (omega (arith, sum_by-cons f x xs, sum_by-cons f x (take n xs))))

spans : (f : Frame) (p : Bool) (c : List Piece) → Fits f c → 1 ≤ (if p then needs f.features c else 1)
spans f true c fits = needed f.features.indirect
  where
    needed : (b : Bool) → 1 ≤ (if b then 1 else length c)
    needed true = omega arith
    needed false = omega (arith, fits.chain.0)
spans f false c fits = omega arith

number_in : (us : List Used) (k : ℕ) (d : Used) → k < length us → Contains (numbers us) (slice_index_or us k d).number
number_in [] k d h = absurd (omega arith)
number_in (u ∷ us) zero d h = (0, omega arith, refl)
number_in (u ∷ us) (suc k) d h = let c = number_in us k d (omega arith) in (suc c.0, omega (arith, c.1), c.2)

module _ (f : Frame) (o : List DriverDone) (s : List DeviceDone) (places : Places f o) (lists : Lists f o s) where
  offered_span : All (λ c. 1 ≤ span f c) (offers o)
  offered_span = All-weaker (Fits f) (λ c. 1 ≤ span f c) (λ c fits. spans f f.packed c fits) (offers o) places.fits

  -- an entry given is that of a chain taken
  given_low : (k : ℕ) (d : Used) → k < length (gives s) → (slice_index_or (gives s) k d).number < length (takes s)
  given_low k d below =
      let j : ℕ = (slice_index_or (gives s) k d).number in
      let one : 1 ≤ occurs j (numbers (gives s)) = occurs_from j (numbers (gives s)) (number_in (gives s) k d below) in
      elim (cases_lt j (length (takes s)))
      [ inl h ↦ h | inr h ↦ absurd (omega (arith, one, lists.given j, one_above j (length (takes s)) h)) ]

  given_span : All (λ u. 1 ≤ span f (chain o u.number)) (gives s)
  given_span k d below =
      let j : ℕ = (slice_index_or (gives s) k d).number in
      let low : j < length (offers o) = omega (arith, given_low k d below, lists.some) in
      offered_span j [] low

  pub all_taken : position f (offers o) ≤ position f (takes s) → takes s ≡ offers o
  all_taken le = lists.taken ∙ whole_by (span f) (offers o) (length (takes s)) offered_span
      (subst (λ (cs : List (List Piece)). position f (offers o) ≤ position f cs) lists.taken le)

  pub all_collected : used_position f o (gives s) ≤ used_position f o (collects o) → collects o ≡ gives s
  all_collected le = lists.collected ∙ whole_by (λ u. span f (chain o u.number)) (gives s) (length (collects o)) given_span
      (subst (λ (us : List Used). used_position f o (gives s) ≤ used_position f o us) lists.collected le)

-- each give has an entry at least
pub few_gives : (f : Frame) (s : List DeviceDone) → AreGives f s → gives_made s ≤ length (gives s)
few_gives f [] h = omega arith
few_gives f (Take c k ∷ s) h = few_gives f s h
few_gives f (Give us ∷ s) h =
    let some : 1 ≤ length us = entry_some f s us h.0 in
    omega (arith, few_gives f s h.1, some, Rattle.std.proofs.Common.length-append (gives s) us)
  where
    entry_some : (f : Frame) (s : List DeviceDone) (us : List Used) → IsEntry f (chain_at (takes s)) (length (gives s)) us → 1 ≤ length us
    entry_some f s us e = omega (arith, e.one)
few_gives f (Rest ∷ s) h = few_gives f s h
few_gives f (StoreAck k x ∷ s) h = few_gives f s h
few_gives f (LoadCommand k i x ∷ s) h = few_gives f s h

-- ---- on a quiet ring

pub quiet_device : (v : DriverView) (w : DeviceView) → Places v.frame v.done → Lists v.frame v.done w.done → RingSignals v w
    → DeviceWaits v w → driver_owed v.doing ≡ nothing → takes w.done ≡ offers v.done
quiet_device v w places lists signals waits none =
    all_taken v.frame v.done w.done places lists
    (none_before _ _ waits.at (ap device_idle waits.idle) waits.armed waits.heard none signals.kicks)

pub quiet_driver : (v : DriverView) (w : DeviceView) → Places v.frame v.done → Lists v.frame v.done w.done → RingSignals v w
    → DriverWaits v w → device_owed w.doing ≡ nothing → collects v.done ≡ gives w.done
quiet_driver v w places lists signals waits none =
    all_collected v.frame v.done w.done places lists
    (none_before _ _ waits.at (ap driver_idle waits.idle) waits.armed waits.heard none signals.calls)
