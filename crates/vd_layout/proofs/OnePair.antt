-- While a used entry returns one chain: what a collect and a give say of it.
use Rattle.std.proofs.Common.{◌≡◌, ℕ, lit≤, true, List, [], ◌∷◌, length, refl, sym, ap, ◌∙◌, subst, arith}
use Rattle.std.specs.List.{All, Contains}
use Rattle.std.proofs.lemmas.List.Elements.{All-cons, All-nil}
use Rattle.vd_ring.specs.declared.act.DriverAct.TheVariants.{Collected}
use Rattle.vd_ring.specs.declared.act.DeviceAct.TheVariants.{Given}
use Rattle.vd_ring.specs.declared.driver.DriverDone.{DriverDone}
use Rattle.vd_ring.specs.declared.driver.DriverDone.TheVariants.{Collect}
use Rattle.vd_ring.specs.declared.device.DeviceDone.{DeviceDone}
use Rattle.vd_ring.specs.declared.device.DeviceDone.TheVariants.{Give}
use Rattle.vd_ring.specs.declared.frame.Frame.{Frame}
use Rattle.vd_ring.specs.declared.frame.Used.{Used}
use Rattle.vd_ring.specs.History.{entry, chain, chain_at, collects, open_at, takes, gives, running, head, last_used}
use Rattle.vd_ring.proofs.ListSteps.{single_entry, entry_next}
use Rattle.vd_layout.specs.Begun.{DriverOp, DeviceOp, DevicePublished}
use Rattle.vd_layout.specs.Control.{ControlWords}
use Rattle.vd_layout.specs.Driver.{DriverSays}
use Rattle.vd_layout.specs.Device.{DeviceSays, MayGive}
use Rattle.vd_layout.specs.Pairs.{WereCollected, WereGiven}

alone : (us : List Used) (u : Used) → length us ≡ 1 → last_used us ≡ u → us ≡ u ∷ []
alone [] u one is = absurd (omega (arith, one))
alone (v ∷ []) u one is = ap (λ (x : Used). x ∷ []) is
alone (v ∷ w ∷ us) u one is = absurd (omega (arith, one))

pub collected_one : (f : Frame) (o : List DriverDone) (us : List Used) (k n : ℕ) → WereCollected f o us k n → us ≡ entry k n ∷ []
collected_one f o us k n c = alone us (entry k n) c.is_entry.one c.last

pub given_one : (f : Frame) (s : List DeviceDone) (us : List Used) (k n : ℕ) → WereGiven f s us k n → us ≡ entry k n ∷ []
given_one f s us k n g = alone us (entry k n) g.is_entry.one g.last

-- ---- one chain alone

alone_of : (P : Used → Type 0) (u : Used) → P u → All P (u ∷ [])
alone_of P u h = All-cons P u [] h (All-nil P)

pub were_collected : (f : Frame) (o : List DriverDone) (k n : ℕ) → Contains (open_at o) k
    → (f.features.in_order ≡ true → k ≡ length (collects o)) → WereCollected f o (entry k n ∷ []) k n
were_collected f o k n was_open ordered = record {
  is_entry = single_entry f (chain o) (length (collects o)) (entry k n) ordered;
  last = refl;
  were_open = alone_of (λ u. Contains (open_at o) u.number) (entry k n) was_open;
}

pub were_given : (f : Frame) (s : List DeviceDone) (k n : ℕ) → Contains (running s) k
    → (f.features.in_order ≡ true → k ≡ length (gives s)) → WereGiven f s (entry k n ∷ []) k n
were_given f s k n runs ordered = record {
  is_entry = single_entry f (chain_at (takes s)) (length (gives s)) (entry k n) ordered;
  last = refl;
  were_running = alone_of (λ u. Contains (running s) u.number) (entry k n) runs;
}

-- ---- what an answer says

-- what Collected says
pub record CollectedOne (k n h : ℕ) (b b' : DriverOp) (f : Frame) (o o' : List DriverDone) : Type 0 where
  pub begun : b ≡ DriverOp.collect
  pub idle : b' ≡ DriverOp.idle
  pub done : o' ≡ Collect (entry k n ∷ []) ∷ o
  pub was_open : Contains (open_at o) k
  pub is_head : h ≡ head f o k
  pub in_order : f.features.in_order ≡ true → k ≡ length (collects o)

pub says_collected : (k n h : ℕ) (b b' : DriverOp) (f : Frame) (o o' : List DriverDone) → DriverSays (Collected k n h) b b' f o o'
    → CollectedOne k n h b b' f o o'
says_collected k n h b b' f o o' s =
    let us : List Used = s.0 in
    let one = collected_one f o us k n s.4 in record {
      begun = s.1;
      idle = s.2;
      done = s.3 ∙ ap (λ (ys : List Used). Collect ys ∷ o) one;
      was_open = subst (λ (ys : List Used). All (λ u. Contains (open_at o) u.number) ys) one s.4.were_open 0 (entry k n) (lit≤ tt);
      is_head = s.5;
      in_order = λ on. ap (λ (u : Used). u.number) (sym s.4.last) ∙ entry_next f (chain o) (length (collects o)) us s.4.is_entry on;
    }

-- what Given says
pub record GivenOne (k n : ℕ) (b b' : DeviceOp) (f : Frame) (s s' : List DeviceDone) : Type 0 where
  pub begun : b ≡ DeviceOp.give k n
  pub published : DevicePublished b'
  pub done : s' ≡ Give (entry k n ∷ []) ∷ s
  pub may : MayGive f s k

pub says_given : (words : ControlWords) (k : ℕ) (b b' : DeviceOp) (f : Frame) (s s' : List DeviceDone)
    → (h : DeviceSays words (Given k) b b' f s s') → GivenOne k h.0 b b' f s s'
says_given words k b b' f s s' h =
    let us : List Used = h.1 in
    let one = given_one f s us k h.0 h.5 in record {
      begun = h.2;
      published = h.3;
      done = h.4 ∙ ap (λ (ys : List Used). Give ys ∷ s) one;
      may = record {
        runs = subst (λ (ys : List Used). All (λ u. Contains (running s) u.number) ys) one h.5.were_running 0 (entry k h.0) (lit≤ tt);
        in_order = λ on. ap (λ (u : Used). u.number) (sym h.5.last)
            ∙ entry_next f (chain_at (takes s)) (length (gives s)) us h.5.is_entry on;
      };
    }
