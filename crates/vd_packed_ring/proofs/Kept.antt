-- The tables of the chains offered and not collected stand after each store of the driver.
use Rattle.std.proofs.Common.{◌≡◌, ◌≢◌, ◌⊎◌, ℕ, ◌+◌, ◌*◌, ◌%◌, ◌<◌, ◌≤◌, List, [], ◌∷◌, length, slice_index_or, slice_set, sym, ◌∙◌, subst, arith, inl, inr}
use Rattle.std.specs.List.{All, Contains}
use Rattle.std.proofs.lemmas.Bool.{cases_eq}
use Rattle.std.proofs.lemmas.Nat.{mod_below}
use Rattle.vd_model.specs.declared.chain.Piece.{Piece}
use Rattle.vd_ring.specs.declared.frame.Frame.{Frame}
use Rattle.vd_ring.specs.declared.frame.Used.{Used}
use Rattle.vd_ring.specs.declared.driver.DriverDone.{DriverDone}
use Rattle.vd_ring.specs.declared.driver.DriverDone.TheVariants.{Offer, Collect}
use Rattle.vd_ring.specs.Frames.{Fits}
use Rattle.vd_ring.specs.History.{occurs, offers, open_at, free, head, next_head, chain, places}
use Rattle.vd_ring.specs.Places.{Places}
use Rattle.vd_ring.proofs.Counts.{one_other, occurs_from, Contains_from, occurs_push, occurs_without}
use Rattle.vd_ring.proofs.HeldPlaces.{open_below, chain_fits, chain_before, chain_new, head_held, head_inside, free_apart}
use Rattle.vd_ring.proofs.ControlSteps.{next_free, head_new, head_before}
use Rattle.vd_packed_ring.specs.PackedWords.{tables_from, commands_from, Stand}
use Rattle.vd_packed_ring.specs.PackedChains.{table}
use Rattle.vd_packed_ring.specs.PackedRing.{Words}
use Rattle.vd_packed_ring.proofs.Plans.{all_are, stand_other}
use Rattle.vd_packed_ring.proofs.Clear.{IsInTable, IsStaged, table_within, in_tables, table_drivers}

abbrev pub AreKept : Frame → List DriverDone → List ℕ → Type 0
AreKept f o stored = (k : ℕ) → Contains (open_at o) k → Stand stored (table f (head f o k) (chain o k))

-- where the table of an open chain stands
pub open_table : (f : Frame) (o : List DriverDone) (k : ℕ) → Places f o → Contains (open_at o) k
    → All (λ s. IsInTable f (head f o k) s.place) (table f (head f o k) (chain o k)) × (head f o k < f.size)
open_table f o k p here =
    let occ = occurs_from k (open_at o) here in
    (table_within f (head f o k) (chain o k) (chain_fits f o k p (open_below f o k p occ)).chain.1, head_inside f o k p occ)

-- a store outside of all tables
pub kept_past : (f : Frame) (o : List DriverDone) (stored : List ℕ) (p x : ℕ) → Places f o
    → ((p < tables_from f) ⊎ (commands_from f ≤ p)) → AreKept f o stored → AreKept f o (slice_set stored p x)
kept_past f o stored p x pl out kept = λ k here.
    let t = open_table f o k pl here in
    stand_other stored (table f (head f o k) (chain o k)) p x (kept k here)
    (all_are (λ s. IsInTable f (head f o k) s.place) (λ s. s.place ≢ p) (table f (head f o k) (chain o k))
    (λ s w. differs (head f o k) s.place t.1 w) t.0)
  where
    differs : (h q : ℕ) → h < f.size → IsInTable f h q → q ≢ p
    differs h q inside w = elim out [
      | inl a ↦ (λ (e : q ≡ p). omega (arith, in_tables f h q inside w))
      | inr a ↦
          (λ (e : q ≡ p). omega (arith, in_tables f h q inside w))
    ]

-- an open chain has another head than the next
next_apart : (f : Frame) (o : List DriverDone) (k : ℕ) → Places f o → 1 ≤ length (free f o) → 1 ≤ occurs k (open_at o)
    → head f o k ≢ next_head f o
next_apart f o k p some occ e =
    omega (
      arith,
      free_apart f o k (next_head f o) p occ (next_free f o some),
      subst (λ (y : ℕ). 1 ≤ occurs y (places f o k)) e (head_held f o k p occ),
    )

-- a store of an offer in progress
pub kept_staged : (f : Frame) (o : List DriverDone) (stored : List ℕ) (q d p x : ℕ) → 2 ≤ f.size → Places f o → 1 ≤ length (free f o)
    → IsStaged f (next_head f o) q d p → AreKept f o stored → AreKept f o (slice_set stored p x)
kept_staged f o stored q d p x pos pl some (inl t) kept = λ k here.
    let w = open_table f o k pl here in
    let other = next_apart f o k pl some (occurs_from k (open_at o) here) in
    stand_other stored (table f (head f o k) (chain o k)) p x (kept k here)
    (all_are (λ s. IsInTable f (head f o k) s.place) (λ s. s.place ≢ p) (table f (head f o k) (chain o k))
    (λ s v. λ e. other (same_table (head f o k) (next_head f o) p (subst (λ (i : ℕ). IsInTable f (head f o k) i) e v) t)) w.0)
  where
    same_table : (g h i : ℕ) → IsInTable f g i → IsInTable f h i → g ≡ h
    same_table g h i a b = omega (arith, a.low, a.high, b.low, b.high)
kept_staged f o stored q d p x pos pl some (inr w) kept = kept_past f o stored p x pl (inl (low w.place)) kept
  where
    low : ((p ≡ 2 * (w.position % f.size)) ⊎ ((p ≡ 2 * (w.position % f.size) + 1) × (q < w.position))) → p < tables_from f
    low (inl a) = omega (arith, mod_below w.position f.size (omega arith))
    low (inr a) = omega (arith, a.0, mod_below w.position f.size (omega arith))

-- the chain offered has its table too
pub kept_offered : (f : Frame) (o : List DriverDone) (c : List Piece) (stored : List ℕ) → Places f o → Fits f c → AreKept f o stored
    → Stand stored (table f (next_head f o) c) → AreKept f (Offer c ∷ o) stored
kept_offered f o c stored p fits kept stand = λ k here. elim (cases_eq k (length (offers o))) [
  | inl e ↦ subst (λ (m : ℕ). Stand stored (table f (head f (Offer c ∷ o) m) (chain (Offer c ∷ o) m))) (sym e)
      (subst (λ (h : ℕ). Stand stored (table f h (chain (Offer c ∷ o) (length (offers o))))) (sym (head_new f o c p fits))
      (subst (λ (d : List Piece). Stand stored (table f (next_head f o) d)) (sym (chain_new o c)) stand))
  | inr ne ↦ (
      let occ = occurs_from k (open_at (Offer c ∷ o)) here in
      let old : 1 ≤ occurs k (open_at o) =
      omega (arith, occurs_push k (open_at o) (length (offers o)), one_other (length (offers o)) k (λ e. ne (sym e))) in
      let below = open_below f o k p old in
      subst (λ (h : ℕ). Stand stored (table f h (chain (Offer c ∷ o) k))) (sym (head_before f o c k p below))
      (subst (λ (d : List Piece). Stand stored (table f (head f o k) d)) (sym (chain_before o c k below))
      (kept k (Contains_from k (open_at o) old)))
      )
]

pub kept_collected : (f : Frame) (o : List DriverDone) (u : Used) (stored : List ℕ) → 1 ≤ occurs u.number (open_at o)
    → AreKept f o stored → AreKept f (Collect (u ∷ []) ∷ o) stored
kept_collected f o u stored held kept = λ k here.
    kept k (Contains_from k (open_at o)
    (omega (arith, occurs_from k (open_at (Collect (u ∷ []) ∷ o)) here, occurs_without k u.number (open_at o) held)))

-- the words of a table are those that the driver stored
pub table_stored : (f : Frame) (ws driven served : List ℕ) (id : ℕ) (c : List Piece) → Words f ws driven served → id < f.size
    → length c ≤ 16 → Stand ws (table f id c) → Stand driven (table f id c)
table_stored f ws driven served id c words inside few stand =
    λ k d h. sym (words.drivers (slice_index_or (table f id c) k d).place
    (table_drivers f id (slice_index_or (table f id c) k d).place inside (table_within f id c few k d h))) ∙ stand k d h

pub table_stands : (f : Frame) (ws driven served : List ℕ) (id : ℕ) (c : List Piece) → Words f ws driven served → id < f.size
    → length c ≤ 16 → Stand driven (table f id c) → Stand ws (table f id c)
table_stands f ws driven served id c words inside few stand =
    λ k d h. words.drivers (slice_index_or (table f id c) k d).place
    (table_drivers f id (slice_index_or (table f id c) k d).place inside (table_within f id c few k d h)) ∙ stand k d h
