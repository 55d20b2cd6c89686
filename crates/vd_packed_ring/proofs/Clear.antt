-- Where an offer in progress has stored nothing: the positions of the chains offered and not collected, and of what comes next.
use Rattle.std.proofs.Common.{◌≡◌, ◌≢◌, ◌⊎◌, ℕ, ◌+◌, ◌*◌, ◌%◌, ◌<◌, ◌≤◌, Bool, true, List, [], ◌∷◌, ◌++◌, length, take, if◌then◌else◌, slice_index_or, slice_set, sym, ap, ◌∙◌, subst, arith, inl, inr}
use Rattle.std.specs.List.{All}
use Rattle.std.specs.Prelude.{Option}
use Rattle.std.proofs.lemmas.Bool.{cases_lt}
use Rattle.std.proofs.lemmas.Nat.{mod_below}
use Rattle.std.proofs.lemmas.List.{length_push, take_all, take-append-le, get_or_push, get_or_append_left, get_or-set_other}
use Rattle.std.proofs.lemmas.List.Elements.{All-nil, All-append}
use Rattle.vd_model.specs.declared.chain.Piece.{Piece}
use Rattle.vd_model.specs.Chains.{IsChain, needs}
use Rattle.vd_indirect.specs.declared.descriptor.TableKind.TheVariants.{Packed}
use Rattle.vd_indirect.specs.Tables.{table_words}
use Rattle.vd_ring.specs.declared.frame.Frame.{Frame}
use Rattle.vd_ring.specs.declared.frame.Put.{Put}
use Rattle.vd_ring.specs.declared.driver.DriverDone.{DriverDone}
use Rattle.vd_ring.specs.declared.driver.DriverNow.{DriverNow}
use Rattle.vd_ring.specs.declared.driver.DriverNow.TheVariants as driver
use Rattle.vd_ring.specs.History.{next_head}
use Rattle.vd_ring.proofs.HeldInside.{next_low}
use Rattle.vd_packed_ring.specs.PackedWords.{IsLawful, IsDrivers, IsDevices, width, driver_event, tables_from, commands_from, table_of, addr_word, second_word, put}
use Rattle.vd_packed_ring.specs.PackedChains.{Descriptor, descriptors, standing, table, staged, spelling}
use Rattle.vd_packed_ring.specs.PackedPositions.{offer_position, collect_position}
use Rattle.vd_packed_ring.specs.PackedDriver.{Begins, plan}
use Rattle.vd_packed_ring.specs.PackedRing.{Words, IsClear, SideSignals, puts_of, Stages, DriverDoing}
use Rattle.vd_packed_ring.proofs.Areas.{areas, drivers_inside, driver_stores, driver_second, second_inside, window_differ}
use Rattle.vd_packed_ring.proofs.Plans.{stand_other, IsStored, all_take, all_are, staged_stored, staged_before, publishing_apart, within_from, within_apart}
use Rattle.vd_packed_ring.proofs.Rows.{nothing_staged}
use Rattle.vd_packed_ring.proofs.Standing.{length_standing, standing_place, standing_differs, length_tabled}
use Rattle.vd_packed_ring.proofs.Tables.{Kind, kind, by_table, in_ring, tabled_is, direct_is, length_needs}

-- ---- the words of an offer

-- a word of the table of head h
pub record IsInTable (f : Frame) (h p : ℕ) : Type 0 where
  pub on : f.features.indirect ≡ true
  pub low : table_of f h ≤ p
  pub high : p < table_of f h + 32

tabled_within : (f : Frame) (id : ℕ) (c : List Piece) → f.features.indirect ≡ true → length c ≤ 16
    → All (λ s. IsInTable f id s.place) (standing (table_of f id) (table_words Packed c))
tabled_within f id c on few = λ k d inside.
    let long = length_tabled (table_of f id) c in
    let is = standing_place (table_of f id) (table_words Packed c) k d
    (omega (arith, length_standing (table_of f id) (table_words Packed c))) in
    record { on = on; low = omega arith; high = omega arith }

pub table_within : (f : Frame) (id : ℕ) (c : List Piece) → length c ≤ 16 → All (λ s. IsInTable f id s.place) (table f id c)
table_within f id c few = at (kind f c)
  where
    at : Kind f c → All (λ s. IsInTable f id s.place) (table f id c)
    at (by_table t on h) = subst (λ (l : List Put). All (λ s. IsInTable f id s.place) l) (sym (tabled_is f id c t).1)
        (λ k d inside. tabled_within f id c on few k d inside)
    at (in_ring t h) = subst (λ (l : List Put). All (λ s. IsInTable f id s.place) l) (sym (direct_is f id c t).1)
        (All-nil (λ s. IsInTable f id s.place))

-- the table of a head below the size lies past the event words and before the commands
pub in_tables : (f : Frame) (h p : ℕ) → h < f.size → IsInTable f h p → (tables_from f ≤ p) × (p < commands_from f)
in_tables f h p inside t =
    let last : commands_from f ≡ tables_from f + 32 * f.size = ap (λ (b : Bool). tables_from f + (if b then 32 * f.size else 0)) t.on in
    (omega (arith, t.low), omega (arith, t.high, last))

-- a word of an offer before the last: of the table of the head, or at a position from the driver's on
abbrev pub IsStaged : Frame → ℕ → ℕ → ℕ → ℕ → Type 0
IsStaged f h q d p = IsInTable f h p ⊎ IsStored f.size q d p

-- each word of a chain stands so, for as many positions as it needs
pub spelling_staged : (f : Frame) (q id : ℕ) (c : List Piece) → IsChain c
    → All (λ s. IsStaged f id q (needs f.features c) s.place) (spelling f q id c)
spelling_staged f q id c is =
    let ds : List Descriptor = descriptors f id c in
    let P : Put → Type 0 = λ s. IsStaged f id q (needs f.features c) s.place in
    let stored = subst (λ (n : ℕ). All (λ s. IsStored f.size q n s.place) (staged f.size q ds)) (length_needs f id c is.0)
    (staged_stored f.size q ds) in
    All-append P (table f id c) (staged f.size q ds)
    (all_are (λ s. IsInTable f id s.place) P (table f id c) (λ s t. inl t) (table_within f id c is.1))
    (all_are (λ s. IsStored f.size q (needs f.features c) s.place) P (staged f.size q ds) (λ s w. inr w) stored)

pub stored_all : (f : Frame) (o : List DriverDone) (c : List Piece) (puts : List Put) → IsChain c
    → puts ≡ take (length puts) (plan f o c) → All (λ s. IsStaged f (next_head f o) (offer_position f o) (needs f.features c) s.place) puts
stored_all f o c puts ok is =
    let P : Put → Type 0 = λ s. IsStaged f (next_head f o) (offer_position f o) (needs f.features c) s.place in
    subst (λ (l : List Put). All P l) (sym is)
    (all_take P (length puts) (plan f o c) (spelling_staged f (offer_position f o) (next_head f o) c ok))

-- a word of a table is none of the ring's descriptors
table_apart : (f : Frame) (h p q half : ℕ) → 2 ≤ f.size → half < 2 → IsInTable f h p → p ≢ 2 * (q % f.size) + half
table_apart f h p q half pos two t e = omega (arith, e, t.low, mod_below q f.size (omega arith))

-- a store of an offer is clear of each position out of its window
pub staged_apart : (f : Frame) (h low q d p r half : ℕ) → 2 ≤ f.size → half < 2 → low ≤ q → q + d ≤ low + f.size → low ≤ r
    → r < low + f.size → ((r < q) ⊎ (q + d ≤ r)) → IsStaged f h q d p → p ≢ 2 * (r % f.size) + half
staged_apart f h low q d p r half pos two a b c e out (inl t) = table_apart f h p r half pos two t
staged_apart f h low q d p r half pos two a b c e out (inr w) =
    within_apart f.size low q d p r half (omega arith) two a b c e out (within_from f.size q d p w)

-- each word of a chain stands at a place of its own
push_before : (xs : List Put) (s : Put) (k : ℕ) → ((j : ℕ) → j < length xs → IsClear (take j xs) (slice_index_or xs j (put 0 0)).place)
    → IsClear xs s.place → k < length (xs ++ s ∷ []) → IsClear (take k (xs ++ s ∷ [])) (slice_index_or (xs ++ s ∷ []) k (put 0 0)).place
push_before xs s k before last h = elim (cases_lt k (length xs)) [
  | inl a ↦ subst (λ (l : List Put). IsClear l (slice_index_or (xs ++ s ∷ []) k (put 0 0)).place)
      (sym (take-append-le k xs (s ∷ []) (omega arith)))
      (subst (λ (t : Put). IsClear (take k xs) t.place) (sym (get_or_append_left xs (s ∷ []) (put 0 0) k a)) (before k a))
  | inr a ↦ (
      let e : length xs ≡ k = omega (arith, length_push xs s) in
      subst (λ (l : List Put). IsClear l (slice_index_or (xs ++ s ∷ []) k (put 0 0)).place)
      (sym (take-append-le k xs (s ∷ []) (omega arith) ∙ take_all k xs (omega arith)))
      (subst (λ (t : Put). IsClear xs t.place) (sym (get_or_push xs s (put 0 0) k e)) last)
      )
]

pub spelling_before : (f : Frame) (q id : ℕ) (c : List Piece) (k : ℕ) → 2 ≤ f.size → IsChain c → needs f.features c ≤ f.size
    → k < length (spelling f q id c) → IsClear (take k (spelling f q id c)) (slice_index_or (spelling f q id c) k (put 0 0)).place
spelling_before f q id c k pos is few h = at (kind f c)
  where
    at : Kind f c → IsClear (take k (spelling f q id c)) (slice_index_or (spelling f q id c) k (put 0 0)).place
    at (by_table t on m) =
        let e = tabled_is f id c t in
        let T : List Put = standing (table_of f id) (table_words Packed c) in
        let last : Put = put (addr_word f.size q) (8 * table_of f id) in
        let split : spelling f q id c ≡ T ++ last ∷ [] = ap (λ (l : List Put). l ++ staged f.size q (descriptors f id c)) e.1
        ∙ ap (λ (ds : List Descriptor). T ++ staged f.size q ds) e.0 in
        let clear : IsClear T last.place =
        all_are (λ s. IsInTable f id s.place) (λ s. s.place ≢ last.place) T
        (λ s w. λ is2. table_apart f id s.place q 0 pos (omega arith) w (omega (arith, is2)))
        (subst (λ (l : List Put). All (λ s. IsInTable f id s.place) l) e.1 (table_within f id c is.1)) in
        subst (λ (l : List Put). k < length l → IsClear (take k l) (slice_index_or l k (put 0 0)).place) (sym split)
        (λ a. push_before T last k (λ j b. standing_differs (table_of f id) (table_words Packed c) j b) clear a) h
    at (in_ring t m) =
        let e = direct_is f id c t in
        let ds : List Descriptor = descriptors f id c in
        let split : spelling f q id c ≡ staged f.size q ds = ap (λ (l : List Put). l ++ staged f.size q ds) e.1 in
        subst (λ (l : List Put). k < length l → IsClear (take k l) (slice_index_or l k (put 0 0)).place) (sym split)
        (λ a. staged_before f.size q ds k (omega arith) (omega (arith, length_needs f id c is.0)) a) h

-- and at none of them the last store of an offer
pub spelling_clear : (f : Frame) (q id : ℕ) (c : List Piece) → 2 ≤ f.size → IsChain c → needs f.features c ≤ f.size
    → IsClear (spelling f q id c) (second_word f.size q)
spelling_clear f q id c pos is few =
    let ds : List Descriptor = descriptors f id c in
    let P : Put → Type 0 = λ s. s.place ≢ second_word f.size q in
    All-append P (table f id c) (staged f.size q ds)
    (all_are (λ s. IsInTable f id s.place) P (table f id c) (λ s w. table_apart f id s.place q 1 pos (omega arith) w)
    (table_within f id c is.1))
    (publishing_apart f.size q ds (omega arith) (omega (arith, length_needs f id c is.0)))

-- ---- where an offer in progress has stored nothing

-- clear at the positions of the chains offered and not collected
pub begins_clear : (f : Frame) (o : List DriverDone) (puts : List Put) (r half : ℕ) → IsLawful f → Begins f o puts → half < 2
    → collect_position f o ≤ r → r < offer_position f o → IsClear puts (2 * (r % f.size) + half)
begins_clear f o puts r half l n two low high =
    let room = n.can.room in
    all_are (λ s. IsStaged f (next_head f o) (offer_position f o) (needs f.features n.chain) s.place)
    (λ s. s.place ≢ 2 * (r % f.size) + half) puts
    (λ s w. staged_apart f (next_head f o) (collect_position f o) (offer_position f o) (needs f.features n.chain) s.place r half l.least
    two (omega arith) room low (omega arith) (inl high) w)
    (stored_all f o n.chain puts n.can.fits.chain n.first)

pub doing_clear : (now : DriverNow) (f : Frame) (o : List DriverDone) (ws : List ℕ) (r half : ℕ) → IsLawful f → DriverDoing now f o ws
    → half < 2 → collect_position f o ≤ r → r < offer_position f o → IsClear (puts_of now) (2 * (r % f.size) + half)
doing_clear (driver.Offering puts) f o ws r half l h two low high = let h2 : Stages f o ws puts = h in
    begins_clear f o puts r half l h2.begins two low high
doing_clear (driver.Entered ps) f o ws r half l h two low high = absurd h
doing_clear (driver.Collecting us) f o ws r half l h two low high = absurd h
doing_clear _ f o ws r half l h two low high = nothing_staged (2 * (r % f.size) + half)

-- clear in the second word at the position where the next chain begins
stored_ahead : (n low q d p : ℕ) → 0 < n → low ≤ q → q + d ≤ low + n → IsStored n q d p → p ≢ second_word n q
stored_ahead n low q d p pos a b w = elim w.place [
  | inl h ↦ (λ (e : p ≡ second_word n q). let x : p ≡ 2 * (w.position % n) = h in let y : p ≡ 2 * (q % n) + 1 = e in omega arith)
  | inr h ↦ (λ (e : p ≡ second_word n q). window_differ n low w.position q pos (omega (arith, w.least)) (omega (arith, w.most)) a
      (omega (arith, w.least, w.most)) (λ (x : w.position ≡ q). omega (arith, h.1)) (let x : p ≡ 2 * (w.position % n) + 1 = h.0 in
      let y : p ≡ 2 * (q % n) + 1 = e in omega arith))
]

staged_ahead : (f : Frame) (h low q d p : ℕ) → 2 ≤ f.size → low ≤ q → q + d ≤ low + f.size → IsStaged f h q d p → p ≢ second_word f.size q
staged_ahead f h low q d p pos a b (inl t) = table_apart f h p q 1 pos (omega arith) t
staged_ahead f h low q d p pos a b (inr w) = stored_ahead f.size low q d p (omega arith) a b w

pub begins_ahead : (f : Frame) (o : List DriverDone) (puts : List Put) → IsLawful f → collect_position f o ≤ offer_position f o
    → Begins f o puts → IsClear puts (second_word f.size (offer_position f o))
begins_ahead f o puts l le n =
    all_are (λ s. IsStaged f (next_head f o) (offer_position f o) (needs f.features n.chain) s.place)
    (λ s. s.place ≢ second_word f.size (offer_position f o)) puts
    (λ s w. staged_ahead f (next_head f o) (collect_position f o) (offer_position f o) (needs f.features n.chain) s.place l.least le
    n.can.room w)
    (stored_all f o n.chain puts n.can.fits.chain n.first)

pub doing_ahead : (now : DriverNow) (f : Frame) (o : List DriverDone) (ws : List ℕ) → IsLawful f
    → collect_position f o ≤ offer_position f o → DriverDoing now f o ws → IsClear (puts_of now) (second_word f.size (offer_position f o))
doing_ahead (driver.Offering puts) f o ws l le h = let h2 : Stages f o ws puts = h in begins_ahead f o puts l le h2.begins
doing_ahead (driver.Entered ps) f o ws l le h = absurd h
doing_ahead (driver.Collecting us) f o ws l le h = absurd h
doing_ahead _ f o ws l le h = nothing_staged (second_word f.size (offer_position f o))

-- what is staged stands after a store where it is clear
pub doing_other : (now : DriverNow) (f : Frame) (o : List DriverDone) (ws : List ℕ) (p x : ℕ) → IsClear (puts_of now) p
    → DriverDoing now f o ws → DriverDoing now f o (slice_set ws p x)
doing_other (driver.Offering puts) f o ws p x clear h =
    let h2 : Stages f o ws puts = h in record { begins = h2.begins; stand = stand_other ws puts p x h2.stand clear }
doing_other (driver.Entered ps) f o ws p x clear h = absurd h
doing_other (driver.Collecting us) f o ws p x clear h = absurd h
doing_other _ f o ws p x clear h = tt

-- clear at each word that the device alone stores
pub doing_past : (now : DriverNow) (f : Frame) (o : List DriverDone) (ws : List ℕ) (p : ℕ) → IsLawful f → DriverDoing now f o ws
    → IsDevices f p → IsClear (puts_of now) p
doing_past (driver.Offering puts) f o ws p l h own =
    let h2 : Stages f o ws puts = h in let n : Begins f o puts = h2.begins in
    let inside = next_low f o (omega (arith, l.least)) in
    all_are (λ s. IsStaged f (next_head f o) (offer_position f o) (needs f.features n.chain) s.place) (λ s. s.place ≢ p) puts
    (λ s w. staged_devices f (next_head f o) (offer_position f o) (needs f.features n.chain) s.place p l inside own w)
    (stored_all f o n.chain puts n.can.fits.chain n.first)
  where
    stored_low : (f : Frame) (q d i : ℕ) → 2 ≤ f.size → IsStored f.size q d i → i < 2 * f.size
    stored_low f q d i pos w = elim w.place [
      | inl h ↦ omega (arith, h, mod_below w.position f.size (omega arith))
      | inr h ↦ omega
          (arith, h.0, mod_below w.position f.size (omega arith))
    ]

    staged_devices : (f : Frame) (h q d i p : ℕ) → IsLawful f → h < f.size → IsDevices f p → IsStaged f h q d i → i ≢ p
    staged_devices f h q d i p l inside (inl a) (inl t) = λ e. omega (arith, in_tables f h i inside t)
    staged_devices f h q d i p l inside (inr (inl a)) (inl t) = λ e. omega (arith, in_tables f h i inside t, areas f)
    staged_devices f h q d i p l inside (inr (inr a)) (inl t) = λ e. omega (arith, in_tables f h i inside t, areas f)
    staged_devices f h q d i p l inside (inl a) (inr w) = λ e. omega (arith, stored_low f q d i l.least w)
    staged_devices f h q d i p l inside (inr (inl a)) (inr w) = λ e. omega (arith, stored_low f q d i l.least w, areas f)
    staged_devices f h q d i p l inside (inr (inr a)) (inr w) = λ e. omega (arith, stored_low f q d i l.least w, areas f)
doing_past (driver.Entered ps) f o ws p l h own = absurd h
doing_past (driver.Collecting us) f o ws p l h own = absurd h
doing_past _ f o ws p l h own = nothing_staged p

-- ---- the words after a store of an offer

pub table_drivers : (f : Frame) (h p : ℕ) → h < f.size → IsInTable f h p → IsDrivers f p
table_drivers f h p inside t = inr (inr (inl (omega (arith, in_tables f h p inside t), omega (arith, in_tables f h p inside t, areas f))))

pub stored_words : (f : Frame) (ws driven served : List ℕ) (h q d p x : ℕ) → 2 ≤ f.size → h < f.size → IsStaged f h q d p
    → Words f ws driven served → Words f (slice_set ws p x) (slice_set driven p x) served × (p < width f)
stored_words f ws driven served h q d p x pos inside (inl t) words = let own = table_drivers f h p inside t in
    (driver_stores f ws driven served p x words own, drivers_inside f p own)
stored_words f ws driven served h q d p x pos inside (inr w) words = elim w.place [
  | inl a ↦ (
      let is : p ≡ 2 * (w.position % f.size) = a in
      let low : p < 2 * f.size = omega (arith, mod_below w.position f.size (omega arith)) in
      let own : IsDrivers f p = inl (low, omega arith) in
      (driver_stores f ws driven served p x words own, drivers_inside f p own)
      )
  | inr a ↦ (
    subst (λ (i : ℕ). Words f (slice_set ws i x) (slice_set driven i x) served) (sym a.0)
        (driver_second f ws driven served w.position x pos words),
    omega (arith, a.0, second_inside f w.position pos),
  )
]

-- such a word is apart from the event words, the commands and the bells
pub staged_past : (f : Frame) (h q d p : ℕ) → 2 ≤ f.size → h < f.size → IsStaged f h q d p → (p ≢ driver_event f) × (p < commands_from f)
staged_past f h q d p pos inside (inl t) = (λ e. omega (arith, in_tables f h p inside t), (in_tables f h p inside t).1)
staged_past f h q d p pos inside (inr w) = elim w.place [
  | inl a ↦ (
    λ e. omega (arith, a, mod_below w.position f.size (omega arith)),
    omega (arith, a, mod_below w.position f.size (omega arith), areas f),
  )
  | inr a ↦ (
    λ e. omega (arith, a.0, mod_below w.position f.size (omega arith)),
    omega (arith, a.0, mod_below w.position f.size (omega arith), areas f),
  )
]

-- signals after a store elsewhere
pub signals_elsewhere : (f : Frame) (event_at bell_at : ℕ) (armed : Option ℕ) (bells : ℕ) (stored : List ℕ) (p x : ℕ) → event_at ≢ p
    → bell_at ≢ p → SideSignals f event_at bell_at armed bells stored → SideSignals f event_at bell_at armed bells (slice_set stored p x)
signals_elsewhere f event_at bell_at armed bells stored p x a b s = record {
  flags = λ off. elim (s.flags off) [
    | inl h ↦ inl (get_or-set_other stored p event_at x 0 a ∙ h)
    | inr h ↦ inr
        (get_or-set_other stored p event_at x 0 a ∙ h)
  ];
  names = λ on. elim (s.names on) [
    | inl h ↦ inl (get_or-set_other stored p event_at x 0 a ∙ h)
    | inr h ↦ inr (
      h.0,
      get_or-set_other stored p event_at x 0 a ∙ h.1,
    )
  ];
  enable = λ q h off. get_or-set_other stored p event_at x 0 a ∙ s.enable q h off;
  event = λ q h on. get_or-set_other stored p event_at x 0 a ∙ s.event q h on;
  bell = get_or-set_other stored p bell_at x 0 b ∙ s.bell;
}
