-- The stores of an offer in order, places that run round a ring, and copies of an area after a store.
use Rattle.std.proofs.Common.{◌≡◌, ℕ, suc, ◌+◌, ◌*◌, ◌%◌, ◌<◌, ◌≤◌, Bool, true, false, List, [], ◌∷◌, ◌++◌, length, take, if◌then◌else◌, slice_index, slice_index_or, slice_set, sym, ap, ◌∙◌, subst, arith, inl, inr}
use Rattle.std.proofs.lemmas.Bool.{cases_eq, eq-eqb, ne_eqb}
use Rattle.std.proofs.lemmas.List.{length-append, length-take-le, get_or-take, length-set, take_more, get_or-set_same, get_or-set_other}
use Rattle.std.proofs.lemmas.Nat.{mod_below}
use Rattle.std.proofs.Math.Nat.{suc-mod, mod_self, mod-eq_of_lt}
use Rattle.vd_model.specs.declared.chain.Piece.{Piece}
use Rattle.vd_model.specs.declared.features.Features.{Features}
use Rattle.vd_ring.specs.declared.frame.Frame.{Frame}
use Rattle.vd_ring.specs.declared.frame.Put.{Put}
use Rattle.vd_ring.specs.declared.driver.DriverDone.{DriverDone}
use Rattle.vd_ring.specs.Frames.{borrowed}
use Rattle.vd_ring.specs.History.{free, first, next_head}
use Rattle.vd_ring.specs.Places.{Places}
use Rattle.vd_ring.proofs.HeldPlaces.{free_inside}
use Rattle.vd_indirect.specs.declared.descriptor.TableKind.TheVariants.{Split}
use Rattle.vd_indirect.specs.Tables.{table_words}
use Rattle.vd_indirect.proofs.Written.{length-words_from}
use Rattle.vd_split_ring.specs.SplitWords.{IsLawful, IsDescriptors, put, row, table, table_of, pointer, is_tabled, described}
use Rattle.vd_split_ring.specs.SplitDriver.{CanOffer, Begins, plan}
use Rattle.vd_split_ring.proofs.Descriptors.{length-described}
use Rattle.vd_split_ring.proofs.Direct.{borrowed_needs}
use Rattle.vd_split_ring.proofs.DriverParts.{needs_some, next_chain, next_free_place, word_descriptor}
use Rattle.vd_split_ring.proofs.Rows.{length_row}
use Rattle.vd_split_ring.proofs.Tables.{direct_needs, tabled_needs, spelling_direct, spelling_tabled, spelling_within}
use Rattle.vd_split.specs.Parts.{next_place, needed, tabled, Copies}

-- ---- the plan of an offer

-- a chain that may be offered takes a free place at least
pub some_free : (f : Frame) (o : List DriverDone) (c : List Piece) → CanOffer f o c → 0 < length (free f o)
some_free f o c can = omega (arith, needs_some f c can.fits.chain, can.room)

-- a direct chain stands in as many free places as it has pieces
pub enough : (f : Frame) (o : List DriverDone) (c : List Piece) → CanOffer f o c → is_tabled f c ≡ false → length c ≤ length (free f o)
enough f o c can off = omega (arith, can.room, direct_needs f c can.fits.chain.0 off)

pub plan_direct : (f : Frame) (o : List DriverDone) (c : List Piece) → IsLawful f → CanOffer f o c → is_tabled f c ≡ false
    → plan f o c ≡ described 0 (take (length c) (free f o)) c
plan_direct f o c l can off = spelling_direct f (take (borrowed f c) (free f o)) c off ∙ ap (λ n. described 0 (take n (free f o)) c)
    (borrowed_needs f c l ∙ direct_needs f c can.fits.chain.0 off)

pub direct_length : (f : Frame) (o : List DriverDone) (c : List Piece) → IsLawful f → CanOffer f o c → is_tabled f c ≡ false
    → length (plan f o c) ≡ 2 * length c
direct_length f o c l can off = ap (λ (ps : List Put). length ps) (plan_direct f o c l can off)
    ∙ length-described 0 (take (length c) (free f o)) c (length-take-le (length c) (free f o) (enough f o c can off))

-- another stands in the table of the next head
pub plan_tabled : (f : Frame) (o : List DriverDone) (c : List Piece) → IsLawful f → CanOffer f o c → is_tabled f c ≡ true
    → plan f o c ≡ tabled (table_of f (next_head f o)) (next_head f o) c
plan_tabled f o c l can on =
    let one : borrowed f c ≡ 1 = borrowed_needs f c l ∙ tabled_needs f c on in
    let h : first (take (borrowed f c) (free f o)) ≡ next_head f o = get_or-take (borrowed f c) (free f o) 0 0 (omega arith) in
    spelling_tabled f (take (borrowed f c) (free f o)) c on ∙ ap (λ n. table f n c ++ pointer f n c) h

pub length-tabled : (t h : ℕ) (c : List Piece) → length (tabled t h c) ≡ 2 * length c + 2
length-tabled t h c = length-append (row t (table_words Split c)) (put (2 * h) (8 * t) ∷ put (2 * h + 1) (16 * length c + 17179869184)
    ∷ []) ∙ omega (arith, length_row t (table_words Split c), length-words_from Split 0 c)

pub tabled_length : (f : Frame) (o : List DriverDone) (c : List Piece) → IsLawful f → CanOffer f o c → is_tabled f c ≡ true
    → length (plan f o c) ≡ 2 * length c + 2
tabled_length f o c l can on = ap (λ (ps : List Put). length ps) (plan_tabled f o c l can on)
    ∙ length-tabled (table_of f (next_head f o)) (next_head f o) c

-- how many places it is borrowed
pub needed_is : (f : Frame) (fs : Features) (c : List Piece) → IsLawful f → fs ≡ f.features → needed fs.indirect (length c) ≡ borrowed f c
needed_is f fs c l same = ap (λ (y : Features). needed y.indirect (length c)) same ∙ sym (borrowed_needs f c l)

-- its words are the ring's descriptors
pub plan_inside : (f : Frame) (o : List DriverDone) (c : List Piece) (k : ℕ) → IsLawful f → Places f o → CanOffer f o c
    → k < length (plan f o c) → IsDescriptors f (slice_index_or (plan f o c) k (put 0 0)).place
plan_inside f o c k l pl can below =
    let ps : List ℕ = take (borrowed f c) (free f o) in
    let next = next_chain f o c l can in
    word_descriptor f ps (slice_index_or (plan f o c) k (put 0 0)).place (omega (arith, next.0, needs_some f c next.1))
    (λ q a. free_inside f o q pl (next_free_place f o c q a)) (spelling_within f ps c next.0 next.1 k (put 0 0) below)

-- the first stores, and the one after them, are the first stores
pub begins_at : (f : Frame) (o : List DriverDone) (c : List Piece) (at : ℕ) → CanOffer f o c → at < length (plan f o c)
    → Begins f o (take at (plan f o c) ++ slice_index_or (plan f o c) at (put 0 0) ∷ [])
begins_at f o c at can below =
    let pl : List Put = plan f o c in
    let more : take (at + 1) pl ≡ take at pl ++ slice_index_or pl at (put 0 0) ∷ [] = take_more pl at (put 0 0) below in
    let many : length (take at pl ++ slice_index_or pl at (put 0 0) ∷ []) ≡ at + 1 = ap (λ (ps : List Put). length ps) (sym more)
    ∙ length-take-le (at + 1) pl (omega arith) in
    record { chain = c; can = can; first = sym more ∙ ap (λ k. take k pl) (sym many) }

-- ---- places round the ring

pub next_mod : (k n : ℕ) → 0 < n → next_place (k % n) n ≡ (k + 1) % n
next_mod k n pos = elim (cases_eq (k % n + 1) n) [
  | inl e ↦ ap (λ (b : Bool). if b then 0 else k % n + 1) (eq-eqb (k % n + 1) n e) ∙ sym (over ∙ ap (λ m. m % n) e ∙ mod_self n)
  | inr ne ↦ ap (λ (b : Bool). if b then 0 else k % n + 1) (ne_eqb (k % n + 1) n ne) ∙ sym (over ∙ small (omega (arith, mod_below k n pos)))
]
  where
    over : (k + 1) % n ≡ (k % n + 1) % n
    over = let a : k + 1 ≡ suc k = omega arith in let b : suc (k % n) ≡ k % n + 1 = omega arith in
        ap (λ m. m % n) a ∙ suc-mod k n ∙ ap (λ m. m % n) b

    small : k % n + 1 < n → (k % n + 1) % n ≡ k % n + 1
    small h = mod-eq_of_lt h

-- ---- a copy of an area

-- after a store in both
pub copies_set : (at n : ℕ) (area stored : List ℕ) (i x : ℕ) → Copies area at n stored → i < n → at + i < length stored
    → Copies (slice_set area i x) at n (slice_set stored (at + i) x)
copies_set at n area stored i x c low wide = record {
  as_many = length-set area i x ∙ c.as_many;
  same = λ j h. elim (cases_eq j i) [
    | inl e ↦ subst (λ k. slice_index (slice_set area i x) k ≡ slice_index (slice_set stored (at + i) x) (at + k)) (sym e)
        (get_or-set_same area i x 0 (omega (arith, c.as_many)) ∙ sym (get_or-set_same stored (at + i) x 0 wide))
    | inr ne ↦ get_or-set_other area i j x 0 ne ∙ c.same j h ∙ sym (get_or-set_other stored (at + i) (at + j) x 0 (λ e. ne (omega arith)))
  ];
}

-- after a store elsewhere
pub copies_other : (at n : ℕ) (area stored : List ℕ) (p x : ℕ) → Copies area at n stored → ((i : ℕ) → i < n → at + i ≡ p → ⊥)
    → Copies area at n (slice_set stored p x)
copies_other at n area stored p x c apart =
    record { as_many = c.as_many; same = λ i h. c.same i h ∙ sym (get_or-set_other stored p (at + i) x 0 (apart i h)) }
