-- The plan of an offer, directly and by a table, and the word that makes the chain available.
use Rattle.std.proofs.Common.{◌≡◌, ◌≢◌, ℕ, ◌+◌, ◌*◌, ◌%◌, ◌<◌, ◌≤◌, Bool, true, false, not, nat_lt, List, [], ◌∷◌, ◌++◌, length, if◌then◌else◌, slice_index, slice_index_or, refl, sym, ap, ap₂, ◌∙◌, arith}
use Rattle.std.proofs.lemmas.List.{length-append, get_or_push, get_or_append_left}
use Rattle.vd_model.specs.declared.chain.Piece.{Piece}
use Rattle.vd_model.specs.Chains.{blank, needs}
use Rattle.vd_indirect.specs.declared.descriptor.TableKind.TheVariants.{Packed}
use Rattle.vd_indirect.specs.Tables.{table_words}
use Rattle.vd_ring.specs.declared.frame.Frame.{Frame}
use Rattle.vd_ring.specs.declared.frame.Put.{Put}
use Rattle.vd_ring.specs.declared.driver.DriverDone.{DriverDone}
use Rattle.vd_ring.specs.History.{next_head}
use Rattle.vd_packed_ring.specs.PackedWords.{IsLawful, second_word, packed_word, wrap_bit, put}
use Rattle.vd_packed_ring.specs.PackedChains.{Descriptor, direct, descriptors, standing, is_tabled, staged, publishing}
use Rattle.vd_packed_ring.specs.PackedPositions.{offer_position}
use Rattle.vd_packed_ring.specs.PackedDriver.{CanOffer, plan}
use Rattle.vd_packed_ring.proofs.Clear.{spelling_clear}
use Rattle.vd_packed_ring.proofs.Spelled.{length_direct}
use Rattle.vd_indirect.proofs.Written.{length-words_from}
use Rattle.vd_packed_ring.proofs.Standing.{length_tabled, standing_at, standing_word}
use Rattle.vd_packed_ring.proofs.Tables.{Kind, kind, by_table, in_ring, tabled_is, direct_is, length_needs}
use Rattle.vd_packed.specs.declared.ring_position.RingPosition.{RingPosition}
use Rattle.vd_packed.specs.laws.Offers.{length_staged, word_at}
use Rattle.vd_packed.specs.laws.Places.{other_at}
use Rattle.vd_packed.specs.RingPositions.{IsAt, bit}
use Rattle.vd_packed.specs.Tabled.{table_place, tabled, published_word}

-- ---- how many places a chain takes

pub direct_needs : (f : Frame) (c : List Piece) → 0 < length c → is_tabled f c ≡ false → needs f.features c ≡ length c
direct_needs f c some off = sym (length_needs f 0 c some)
    ∙ (ap (λ (ds : List Descriptor). length ds) (direct_is f 0 c off).0 ∙ length_direct 0 c)

pub tabled_needs : (f : Frame) (c : List Piece) → 0 < length c → is_tabled f c ≡ true → needs f.features c ≡ 1
tabled_needs f c some on = sym (length_needs f 0 c some) ∙ ap (λ (ds : List Descriptor). length ds) (tabled_is f 0 c on).0

-- ---- the plan

pub plan_direct : (f : Frame) (o : List DriverDone) (c : List Piece) → is_tabled f c ≡ false
    → plan f o c ≡ staged f.size (offer_position f o) (direct (next_head f o) c)
plan_direct f o c off =
    let e = direct_is f (next_head f o) c off in
    ap₂ (λ (l : List Put) (ds : List Descriptor). l ++ staged f.size (offer_position f o) ds) e.1 e.0

pub plan_length : (f : Frame) (o : List DriverDone) (c : List Piece) → CanOffer f o c → is_tabled f c ≡ false
    → length (plan f o c) + 1 ≡ 2 * length c
plan_length f o c can off =
    let ds : List Descriptor = direct (next_head f o) c in
    omega (
      arith,
      ap (λ (ps : List Put). length ps) (plan_direct f o c off),
      length_staged f.size (offer_position f o) ds (omega (arith, length_direct (next_head f o) c, can.fits.chain.0)),
      length_direct (next_head f o) c,
    )

pub plan_tabled : (f : Frame) (o : List DriverDone) (c : List Piece) (id place : ℕ) → is_tabled f c ≡ true → id ≡ next_head f o
    → place ≡ offer_position f o % f.size → tabled (table_place f.size id) place c ≡ plan f o c
plan_tabled f o c id place on first at =
    let e = tabled_is f (next_head f o) c on in
    ap₂ (λ i p. tabled (table_place f.size i) p c) first at
    ∙ sym (ap₂ (λ (l : List Put) (ds : List Descriptor). l ++ staged f.size (offer_position f o) ds) e.1 e.0)

pub tabled_length : (f : Frame) (o : List DriverDone) (c : List Piece) → is_tabled f c ≡ true → length (plan f o c) ≡ 2 * length c + 1
tabled_length f o c on =
    let t : ℕ = table_place f.size (next_head f o) in let place : ℕ = offer_position f o % f.size in
    ap (λ (l : List Put). length l) (sym (plan_tabled f o c (next_head f o) place on refl refl))
    ∙ omega (arith, length-append (standing t (table_words Packed c)) (put (2 * place) (8 * t) ∷ []), length_tabled t c)

-- its words by number: those of the table, and then the address
pub tabled_at : (t place : ℕ) (c : List Piece) (k : ℕ) → k < 2 * length c
    → ((slice_index_or (tabled t place c) k (put 0 0)).place ≡ t + k)
    × ((slice_index_or (tabled t place c) k (put 0 0)).word ≡ slice_index (table_words Packed c) k)
tabled_at t place c k low =
    let ws : List ℕ = table_words Packed c in
    let few : k < length ws = omega (arith, length-words_from Packed 0 c) in
    let is : slice_index_or (tabled t place c) k (put 0 0) ≡ slice_index_or (standing t ws) k (put 0 0) =
    get_or_append_left (standing t ws) (put (2 * place) (8 * t) ∷ []) (put 0 0) k (omega (arith, length_tabled t c)) in
    (ap (λ (s : Put). s.place) is ∙ standing_at t ws k few, ap (λ (s : Put). s.word) is ∙ standing_word t ws k few)

pub tabled_last : (t place : ℕ) (c : List Piece) (k : ℕ) → 2 * length c ≤ k → k < 2 * length c + 1
    → slice_index_or (tabled t place c) k (put 0 0) ≡ put (2 * place) (8 * t)
tabled_last t place c k low high = get_or_push (standing t (table_words Packed c)) (put (2 * place) (8 * t)) (put 0 0) k
    (omega (arith, length_tabled t c))

-- none of its stores is in the word that is stored last
pub apart_at : (f : Frame) (o : List DriverDone) (c : List Piece) (at : ℕ) → IsLawful f → CanOffer f o c → at < length (plan f o c)
    → (slice_index_or (plan f o c) at (put 0 0)).place ≢ second_word f.size (offer_position f o)
apart_at f o c at l can below = spelling_clear f (offer_position f o) (next_head f o) c l.least can.fits.chain can.fits.size at
    (put 0 0) below

-- ---- the word that is stored last

pub published_at : (s : RingPosition) (f : Frame) (q id : ℕ) (c : List Piece) → 0 < length c → IsAt s f.size q
    → published_word f.features.indirect s.wrap id c ≡ (publishing f.size q (descriptors f id c)).word
published_at s f q id c some at = by_kind (kind f c)
  where
    n : ℕ
    n = f.size

    word : Bool → ℕ
    word b = if b then packed_word (16 * length c) id (4 + 128 * bit s.wrap + 32768 * bit (not s.wrap)) else
        Rattle.vd_packed.specs.Seconds.available_word s.wrap id (slice_index_or c 0 blank) (if nat_lt (0 + 1) (length c) then 1 else 0)

    by_kind : Kind f c → published_word f.features.indirect s.wrap id c ≡ (publishing f.size q (descriptors f id c)).word
    by_kind (by_table t on m) =
        ap word t ∙ (ap (λ (b : ℕ). packed_word (16 * length c) id (4 + 128 * b + 32768 * bit (not s.wrap))) at.wrap
        ∙ (ap (λ (b : ℕ). packed_word (16 * length c) id (4 + 128 * wrap_bit n q + 32768 * b)) (other_at s n q at)
        ∙ sym (ap (λ (ds : List Descriptor). (publishing n q ds).word) (tabled_is f id c t).0)))
    by_kind (in_ring t h) = ap word t
        ∙ (word_at s n q id c 0 some at ∙ sym (ap (λ (ds : List Descriptor). (publishing n q ds).word) (direct_is f id c t).0))
