-- The stores of an offer in order.
use Rattle.std.proofs.Common.{◌≡◌, ℕ, zero, suc, ◌+◌, ◌*◌, ◌/◌, ◌%◌, ◌<◌, ◌≤◌, ◌⊎◌, Bool, not, List, [], ◌∷◌, ◌++◌, length, take, if◌then◌else◌, nat_lt, slice_index_or, refl, sym, ap, ◌∙◌, subst, arith, inl, inr}
use Rattle.std.proofs.lemmas.Bool.{cases_eq, lt-ltb, le-ltb}
use Rattle.std.proofs.lemmas.List.{length-take-le, take_more}
use Rattle.vd_model.specs.declared.chain.Piece.{Piece}
use Rattle.vd_model.specs.Chains.{blank}
use Rattle.vd_ring.specs.declared.frame.Frame.{Frame}
use Rattle.vd_ring.specs.declared.frame.Put.{Put}
use Rattle.vd_ring.specs.declared.driver.DriverDone.{DriverDone}
use Rattle.vd_packed_ring.specs.PackedWords.{wrap_bit, addr_word, second_word, packed_word, put}
use Rattle.vd_packed_ring.specs.PackedChains.{Descriptor, avail_word, direct, described, staged}
use Rattle.vd_packed_ring.specs.PackedDriver.{CanOffer, Begins, plan}
use Rattle.vd_packed_ring.proofs.Spelled.{length_direct}
use Rattle.vd_packed.specs.declared.ring_position.RingPosition.{RingPosition}
use Rattle.vd_packed.specs.RingPositions.{IsAt, bit}
use Rattle.vd_packed.specs.Seconds.{available_word}
use Rattle.vd_packed.specs.laws.Places.{other_at}

abbrev none : Descriptor
none = Rattle.vd_packed_ring.specs.PackedChains.blank

-- ---- a chain's descriptors

abbrev one : ℕ → Piece → ℕ → Descriptor
one id x more = record { addr = x.addr; len = x.len; id = id; flags = more + (if x.write then 2 else 0) }

-- descriptor number j, where m is 1 if another follows and else 0
direct_at : (id : ℕ) (c : List Piece) (j m : ℕ) → j < length c → (j + 1 < length c → m ≡ 1) → (length c ≤ j + 1 → m ≡ 0)
    → slice_index_or (direct id c) j none ≡ one id (slice_index_or c j blank) m
direct_at id [] j m h a b = absurd (omega arith)
direct_at id (x ∷ []) zero m h a b = ap (one id x) (sym (b (omega arith)))
direct_at id (x ∷ y ∷ c) zero m h a b = ap (one id x) (sym (a (omega arith)))
direct_at id (x ∷ c) (suc j) m h a b = direct_at id c j m (omega arith) (λ k. a (omega arith)) (λ k. b (omega arith))

abbrev more_of : ℕ → ℕ → ℕ
more_of j n = if nat_lt (j + 1) n then 1 else 0

more_some : (j n : ℕ) → j + 1 < n → more_of j n ≡ 1
more_some j n h = ap (λ (b : Bool). if b then 1 else 0) (lt-ltb (j + 1) n h)

more_none : (j n : ℕ) → n ≤ j + 1 → more_of j n ≡ 0
more_none j n h = ap (λ (b : Bool). if b then 1 else 0) (le-ltb (j + 1) n h)

pub piece_at : (id : ℕ) (c : List Piece) (j : ℕ) → j < length c
    → slice_index_or (direct id c) j none ≡ one id (slice_index_or c j blank) (more_of j (length c))
piece_at id c j h = direct_at id c j (more_of j (length c)) h (more_some j (length c)) (more_none j (length c))

-- its address, and its second word as it is made in a lap
pub addr_at : (id : ℕ) (c : List Piece) (j : ℕ) → j < length c
    → (slice_index_or (direct id c) j none).addr ≡ (slice_index_or c j blank).addr
addr_at id c j h = ap (λ (d : Descriptor). d.addr) (piece_at id c j h)

pub word_at : (s : RingPosition) (n q id : ℕ) (c : List Piece) (j : ℕ) → j < length c → IsAt s n q
    → available_word s.wrap id (slice_index_or c j blank) (more_of j (length c)) ≡ avail_word n q (slice_index_or (direct id c) j none)
word_at s n q id c j h at =
    let x : Piece = slice_index_or c j blank in let g : ℕ = more_of j (length c) + (if x.write then 2 else 0) in
    ap (λ (b : ℕ). packed_word x.len id (g + 128 * b + 32768 * bit (not s.wrap))) at.wrap
    ∙ (ap (λ (b : ℕ). packed_word x.len id (g + 128 * wrap_bit n q + 32768 * b)) (other_at s n q at)
    ∙ ap (avail_word n q) (sym (piece_at id c j h)))

-- ---- their words

described_addr : (n q : ℕ) (ds : List Descriptor) (k j : ℕ) → k ≡ 2 * j → j < length ds
    → slice_index_or (described n q ds) k (put 0 0) ≡ put (addr_word n (q + j)) (slice_index_or ds j none).addr
described_addr n q [] k j e h = absurd (omega arith)
described_addr n q (d ∷ ds) zero zero e h = ap (λ (r : ℕ). put (addr_word n r) d.addr) (let z : q ≡ q + 0 = omega arith in z)
described_addr n q (d ∷ ds) zero (suc j) e h = absurd (omega arith)
described_addr n q (d ∷ ds) (suc zero) j e h = absurd (omega arith)
described_addr n q (d ∷ ds) (suc (suc k)) zero e h = absurd (omega arith)
described_addr n q (d ∷ ds) (suc (suc k)) (suc j) e h = described_addr n (q + 1) ds k j (omega arith) (omega arith)
    ∙ ap (λ (r : ℕ). put (addr_word n r) (slice_index_or ds j none).addr) (let z : q + 1 + j ≡ q + suc j = omega arith in z)

described_word : (n q : ℕ) (ds : List Descriptor) (k j : ℕ) → k ≡ 2 * j + 1 → j < length ds
    → slice_index_or (described n q ds) k (put 0 0) ≡ put (second_word n (q + j)) (avail_word n (q + j) (slice_index_or ds j none))
described_word n q [] k j e h = absurd (omega arith)
described_word n q (d ∷ ds) zero j e h = absurd (omega arith)
described_word n q (d ∷ ds) (suc zero) zero e h = ap (λ (r : ℕ). put (second_word n r) (avail_word n r d)) (let z : q ≡ q + 0 =
    omega arith in z)
described_word n q (d ∷ ds) (suc zero) (suc j) e h = absurd (omega arith)
described_word n q (d ∷ ds) (suc (suc k)) zero e h = absurd (omega arith)
described_word n q (d ∷ ds) (suc (suc k)) (suc j) e h =
    described_word n (q + 1) ds k j (omega arith) (omega arith)
    ∙ ap (λ (r : ℕ). put (second_word n r) (avail_word n r (slice_index_or ds j none))) (let z : q + 1 + j ≡ q + suc j =
    omega arith in z)

-- store number k of an offer: an address, or a second word other than the first
pub staged_addr : (n q : ℕ) (ds : List Descriptor) (k j : ℕ) → (k + 1) / 2 ≡ j → (k ≡ 0 → ⊥) → k % 2 ≡ 1 → j < length ds
    → slice_index_or (staged n q ds) k (put 0 0) ≡ put (addr_word n (q + j)) (slice_index_or ds j none).addr
staged_addr n q [] k j e some odd h = absurd (omega arith)
staged_addr n q (d ∷ ds) zero j e some odd h = absurd (some refl)
staged_addr n q (d ∷ ds) (suc k) zero e some odd h = absurd (omega arith)
staged_addr n q (d ∷ ds) (suc k) (suc j) e some odd h = described_addr n (q + 1) ds k j (omega arith) (omega arith)
    ∙ ap (λ (r : ℕ). put (addr_word n r) (slice_index_or ds j none).addr) (let z : q + 1 + j ≡ q + suc j = omega arith in z)

pub staged_first : (n q : ℕ) (ds : List Descriptor) → 0 < length ds
    → slice_index_or (staged n q ds) 0 (put 0 0) ≡ put (addr_word n q) (slice_index_or ds 0 none).addr
staged_first n q [] h = absurd (omega arith)
staged_first n q (d ∷ ds) h = refl

pub staged_word : (n q : ℕ) (ds : List Descriptor) (k j : ℕ) → (k + 1) / 2 ≡ j → (k ≡ 0 → ⊥) → k % 2 ≡ 0 → j < length ds
    → slice_index_or (staged n q ds) k (put 0 0) ≡ put (second_word n (q + j)) (avail_word n (q + j) (slice_index_or ds j none))
staged_word n q [] k j e some even h = absurd (omega arith)
staged_word n q (d ∷ ds) zero j e some even h = absurd (some refl)
staged_word n q (d ∷ ds) (suc k) zero e some even h = absurd (omega arith)
staged_word n q (d ∷ ds) (suc k) (suc j) e some even h =
    described_word n (q + 1) ds k j (omega arith) (omega arith)
    ∙ ap (λ (r : ℕ). put (second_word n r) (avail_word n r (slice_index_or ds j none))) (let z : q + 1 + j ≡ q + suc j =
    omega arith in z)

length_described : (n q : ℕ) (ds : List Descriptor) → length (described n q ds) ≡ 2 * length ds
length_described n q [] = refl
length_described n q (d ∷ ds) = omega (arith, length_described n (q + 1) ds)

pub length_staged : (n q : ℕ) (ds : List Descriptor) → 0 < length ds → length (staged n q ds) + 1 ≡ 2 * length ds
length_staged n q [] h = absurd (omega arith)
length_staged n q (d ∷ ds) h = omega (arith, length_described n (q + 1) ds)

-- ---- the plan of an offer

-- the first stores, and the one after them, are the first stores
pub begins_at : (f : Frame) (o : List DriverDone) (c : List Piece) (at : ℕ) → CanOffer f o c → at < length (plan f o c)
    → Begins f o (take at (plan f o c) ++ slice_index_or (plan f o c) at (put 0 0) ∷ [])
begins_at f o c at can below =
    let pl : List Put = plan f o c in
    let more : take (at + 1) pl ≡ take at pl ++ slice_index_or pl at (put 0 0) ∷ [] = take_more pl at (put 0 0) below in
    let many : length (take at pl ++ slice_index_or pl at (put 0 0) ∷ []) ≡ at + 1 = ap (λ (ps : List Put). length ps) (sym more)
    ∙ length-take-le (at + 1) pl (omega arith) in
    record { chain = c; can = can; first = sym more ∙ ap (λ k. take k pl) (sym many) }

-- ---- a store as an end computes it, at the ring_position of its descriptor

pub addr_store : (s : RingPosition) (id : ℕ) (c : List Piece) (at n q : ℕ) → ((at ≡ 0) ⊎ (at % 2 ≡ 1)) → at + 1 < 2 * length c
    → IsAt s n (q + (at + 1) / 2)
    → (2 * s.place ≡ (slice_index_or (staged n q (direct id c)) at (put 0 0)).place)
    × ((slice_index_or c ((at + 1) / 2) blank).addr ≡ (slice_index_or (staged n q (direct id c)) at (put 0 0)).word)
addr_store s id c at n q which below here =
    let j : ℕ = (at + 1) / 2 in
    let few : j < length c = omega arith in
    let same = length_direct id c in
    let is : slice_index_or (staged n q (direct id c)) at (put 0 0) ≡ put (addr_word n (q + j))
    (slice_index_or (direct id c) j none).addr = elim (cases_eq at 0) [
      | inl e ↦ first_store at j e (let z : j ≡ 0 = omega arith in z) (omega arith)
      | inr ne ↦ staged_addr n q (direct id c) at j refl ne (odd ne which) (omega arith)
    ] in
    (ap (λ (k : ℕ). 2 * k) here.place ∙ sym (ap (λ (p : Put). p.place) is), sym (ap (λ (p : Put). p.word) is ∙ addr_at id c j few))
  where
    odd : (at ≡ 0 → ⊥) → ((at ≡ 0) ⊎ (at % 2 ≡ 1)) → at % 2 ≡ 1
    odd ne (inl e) = absurd (ne e)
    odd ne (inr e) = e

    first_store : (k j : ℕ) → k ≡ 0 → j ≡ 0 → 0 < length (direct id c)
        → slice_index_or (staged n q (direct id c)) k (put 0 0) ≡ put (addr_word n (q + j)) (slice_index_or (direct id c) j none).addr
    first_store k j e h some = subst (λ (m : ℕ). slice_index_or (staged n q (direct id c)) m (put 0 0) ≡ put (addr_word n (q + j))
        (slice_index_or (direct id c) j none).addr) (sym e)
        (subst (λ (m : ℕ). slice_index_or (staged n q (direct id c)) 0 (put 0 0) ≡ put (addr_word n (q + m))
        (slice_index_or (direct id c) m none).addr) (sym h)
        (staged_first n q (direct id c) some ∙ ap (λ (r : ℕ). put (addr_word n r) (slice_index_or (direct id c) 0 none).addr)
        (let z : q ≡ q + 0 = omega arith in z)))

pub word_store : (s : RingPosition) (id : ℕ) (c : List Piece) (at n q : ℕ) → (at ≡ 0 → ⊥) → (at % 2 ≡ 1 → ⊥) → at + 1 < 2 * length c
    → IsAt s n (q + (at + 1) / 2)
    → (2 * s.place + 1 ≡ (slice_index_or (staged n q (direct id c)) at (put 0 0)).place)
    × (available_word s.wrap id (slice_index_or c ((at + 1) / 2) blank) (more_of ((at + 1) / 2) (length c)) ≡
    (slice_index_or (staged n q (direct id c)) at (put 0 0)).word)
word_store s id c at n q some even below here =
    let j : ℕ = (at + 1) / 2 in
    let few : j < length c = omega arith in
    let is : slice_index_or (staged n q (direct id c)) at (put 0 0) ≡ put (second_word n (q + j))
    (avail_word n (q + j) (slice_index_or (direct id c) j none)) =
    staged_word n q (direct id c) at j refl some (omega arith) (omega (arith, length_direct id c)) in (
      ap (λ (k : ℕ). 2 * k + 1) here.place ∙ sym (ap (λ (p : Put). p.place) is),
      word_at s n (q + j) id c j few here ∙ sym (ap (λ (p : Put). p.word) is),
    )
