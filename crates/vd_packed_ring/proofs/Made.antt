-- What stands at each position: the descriptors made available, and the used descriptors.
use Rattle.std.proofs.Common.{◌≡◌, ◌≢◌, ℕ, zero, suc, ◌+◌, ◌-◌, ◌<◌, ◌≤◌, Bool, List, [], ◌∷◌, ◌++◌, length, take, replicate, if◌then◌else◌, slice_index_or, Option, Some, None, refl, sym, ap, ◌∙◌, subst, arith, inl, inr}
use Rattle.std.specs.List.{All, sum_by}
use Rattle.std.proofs.lemmas.Bool.{cases_eq, cases_lt, eq-eqb, ne_eqb}
use Rattle.std.proofs.lemmas.List.{length-append, length_push, length-replicate, get_or_append_left, get_or-append-add, get_or_push, get_or_past, take-append-le, take_all}
use Rattle.std.proofs.lemmas.List.Sums.{sum_by-append, sum_by-cons}
use Rattle.std.proofs.lemmas.List.Elements.{All-nil, All-head, All-append}
use Rattle.vd_model.specs.declared.chain.Piece.{Piece}
use Rattle.vd_model.specs.Chains.{needs}
use Rattle.vd_ring.specs.declared.frame.Frame.{Frame}
use Rattle.vd_ring.specs.declared.frame.Used.{Used}
use Rattle.vd_ring.specs.declared.driver.DriverDone.{DriverDone}
use Rattle.vd_ring.specs.declared.driver.DriverDone.TheVariants.{Offer, Collect, StoreCommand, LoadAck}
use Rattle.vd_ring.specs.declared.device.DeviceDone.{DeviceDone}
use Rattle.vd_ring.specs.declared.device.DeviceDone.TheVariants.{Take, Give, Rest, StoreAck, LoadCommand}
use Rattle.vd_ring.specs.Frames.{borrowed}
use Rattle.vd_ring.specs.Frames.{Fits as FitsRing}
use Rattle.vd_ring.specs.History.{offers, gives, held, free, head, next_head, chain, first, last_used}
use Rattle.vd_ring.specs.Lists.{AreGives, entry_at}
use Rattle.vd_ring.proofs.HeldInside.{next_low}
use Rattle.vd_ring.proofs.ListSteps.{some_same, entry_is}
use Rattle.vd_packed_ring.specs.PackedWords.{IsLawful}
use Rattle.vd_packed_ring.specs.PackedChains.{blank, descriptors}
use Rattle.vd_packed_ring.specs.PackedPositions.{start, offer_position, made, made_at, block, marks}
use Rattle.vd_packed_ring.proofs.WordFacts.{Fits}
use Rattle.vd_packed_ring.proofs.Plans.{all_left, all_right}
use Rattle.vd_packed_ring.proofs.Spelled.{borrowed_one}
use Rattle.vd_packed_ring.proofs.Tables.{length_needs, descriptors_fit}
use Rattle.vd_packed_ring.proofs.Positions.{takes_below, offer_position_offered}

-- ---- the descriptors made available

pub length_made : (f : Frame) (o : List DriverDone) → All (FitsRing f) (offers o) → length (made f o) ≡ offer_position f o
length_made f [] fits = refl
length_made f (Offer c ∷ o) fits =
    let here : FitsRing f c = All-head (FitsRing f) c [] (all_right (FitsRing f) (offers o) (c ∷ []) fits) in
    omega (
      arith,
      length-append (made f o) (descriptors f (next_head f o) c),
      length_made f o (all_left (FitsRing f) (offers o) (c ∷ []) fits),
      length_needs f (next_head f o) c here.chain.0,
      offer_position_offered f o c,
    )
length_made f (Collect us ∷ o) fits = length_made f o fits
length_made f (StoreCommand h i x ∷ o) fits = length_made f o fits
length_made f (LoadAck k x ∷ o) fits = length_made f o fits

pub made_fits : (f : Frame) (o : List DriverDone) → IsLawful f → All (FitsRing f) (offers o) → All Fits (made f o)
made_fits f [] l fits = All-nil Fits
made_fits f (Offer c ∷ o) l fits =
    let low : next_head f o < 65536 = omega (arith, next_low f o (omega (arith, l.least)), l.most) in
    let here : FitsRing f c = All-head (FitsRing f) c [] (all_right (FitsRing f) (offers o) (c ∷ []) fits) in
    All-append Fits (made f o) (descriptors f (next_head f o) c) (made_fits f o l (all_left (FitsRing f) (offers o) (c ∷ []) fits))
    (descriptors_fit f (next_head f o) c low here.chain.1 here.chain.3)
made_fits f (Collect us ∷ o) l fits = made_fits f o l fits
made_fits f (StoreCommand h i x ∷ o) l fits = made_fits f o l fits
made_fits f (LoadAck k x ∷ o) l fits = made_fits f o l fits

pub at_fits : (f : Frame) (o : List DriverDone) (q : ℕ) → IsLawful f → All (FitsRing f) (offers o) → Fits (made_at f o q)
at_fits f o q l fits = elim (cases_lt q (length (made f o))) [
  | inl h ↦ made_fits f o l fits q blank h
  | inr h ↦ subst Fits (sym (get_or_past (made f o) q blank h)) record { len = omega arith; id = omega arith; flags = omega arith }
]

-- an offer adds its descriptors, and leaves the others
pub made_before : (f : Frame) (o : List DriverDone) (c : List Piece) (q : ℕ) → All (FitsRing f) (offers o) → q < offer_position f o
    → made_at f (Offer c ∷ o) q ≡ made_at f o q
made_before f o c q fits h = get_or_append_left (made f o) (descriptors f (next_head f o) c) blank q (omega (arith, length_made f o fits))

pub made_new : (f : Frame) (o : List DriverDone) (c : List Piece) (j : ℕ) → All (FitsRing f) (offers o)
    → made_at f (Offer c ∷ o) (offer_position f o + j) ≡ slice_index_or (descriptors f (next_head f o) c) j blank
made_new f o c j fits =
    ap (λ (q : ℕ). slice_index_or (made f o ++ descriptors f (next_head f o) c) (q + j) blank) (sym (length_made f o fits))
    ∙ get_or-append-add (made f o) (descriptors f (next_head f o) c) j blank

-- as many chains hold ids as were offered
pub listed : (f : Frame) (o : List DriverDone) → length (held f o).1 ≡ length (offers o)
listed f [] = refl
listed f (Offer c ∷ o) = omega (arith, length_push (held f o).1 (take (borrowed f c) (held f o).0), length_push (offers o) c, listed f o)
listed f (Collect us ∷ o) = listed f o
listed f (StoreCommand h i x ∷ o) = listed f o
listed f (LoadAck k x ∷ o) = listed f o

head_old : (f : Frame) (o : List DriverDone) (c : List Piece) (k : ℕ) → k < length (offers o) → head f (Offer c ∷ o) k ≡ head f o k
head_old f o c k h = ap first (get_or_append_left (held f o).1 (take (borrowed f c) (free f o) ∷ []) [] k (omega (arith, listed f o)))

head_new : (f : Frame) (o : List DriverDone) (c : List Piece) → IsLawful f → head f (Offer c ∷ o) (length (offers o)) ≡ next_head f o
head_new f o c l = ap first (get_or_push (held f o).1 (take (borrowed f c) (free f o)) [] (length (offers o)) (listed f o))
    ∙ (ap (λ (n : ℕ). first (take n (free f o))) (borrowed_one f c l) ∙ first_of (free f o))
  where
    first_of : (xs : List ℕ) → first (take 1 xs) ≡ first xs
    first_of [] = refl
    first_of (x ∷ xs) = refl

start_old : (f : Frame) (o : List DriverDone) (c : List Piece) (k : ℕ) → k ≤ length (offers o) → start f (Offer c ∷ o) k ≡ start f o k
start_old f o c k h = ap (sum_by (needs f.features)) (take-append-le k (offers o) (c ∷ []) h)

-- the descriptors of chain k are those from the position where it begins
pub made_chain : (f : Frame) (o : List DriverDone) (k j : ℕ) → IsLawful f → All (FitsRing f) (offers o) → k < length (offers o)
    → j < needs f.features (chain o k) → made_at f o (start f o k + j) ≡ slice_index_or (descriptors f (head f o k) (chain o k)) j blank
made_chain f [] k j l fits h low = absurd (omega arith)
made_chain f (Offer c ∷ o) k j l fits h low =
    let before : All (FitsRing f) (offers o) = all_left (FitsRing f) (offers o) (c ∷ []) fits in
    elim (cases_eq k (length (offers o))) [
      | inl e ↦ (
          let same : chain (Offer c ∷ o) k ≡ c = get_or_push (offers o) c [] k (sym e) in
          let begins : start f (Offer c ∷ o) k ≡ offer_position f o =
          start_old f o c k (omega arith) ∙ ap (sum_by (needs f.features)) (take_all k (offers o) (omega arith)) in
          ap (λ (q : ℕ). made_at f (Offer c ∷ o) (q + j)) begins
          ∙ (made_new f o c j before ∙ (ap (λ (id : ℕ). slice_index_or (descriptors f id c) j blank)
          (sym (ap (λ (m : ℕ). head f (Offer c ∷ o) m) e ∙ head_new f o c l))
          ∙ ap (λ (d : List Piece). slice_index_or (descriptors f (head f (Offer c ∷ o) k) d) j blank) (sym same)))
          )
      | inr ne ↦ (
          let below : k < length (offers o) =
          elim (cases_lt k (length (offers o))) [ inl a ↦ a | inr a ↦ absurd (ne (omega (arith, length_push (offers o) c))) ] in
          let same : chain (Offer c ∷ o) k ≡ chain o k = get_or_append_left (offers o) (c ∷ []) [] k below in
          let begins : start f (Offer c ∷ o) k ≡ start f o k = start_old f o c k (omega arith) in
          let sizes : needs f.features (chain (Offer c ∷ o) k) ≡ needs f.features (chain o k) = ap (needs f.features) same in
          let inside : start f o k + j < offer_position f o = omega (arith, takes_below f o k below, sizes) in
          ap (λ (q : ℕ). made_at f (Offer c ∷ o) (q + j)) begins
          ∙ (made_before f o c (start f o k + j) before inside
          ∙ (made_chain f o k j l before below (omega (arith, sizes))
          ∙ (ap (λ (id : ℕ). slice_index_or (descriptors f id (chain o k)) j blank) (sym (head_old f o c k below))
          ∙ ap (λ (d : List Piece). slice_index_or (descriptors f (head f (Offer c ∷ o) k) d) j blank) (sym same))))
          )
    ]
made_chain f (Collect us ∷ o) k j l fits h low = made_chain f o k j l fits h low
made_chain f (StoreCommand g i x ∷ o) k j l fits h low = made_chain f o k j l fits h low
made_chain f (LoadAck g x ∷ o) k j l fits h low = made_chain f o k j l fits h low

-- ---- the used descriptors

pub length_block : (k : ℕ) (u : Used) → length (block k u) ≡ k
length_block zero u = refl
length_block (suc k) u = ap suc (length-replicate {A = Option Used} k None)

pub length_marks : (size : ℕ → ℕ) (s : List DeviceDone) → length (marks size s) ≡ sum_by (λ u. size u.number) (gives s)
length_marks size [] = refl
length_marks size (Take c h ∷ s) = length_marks size s
length_marks size (Give us ∷ s) =
    omega (
      arith,
      length-append (marks size s) (block (sum_by (λ (u : Used). size u.number) us) (last_used us)),
      length_block (sum_by (λ (u : Used). size u.number) us) (last_used us),
      length_marks size s,
      sum_by-append (λ (u : Used). size u.number) (gives s) us,
    )
length_marks size (Rest ∷ s) = length_marks size s
length_marks size (StoreAck h x ∷ s) = length_marks size s
length_marks size (LoadCommand k i x ∷ s) = length_marks size s

abbrev mark : List (Option Used) → ℕ → Option Used
mark ms q = slice_index_or ms q None

nones : (k i : ℕ) → mark (replicate k None) i ≡ None
nones zero i = refl
nones (suc k) zero = refl
nones (suc k) (suc i) = nones k i

block_rest : (k : ℕ) (u : Used) (i : ℕ) → 0 < i → mark (block k u) i ≡ None
block_rest zero u i h = refl
block_rest (suc k) u zero h = absurd (omega arith)
block_rest (suc k) u (suc i) h = nones k i

-- a give adds its mark where those before it end
pub mark_new : (size : ℕ → ℕ) (s : List DeviceDone) (u : Used) → 0 < size u.number
    → mark (marks size (Give (u ∷ []) ∷ s)) (length (marks size s)) ≡ Some u
mark_new size s u some =
    ap (λ (q : ℕ). mark (marks size s ++ block (sum_by (λ (v : Used). size v.number) (u ∷ [])) u) q)
    (let e : length (marks size s) ≡ length (marks size s) + 0 = omega arith in e)
    ∙ (get_or-append-add (marks size s) (block (sum_by (λ (v : Used). size v.number) (u ∷ [])) u) 0 None
    ∙ first_of (sum_by (λ (v : Used). size v.number) (u ∷ [])) (omega (arith, sum_by-cons (λ (v : Used). size v.number) u [])))
  where
    first_of : (k : ℕ) → 0 < k → mark (block k u) 0 ≡ Some u
    first_of zero h = absurd (omega arith)
    first_of (suc k) h = refl

pub mark_old : (size : ℕ → ℕ) (s : List DeviceDone) (us : List Used) (q : ℕ) → q ≢ length (marks size s)
    → mark (marks size (Give us ∷ s)) q ≡ mark (marks size s) q
mark_old size s us q apart =
    let n : ℕ = length (marks size s) in
    let bs : List (Option Used) = block (sum_by (λ (v : Used). size v.number) us) (last_used us) in
    elim (cases_lt q n) [
      | inl low ↦ get_or_append_left (marks size s) bs None q low
      | inr high ↦ (
          let i : ℕ = q - n in
          let e : q ≡ n + i = omega arith in
          let z : 0 < i = elim (cases_lt 0 i) [ inl h ↦ h | inr h ↦ absurd (apart (omega arith)) ] in
          ap (λ (r : ℕ). mark (marks size s ++ bs) r) e
          ∙ (get_or-append-add (marks size s) bs i None
          ∙ (block_rest (sum_by (λ (v : Used). size v.number) us) (last_used us) i z ∙ sym (get_or_past (marks size s) q None high)))
          )
    ]

pub mark_past : (size : ℕ → ℕ) (s : List DeviceDone) (q : ℕ) → sum_by (λ u. size u.number) (gives s) ≤ q → mark (marks size s) q ≡ None
mark_past size s q h = get_or_past (marks size s) q None (omega (arith, length_marks size s))

some_inside : (ms : List (Option Used)) (q : ℕ) (u : Used) → mark ms q ≡ Some u → q < length ms
some_inside ms q u is = elim (cases_lt q (length ms)) [ inl h ↦ h | inr h ↦ absurd (not_none u (sym (get_or_past ms q None h) ∙ is)) ]
  where
    not_none : (u : Used) → None ≡ Some u → ⊥
    not_none u e = absurd cc

-- the entry that begins at entry number j has its mark where the entries before it end
pub mark_entry : (f : Frame) (size : ℕ → ℕ) (s : List DeviceDone) (j : ℕ) (u : Used) → AreGives f s → entry_at s j ≡ Some u
    → 0 < size u.number → mark (marks size s) (sum_by (λ v. size v.number) (take j (gives s))) ≡ Some u
mark_entry f size [] j u a is some = absurd cc
mark_entry f size (Take c h ∷ s) j u a is some = mark_entry f size s j u a is some
mark_entry f size (Rest ∷ s) j u a is some = mark_entry f size s j u a is some
mark_entry f size (StoreAck h x ∷ s) j u a is some = mark_entry f size s j u a is some
mark_entry f size (LoadCommand k i x ∷ s) j u a is some = mark_entry f size s j u a is some
mark_entry f size (Give [] ∷ s) j u a is some = absurd (let one : 0 ≡ 1 = a.0.one in omega arith)
mark_entry f size (Give (v ∷ w ∷ us) ∷ s) j u a is some = absurd (let one : suc (suc (length us)) ≡ 1 = a.0.one in omega arith)
mark_entry f size (Give (v ∷ []) ∷ s) j u a is some =
    let g : Used → ℕ = λ x. size x.number in
    elim (cases_eq (length (gives s)) j) [
      | inl e ↦ (
          let given : v ≡ u = some_same v u (ap (λ (b : Bool). if b then Some v else entry_at s j) (sym (eq-eqb (length (gives s)) j e))
          ∙ is) in
          let front : take j (gives s ++ v ∷ []) ≡ gives s = take-append-le j (gives s) (v ∷ []) (omega arith)
          ∙ take_all j (gives s) (omega arith) in
          ap (λ (q : ℕ). mark (marks size (Give (v ∷ []) ∷ s)) q) (ap (sum_by g) front ∙ sym (length_marks size s))
          ∙ (mark_new size s v (subst (λ (x : Used). 0 < size x.number) (sym given) some) ∙ ap Some given)
          )
      | inr ne ↦ (
          let old : entry_at s j ≡ Some u = ap (λ (b : Bool). if b then Some v else entry_at s j) (sym (ne_eqb (length (gives s)) j ne))
          ∙ is in
          let inside = entry_is f s j u a.1 old in
          let front : take j (gives s ++ v ∷ []) ≡ take j (gives s) = take-append-le j (gives s) (v ∷ []) (omega (arith, inside.0)) in
          let before = mark_entry f size s j u a.1 old some in
          ap (λ (q : ℕ). mark (marks size (Give (v ∷ []) ∷ s)) q) (ap (sum_by g) front)
          ∙ (get_or_append_left (marks size s) (block (sum_by g (v ∷ [])) v) None (sum_by g (take j (gives s)))
          (some_inside (marks size s) (sum_by g (take j (gives s))) u before) ∙ before)
          )
    ]

-- each mark is an entry given
abbrev pub IsMark : (Used → Type 0) → Option Used → Type 0
IsMark P None = Unit {0}
IsMark P (Some u) = P u

nones_are : (P : Used → Type 0) (k i : ℕ) → IsMark P (mark (replicate k None) i)
nones_are P zero i = tt
nones_are P (suc k) zero = tt
nones_are P (suc k) (suc i) = nones_are P k i

block_are : (P : Used → Type 0) (k : ℕ) (u : Used) (i : ℕ) → P u → IsMark P (mark (block k u) i)
block_are P zero u i p = tt
block_are P (suc k) u zero p = p
block_are P (suc k) u (suc i) p = nones_are P k i

pub marks_are : (P : Used → Type 0) (f : Frame) (size : ℕ → ℕ) (s : List DeviceDone) (q : ℕ) → AreGives f s → All P (gives s)
    → IsMark P (mark (marks size s) q)
marks_are P f size [] q a all = tt
marks_are P f size (Take c h ∷ s) q a all = marks_are P f size s q a all
marks_are P f size (Rest ∷ s) q a all = marks_are P f size s q a all
marks_are P f size (StoreAck h x ∷ s) q a all = marks_are P f size s q a all
marks_are P f size (LoadCommand k i x ∷ s) q a all = marks_are P f size s q a all
marks_are P f size (Give [] ∷ s) q a all = absurd (let one : 0 ≡ 1 = a.0.one in omega arith)
marks_are P f size (Give (v ∷ w ∷ us) ∷ s) q a all = absurd (let one : suc (suc (length us)) ≡ 1 = a.0.one in omega arith)
marks_are P f size (Give (v ∷ []) ∷ s) q a all =
    let n : ℕ = length (marks size s) in
    let bs : List (Option Used) = block (sum_by (λ (u : Used). size u.number) (v ∷ [])) v in
    elim (cases_lt q n) [
      | inl low ↦ subst (IsMark P) (sym (get_or_append_left (marks size s) bs None q low))
          (marks_are P f size s q a.1 (all_left P (gives s) (v ∷ []) all))
      | inr high ↦ subst (IsMark P) (sym (ap (λ (r : ℕ). mark (marks size s ++ bs) r) (let e : q ≡ n + (q - n) = omega arith in e)
          ∙ get_or-append-add (marks size s) bs (q - n) None))
          (block_are P (sum_by (λ (u : Used). size u.number) (v ∷ [])) v (q - n) (All-head P v [] (all_right P (gives s) (v ∷ []) all)))
    ]

-- marks by sizes that agree on the entries given
pub marks_same : (f : Frame) (g h : ℕ → ℕ) (s : List DeviceDone) → AreGives f s → All (λ u. g u.number ≡ h u.number) (gives s)
    → marks g s ≡ marks h s
marks_same f g h [] a same = refl
marks_same f g h (Take c k ∷ s) a same = marks_same f g h s a same
marks_same f g h (Rest ∷ s) a same = marks_same f g h s a same
marks_same f g h (StoreAck k x ∷ s) a same = marks_same f g h s a same
marks_same f g h (LoadCommand k i x ∷ s) a same = marks_same f g h s a same
marks_same f g h (Give [] ∷ s) a same = absurd (let one : 0 ≡ 1 = a.0.one in omega arith)
marks_same f g h (Give (v ∷ w ∷ us) ∷ s) a same = absurd (let one : suc (suc (length us)) ≡ 1 = a.0.one in omega arith)
marks_same f g h (Give (v ∷ []) ∷ s) a same =
    let P : Used → Type 0 = λ u. g u.number ≡ h u.number in
    let here : g v.number ≡ h v.number = All-head P v [] (all_right P (gives s) (v ∷ []) same) in
    let sums : sum_by (λ (u : Used). g u.number) (v ∷ []) ≡ sum_by (λ (u : Used). h u.number) (v ∷ []) =
    omega (arith, here, sum_by-cons (λ (u : Used). g u.number) v [], sum_by-cons (λ (u : Used). h u.number) v []) in
    ap (λ (l : List (Option Used)). l ++ block (sum_by (λ (u : Used). g u.number) (v ∷ [])) v)
    (marks_same f g h s a.1 (all_left P (gives s) (v ∷ []) same)) ∙ ap (λ (k : ℕ). marks h s ++ block k v) sums
