-- The walk through a table, a place at a time.
use Rattle.std.proofs.Common.{◌≡◌, ℕ, zero, suc, ◌+◌, ◌-◌, ◌<◌, ◌≤◌, nat_lt, nat_le, Bool, true, false, not, ◌&&◌, ◌||◌, List, [], ◌∷◌, ◌++◌, length, refl, ap, sym, ◌∙◌, subst, arith, Result, Ok, Err, Option, Some, None, is_err, inl, inr, add-one, add-zero, zero-add, cond, if◌then◌else◌, ◌==◌, ◌%◌}
use Rattle.std.specs.List.{range_with_len, position_or_len, prefix_len}
use Rattle.std.proofs.lemmas.List.FromFn.{map-range_with_len_more, length-map-range_with_len, get_or-map-range_with_len}
use Rattle.std.proofs.lemmas.Bool.{cases_lt, and_left, or_parts, or_from, eqb-false, ltb-true, ne_eqb, eq-eqb, le-ltb}
use Rattle.vd_model.specs.declared.chain.Piece.{Piece}
use Rattle.vd_model.specs.Chains.{ends_writable, blank}
use Rattle.vd_indirect.specs.declared.descriptor.TableKind.{TableKind}
use Rattle.vd_indirect.specs.declared.descriptor.TableKind.TheVariants.{Split, Packed}
use Rattle.vd_indirect.specs.declared.read.TableFault.{TableFault}
use Rattle.vd_indirect.specs.declared.read.TableFault.TheVariants.{Length, TooMany, Link, Nested, Order}
use Rattle.vd_indirect.specs.Steps.{appending, following}
use Rattle.vd_indirect.specs.Tables.{before_end, ends, flags_of, goes_on, has, is_misplaced, is_nested, is_unlinked, next_of, outcome, piece_at, pieces_of, visited, walked}

-- the first number from a on that passes
first_from : (p : ℕ → Bool) (a n k : ℕ) → k < n → ((j : ℕ) → j < k → p (a + j) ≡ false) → p (a + k) ≡ true
    → position_or_len p (range_with_len a n) ≡ k
first_from p a zero k h before here = absurd (omega arith)
first_from p a (suc n) zero h before here =
    ap (λ (b : Bool). cond (not b) (1 + prefix_len (λ x. not (p x)) (range_with_len (a + 1) n)) 0) (sym (ap p (add-zero a)) ∙ here)
first_from p a (suc n) (suc k) h before here =
    let shift = λ (j : ℕ). ap p (let e : (a + 1) + j ≡ a + suc j = omega arith in e) in
    let rest : position_or_len p (range_with_len (a + 1) n) ≡ k =
    first_from p (a + 1) n k (omega arith) (λ j below. shift j ∙ before (suc j) (omega arith)) (shift k ∙ here) in
    ap (λ (b : Bool). cond (not b) (1 + prefix_len (λ x. not (p x)) (range_with_len (a + 1) n)) 0)
    (sym (ap p (add-zero a)) ∙ before 0 (omega arith))
    ∙ ap (λ (m : ℕ). 1 + m) rest ∙ (let e : 1 + k ≡ suc k = omega arith in e)

-- the walk ends at the first place at which it may
pub walk_ends : (kind : TableKind) (words : List ℕ) (places k : ℕ) → k < places → ((j : ℕ) → j < k → ends kind words places j ≡ false)
    → ends kind words places k ≡ true
    → walked kind words places ≡ outcome kind words places k
unfolding before_end
walk_ends kind words places k h before here =
    let at = λ (j : ℕ). ap (ends kind words places) (zero-add j) in
    ap (outcome kind words places) (first_from (ends kind words places) 0 places k h (λ j below. at j ∙ before j below) (at k ∙ here))

-- ---- choices by tests

abbrev follow : Bool → Bool → TableFault → ℕ → Result (Option ℕ) TableFault
follow g u fault next = if not g then Ok None else (if u then Err fault else Ok (Some next))

follow_none : (g u : Bool) (fault : TableFault) (next : ℕ) → follow g u fault next ≡ Ok None → g ≡ false
follow_none true true fault next e = absurd cc
follow_none true false fault next e = absurd cc
follow_none false u fault next e = refl

follow_err : (g u : Bool) (fault f : TableFault) (next : ℕ) → follow g u fault next ≡ Err f → (g ≡ true) × (u ≡ true) × (f ≡ fault)
follow_err true true fault f next e = (refl, refl, cc)
follow_err true false fault f next e = absurd cc
follow_err false u fault f next e = absurd cc

follow_some : (g u : Bool) (fault : TableFault) (next n : ℕ) → follow g u fault next ≡ Ok (Some n) → (g ≡ true) × (u ≡ false) × (n ≡ next)
follow_some true true fault next n e = absurd cc
follow_some true false fault next n e = (refl, refl, cc)
follow_some false u fault next n e = absurd cc

abbrev pub judge : {X : Type 0} → Bool → Bool → TableFault → TableFault → Result X TableFault → Result X TableFault
judge nested misplaced f g r = if nested then Err f else (if misplaced then Err g else r)

judge_ok : {X : Type 0} (n m : Bool) (f g : TableFault) (r : Result X TableFault) (x : X) → judge n m f g r ≡ Ok x
    → (n ≡ false) × (m ≡ false)
judge_ok true m f g r x e = absurd cc
judge_ok false true f g r x e = absurd cc
judge_ok false false f g r x e = (refl, refl)

-- where the one gives a fault by the first two tests, so does the other
judge_err : {X Y : Type 0} (n m : Bool) (f g fault : TableFault) (x : X) (r : Result Y TableFault) → judge n m f g (Ok x) ≡ Err fault
    → judge n m f g r ≡ Err fault
judge_err true m f g fault x r e = cc
judge_err false true f g fault x r e = cc
judge_err false false f g fault x r e = absurd cc

pub judge_passes : {X : Type 0} (n m : Bool) (f g : TableFault) (r : Result X TableFault) → n ≡ false → m ≡ false → judge n m f g r ≡ r
judge_passes n m f g r a b = ap (λ (x : Bool). judge x m f g r) a ∙ ap (λ (x : Bool). judge false x f g r) b

-- ---- the state of a walk

-- the walk stands in a place that is neither nested nor misplaced, and ended at none before
pub record IsWalking (kind : TableKind) (words : List ℕ) (places count place : ℕ) (taken : List Piece) : Type 0 where
  pub at : place ≡ visited kind words count
  pub low : place < places
  pub within : count < places
  pub chain : taken ≡ pieces_of kind words (count + 1)
  pub before : (j : ℕ) → j < count → ends kind words places j ≡ false
  pub plain : is_nested kind words count ≡ false
  pub placed : is_misplaced kind words count ≡ false

pub visited-zero : (kind : TableKind) (words : List ℕ) → visited kind words 0 ≡ 0
unfolding visited
visited-zero Split words = refl
visited-zero Packed words = refl

pub begins : (kind : TableKind) (words : List ℕ) (places : ℕ) → 0 < places → has (flags_of kind words 0) 2 ≡ false
    → IsWalking kind words places 0 0 (piece_at kind words 0 ∷ [])
begins kind words places some plain = record {
  at = sym (visited-zero kind words);
  low = some;
  within = some;
  chain = ap (λ (p : ℕ). piece_at kind words p ∷ []) (sym (visited-zero kind words));
  before = λ j h. absurd (omega arith);
  plain = ap (λ (p : ℕ). has (flags_of kind words p) 2) (visited-zero kind words) ∙ plain;
  placed = refl;
}

pub begins_nested : (kind : TableKind) (words : List ℕ) (places : ℕ) → 0 < places → has (flags_of kind words 0) 2 ≡ true
    → walked kind words places ≡ Err (Nested 0)
begins_nested kind words places some nested =
    let at = visited-zero kind words in
    let is : is_nested kind words 0 ≡ true = ap (λ (p : ℕ). has (flags_of kind words p) 2) at ∙ nested in
    let gives : outcome kind words places 0 ≡ Err (Nested (visited kind words 0)) =
    ap (λ (b : Bool). judge b (is_misplaced kind words 0) (Nested (visited kind words 0)) (Order (visited kind words 0))
    (if is_unlinked kind words places 0 then Err (Link (visited kind words 0)) else Ok (pieces_of kind words (0 + 1)))) is in
    walk_ends kind words places 0 some (λ j h. absurd (omega arith))
    (ap (λ (r : Result (List Piece) TableFault). is_err r || not (goes_on kind words places 0)) gives)
    ∙ gives ∙ ap (λ (p : ℕ). Err (Nested p)) at

first_err : {X : Type 0} (b : Bool) (g fault : TableFault) (x : X) → Err fault ≡ (if b then Err g else Ok x) → (b ≡ true) × (fault ≡ g)
first_err true g fault x e = (refl, cc)
first_err false g fault x e = absurd cc

first_ok : {X : Type 0} (b : Bool) (g : TableFault) (x y : X) → Ok y ≡ (if b then Err g else Ok x) → (b ≡ false) × (y ≡ x)
first_ok true g x y e = absurd cc
first_ok false g x y e = (refl, cc)

-- the first place is nested, and the walk ends there
pub first_refused : (kind : TableKind) (words : List ℕ) (places : ℕ) (fault : TableFault) → 0 < places
    → Err fault ≡ (if has (flags_of kind words 0) 2 then Err (Nested 0) else Ok (piece_at kind words 0))
    → walked kind words places ≡ Err fault
first_refused kind words places fault some e =
    let is = first_err (has (flags_of kind words 0) 2) (Nested 0) fault (piece_at kind words 0) e in
    begins_nested kind words places some is.0 ∙ ap (λ (f : TableFault). Err f) (sym is.1)

-- the first place is taken
pub first_taken : (kind : TableKind) (words : List ℕ) (places : ℕ) (x : Piece) → 0 < places
    → Ok x ≡ (if has (flags_of kind words 0) 2 then Err (Nested 0) else Ok (piece_at kind words 0))
    → IsWalking kind words places 0 0 (x ∷ [])
first_taken kind words places x some e =
    let is = first_ok (has (flags_of kind words 0) 2) (Nested 0) (piece_at kind words 0) x e in
    subst (λ (y : Piece). IsWalking kind words places 0 0 (y ∷ [])) (sym is.1) (begins kind words places some is.0)

-- ---- the outcome at a place

abbrev pub linked : TableKind → List ℕ → ℕ → ℕ → Bool → Result (List Piece) TableFault
linked kind words places count unlinked = if unlinked then Err (Link (visited kind words count)) else Ok (pieces_of kind words (count + 1))

plain_outcome : (kind : TableKind) (words : List ℕ) (places count place : ℕ) (taken : List Piece) (unlinked : Bool)
    → IsWalking kind words places count place taken → is_unlinked kind words places count ≡ unlinked
    → outcome kind words places count ≡ linked kind words places count unlinked
plain_outcome kind words places count place taken unlinked w e =
    judge_passes (is_nested kind words count) (is_misplaced kind words count) (Nested (visited kind words count))
    (Order (visited kind words count)) (linked kind words places count (is_unlinked kind words places count)) w.plain w.placed
    ∙ ap (linked kind words places count) e

unlinked_goes : (kind : TableKind) (words : List ℕ) (places count : ℕ) → goes_on kind words places count ≡ false
    → is_unlinked kind words places count ≡ false
unlinked_goes Split words places count e =
    and_left (goes_on Split words places count) (nat_le places (next_of words (visited Split words count)) || (count + 1 == places)) e
unlinked_goes Packed words places count e = refl

goes_within : (kind : TableKind) (words : List ℕ) (places count : ℕ) → count < places → goes_on kind words places count ≡ true
    → is_unlinked kind words places count ≡ false → suc count < places
goes_within Split words places count h g u =
    let both : (goes_on Split words places count &&
    (nat_le places (next_of words (visited Split words count)) || (count + 1 == places))) ≡ false = u in
    let tests : (nat_le places (next_of words (visited Split words count)) || (count + 1 == places)) ≡ false =
    sym (ap (λ (b : Bool). b && (nat_le places (next_of words (visited Split words count)) || (count + 1 == places))) g) ∙ both in
    let other : count + 1 ≡ places → ⊥ =
    eqb-false (count + 1) places (or_parts (nat_le places (next_of words (visited Split words count))) (count + 1 == places) tests).1 in
    omega arith
goes_within Packed words places count h g u = (let below = ltb-true (count + 1) places g in omega arith)

-- ---- one step of the walk

-- it ends here, with the pieces taken
pub ended : (kind : TableKind) (words : List ℕ) (places count place : ℕ) (taken : List Piece)
    → IsWalking kind words places count place taken → count < places
    → following kind words places count ≡ Ok None → walked kind words places ≡ Ok taken
ended kind words places count place taken w h e =
    let g = follow_none (goes_on kind words places count) (is_unlinked kind words places count) (Link (visited kind words count))
    (visited kind words (suc count)) e in
    let gives = plain_outcome kind words places count place taken false w (unlinked_goes kind words places count g) in
    walk_ends kind words places count h w.before
    (ap (λ (r : Result (List Piece) TableFault). is_err r || not (goes_on kind words places count)) gives ∙ ap not g)
    ∙ gives ∙ ap (λ (xs : List Piece). Ok xs) (sym w.chain)

-- it ends here, since the place names no next one that it may visit
pub broken : (kind : TableKind) (words : List ℕ) (places count place : ℕ) (taken : List Piece) (fault : TableFault)
    → IsWalking kind words places count place taken → count < places
    → following kind words places count ≡ Err fault → walked kind words places ≡ Err fault
broken kind words places count place taken fault w h e =
    let is = follow_err (goes_on kind words places count) (is_unlinked kind words places count) (Link (visited kind words count)) fault
    (visited kind words (suc count)) e in
    let gives = plain_outcome kind words places count place taken true w is.1 in
    walk_ends kind words places count h w.before
    (ap (λ (r : Result (List Piece) TableFault). is_err r || not (goes_on kind words places count)) gives)
    ∙ gives ∙ ap (λ (f : TableFault). Err f) (sym is.2)

-- it goes on
pub record Goes (kind : TableKind) (words : List ℕ) (places count next : ℕ) : Type 0 where
  pub at : next ≡ visited kind words (suc count)
  pub within : suc count < places
  pub here : ends kind words places count ≡ false

pub goes : (kind : TableKind) (words : List ℕ) (places count place next : ℕ) (taken : List Piece)
    → IsWalking kind words places count place taken → count < places
    → following kind words places count ≡ Ok (Some next) → Goes kind words places count next
goes kind words places count place next taken w h e =
    let is = follow_some (goes_on kind words places count) (is_unlinked kind words places count) (Link (visited kind words count))
    (visited kind words (suc count)) next e in
    let gives = plain_outcome kind words places count place taken false w is.1 in
    record {
      at = is.2;
      within = goes_within kind words places count h is.0 is.1;
      here = ap (λ (r : Result (List Piece) TableFault). is_err r || not (goes_on kind words places count)) gives ∙ ap not is.0;
    }

-- ---- the next place

writable_end : (kind : TableKind) (words : List ℕ) (count : ℕ)
    → ends_writable (pieces_of kind words (count + 1)) ≡ (piece_at kind words (visited kind words count)).write
writable_end kind words count =
    let f : ℕ → Piece = λ n. piece_at kind words (visited kind words n) in
    let long : length (pieces_of kind words (count + 1)) ≡ count + 1 = length-map-range_with_len f 0 (count + 1) in
    ap (λ (x : Piece). x.write) (get_or-map-range_with_len f 0 (count + 1) (length (pieces_of kind words (count + 1)) - 1) count blank
    (omega arith) (omega arith))

judged : (kind : TableKind) (words : List ℕ) (places count place next : ℕ) (taken : List Piece)
    → IsWalking kind words places count place taken → Goes kind words places count next
    → appending kind words next (ends_writable taken)
    ≡ judge (is_nested kind words (suc count)) (is_misplaced kind words (suc count)) (Nested (visited kind words (suc count)))
    (Order (visited kind words (suc count))) (Ok tt)
judged kind words places count place next taken w g =
    ap (λ (p : ℕ). appending kind words p (ends_writable taken)) g.at
    ∙ ap (appending kind words (visited kind words (suc count))) (ap ends_writable w.chain ∙ writable_end kind words count)

before_next : (kind : TableKind) (words : List ℕ) (places count place next : ℕ) (taken : List Piece)
    → IsWalking kind words places count place taken → Goes kind words places count next
    → (j : ℕ) → j < suc count → ends kind words places j ≡ false
before_next kind words places count place next taken w g j h = elim (cases_lt j count) [
  | inl below ↦ w.before j below
  | inr above ↦ (let e : count ≡ j = omega arith in ap (ends kind words places) (sym e) ∙ g.here)
]

-- the next place is nested or misplaced
pub refused : (kind : TableKind) (words : List ℕ) (places count place next : ℕ) (taken : List Piece) (fault : TableFault)
    → IsWalking kind words places count place taken → Goes kind words places count next
    → appending kind words next (ends_writable taken) ≡ Err fault → walked kind words places ≡ Err fault
refused kind words places count place next taken fault w g e =
    let gives : outcome kind words places (suc count) ≡ Err fault =
    judge_err (is_nested kind words (suc count)) (is_misplaced kind words (suc count)) (Nested (visited kind words (suc count)))
    (Order (visited kind words (suc count))) fault tt
    (linked kind words places (suc count) (is_unlinked kind words places (suc count)))
    (sym (judged kind words places count place next taken w g) ∙ e) in
    walk_ends kind words places (suc count) g.within (before_next kind words places count place next taken w g)
    (ap (λ (r : Result (List Piece) TableFault). is_err r || not (goes_on kind words places (suc count))) gives)
    ∙ gives

pieces_of-more : (kind : TableKind) (words : List ℕ) (count : ℕ) → pieces_of kind words (count + 1) ≡ pieces_of kind words count
    ++ piece_at kind words (visited kind words count) ∷ []
pieces_of-more kind words count = map-range_with_len_more (λ n. piece_at kind words (visited kind words n)) 0 count count (omega arith)

-- the next place is taken
pub appended : (kind : TableKind) (words : List ℕ) (places count place next : ℕ) (taken : List Piece)
    → IsWalking kind words places count place taken → Goes kind words places count next → next < places
    → appending kind words next (ends_writable taken) ≡ Ok tt
    → IsWalking kind words places (count + 1) next (taken ++ piece_at kind words next ∷ [])
appended kind words places count place next taken w g low e =
    let fine = judge_ok (is_nested kind words (suc count)) (is_misplaced kind words (suc count))
    (Nested (visited kind words (suc count))) (Order (visited kind words (suc count))) (Ok tt) tt
    (sym (judged kind words places count place next taken w g) ∙ e) in
    subst (λ (n : ℕ). IsWalking kind words places n next (taken ++ piece_at kind words next ∷ [])) (sym (add-one count)) (record {
      at = g.at;
      low = low;
      within = g.within;
      chain = ap (λ (xs : List Piece). xs ++ piece_at kind words next ∷ []) w.chain
          ∙ ap (λ (n : ℕ). pieces_of kind words n ++ piece_at kind words next ∷ []) (add-one count)
          ∙ ap (λ (p : ℕ). pieces_of kind words (suc count) ++ piece_at kind words p ∷ []) g.at
          ∙ sym (pieces_of-more kind words (suc count));
      before = before_next kind words places count place next taken w g;
      plain = fine.0;
      placed = fine.1;
    })

-- how many pieces are taken
pub length-taken : (kind : TableKind) (words : List ℕ) (places count place : ℕ) (taken : List Piece)
    → IsWalking kind words places count place taken → length taken ≡ count + 1
length-taken kind words places count place taken w =
    ap length w.chain ∙ length-map-range_with_len (λ n. piece_at kind words (visited kind words n)) 0 (count + 1)

-- ---- the length

pub length_passes : (len : ℕ) (r : Result (List Piece) TableFault) → 0 < len → len % 16 ≡ 0 → len ≤ 256
    → (if (len == 0) || not (len % 16 == 0) then Err (Length len) else (if nat_lt 256 len then Err (TooMany len) else r)) ≡ r
length_passes len r some whole few =
    ap (λ (b : Bool). if b then Err (Length len) else (if nat_lt 256 len then Err (TooMany len) else r))
    (or_from (len == 0) (not (len % 16 == 0)) (ne_eqb len 0 (λ e. absurd (omega arith))) (ap not (eq-eqb (len % 16) 0 whole)))
    ∙ ap (λ (b : Bool). if b then Err (TooMany len) else r) (le-ltb 256 len few)
