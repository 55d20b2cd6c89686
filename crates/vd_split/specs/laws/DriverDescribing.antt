-- The stores of an offer's descriptors, in the ring or in a table, are steps of the driver's end.
use Rattle.std.proofs.Common.{◌≡◌, ℕ, ◌+◌, ◌*◌, ◌<◌, ◌≤◌, Bool, true, false, List, length, take, if◌then◌else◌, nat_lt, slice_index, slice_index_or, refl, sym, ap, ◌∙◌, subst, arith}
use Rattle.std.proofs.lemmas.Bool.{ltb-true, ltb-false}
use Rattle.std.proofs.lemmas.List.{take_all}
use Rattle.vd_model.specs.declared.chain.Piece.{Piece}
use Rattle.vd_words.specs.declared.access.Access.TheVariants.{Store}
use Rattle.vd_words.specs.declared.access.Op.TheVariants as op
use Rattle.vd_ring.specs.declared.act.DriverAct.TheVariants as act
use Rattle.vd_ring.specs.declared.frame.Frame.{Frame}
use Rattle.vd_ring.specs.declared.frame.Put.{Put}
use Rattle.vd_ring.specs.declared.driver.DriverDone.{DriverDone}
use Rattle.vd_ring.specs.declared.driver.DriverNow.TheVariants as now
use Rattle.vd_ring.specs.declared.driver.DriverView.{DriverView}
use Rattle.vd_ring.specs.History.{free, head}
use Rattle.vd_ring.proofs.Counts.{occurs_at}
use Rattle.vd_ring.proofs.HeldPlaces.{free_inside}
use Rattle.vd_split_ring.specs.SplitWords.{IsLawful, is_tabled, table_of, put, described}
use Rattle.vd_split_ring.specs.SplitDriver.{CanOffer, plan}
use Rattle.vd_split.specs.declared.driver.SplitDriver.{SplitDriver}
use Rattle.vd_split.specs.declared.driver.DriverStep.TheVariants as step
use Rattle.vd_split.specs.DriverEnd.{DriverStands, DriverStepStands, driver_begun, driver_left, DriverStepArmed}
use Rattle.vd_split.specs.Parts.{table_place, tabled, described_step, tabled_step}
use Rattle.vd_split.specs.laws.Plans.{some_free, enough, plan_direct, direct_length, plan_tabled, tabled_length}
use Rattle.vd_split.specs.laws.DriverSteps.{Goes, offering_some, Follows, word_goes}

-- ---- the store of a descriptor word

described_follows : (e : SplitDriver) (v : DriverView) (at : ℕ) (b : Bool) → e.doing ≡ step.Describe at
    → CanOffer v.frame v.done e.pieces.items → is_tabled v.frame e.pieces.items ≡ false → at < 2 * length e.pieces.items
    → length (plan v.frame v.done e.pieces.items) ≡ 2 * length e.pieces.items → nat_lt (at + 1) (2 * length e.pieces.items) ≡ b
    → Follows e v at (if b then step.Describe (at + 1) else step.Enter)
described_follows e v at true is can off below len eq =
    let low = ltb-true (at + 1) (2 * length e.pieces.items) eq in record {
      stands = (can, off, low, sym (offering_some at (take (at + 1) (plan v.frame v.done e.pieces.items))));
      awake = λ h. h;
      owes = refl;
      was = ap (λ t. driver_begun t e.pieces.items) is;
      begun = refl;
      left = subst (λ t. driver_left (step.Describe (at + 1)) e.pieces.items < driver_left t e.pieces.items) (sym is) (omega arith);
    }
described_follows e v at false is can off below len eq =
    let high = ltb-false (at + 1) (2 * length e.pieces.items) eq in record {
      stands = (can, ap now.Offering (take_all (at + 1) (plan v.frame v.done e.pieces.items) (omega arith)));
      awake = λ h. h;
      owes = refl;
      was = ap (λ t. driver_begun t e.pieces.items) is;
      begun = refl;
      left = subst (λ t. 4 < driver_left t e.pieces.items) (sym is) (omega arith);
    }

-- the word as the end computes it
pub describe_goes : (e : SplitDriver) (v : DriverView) (at r p x : ℕ) → e.doing ≡ step.Describe at → DriverStands e v
    → p ≡ (slice_index_or (described 0 (take (length e.pieces.items) e.free.items) e.pieces.items) at (put 0 0)).place
    → x ≡ (slice_index_or (described 0 (take (length e.pieces.items) e.free.items) e.pieces.items) at (put 0 0)).word
    → Goes e (record e { doing = described_step at (length e.pieces.items) }) v op.Offer (Store p x) r act.Moved
describe_goes e v at r p x is st h k =
    let f : Frame = v.frame in let o : List DriverDone = v.done in let c : List Piece = e.pieces.items in
    let l : IsLawful f = st.made.lawful in
    let e' : SplitDriver = record e { doing = described_step at (length c) } in
    let n : DriverStepStands (step.Describe at) c f o v.doing = subst (λ t. DriverStepStands t c f o v.doing) is st.doing in
    let off : e.armed ≡ false = subst (λ t. DriverStepArmed t e.armed) is st.signals.awake in
    let len = direct_length f o c l n.0 n.1 in
    let same : described 0 (take (length c) e.free.items) c ≡ plan f o c =
    ap (λ (fr : List ℕ). described 0 (take (length c) fr) c) st.holds.queued ∙ sym (plan_direct f o c l n.0 n.1) in
    subst (λ q. Goes e e' v op.Offer (Store q x) r act.Moved)
    (sym (h ∙ ap (λ (pl : List Put). (slice_index_or pl at (put 0 0)).place) same))
    (subst (λ y. Goes e e' v op.Offer (Store (slice_index_or (plan f o c) at (put 0 0)).place y) r act.Moved)
    (sym (k ∙ ap (λ (pl : List Put). (slice_index_or pl at (put 0 0)).word) same))
    (word_goes e v at r (described_step at (length c)) st n.0 off (omega (arith, n.2)) n.3
    (described_follows e v at (nat_lt (at + 1) (2 * length c)) is n.0 n.1 n.2 len refl)))

pub direct_room : (e : SplitDriver) (v : DriverView) (at : ℕ) → e.doing ≡ step.Describe at → DriverStands e v
    → (length e.pieces.items ≤ length e.free.items) × (at < 2 * length e.pieces.items)
direct_room e v at is st =
    let c : List Piece = e.pieces.items in
    let n : DriverStepStands (step.Describe at) c v.frame v.done v.doing =
    subst (λ t. DriverStepStands t c v.frame v.done v.doing) is st.doing in
    (omega (arith, enough v.frame v.done c n.0 n.1, ap (λ (fr : List ℕ). length fr) st.holds.queued), n.2)

-- ---- the store of a word of a table, or of the descriptor that names it

tabled_follows : (e : SplitDriver) (v : DriverView) (at : ℕ) (b : Bool) → e.doing ≡ step.Table at
    → CanOffer v.frame v.done e.pieces.items → is_tabled v.frame e.pieces.items ≡ true → at < 2 * length e.pieces.items + 2
    → length (plan v.frame v.done e.pieces.items) ≡ 2 * length e.pieces.items + 2 → nat_lt (at + 1) (2 * length e.pieces.items + 2) ≡ b
    → Follows e v at (if b then step.Table (at + 1) else step.Enter)
tabled_follows e v at true is can on below len eq =
    let low = ltb-true (at + 1) (2 * length e.pieces.items + 2) eq in record {
      stands = (can, on, low, sym (offering_some at (take (at + 1) (plan v.frame v.done e.pieces.items))));
      awake = λ h. h;
      owes = refl;
      was = ap (λ t. driver_begun t e.pieces.items) is;
      begun = refl;
      left = subst (λ t. driver_left (step.Table (at + 1)) e.pieces.items < driver_left t e.pieces.items) (sym is) (omega arith);
    }
tabled_follows e v at false is can on below len eq =
    let high = ltb-false (at + 1) (2 * length e.pieces.items + 2) eq in record {
      stands = (can, ap now.Offering (take_all (at + 1) (plan v.frame v.done e.pieces.items) (omega arith)));
      awake = λ h. h;
      owes = refl;
      was = ap (λ t. driver_begun t e.pieces.items) is;
      begun = refl;
      left = subst (λ t. 4 < driver_left t e.pieces.items) (sym is) (omega arith);
    }

-- the word as the end computes it, at the first of its free places
pub table_goes : (e : SplitDriver) (v : DriverView) (at h r p x : ℕ) → e.doing ≡ step.Table at → DriverStands e v
    → h ≡ slice_index e.free.items 0
    → p ≡ (slice_index_or (tabled (table_place e.size h) h e.pieces.items) at (put 0 0)).place
    → x ≡ (slice_index_or (tabled (table_place e.size h) h e.pieces.items) at (put 0 0)).word
    → Goes e (record e { doing = tabled_step at (length e.pieces.items) }) v op.Offer (Store p x) r act.Moved
table_goes e v at h r p x is st head place word =
    let f : Frame = v.frame in let o : List DriverDone = v.done in let c : List Piece = e.pieces.items in
    let l : IsLawful f = st.made.lawful in
    let e' : SplitDriver = record e { doing = tabled_step at (length c) } in
    let n : DriverStepStands (step.Table at) c f o v.doing = subst (λ t. DriverStepStands t c f o v.doing) is st.doing in
    let off : e.armed ≡ false = subst (λ t. DriverStepArmed t e.armed) is st.signals.awake in
    let len = tabled_length f o c l n.0 n.1 in
    let same : tabled (table_place e.size h) h c ≡ plan f o c =
    ap (λ m. tabled (table_place m h) h c) st.made.sized ∙ ap (λ m. tabled (table_of f m) m c)
    (head ∙ ap (λ (fr : List ℕ). slice_index fr 0) st.holds.queued) ∙ sym (plan_tabled f o c l n.0 n.1) in
    subst (λ q. Goes e e' v op.Offer (Store q x) r act.Moved)
    (sym (place ∙ ap (λ (pl : List Put). (slice_index_or pl at (put 0 0)).place) same))
    (subst (λ y. Goes e e' v op.Offer (Store (slice_index_or (plan f o c) at (put 0 0)).place y) r act.Moved)
    (sym (word ∙ ap (λ (pl : List Put). (slice_index_or pl at (put 0 0)).word) same))
    (word_goes e v at r (tabled_step at (length c)) st n.0 off (omega (arith, n.2)) n.3
    (tabled_follows e v at (nat_lt (at + 1) (2 * length c + 2)) is n.0 n.1 n.2 len refl)))

-- the head is a place of the ring
pub table_room : (e : SplitDriver) (v : DriverView) (at : ℕ) → e.doing ≡ step.Table at → DriverStands e v
    → (0 < length e.free.items) × (slice_index e.free.items 0 < e.size) × (e.size ≤ 32768) × (at < 2 * length e.pieces.items + 2)
table_room e v at is st =
    let f : Frame = v.frame in let o : List DriverDone = v.done in let c : List Piece = e.pieces.items in
    let n : DriverStepStands (step.Table at) c f o v.doing = subst (λ t. DriverStepStands t c f o v.doing) is st.doing in
    let some = some_free f o c n.0 in
    let inside = free_inside f o (slice_index (free f o) 0) st.holds.held (occurs_at (free f o) 0 0 some) in (
      omega (arith, some, ap (λ (fr : List ℕ). length fr) st.holds.queued),
      omega (arith, inside, ap (λ (fr : List ℕ). slice_index fr 0) st.holds.queued, st.made.sized),
      omega (arith, st.made.sized, st.made.lawful.small),
      n.2,
    )
