-- The store of a descriptor's word is a step of the driver's end.
use Rattle.std.proofs.Common.{◌≡◌, ℕ, ◌+◌, ◌-◌, ◌*◌, ◌/◌, ◌%◌, ◌<◌, ◌≤◌, Bool, true, false, List, [], ◌∷◌, ◌++◌, length, take, if◌then◌else◌, nat_lt, slice_index, slice_index_or, refl, sym, ap, ◌∙◌, subst, arith, inl, inr}
use Rattle.std.proofs.lemmas.Bool.{cases_eq, eq-eqb, ne_eqb, ltb-true, ltb-false}
use Rattle.std.proofs.lemmas.List.{take_all, take_more}
use Rattle.vd_model.specs.declared.chain.Piece.{Piece}
use Rattle.vd_model.specs.Chains.{needs}
use Rattle.vd_words.specs.declared.access.Access.TheVariants.{Store}
use Rattle.vd_words.specs.declared.access.Op.TheVariants as op
use Rattle.vd_ring.specs.declared.act.DriverAct.TheVariants as act
use Rattle.vd_ring.specs.declared.frame.Frame.{Frame}
use Rattle.vd_ring.specs.declared.frame.Put.{Put}
use Rattle.vd_ring.specs.declared.driver.DriverDone.{DriverDone}
use Rattle.vd_ring.specs.declared.driver.DriverNow.TheVariants as now
use Rattle.vd_ring.specs.declared.driver.DriverView.{DriverView}
use Rattle.vd_ring.specs.History.{first}
use Rattle.vd_packed_ring.specs.PackedWords.{IsLawful, put}
use Rattle.vd_packed_ring.specs.PackedChains.{direct, staged, is_tabled}
use Rattle.vd_packed_ring.specs.PackedPositions.{offer_position}
use Rattle.vd_packed_ring.specs.PackedDriver.{CanOffer, DriverNextAt, driver_after_at, driver_after, driver_act_at, plan}
use Rattle.vd_layout.specs.Begun.{DriverOp, IsDriverOp}
use Rattle.vd_layout.specs.Driver.{DriverSays}
use Rattle.vd_packed.specs.declared.driver.PackedDriver.{PackedDriver}
use Rattle.vd_packed.specs.declared.driver.DriverStep.TheVariants as step
use Rattle.vd_packed.specs.declared.ring_position.RingPosition.{RingPosition}
use Rattle.vd_packed.specs.DriverEnd.{DriverStands, DriverStepStands, DriverStepArmed, driver_owes, driver_begun, driver_left}
use Rattle.vd_packed.specs.laws.DriverEnd.{not_armed}
use Rattle.vd_packed.specs.laws.Offers.{begins_at}
use Rattle.vd_packed.specs.laws.Tabling.{direct_needs, plan_direct, plan_length, apart_at}
use Rattle.vd_packed.specs.laws.Places.{ring_position_below, same_at, forward_at}
use Rattle.vd_packed.specs.Seconds.{described_step, ring_position_after}
use Rattle.vd_packed.specs.RingPositions.{IsAt, forward}
use Rattle.vd_packed.specs.laws.DriverSteps.{Goes, size_facts, next_id_facts, none_yet, next_at, after_at, act_at, offering_some}

-- the ring_position after a store
ring_position_on : (s : RingPosition) (n q at : ℕ) → 0 < n → IsAt s n (q + (at + 1) / 2)
    → IsAt (ring_position_after s at n) n (q + (at + 1 + 1) / 2)
ring_position_on s n q at pos h = elim (cases_eq (at % 2) 0) [
  | inl e ↦ subst (λ (b : Bool). IsAt (if b then forward s 1 n else s) n (q + (at + 1 + 1) / 2)) (sym (eq-eqb (at % 2) 0 e))
      (same_at (forward s 1 n) n (q + (at + 1) / 2 + 1) (q + (at + 1 + 1) / 2) (omega arith)
      (forward_at s n (q + (at + 1) / 2) 1 pos (omega arith) h))
  | inr ne ↦ subst (λ (b : Bool). IsAt (if b then forward s 1 n else s) n (q + (at + 1 + 1) / 2)) (sym (ne_eqb (at % 2) 0 ne))
      (same_at s n (q + (at + 1) / 2) (q + (at + 1 + 1) / 2) (omega arith) h)
]

-- the step after store number j stands with one store more
stands_on : (b : Bool) (j : ℕ) (c : List Piece) (ring_position : RingPosition) (f : Frame) (o : List DriverDone) (ps : List Put)
    → CanOffer f o c → is_tabled f c ≡ false → j + 1 < 2 * length c → length (plan f o c) + 1 ≡ 2 * length c
    → nat_lt (j + 2) (2 * length c) ≡ b → ps ≡ take (j + 1) (plan f o c)
    → IsAt ring_position f.size (offer_position f o + (j + 1 + 1) / 2)
    → DriverStepStands (if b then step.Describe (j + 1) else step.Publish) c ring_position f o (now.Offering ps)
stands_on true j c ring_position f o ps can off below many eq is here = (
  can,
  omega (arith, ltb-true (j + 2) (2 * length c) eq),
  here,
  ap now.Offering is ∙ sym (offering_some j (take (j + 1) (plan f o c))),
  off,
)
stands_on false j c ring_position f o ps can off below many eq is here =
    let last : 2 * length c ≤ j + 2 = ltb-false (j + 2) (2 * length c) eq in (
      can,
      same_at ring_position f.size (offer_position f o + (j + 1 + 1) / 2) (offer_position f o + needs f.features c)
          (omega (arith, direct_needs f c can.fits.chain.0 off)) here,
      ap now.Offering (is ∙ take_all (j + 1) (plan f o c) (omega arith)),
    )

shorter : (b : Bool) (j : ℕ) (c : List Piece) → nat_lt (j + 2) (2 * length c) ≡ b → j + 1 < 2 * length c
    → driver_left (if b then step.Describe (j + 1) else step.Publish) c < 2 * length c - j + 3
shorter true j c eq below = omega (arith, ltb-true (j + 2) (2 * length c) eq)
shorter false j c eq below = omega arith

goes_on : (b : Bool) (j : ℕ) (c : List Piece) → driver_begun (if b then step.Describe (j + 1) else step.Publish) c ≡ DriverOp.offer c
goes_on true j c = refl
goes_on false j c = refl

owes_none : (b : Bool) (j m n : ℕ) → m + 0 ≤ n → m + driver_owes (if b then step.Describe (j + 1) else step.Publish) ≤ n
owes_none true j m n h = h
owes_none false j m n h = h

awake_on : (b : Bool) (j : ℕ) (armed : Bool) → armed ≡ false → DriverStepArmed (if b then step.Describe (j + 1) else step.Publish) armed
awake_on true j armed h = h
awake_on false j armed h = h

pub describe_goes : (e : PackedDriver) (v : DriverView) (j r : ℕ) → e.doing ≡ step.Describe j → DriverStands e v
    → let s = slice_index_or (plan v.frame v.done e.pieces.items) j (put 0 0) in
    Goes e (record e { at = ring_position_after e.at j e.size; doing = described_step j (length e.pieces.items) }) v op.Offer
    (Store s.place s.word) r act.Moved
describe_goes e v j r is st =
    let f : Frame = v.frame in let o : List DriverDone = v.done in let c : List Piece = e.pieces.items in
    let pl : List Put = plan f o c in
    let s : Put = slice_index_or pl j (put 0 0) in
    let ps : List Put = take j pl in
    let l : IsLawful f = st.made.lawful in
    let n : DriverStepStands (step.Describe j) c e.at f o v.doing = subst (λ t. DriverStepStands t c e.at f o v.doing) is st.doing in
    let can : CanOffer f o c = n.0 in
    let below : j + 1 < 2 * length c = n.1 in
    let len = plan_length f o c can n.4 in
    let low : j < length pl = omega arith in
    let ne = apart_at f o c j l can low in
    let none = none_yet pl j in
    let is_after = ap (λ t. driver_after_at t v op.Offer (Store s.place s.word) r) n.3 ∙ after_at v j ps s r none ne in
    let e' : PackedDriver = record e { at = ring_position_after e.at j e.size; doing = described_step j (length c) } in
    let more : ps ++ s ∷ [] ≡ take (j + 1) pl = sym (take_more pl j (put 0 0) low) in
    let ring_position : IsAt (ring_position_after e.at j e.size) f.size (offer_position f o + (j + 1 + 1) / 2) =
    subst (λ (k : ℕ). IsAt (ring_position_after e.at j k) f.size (offer_position f o + (j + 1 + 1) / 2)) (sym st.made.sized)
    (ring_position_on e.at f.size (offer_position f o) j (omega (arith, l.least)) n.2) in
    let off : e.armed ≡ false = subst (λ t. DriverStepArmed t e.armed) is st.signals.awake in
    let few : e.bells + 0 ≤ e.offered = subst (λ t. e.bells + driver_owes t ≤ e.offered) is st.signals.few in
    record {
      of_it = subst (λ t. IsDriverOp (driver_begun t c) op.Offer) (sym is) refl;
      next = subst (λ t. DriverNextAt t v op.Offer (Store s.place s.word)) (sym n.3)
          (next_at v j ps s (not_armed e v st off) none (begins_at f o c j can low));
      stands = subst (λ w. DriverStands e' w) (sym is_after) record {
        made = st.made;
        counts = st.counts;
        holds = st.holds;
        kick = st.kick;
        signals = record {
          is_armed = st.signals.is_armed;
          hears = st.signals.hears;
          rings = st.signals.rings;
          few =
              owes_none (nat_lt (j + 2) (2 * length c)) j e.bells e.offered few;
          awake =
              awake_on (nat_lt (j + 2) (2 * length c)) j e.armed off;
        };
        doing = stands_on (nat_lt (j + 2) (2 * length c)) j c (ring_position_after e.at j e.size) f o
            (ps ++ s ∷ []) can n.4 below len refl more ring_position;
      };
      is = sym (ap (λ t. driver_act_at t v op.Offer (Store s.place s.word) r) n.3 ∙ act_at v j ps s.place s.word r ne);
      left = subst (λ t. driver_left (described_step j (length c)) c < driver_left t c) (sym is)
          (shorter (nat_lt (j + 2) (2 * length c)) j c refl below);
      says = subst (λ t. DriverSays act.Moved (driver_begun t c) (driver_begun (described_step j (length c)) c) f o
          (driver_after v op.Offer (Store s.place s.word) r).done) (sym is)
          (goes_on (nat_lt (j + 2) (2 * length c)) j c, ap (λ (w : DriverView). w.done) is_after);
    }

-- the word as the end computes it
pub describe_goes_at : (e : PackedDriver) (v : DriverView) (j r id p x : ℕ) → e.doing ≡ step.Describe j → DriverStands e v
    → id ≡ slice_index e.free.items 0
    → ((n q : ℕ) → IsAt e.at n (q + (j + 1) / 2) → p ≡ (slice_index_or (staged n q (direct id e.pieces.items)) j (put 0 0)).place)
    → ((n q : ℕ) → IsAt e.at n (q + (j + 1) / 2) → x ≡ (slice_index_or (staged n q (direct id e.pieces.items)) j (put 0 0)).word)
    → Goes e (record e { at = ring_position_after e.at j e.size; doing = described_step j (length e.pieces.items) }) v op.Offer
    (Store p x) r act.Moved
describe_goes_at e v j r id p x is st first_id place word =
    let f : Frame = v.frame in let o : List DriverDone = v.done in let c : List Piece = e.pieces.items in
    let e' : PackedDriver = record e { at = ring_position_after e.at j e.size; doing = described_step j (length c) } in
    let n : DriverStepStands (step.Describe j) c e.at f o v.doing = subst (λ t. DriverStepStands t c e.at f o v.doing) is st.doing in
    let same : staged f.size (offer_position f o) (direct id c) ≡ plan f o c =
    ap (λ (i : ℕ). staged f.size (offer_position f o) (direct i c)) (first_id ∙ ap first st.holds.queued)
    ∙ sym (plan_direct f o c n.4) in
    subst (λ q. Goes e e' v op.Offer (Store q x) r act.Moved)
    (sym (place f.size (offer_position f o) n.2 ∙ ap (λ (pl : List Put). (slice_index_or pl j (put 0 0)).place) same))
    (subst (λ y. Goes e e' v op.Offer (Store (slice_index_or (plan f o c) j (put 0 0)).place y) r act.Moved)
    (sym (word f.size (offer_position f o) n.2 ∙ ap (λ (pl : List Put). (slice_index_or pl j (put 0 0)).word) same))
    (describe_goes e v j r is st))

pub describe_facts : (e : PackedDriver) (v : DriverView) (j : ℕ) → e.doing ≡ step.Describe j → DriverStands e v
    → (0 < length e.free.items) × (slice_index e.free.items 0 < 65536) × (j + 1 < 2 * length e.pieces.items)
    × (length e.pieces.items ≤ 16) × (e.at.place < e.size) × (e.size ≤ 32768)
describe_facts e v j is st =
    let f : Frame = v.frame in
    let n : DriverStepStands (step.Describe j) e.pieces.items e.at f v.done v.doing =
    subst (λ t. DriverStepStands t e.pieces.items e.at f v.done v.doing) is st.doing in
    let id = next_id_facts e v e.pieces.items st n.0 in
    let small = size_facts e v st in (
      id.0,
      omega (arith, id.1, small.1),
      n.1,
      n.0.fits.chain.1,
      omega (
        arith,
        ring_position_below e.at f.size (offer_position f v.done + (j + 1) / 2) (omega (arith, st.made.lawful.least)) n.2,
        st.made.sized,
      ),
      small.1,
    )
