-- What one step of the driver's end owes in a view, and the store of a word of a chain that may be offered.
use Rattle.std.proofs.Common.{◌≡◌, ◌≢◌, ℕ, zero, suc, ◌+◌, ◌/◌, ◌<◌, ◌≤◌, Bool, false, List, [], ◌∷◌, ◌++◌, length, take, None, if◌then◌else◌, slice_index_or, refl, sym, ap, ◌∙◌, subst, arith, inl}
use Rattle.std.specs.List.{All}
use Rattle.std.proofs.lemmas.Bool.{ne_eqb}
use Rattle.std.proofs.lemmas.List.{length-set, take_more}
use Rattle.std.proofs.lemmas.Nat.{mod_below}
use Rattle.vd_model.specs.declared.chain.Piece.{Piece}
use Rattle.vd_words.specs.declared.access.Access.{Access}
use Rattle.vd_words.specs.declared.access.Access.TheVariants.{Store}
use Rattle.vd_words.specs.declared.access.Op.{Op}
use Rattle.vd_words.specs.declared.access.Op.TheVariants as op
use Rattle.vd_words.specs.Model.{PortModel}
use Rattle.vd_ring.specs.declared.act.DriverAct.{DriverAct}
use Rattle.vd_ring.specs.declared.act.DriverAct.TheVariants as act
use Rattle.vd_ring.specs.declared.frame.Frame.{Frame}
use Rattle.vd_ring.specs.declared.frame.Put.{Put}
use Rattle.vd_ring.specs.declared.driver.DriverDone.{DriverDone}
use Rattle.vd_ring.specs.declared.driver.DriverNow.TheVariants as now
use Rattle.vd_ring.specs.declared.driver.DriverView.{DriverView}
use Rattle.vd_ring.specs.History.{offers, occurs}
use Rattle.vd_ring.proofs.Counts.{occurs_at}
use Rattle.vd_ring.proofs.HeldPlaces.{free_inside}
use Rattle.vd_split_ring.specs.SplitWords.{IsLawful, IsDescriptors, avail_from, lane_word, entry_lane, put}
use Rattle.vd_split_ring.specs.SplitDriver.{CanOffer, Begins, DriverNextAt, DriverNext, driver_after_at, driver_after, driver_act, driver_act_at, plan, stores, staged}
use Rattle.vd_split_ring.proofs.Areas.{area_no_descriptor}
use Rattle.vd_layout.specs.Begun.{DriverOp, IsDriverOp}
use Rattle.vd_layout.specs.Driver.{DriverSays, IsDriverStep}
use Rattle.vd_split.specs.declared.driver.SplitDriver.{SplitDriver}
use Rattle.vd_split.specs.declared.driver.Slot.{Slot}
use Rattle.vd_split.specs.declared.driver.DriverStep.{DriverStep}
use Rattle.vd_split.specs.DriverEnd.{HoldsPlaces, DriverStands, DriverStepStands, offering, driver_begun, driver_left, split_driver, DriverStepArmed, driver_owes}
use Rattle.vd_split.specs.laws.DriverEnd.{not_armed}
use Rattle.vd_split.specs.laws.Plans.{plan_inside, begins_at, copies_other}

-- what one step of the end owes in a view
pub record Goes (e e' : SplitDriver) (v : DriverView) (o : Op) (a : Access) (r : ℕ) (answer : DriverAct) : Type 0 where
  pub next : DriverNext v o a
  pub of_it : IsDriverOp (driver_begun e.doing e.pieces.items) o
  pub stands : DriverStands e' (driver_after v o a r)
  pub is : answer ≡ driver_act v o a r
  pub left : driver_left e'.doing e'.pieces.items < driver_left e.doing e.pieces.items
  pub says : DriverSays answer (driver_begun e.doing e.pieces.items) (driver_begun e'.doing e'.pieces.items) v.frame v.done
      (driver_after v o a r).done

pub made : {P : Type 0} (port : PortModel P) (p q : P) (e e' : SplitDriver) (v : DriverView) (o : Op) (a : Access) (r : ℕ)
    (answer : DriverAct) → Goes e e' v o a r answer → port.moves p o a r q → IsDriverStep port split_driver p q v e e' answer
made port p q e e' v o a r answer go moved = record {
  op = o;
  access = a;
  got = r;
  was_next = go.next;
  moved = moved;
  now_stands =
      go.stands;
  is_answer = go.is;
  of_it = go.of_it;
  left = go.left;
  says = go.says;
}

pub small_places : (queue : List ℕ) (capacity : ℕ) (slots : List Slot) (f : Frame) (o : List DriverDone)
    → HoldsPlaces queue capacity slots f o → IsLawful f → All (λ p. p < 32768) queue
small_places queue capacity slots f o h l = λ k d a.
    let here = occurs_at queue k d a in
    let inside = free_inside f o (slice_index_or queue k d) h.held (subst (λ fr. 1 ≤ occurs (slice_index_or queue k d) fr) h.queued here) in
    omega (arith, inside, l.small)

-- ---- the store of a descriptor word

pub offering_some : (n : ℕ) (ps : List Put) → offering (n + 1) ps ≡ now.Offering ps
offering_some n ps = ap (λ m. offering m ps) (let e : n + 1 ≡ suc n = omega arith in e)

next_at : (v : DriverView) (at : ℕ) (ps : List Put) (s : Put) → v.armed ≡ None → (at ≡ 0 → ps ≡ [])
    → Begins v.frame v.done (ps ++ s ∷ []) → DriverNextAt (offering at ps) v op.Offer (Store s.place s.word)
next_at v zero ps s armed none h = (armed, subst (λ (us : List Put). Begins v.frame v.done (us ++ s ∷ [])) (none refl) h)
next_at v (suc n) ps s armed none h = inl h

-- lane number k of the driver area is one of its words
pub lane_below : (f : Frame) (k : ℕ) → IsLawful f → entry_lane f k / 4 < (f.size + 6) / 4
lane_below f k l = omega (arith, mod_below k f.size l.some_place)

-- a word of a chain is no ring entry
entry_apart : (f : Frame) (o : List DriverDone) (p : ℕ) → IsLawful f → IsDescriptors f p
    → p ≢ lane_word f (entry_lane f (length (offers o)))
entry_apart f o p l own e =
    let below = lane_below f (length (offers o)) l in
    area_no_descriptor f p (omega arith) (omega arith) own

stage_at : (v : DriverView) (ps : List Put) (s : Put) → IsLawful v.frame → IsDescriptors v.frame s.place
    → staged v ps s.place s.word ≡ now.Offering (ps ++ s ∷ [])
stage_at v ps s l own = ap (λ (b : Bool). if b then now.Entered ps else now.Offering (ps ++ s ∷ []))
    (ne_eqb s.place (lane_word v.frame (entry_lane v.frame (length (offers v.done)))) (entry_apart v.frame v.done s.place l own))

after_at : (v : DriverView) (at : ℕ) (ps : List Put) (s : Put) (r : ℕ) → (at ≡ 0 → ps ≡ []) → IsLawful v.frame
    → IsDescriptors v.frame s.place → driver_after_at (offering at ps) v op.Offer (Store s.place s.word) r ≡ stores v s.place s.word
    (now.Offering (ps ++ s ∷ []))
after_at v zero ps s r none l own = ap (λ (us : List Put). stores v s.place s.word (now.Offering (us ++ s ∷ []))) (sym (none refl))
after_at v (suc n) ps s r none l own = ap (λ t. stores v s.place s.word t) (stage_at v ps s l own)

act_at : (v : DriverView) (at : ℕ) (ps : List Put) (p x r : ℕ) → driver_act_at (offering at ps) v op.Offer (Store p x) r ≡ act.Moved
act_at v zero ps p x r = refl
act_at v (suc n) ps p x r = refl

none_yet : (pl : List Put) (at : ℕ) → at ≡ 0 → take at pl ≡ []
none_yet pl at e = ap (λ k. take k pl) e

-- the step t follows the store of word number `at` of the chain's
pub record Follows (e : SplitDriver) (v : DriverView) (at : ℕ) (t : DriverStep) : Type 0 where
  pub stands : DriverStepStands t e.pieces.items v.frame v.done (now.Offering (take (at + 1) (plan v.frame v.done e.pieces.items)))
  pub awake : e.armed ≡ false → DriverStepArmed t e.armed
  pub owes : driver_owes t ≡ 0
  pub was : driver_begun e.doing e.pieces.items ≡ DriverOp.offer e.pieces.items
  pub begun : driver_begun t e.pieces.items ≡ DriverOp.offer e.pieces.items
  pub left : driver_left t e.pieces.items < driver_left e.doing e.pieces.items

-- the store of word number `at` of a chain that may be offered
pub word_goes : (e : SplitDriver) (v : DriverView) (at r : ℕ) (t : DriverStep) → DriverStands e v → CanOffer v.frame v.done e.pieces.items
    → e.armed ≡ false → at < length (plan v.frame v.done e.pieces.items)
    → v.doing ≡ offering at (take at (plan v.frame v.done e.pieces.items)) → Follows e v at t
    → let s = slice_index_or (plan v.frame v.done e.pieces.items) at (put 0 0) in
    Goes e (record e { doing = t }) v op.Offer (Store s.place s.word) r act.Moved
word_goes e v at r t st can off below was fol =
    let f : Frame = v.frame in let o : List DriverDone = v.done in let c : List Piece = e.pieces.items in
    let pl : List Put = plan f o c in
    let s : Put = slice_index_or pl at (put 0 0) in
    let ps : List Put = take at pl in
    let l : IsLawful f = st.made.lawful in
    let own : IsDescriptors f s.place = plan_inside f o c at l st.holds.held can below in
    let more : ps ++ s ∷ [] ≡ take (at + 1) pl = sym (take_more pl at (put 0 0) below) in
    let none = none_yet pl at in
    let is_after = ap (λ d. driver_after_at d v op.Offer (Store s.place s.word) r) was ∙ after_at v at ps s r none l own in
    let e' : SplitDriver = record e { doing = t } in
    record {
      next = subst (λ d. DriverNextAt d v op.Offer (Store s.place s.word)) (sym was)
          (next_at v at ps s (not_armed e v st off) none (begins_at f o c at can below));
      stands = subst (λ w. DriverStands e' w) (sym is_after) record {
        made = st.made;
        counts = st.counts;
        holds = st.holds;
        area = copies_other (avail_from f) ((f.size + 6) / 4) e.area.items v.stored s.place s.word st.area
            (λ i a z. area_no_descriptor f s.place (omega arith) (omega arith) own);
        wide = length-set v.stored s.place s.word ∙ st.wide;
        shown = st.shown;
        kick = st.kick;
        signals = record {
          is_armed = st.signals.is_armed;
          hears = st.signals.hears;
          rings = st.signals.rings;
          few =
              omega (arith, st.signals.few, fol.owes);
          awake = fol.awake off;
        };
        doing = subst (λ (us : List Put). DriverStepStands t c f o (now.Offering us)) (sym more) fol.stands;
      };
      is = sym (ap (λ d. driver_act_at d v op.Offer (Store s.place s.word) r) was ∙ act_at v at ps s.place s.word r);
      of_it = subst (λ b. IsDriverOp b op.Offer) (sym fol.was) refl;
      left = fol.left;
      says = subst (λ b. DriverSays act.Moved b (driver_begun t c) f o (driver_after v op.Offer (Store s.place s.word) r).done)
          (sym fol.was) (fol.begun, ap (λ (w : DriverView). w.done) is_after);
    }
