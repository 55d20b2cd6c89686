-- What one step of the driver's end owes in a view, and what the stores of an offer have in common.
use Rattle.std.proofs.Common.{◌≡◌, ◌≢◌, ℕ, zero, suc, ◌+◌, ◌<◌, ◌≤◌, Bool, List, [], ◌∷◌, ◌++◌, length, take, None, if◌then◌else◌, slice_index, refl, sym, ap, subst, arith, inl}
use Rattle.std.proofs.lemmas.Bool.{ne_eqb}
use Rattle.vd_model.specs.declared.chain.Piece.{Piece}
use Rattle.vd_model.specs.declared.features.Features.{Features}
use Rattle.vd_model.specs.Chains.{needs}
use Rattle.vd_words.specs.declared.access.Access.{Access}
use Rattle.vd_words.specs.declared.access.Access.TheVariants.{Store}
use Rattle.vd_words.specs.declared.access.Op.{Op}
use Rattle.vd_words.specs.declared.access.Op.TheVariants as op
use Rattle.vd_words.specs.Model.{PortModel}
use Rattle.vd_ring.specs.declared.act.DriverAct.{DriverAct}
use Rattle.vd_ring.specs.declared.act.DriverAct.TheVariants as act
use Rattle.vd_ring.specs.declared.frame.Put.{Put}
use Rattle.vd_ring.specs.declared.driver.DriverNow.TheVariants as now
use Rattle.vd_ring.specs.declared.driver.DriverView.{DriverView}
use Rattle.vd_ring.specs.History.{offers, next_head, first}
use Rattle.vd_ring.proofs.HeldInside.{next_low}
use Rattle.vd_packed_ring.specs.PackedWords.{second_word}
use Rattle.vd_packed_ring.specs.PackedPositions.{offer_position}
use Rattle.vd_packed_ring.specs.PackedDriver.{CanOffer, Begins, DriverNextAt, DriverNext, driver_after_at, driver_after, driver_act, driver_act_at, driver_offers, stores}
use Rattle.vd_packed_ring.proofs.Positions.{free_some}
use Rattle.vd_layout.specs.Begun.{IsDriverOp}
use Rattle.vd_layout.specs.Driver.{DriverSays, IsDriverStep}
use Rattle.vd_packed.specs.declared.driver.PackedDriver.{PackedDriver}
use Rattle.vd_packed.specs.DriverEnd.{DriverStands, offering, driver_begun, driver_left, packed_driver}
use Rattle.vd_packed.specs.Tabled.{needed}

-- what one step of the end owes in a view
pub record Goes (e e' : PackedDriver) (v : DriverView) (o : Op) (a : Access) (r : ℕ) (answer : DriverAct) : Type 0 where
  pub of_it : IsDriverOp (driver_begun e.doing e.pieces.items) o
  pub next : DriverNext v o a
  pub stands : DriverStands e' (driver_after v o a r)
  pub is : answer ≡ driver_act v o a r
  pub left : driver_left e'.doing e'.pieces.items < driver_left e.doing e.pieces.items
  pub says : DriverSays answer (driver_begun e.doing e.pieces.items) (driver_begun e'.doing e'.pieces.items) v.frame v.done
      (driver_after v o a r).done

pub made : {P : Type 0} (port : PortModel P) (p q : P) (e e' : PackedDriver) (v : DriverView) (o : Op) (a : Access) (r : ℕ)
    (answer : DriverAct) → Goes e e' v o a r answer → port.moves p o a r q → IsDriverStep port packed_driver p q v e e' answer
made port p q e e' v o a r answer go moved = record {
  op = o;
  access = a;
  got = r;
  of_it = go.of_it;
  was_next = go.next;
  moved = moved;
  now_stands = go.stands;
  is_answer = go.is;
  left = go.left;
  says = go.says;
}

pub size_facts : (e : PackedDriver) (v : DriverView) → DriverStands e v → (0 < e.size) × (e.size ≤ 32768) × (e.size ≡ v.frame.size)
size_facts e v st = (omega (arith, st.made.sized, st.made.lawful.least), omega (arith, st.made.sized, st.made.lawful.most), st.made.sized)

-- an id is free, and the next one is below the size
pub next_id_facts : (e : PackedDriver) (v : DriverView) (c : List Piece) → DriverStands e v → CanOffer v.frame v.done c
    → (0 < length e.free.items) × (slice_index e.free.items 0 < e.size) × (slice_index e.free.items 0 ≡ next_head v.frame v.done)
next_id_facts e v c st can =
    let some = free_some v.frame v.done c st.made.lawful st.holds.held can.fits can.room in
    let same : slice_index e.free.items 0 ≡ next_head v.frame v.done = ap first st.holds.queued in (
      omega (arith, some, ap (λ (l : List ℕ). length l) st.holds.queued),
      omega (arith, same, next_low v.frame v.done (omega (arith, st.made.lawful.least)), st.made.sized),
      same,
    )

-- ---- the store of a descriptor's word

pub none_yet : (pl : List Put) (at : ℕ) → at ≡ 0 → take at pl ≡ []
none_yet pl at e = ap (λ k. take k pl) e

pub next_at : (v : DriverView) (at : ℕ) (ps : List Put) (s : Put) → v.armed ≡ None → (at ≡ 0 → ps ≡ [])
    → Begins v.frame v.done (ps ++ s ∷ []) → DriverNextAt (offering at ps) v op.Offer (Store s.place s.word)
next_at v zero ps s armed none h = (armed, subst (λ (us : List Put). Begins v.frame v.done (us ++ s ∷ [])) (none refl) h)
next_at v (suc n) ps s armed none h = inl h

pub after_at : (v : DriverView) (at : ℕ) (ps : List Put) (s : Put) (r : ℕ) → (at ≡ 0 → ps ≡ [])
    → s.place ≢ second_word v.frame.size (offer_position v.frame v.done)
    → driver_after_at (offering at ps) v op.Offer (Store s.place s.word) r ≡ stores v s.place s.word (now.Offering (ps ++ s ∷ []))
after_at v zero ps s r none ne = ap (λ (us : List Put). stores v s.place s.word (now.Offering (us ++ s ∷ []))) (sym (none refl))
after_at v (suc n) ps s r none ne =
    ap (λ (b : Bool). if b then driver_offers v ps s.place s.word else stores v s.place s.word (now.Offering (ps ++ s ∷ [])))
    (ne_eqb s.place (second_word v.frame.size (offer_position v.frame v.done)) ne)

pub act_at : (v : DriverView) (at : ℕ) (ps : List Put) (p x r : ℕ) → p ≢ second_word v.frame.size (offer_position v.frame v.done)
    → driver_act_at (offering at ps) v op.Offer (Store p x) r ≡ act.Moved
act_at v zero ps p x r ne = refl
act_at v (suc n) ps p x r ne = ap (λ (b : Bool). if b then act.Offered (length (offers v.done)) else act.Moved)
    (ne_eqb p (second_word v.frame.size (offer_position v.frame v.done)) ne)

pub offering_some : (n : ℕ) (ps : List Put) → offering (n + 1) ps ≡ now.Offering ps
offering_some n ps = ap (λ m. offering m ps) (let e : n + 1 ≡ suc n = omega arith in e)

-- what the end counts for a chain is what it takes
pub needed_is : (e : PackedDriver) (v : DriverView) (c : List Piece) → DriverStands e v
    → needed e.features.indirect (length c) ≡ needs v.frame.features c
needed_is e v c st = ap (λ (x : Features). needed x.indirect (length c)) st.made.featured
