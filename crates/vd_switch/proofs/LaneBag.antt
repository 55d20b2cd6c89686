-- One access of a party is at most one step of a lane's bag.
use Rattle.std.proofs.Common.{◌≡◌, ◌≢◌, ◌⊎◌, ℕ, ◌+◌, ◌<◌, ◌≤◌, List, [], ◌∷◌, ◌++◌, length, slice_set, refl, sym, ◌∙◌, ap, subst, arith, inl, inr}
use mathlib.Core.List.{IsPrefix}
use Rattle.std.proofs.lemmas.Bool.{cases_lt, cases_eq}
use Rattle.std.proofs.lemmas.List.{length_push, length-map, length-take, get_or_append_left, get_or_push, get_or-set_same, get_or-set_other}
use Rattle.std.proofs.Math.ListN.{length-set, length-append}
use Rattle.vd_model.specs.declared.chain.Piece.{Piece}
use Rattle.vd_ring.specs.declared.driver.DriverDone.{DriverDone}
use Rattle.vd_ring.specs.declared.driver.DriverDone.TheVariants as driver
use Rattle.vd_ring.specs.declared.device.DeviceDone.{DeviceDone}
use Rattle.vd_ring.specs.declared.device.DeviceDone.TheVariants as device
use Rattle.vd_ring.specs.declared.frame.Used.{Used}
use Rattle.vd_ring.specs.Account.{Account, Lawful}
use Rattle.vd_ring.specs.Bag.{State, offered, running, state, Stands}
use Rattle.vd_ring.specs.History.{offers, takes, gives, used_at}
use Rattle.vd_bus.specs.Acts.{IsOneActMore}
use Rattle.vd_switch.specs.LaneBag.{OffersOne, BeginsOne, MayOfferOne, MayBeginOne}

-- no more chains are begun than were offered
pub begun_few : {X : Type 0} (a : Account X) → Lawful a → length a.begun ≤ length a.offers
begun_few {X} a law =
    omega (
      arith,
      length-map a.begun (λ (x : X × ℕ). x.0),
      ap (λ (cs : List X). length cs) law.begun,
      length-take (length a.begun) a.offers,
    )

offers_one : (n m : ℕ) (g : List Used) (b : List State) → m ≤ n → ((j : ℕ) → j < length g → (used_at g j).number < m) → Stands n m g b
    → OffersOne n m g b
offers_one n m g b few low st =
    let old = λ (k : ℕ) (h : k < length b). get_or_append_left b (offered ∷ []) offered k h in record {
      bag = b ++ offered ∷ [];
      offers = (sym st.all, refl);
      stands = record {
        all = omega (arith, length_push b offered, st.all);
        waits = λ k above below. elim (cases_lt k (length b)) [
          | inl h ↦ old k h ∙ st.waits k above (omega (arith, st.all))
          | inr h ↦ get_or_push b offered offered k (omega (arith, st.all))
        ];
        runs = λ k below none. old k (omega (arith, st.all)) ∙ st.runs k below none;
        done = λ j h. old (used_at g j).number (omega (arith, st.all, low j h)) ∙ st.done j h;
      };
    }

begins_one : (n m : ℕ) (g : List Used) (b : List State) → m < n → ((j : ℕ) → j < length g → (used_at g j).number < m) → Stands n m g b
    → BeginsOne n m g b
begins_one n m g b few low st =
    let inside : m < length b = omega (arith, st.all) in
    let other = λ (k : ℕ) (ne : k ≢ m). get_or-set_other b m k running offered ne in record {
      bag = slice_set b m running;
      begins = (inside, st.waits m (omega arith) few, refl);
      stands = record {
        all = length-set b m running ∙ st.all;
        waits = λ k above below. other k (λ e. omega arith) ∙ st.waits k (omega arith) below;
        runs = λ k below none. elim (cases_eq k m) [
          | inl e ↦ subst (λ j. state (slice_set b m running) j ≡ running) (sym e) (get_or-set_same b m running offered inside)
          | inr ne ↦ other k ne ∙ st.runs k (elim (cases_lt k m) [ inl a ↦ a | inr a ↦ absurd (ne (omega arith)) ]) none
        ];
        done = λ j a. other (used_at g j).number (λ e. omega (arith, low j a)) ∙ st.done j a;
      };
    }

-- an access of the guest
pub may_offer : {X : Type 0} (a : Account X) (o o' : List DriverDone) → Lawful a → length a.offers ≡ length (offers o) → IsOneActMore o o'
    → MayOfferOne (length (offers o)) (length a.begun) a.given (length (offers o'))
may_offer a o o' law is (inl same) = inl (ap (λ (x : List DriverDone). length (offers x)) same)
may_offer a o o' law is (inr (act, more)) = offer_at act more
  where
    offer_at : (act : DriverDone) → o' ≡ act ∷ o → MayOfferOne (length (offers o)) (length a.begun) a.given (length (offers o'))
    offer_at (driver.Offer c) more = inr (
      ap (λ (x : List DriverDone). length (offers x)) more ∙ length_push (offers o) c,
      λ b st. offers_one (length (offers o)) (length a.begun) a.given b
          (omega (arith, begun_few a law, is)) law.inside st,
    )
    offer_at (driver.Collect us) more = inl (ap (λ (x : List DriverDone). length (offers x)) more)
    offer_at (driver.StoreCommand h i x) more = inl (ap (λ (x : List DriverDone). length (offers x)) more)
    offer_at (driver.LoadAck k x) more = inl (ap (λ (x : List DriverDone). length (offers x)) more)

-- an access of the device of the ring on which chains are begun: one more is taken there, or none
pub one_taken : (s s' : List DeviceDone) → IsPrefix (takes s) (takes s') → IsOneActMore s s'
    → (length (takes s') ≡ length (takes s)) ⊎ (length (takes s') ≡ length (takes s) + 1)
one_taken s s' grows (inl same) = inl (ap (λ (x : List DeviceDone). length (takes x)) same)
one_taken s s' grows (inr (act, more)) = taken_at act more
  where
    taken_at : (act : DeviceDone) → s' ≡ act ∷ s
        → (length (takes s') ≡ length (takes s)) ⊎ (length (takes s') ≡ length (takes s) + 1)
    taken_at (device.Take c h) more = inr (ap (λ (x : List DeviceDone). length (takes x)) more ∙ length_push (takes s) c)
    taken_at (device.Give us) more = inl (ap (λ (x : List DeviceDone). length (takes x)) more)
    taken_at device.Rest more = inl (omega (
      arith,
      ap (λ (x : List DeviceDone). length (takes x)) more,
      length-take (length (gives s)) (takes s),
      ap (λ (cs : List (List Piece)). length cs) grows.1,
      length-append (takes s) grows.0,
    ))
    taken_at (device.StoreAck h x) more = inl (ap (λ (x : List DeviceDone). length (takes x)) more)
    taken_at (device.LoadCommand k i x) more = inl (ap (λ (x : List DeviceDone). length (takes x)) more)

-- where one more is begun after an access, and the account after it is lawful
pub may_begin : {X : Type 0} (a a' : Account X) → Lawful a → Lawful a' → a'.offers ≡ a.offers
    → (length a'.begun ≡ length a.begun) ⊎ (length a'.begun ≡ length a.begun + 1)
    → MayBeginOne (length a.offers) (length a.begun) a.given (length a'.begun)
may_begin a a' law law' same (inl e) = inl e
may_begin {X} a a' law law' same (inr e) = inr (
  e,
  λ b st. begins_one (length a.offers) (length a.begun) a.given b
      (omega (arith, begun_few a' law', ap (λ (cs : List X). length cs) same)) law.inside st,
)
