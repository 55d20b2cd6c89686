-- What an offer does to the bag of the ring's chains.
use Rattle.std.proofs.Common.{ℕ, ◌<◌, List, [], ◌∷◌, ◌++◌, length, refl, ◌∙◌, sym, arith, inl, inr}
use Rattle.std.proofs.lemmas.Bool.{cases_lt}
use Rattle.std.proofs.lemmas.List.{length_push, get_or_append_left, get_or_push}
use Rattle.vd_model.specs.declared.chain.Piece.{Piece}
use Rattle.vd_ring.specs.declared.frame.Frame.{Frame}
use Rattle.vd_ring.specs.declared.driver.DriverDone.{DriverDone}
use Rattle.vd_ring.specs.declared.driver.DriverDone.TheVariants.{Offer}
use Rattle.vd_ring.specs.declared.device.DeviceDone.{DeviceDone}
use Rattle.vd_ring.specs.History.{offers, gives, used_at}
use Rattle.vd_ring.specs.Bag.{State, offered, IsOffer}
use Rattle.vd_ring.specs.Lists.{Lists}
use Rattle.vd_ring.specs.Steps.{StandsFor}
use Rattle.vd_ring.proofs.ListSteps.{given_below}

pub offer_step : (f : Frame) (o : List DriverDone) (s : List DeviceDone) (c : List Piece) (b : List State) → Lists f o s
    → StandsFor o s b → (b2 : List State) × IsOffer (length (offers o)) b b2 × StandsFor (Offer c ∷ o) s b2
offer_step f o s c b l st =
    let longer = length_push (offers o) c in
    let old = λ (k : ℕ) (h : k < length b). get_or_append_left b (offered ∷ []) offered k h in (
      b ++ offered ∷ [],
      (sym st.all, refl),
      record {
        all = omega (arith, length_push b offered, st.all);
        waits = λ k low high. elim (cases_lt k (length b)) [
          | inl h ↦ old k h ∙ st.waits k low (omega (arith, st.all))
          | inr h ↦ get_or_push b offered offered k (omega (arith, st.all))
        ];
        runs = λ k low none. old k (omega (arith, st.all, l.some)) ∙ st.runs k low none;
        done = λ j h. old (used_at (gives s) j).number (omega (arith, st.all, l.some, given_below f o s j l h)) ∙ st.done j h;
      },
    )
