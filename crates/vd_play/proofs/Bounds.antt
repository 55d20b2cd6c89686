-- The bounds of the epochs.
use Rattle.std.proofs.Common.{◌≡◌, ℕ, zero, suc, add-one, ◌+◌, ◌<◌, ◌≤◌, min, Bool, false, Option, Some, List, [], ◌∷◌, ◌++◌, length, take, replicate, flat_map, slice_get, inl, inr, refl, sym, ◌∙◌, ap, arith, length-append}
use Rattle.std.proofs.lemmas.List.{length-replicate}
use Rattle.std.proofs.lemmas.List.Sums.{sum_by-cons}
use Rattle.vd_model.specs.declared.base.Mode.{Mode}
use Rattle.vd_model.specs.declared.record.Run.{Run}
use Rattle.vd_bus.specs.Scripts.{run_chains, run_count}
use Rattle.vd_machine.specs.File.{Plan}
use Rattle.vd_machine.specs.declared.machine.Switch.{Switch}
use Rattle.vd_play.specs.Orders.{stop_of}
use Rattle.std.specs.Option.{option_map_or}
use Rattle.std.proofs.Math.Seq.{take-suc}
use Rattle.std.proofs.lemmas.Grind.{flat_map-append}
use Rattle.std.proofs.lemmas.List.{append-nil}
use Rattle.std.proofs.lemmas.Option.{slice_get_within, get_or_from_slice_get, slice_get_cases}
use Rattle.vd_play.specs.Epochs.{Epoch, AreChained, begun_before, epochs, epochs_from, closing, mode_after, is_renewal}

pub at_index : {A : Type 0} (xs : List A) (i : ℕ) → i < length xs → (x : A) × (slice_get xs i ≡ Some x)
at_index xs i h = elim (slice_get_cases xs i).1 [ inl f ↦ (f.0, f.2) | inr f ↦ absurd (omega (arith, f.0)) ]

-- epoch k reaches from the count before it to the count before the next
pub record Bounded (n : ℕ) (es : List Epoch) (k : ℕ) : Type 0 where
  pub epoch : Epoch
  pub is : slice_get es k ≡ Some epoch
  pub first : epoch.first ≡ begun_before es k
  pub end : epoch.end ≡ begun_before es (k + 1)
  pub rises : begun_before es k ≤ begun_before es (k + 1)
  pub low : begun_before es (k + 1) ≤ n

pub bounded : (n : ℕ) (es : List Epoch) (k : ℕ) → AreChained n es → k < length es → Bounded n es k
bounded n es k c h =
    let x = at_index es k h in
    let a = c.at k x.0 x.1 in
    let end : begun_before es (k + 1) ≡ x.0.end =
    ap (begun_before es) (add-one k) ∙ ap (λ (o : Option Epoch). option_map_or (λ (ep : Epoch). ep.end) o 0) x.1 in
    record { epoch = x.0; is = x.1; first = a.0; end = sym end; rises = omega (arith, a.0, a.1, end); low = omega (arith, a.2, end) }

-- never more than all
pub begun_low : (n : ℕ) (es : List Epoch) (k : ℕ) → AreChained n es → k ≤ length es → begun_before es k ≤ n
begun_low n es zero c h = omega arith
begun_low n es (suc k) c h = omega (arith, (bounded n es k c (omega arith)).low, ap (begun_before es) (add-one k))

-- one more of what each of the first k gives
pub flat_more : {A B : Type 0} (f : A → List B) (xs : List A) (k : ℕ) (x : A) → slice_get xs k ≡ Some x
    → flat_map f (take (k + 1) xs) ≡ flat_map f (take k xs) ++ f x
flat_more f xs k x is =
    let t : take (k + 1) xs ≡ take k xs ++ x ∷ [] = ap (λ j. take j xs) (add-one k) ∙ take-suc xs k x (slice_get_within xs k x is)
    ∙ ap (λ y. take k xs ++ y ∷ []) (get_or_from_slice_get xs k x x is) in
    ap (flat_map f) t ∙ flat_map-append f (take k xs) (x ∷ []) ∙ ap (λ zs. flat_map f (take k xs) ++ zs) (append-nil (f x))

-- ---- the epochs of a machine

stops_from : (e : ℕ) (ss : List Switch) (m : Mode) (renewed : Bool) (first n k j : ℕ) → k < length ss + 2
    → begun_before (epochs_from e ss m renewed first n ++ closing j n ∷ []) (suc k) ≡ stop_of ss k n
stops_from e [] m renewed first n zero j h = refl
stops_from e [] m renewed first n (suc zero) j h = refl
stops_from e [] m renewed first n (suc (suc k)) j h = absurd (omega arith)
stops_from e (s ∷ ss) m renewed first n zero j h = refl
stops_from e (s ∷ ss) m renewed first n (suc k) j h = stops_from (e + 1) ss (mode_after m s.to) (is_renewal s.to) (min s.after n) n k j
    (omega arith)

-- where an epoch ends, as the code finds it
pub stops_at : (plan : Plan) (n k : ℕ) → k < length plan.switches + 2 → stop_of plan.switches k n ≡ begun_before (epochs plan n) (k + 1)
stops_at plan n k h = sym (ap (begun_before (epochs plan n)) (add-one k) ∙ stops_from 0 plan.switches plan.start false 0 n k
    (length plan.switches + 1) h)

many_from : (e : ℕ) (ss : List Switch) (m : Mode) (renewed : Bool) (first n j : ℕ)
    → length (epochs_from e ss m renewed first n ++ closing j n ∷ []) ≡ length ss + 2
many_from e [] m renewed first n j = omega arith
many_from e (s ∷ ss) m renewed first n j = omega (arith, many_from (e + 1) ss (mode_after m s.to) (is_renewal s.to) (min s.after n) n j)

pub many_epochs : (plan : Plan) (n : ℕ) → length (epochs plan n) ≡ length plan.switches + 2
many_epochs plan n = many_from 0 plan.switches plan.start false 0 n (length plan.switches + 1)

pub chains_count : (rs : List Run) → length (run_chains rs) ≡ run_count rs
chains_count [] = refl
chains_count (r ∷ rs) = omega (
  arith,
  length-append (replicate r.count r.chain) (run_chains rs),
  length-replicate r.count r.chain,
  chains_count rs,
  sum_by-cons (λ (x : Run). x.count) r rs,
)
