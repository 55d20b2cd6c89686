-- The epochs of a machine that is switched: each begins where the one before it ends. What the machine's facts say of its switches.
use Rattle.std.proofs.Common.{◌≡◌, ℕ, zero, suc, ◌+◌, ◌<◌, ◌≤◌, min, nat_le, Bool, true, false, Option, Some, List, [], ◌∷◌, ◌++◌, length, slice_get, refl, sym, ◌∙◌, ap, subst, arith}
use Rattle.std.specs.List.{list_all}
use Rattle.std.specs.Option.{option_map_or}
use Rattle.std.proofs.lemmas.Bool.{and_parts, leb-true}
use Rattle.std.proofs.lemmas.Option.{slice_get_past}
use Rattle.vd_model.specs.declared.base.Mode.{Mode}
use Rattle.vd_model.specs.declared.base.Mode.TheVariants as mode
use Rattle.vd_machine.specs.File.{Plan}
use Rattle.vd_machine.specs.Switches.{is_switch, are_ascending, are_in_order, are_switches}
use Rattle.vd_machine.specs.declared.switches.TheConstants.{MOST_SWITCHES}
use Rattle.vd_machine.specs.declared.machine.Switch.{Switch}
use Rattle.vd_play.specs.Epochs.{Epoch, AreChained, AreNumbered, begun_before, epochs, epochs_from, closing, mode_after, is_renewal, renewed_at, mode_from, mode_at}
use Rattle.vd_play.specs.Orders.{stop_of}
use Rattle.vd_play.specs.Switching.{ascend, IsSwitched}
use Rattle.vd_play.proofs.Bounds.{stops_at, many_epochs}
use Rattle.vd_play.proofs.Lists.{some_same}

-- the epochs of these switches, and the closing one
abbrev all_from : ℕ → List Switch → Mode → Bool → ℕ → ℕ → ℕ → List Epoch
all_from e ss m renewed first n j = epochs_from e ss m renewed first n ++ closing j n ∷ []

-- how many chains are begun before epoch k, where these many are begun before the first
abbrev begun_at : ℕ → List Epoch → ℕ → ℕ
begun_at first es zero = first
begun_at first es (suc k) = option_map_or (λ ep. ep.end) (slice_get es k) 0

begun_next : (first : ℕ) (x : Epoch) (es : List Epoch) (k : ℕ) → begun_at x.end es k ≡ begun_at first (x ∷ es) (suc k)
begun_next first x es zero = refl
begun_next first x es (suc k) = refl

begun_same : (es : List Epoch) (k : ℕ) → begun_at 0 es k ≡ begun_before es k
begun_same es zero = refl
begun_same es (suc k) = refl

chain_from : (e : ℕ) (ss : List Switch) (m : Mode) (renewed : Bool) (first least n j : ℕ) → first ≤ n → first ≤ least → ascend least ss
    → (k : ℕ) (ep : Epoch) → slice_get (all_from e ss m renewed first n j) k ≡ Some ep
    → (ep.first ≡ begun_at first (all_from e ss m renewed first n j) k) × (ep.first ≤ ep.end) × (ep.end ≤ n)
chain_from e [] m renewed first least n j low next up zero ep h =
    let x : Epoch = record { number = e; mode = m; renewed = renewed; first = first; end = n } in
    subst (λ (z : Epoch). (z.first ≡ first) × (z.first ≤ z.end) × (z.end ≤ n)) (some_same x ep (Some x) refl h) (refl, low, omega arith)
chain_from e [] m renewed first least n j low next up (suc zero) ep h =
    subst (λ (z : Epoch). (z.first ≡ n) × (z.first ≤ z.end) × (z.end ≤ n)) (some_same (closing j n) ep (Some (closing j n)) refl h)
    (refl, omega arith, omega arith)
chain_from e [] m renewed first least n j low next up (suc (suc k)) ep h = absurd (cc)
chain_from e (s ∷ ss) m renewed first least n j low next up zero ep h =
    let x : Epoch = record { number = e; mode = m; renewed = renewed; first = first; end = min s.after n } in
    subst (λ (z : Epoch). (z.first ≡ first) × (z.first ≤ z.end) × (z.end ≤ n)) (some_same x ep (Some x) refl h)
    (refl, omega (arith, up.0), omega arith)
chain_from e (s ∷ ss) m renewed first least n j low next up (suc k) ep h =
    let x : Epoch = record { number = e; mode = m; renewed = renewed; first = first; end = min s.after n } in
    let es : List Epoch = all_from (e + 1) ss (mode_after m s.to) (is_renewal s.to) (min s.after n) n j in
    let rest = chain_from (e + 1) ss (mode_after m s.to) (is_renewal s.to) (min s.after n) s.after n j (omega arith) (omega arith) up.1
    k ep h in
    (rest.0 ∙ begun_next first x es k, rest.1, rest.2)

pub chained : (plan : Plan) (n : ℕ) → IsSwitched plan → AreChained n (epochs plan n)
chained plan n s = record {
  at = λ k ep h. let x = chain_from 0 plan.switches plan.start false 0 0 n (length plan.switches + 1) (omega arith) (omega arith)
      s.ascending k ep h in
      (x.0 ∙ begun_same (epochs plan n) k, x.1, x.2);
  whole =
      let last : ℕ = length plan.switches + 1 in
      let end : stop_of plan.switches last n ≡ n =
      ap (λ (o : Option Switch). option_map_or (λ (z : Switch). min z.after n) o n) (slice_get_past plan.switches last (omega arith)) in
      ap (begun_before (epochs plan n)) (omega (arith, many_epochs plan n)) ∙ sym (stops_at plan n last (omega arith)) ∙ end;
}

pub few_epochs : (plan : Plan) (n : ℕ) → IsSwitched plan → length (epochs plan n) ≤ 18
few_epochs plan n s = omega (arith, many_epochs plan n, s.few)

-- ---- which epoch is the k-th

-- whether epoch k begins with a renewal, where the first of these does or doesn't
abbrev renewed_from : Bool → List Switch → ℕ → Bool
renewed_from r ss zero = r
renewed_from r ss (suc k) = option_map_or (λ (s : Switch). is_renewal s.to) (slice_get ss k) false

renewed_next : (r : Bool) (s : Switch) (ss : List Switch) (k : ℕ)
    → renewed_from (is_renewal s.to) ss k ≡ renewed_from r (s ∷ ss) (suc k)
renewed_next r s ss zero = refl
renewed_next r s ss (suc k) = refl

renewed_same : (plan : Plan) (k : ℕ) → renewed_from false plan.switches k ≡ renewed_at plan k
renewed_same plan zero = refl
renewed_same plan (suc k) = refl

-- the number, the mode, and whether it begins with a renewal
abbrev Is : ℕ → Mode → Bool → Epoch → Type 0
Is k m r ep = (ep.number ≡ k) × (ep.mode ≡ m) × (ep.renewed ≡ r)

epoch_from : (e : ℕ) (ss : List Switch) (m : Mode) (renewed : Bool) (first n j : ℕ) → j ≡ e + length ss + 1 → (k : ℕ) (ep : Epoch)
    → slice_get (all_from e ss m renewed first n j) k ≡ Some ep → Is (e + k) (mode_from ss m k) (renewed_from renewed ss k) ep
epoch_from e [] m renewed first n j last zero ep h =
    let x : Epoch = record { number = e; mode = m; renewed = renewed; first = first; end = n } in
    subst (Is (e + 0) m renewed) (some_same x ep (Some x) refl h) (omega arith, refl, refl)
epoch_from e [] m renewed first n j last (suc zero) ep h =
    subst (Is (e + 1) mode.Pass false) (some_same (closing j n) ep (Some (closing j n)) refl h) (omega (arith, last), refl, refl)
epoch_from e [] m renewed first n j last (suc (suc k)) ep h = absurd (cc)
epoch_from e (s ∷ ss) m renewed first n j last zero ep h =
    let x : Epoch = record { number = e; mode = m; renewed = renewed; first = first; end = min s.after n } in
    subst (Is (e + 0) m renewed) (some_same x ep (Some x) refl h) (omega arith, refl, refl)
epoch_from e (s ∷ ss) m renewed first n j last (suc k) ep h =
    let rest = epoch_from (e + 1) ss (mode_after m s.to) (is_renewal s.to) (min s.after n) n j (omega (arith, last)) k ep h in
    (omega (arith, rest.0), rest.1, rest.2 ∙ renewed_next renewed s ss k)

epoch_is : (plan : Plan) (n k : ℕ) (ep : Epoch) → slice_get (epochs plan n) k ≡ Some ep
    → (ep.number ≡ k) × (ep.mode ≡ mode_at plan k) × (ep.renewed ≡ renewed_at plan k)
epoch_is plan n k ep h =
    let x = epoch_from 0 plan.switches plan.start false 0 n (length plan.switches + 1) (omega arith) k ep h in
    (omega (arith, x.0), x.1, x.2 ∙ renewed_same plan k)

last_from : (e : ℕ) (ss : List Switch) (m : Mode) (renewed : Bool) (first n j k : ℕ) → k ≡ length ss + 1
    → slice_get (all_from e ss m renewed first n j) k ≡ Some (closing j n)
last_from e ss m renewed first n j zero h = absurd (omega arith)
last_from e [] m renewed first n j (suc zero) h = refl
last_from e [] m renewed first n j (suc (suc k)) h = absurd (omega arith)
last_from e (s ∷ ss) m renewed first n j (suc k) h =
    last_from (e + 1) ss (mode_after m s.to) (is_renewal s.to) (min s.after n) n j k (omega arith)

-- the last is the closing one: of the mode pass, from chain n on, without chains
pub closing_is : (plan : Plan) (n : ℕ) → slice_get (epochs plan n) (length plan.switches + 1) ≡ Some (closing (length plan.switches + 1) n)
closing_is plan n =
    let k : ℕ = length plan.switches + 1 in last_from 0 plan.switches plan.start false 0 n k k refl

mode_last : (ss : List Switch) (m : Mode) (k : ℕ) → length ss < k → mode_from ss m k ≡ mode.Pass
mode_last ss m zero h = absurd (omega arith)
mode_last [] m (suc k) h = refl
mode_last (s ∷ ss) m (suc k) h = mode_last ss (mode_after m s.to) k (omega arith)

pub mode_at_end : (plan : Plan) (k : ℕ) → length plan.switches < k → mode_at plan k ≡ mode.Pass
mode_at_end plan k h = mode_last plan.switches plan.start k h

pub numbered : (plan : Plan) (n : ℕ) → AreNumbered plan (epochs plan n)
numbered plan n = record { at = epoch_is plan n }

-- ---- the switches of a machine

ascend_of : (least : ℕ) (ss : List Switch) → are_ascending least ss ≡ true → ascend least ss
ascend_of least [] h = tt
ascend_of least (s ∷ ss) h =
    let parts = and_parts (nat_le least s.after) (are_ascending s.after ss) h in
    (leb-true least s.after parts.0, ascend_of s.after ss parts.1)

pub few_switches : (ss : List Switch) → are_switches ss ≡ true → length ss ≤ 16
few_switches ss h =
    let parts = and_parts (are_in_order ss) (list_all is_switch ss) h in
    leb-true (length ss) MOST_SWITCHES (and_parts (nat_le (length ss) MOST_SWITCHES) (are_ascending 0 ss) parts.0).0

pub switched_is : (plan : Plan) → are_switches plan.switches ≡ true → IsSwitched plan
switched_is plan h =
    let ss : List Switch = plan.switches in
    let parts = and_parts (are_in_order ss) (list_all is_switch ss) h in
    record {
      few = few_switches ss h;
      ascending = ascend_of 0 ss (and_parts (nat_le (length ss) MOST_SWITCHES) (are_ascending 0 ss) parts.0).1;
    }
