-- What the bus of a machine answers as it is set up.
use Rattle.std.proofs.Common.{◌≡◌, ℕ, ◌<◌, ◌==◌, Bool, true, false, not, ◌&&◌, nat_le, bit_and, if◌then◌else◌, List, length, slice_index_or, slice_set, Some, None, refl, sym, ◌∙◌, ap, subst, inl, inr, arith}
use Rattle.std.proofs.lemmas.Bool.{le-leb, cases_eq}
use Rattle.std.proofs.lemmas.List.{get_or-set_same, get_or-set_other}
use Rattle.vd_model.specs.declared.features.Features.{Features}
use Rattle.vd_model.specs.declared.map.Mapping.{Mapping}
use Rattle.vd_bus.specs.declared.fault.BusFault.{BusFault}
use Rattle.vd_bus.specs.declared.fault.BusFault.TheVariants.{BadNum}
use Rattle.vd_bus.specs.declared.bus.vring.Vring.{Vring}
use Rattle.vd_bus.specs.Bus.{BusState, fresh_vring, is_queue, vring_of, with_vring, is_lawful_size, is_lawful_base}
use Rattle.vd_bus.specs.BusRings.{still_fault, num_fault, after_num, base_fault, enable_fault, order_fault}
use Rattle.vd_bus.specs.BusStatus.{has, version_1, access_platform, ring_packed, feature_bits, features_of, are_acceptable, offered_bits, is_driver_ok, is_features_ok, is_running}
use Rattle.vd_machine.specs.Rings as rings
use Rattle.vd_machine.specs.File.{Plan}
use Rattle.vd_play.specs.Places.{queue_total}
use Rattle.vd_play.specs.Setup.{set_up, on, serving, with_vrings, with_map, IsBrought, Stands}
use Rattle.vd_play.proofs.Places.{IsAt}

-- ---- tests in their order

none2 : (x y : Bool) (f g : BusFault) → x ≡ true → y ≡ false → (if not x then Some f else if y then Some g else None) ≡ None
none2 x y f g hx hy = rw hx (rw hy refl)

none3 : (x y z : Bool) (f g h : BusFault) → x ≡ true → y ≡ false → z ≡ true
    → (if not x then Some f else if y then Some g else if not z then Some h else None) ≡ None
none3 x y z f g h hx hy hz = rw hx (rw hy (rw hz refl))

-- ---- sizes and features

pub same_size : (packed : Bool) (n : ℕ) → rings.is_lawful_size packed n ≡ is_lawful_size packed n
same_size true n = refl
same_size false n = refl

abbrev these : Bool → Bool → Bool → Features
these i e o = record { indirect = i; event_idx = e; in_order = o }

-- what is offered may be accepted
accepts : (p i e o : Bool) → ((bit_and (feature_bits p (these i e o)) (feature_bits p (these i e o)) == feature_bits p (these i e o))
    && has (feature_bits p (these i e o)) version_1 && has (feature_bits p (these i e o)) access_platform
    && (if p then has (feature_bits p (these i e o)) ring_packed else not (has (feature_bits p (these i e o)) ring_packed))) ≡ true
accepts true true true true = refl
accepts true true true false = refl
accepts true true false true = refl
accepts true true false false = refl
accepts true false true true = refl
accepts true false true false = refl
accepts true false false true = refl
accepts true false false false = refl
accepts false true true true = refl
accepts false true true false = refl
accepts false true false true = refl
accepts false true false false = refl
accepts false false true true = refl
accepts false false true false = refl
accepts false false false true = refl
accepts false false false false = refl

pub offer_accepted : (b : BusState) → are_acceptable b (offered_bits b) ≡ true
offer_accepted b = accepts b.packed b.offered.indirect b.offered.event_idx b.offered.in_order

comes_back : (p i e o : Bool) → features_of (feature_bits p (these i e o)) ≡ these i e o
comes_back true true true true = refl
comes_back true true true false = refl
comes_back true true false true = refl
comes_back true true false false = refl
comes_back true false true true = refl
comes_back true false true false = refl
comes_back true false false true = refl
comes_back true false false false = refl
comes_back false true true true = refl
comes_back false true true false = refl
comes_back false true false true = refl
comes_back false true false false = refl
comes_back false false true true = refl
comes_back false false true false = refl
comes_back false false false true = refl
comes_back false false false false = refl

-- a ring is made with what was offered
pub offer_back : (p : Bool) (f : Features) → features_of (feature_bits p f) ≡ f
offer_back p f = comes_back p f.indirect f.event_idx f.in_order

-- ---- one queue

module _ (plan : Plan) (st : ℕ) (sus : Bool) (vs : List Vring) (ms : List Mapping) (b : BusState) (e : b ≡ set_up plan st sus vs ms)
    (n p : ℕ) (at : IsAt plan n p) where
  pub there : is_queue b n ≡ true
  there = subst (λ (c : BusState). is_queue c n ≡ true) (sym e) at.there

  pub ring_put : (v : Vring) → with_vring b n v ≡ set_up plan st sus (slice_set vs p v) ms
  ring_put v = subst (λ (c : BusState). with_vring c n v ≡ set_up plan st sus (slice_set vs p v) ms) (sym e)
      (ap (λ (i : ℕ). set_up plan st sus (slice_set vs i v) ms) at.place)

  pub ring_got : vring_of b n ≡ slice_index_or vs p (fresh_vring plan.packed)
  ring_got = subst (λ (c : BusState). vring_of c n ≡ slice_index_or vs p (fresh_vring plan.packed)) (sym e)
      (ap (λ (i : ℕ). slice_index_or vs i (fresh_vring plan.packed)) at.place)

  -- after it is set
  still_there : (v : Vring) → is_queue (with_vring b n v) n ≡ true
  still_there v = subst (λ (c : BusState). is_queue c n ≡ true) (sym (ring_put v)) at.there

  pub ring_new : (v : Vring) → length vs ≡ queue_total plan → vring_of (with_vring b n v) n ≡ v
  ring_new v many = subst (λ (c : BusState). vring_of c n ≡ v) (sym (ring_put v))
      (ap (λ (i : ℕ). slice_index_or (slice_set vs p v) i (fresh_vring plan.packed)) at.place
      ∙ get_or-set_same vs p v (fresh_vring plan.packed) (subst (λ (z : ℕ). p < z) (sym many) at.within))

  pub no_still_fault : is_running b ≡ false → still_fault b n ≡ None
  no_still_fault still = none2 (is_queue b n) (is_running b) _ _ there still

  pub no_base_fault : (base : ℕ) → is_running b ≡ false → (slice_index_or vs p (fresh_vring plan.packed)).num ≡ plan.size
      → is_lawful_base plan.packed plan.size base ≡ true → base_fault b (record { index = n; num = base }) ≡ None
  no_base_fault base still sized lawful =
      none3 (is_queue b n) (is_running b) (is_lawful_base b.packed (vring_of b n).num base) _ _ _ there still
      (ap (λ (c : BusState). is_lawful_base c.packed (vring_of b n).num base) e
      ∙ ap (λ (v : Vring). is_lawful_base plan.packed v.num base) ring_got
      ∙ ap (λ (n : ℕ). is_lawful_base plan.packed n base) sized ∙ lawful)

  pub no_enable_fault : st ≡ 15 → enable_fault b (on n) ≡ None
  no_enable_fault at_15 = none3 (is_queue b n) (not (is_features_ok b)) true _ _ (BadNum 1) there
      (subst (λ (c : BusState). not (is_features_ok c) ≡ false) (sym e) (subst (λ (i : ℕ). not (has i 3) ≡ false) (sym at_15) refl)) refl

  pub serving_is : serving b n ≡ set_up plan st sus (slice_set vs p (record (vring_of b n) { enabled = true })) ms
  serving_is = ring_put (record (vring_of b n) { enabled = true })

  pub no_order_fault : st ≡ 15 → sus ≡ false → length vs ≡ queue_total plan → order_fault (serving b n) n ≡ None
  no_order_fault at_15 runs many =
      let v : Vring = record (vring_of b n) { enabled = true } in
      let c : BusState = serving b n in
      let got : vring_of c n ≡ v = ring_new v many in
      none2 (is_queue c n) (not ((c.status == 15) && not c.suspended && (vring_of c n).enabled)) _ _ (still_there v)
      (subst (λ (z : Vring). not ((c.status == 15) && not c.suspended && z.enabled) ≡ false) (sym got)
      (subst (λ (z : BusState). not ((z.status == 15) && not z.suspended && true) ≡ false) (sym serving_is)
      (rw at_15 (rw runs refl))))

-- a queue of a bus at FEATURES_OK may be given its number of places, and then its address
module _ (plan : Plan) (b : BusState) (brought : IsBrought plan b) (n : ℕ) (there : is_queue b n ≡ true) where
  pub no_num_fault : rings.is_lawful_size plan.packed plan.size ≡ true → num_fault b (record { index = n; num = plan.size }) ≡ None
  no_num_fault lawful = none3 (is_queue b n) (is_driver_ok b) (is_lawful_size b.packed plan.size && nat_le plan.size b.size_max) _ _ _ there
      (subst (λ (c : BusState). is_driver_ok c ≡ false) (sym brought) refl)
      (subst (λ (c : BusState). (is_lawful_size c.packed plan.size && nat_le plan.size c.size_max) ≡ true) (sym brought)
      (rw (sym (same_size plan.packed plan.size) ∙ lawful) (le-leb plan.size plan.size (omega arith))))

  pub no_addr_fault : (c : BusState) → c ≡ after_num b (record { index = n; num = plan.size }) → still_fault c n ≡ None
  no_addr_fault c is = subst (λ (z : BusState). still_fault z n ≡ None) (sym is)
      (none2 (is_queue b n) (is_running b) _ _ there (subst (λ (z : BusState). is_running z ≡ false) (sym brought) refl))

-- ---- all queues

-- what holds of each queue after one was written
pub each_put : (P : ℕ → Vring → Type 0) (vs : List Vring) (d : Vring) (q n : ℕ) (v : Vring) → q < length vs
    → ((k : ℕ) → k < n → (k ≡ q → ⊥) → P k (slice_index_or vs k d)) → P q v
    → (k : ℕ) → k < n → P k (slice_index_or (slice_set vs q v) k d)
each_put P vs d q n v within old new k below = elim (cases_eq k q) [
  | inl e ↦ subst (λ (j : ℕ). P j (slice_index_or (slice_set vs q v) j d)) (sym e)
      (subst (λ (z : Vring). P q z) (sym (get_or-set_same vs q v d within)) new)
  | inr other ↦ subst (λ (z : Vring). P k z) (sym (get_or-set_other vs q k v d other)) (old k below other)
]

-- the bus is its own literal
pub own : (plan : Plan) (st : ℕ) (sus : Bool) (vs : List Vring) (ms : List Mapping) (b : BusState) → b ≡ set_up plan st sus vs ms
    → b ≡ set_up plan st sus b.vrings ms
own plan st sus vs ms b e = e ∙ ap (λ (xs : List Vring). set_up plan st sus xs ms) (sym (ap (λ (c : BusState). c.vrings) e))

pub own_all : (plan : Plan) (st : ℕ) (sus : Bool) (vs : List Vring) (ms : List Mapping) (b : BusState) → b ≡ set_up plan st sus vs ms
    → b ≡ set_up plan b.status b.suspended b.vrings b.map
own_all plan st sus vs ms b e = subst (λ (c : BusState). c ≡ set_up plan c.status c.suspended c.vrings c.map) (sym e) refl

-- a bus whose rings or map alone were set stands as before
pub stands_of : (plan : Plan) (st : ℕ) (sus : Bool) (vs : List Vring) (ms : List Mapping) (b : BusState) → b ≡ set_up plan st sus vs ms
    → is_running (set_up plan st sus vs ms) ≡ false → Stands plan b
stands_of plan st sus vs ms b e still = subst (λ (c : BusState). Stands plan c) (sym e) (record { is = refl; still = still })

pub stands_vrings : (plan : Plan) (b c : BusState) (vs : List Vring) → c ≡ with_vrings b vs → Stands plan b → Stands plan c
stands_vrings plan b c vs e s = subst (λ (z : BusState). Stands plan z) (sym e)
    (record { is = ap (λ (z : BusState). with_vrings z vs) s.is; still = s.still })

pub stands_map : (plan : Plan) (b c : BusState) (ms : List Mapping) → c ≡ with_map b ms → Stands plan b → Stands plan c
stands_map plan b c ms e s = subst (λ (z : BusState). Stands plan z) (sym e)
    (record { is = ap (λ (z : BusState). with_map z ms) s.is; still = s.still })

-- the rings alone were set, and once more
pub same_put : (a b c : BusState) (vs : List Vring) → b ≡ with_vrings a b.vrings → c ≡ with_vrings b vs → c ≡ with_vrings a c.vrings
same_put a b c vs e f =
    f ∙ ap (λ (z : BusState). with_vrings z vs) e ∙ ap (λ (xs : List Vring). with_vrings a xs) (sym (ap (λ (z : BusState). z.vrings) f))
