-- One ring of a bus is set, and the others stay.
use Rattle.std.proofs.Common.{◌≡◌, ℕ, ◌<◌, Bool, true, false, IfSome, List, length, slice_set, Option, Some, None, inl, inr, refl, sym, ◌∙◌, ap, subst}
use Rattle.std.proofs.lemmas.Bool.{cases_eq}
use Rattle.std.proofs.lemmas.List.{length-set, get_or-set_same, get_or-set_other}
use Rattle.vd_model.specs.declared.base.Mode.{Mode}
use Rattle.vd_model.specs.declared.base.Mode.TheVariants.{Pass, Shadow}
use Rattle.vd_model.specs.declared.map.Mapping.{Mapping}
use Rattle.vd_layout.specs.Device.{DeviceModel}
use Rattle.vd_bus.specs.declared.bus.vring.Vring.{Vring}
use Rattle.vd_bus.specs.Bus.{BusState, control_queue, fresh_base, fresh_vring, vring_of, with_vring, is_lawful_base}
use Rattle.vd_bus.specs.BusRings.{after_num, base_fault, after_base, after_addr}
use Rattle.vd_bus.specs.BusStatus.{is_running, with_suspended}
use Rattle.vd_machine.specs.File.{Plan}
use Rattle.vd_play.specs.Journal.{ring_in}
use Rattle.vd_play.specs.Places.{queue_total, control_place, control_ring}
use Rattle.vd_play.specs.Setup.{set_up, ring_addr, with_vrings, with_map, vring_at, serving, base_in, HasSizes, IsRing, HasRings, KeepsRings}
use Rattle.vd_play.proofs.Buses.{ring_put, ring_got, no_base_fault}
use Rattle.vd_play.proofs.Places.{IsAt, data_within, control_within}

-- the rings keep their numbers and addresses
pub keeps_through : (plan : Plan) (a b c : BusState) → KeepsRings plan a b → KeepsRings plan b c → KeepsRings plan a c
keeps_through plan a b c f g = record {
  many = g.many ∙ f.many;
  num = λ q low. g.num q low ∙ f.num q low;
  addr = λ q low. g.addr q low ∙ f.addr q low;
}

pub sizes_kept : (plan : Plan) (a b : BusState) → KeepsRings plan a b → HasSizes plan a → HasSizes plan b
sizes_kept plan a b k s = record { many = k.many ∙ s.many; each = λ q low. k.num q low ∙ s.each q low }

ring_kept : (plan : Plan) (a b : BusState) → KeepsRings plan a b → (r n p : ℕ) → p < queue_total plan → IsRing plan r n (vring_at plan a p)
    → IsRing plan r n (vring_at plan b p)
ring_kept plan a b h r n p low ring = record { num = h.num p low ∙ ring.num; addr = h.addr p low ∙ ring.addr }

pub rings_kept : (plan : Plan) (m : Mode) (k : ℕ) (a b : BusState) → KeepsRings plan a b → HasRings plan m k a → HasRings plan m k b
rings_kept plan m k a b h r = record {
  many = h.many ∙ r.many;
  each = λ q low. ring_kept plan a b h (ring_in m k q) q q (data_within plan q low) (r.each q low);
  control = λ has. ring_kept plan a b h (control_ring k) control_queue (control_place plan) (control_within plan has) (r.control has);
}

-- messages leave the rings
pub rings_mapped : (plan : Plan) (m : Mode) (k : ℕ) (ms : List Mapping) (a b : BusState) → b ≡ with_map a ms → HasRings plan m k a
    → HasRings plan m k b
rings_mapped plan m k ms a b is r = subst (HasRings plan m k) (sym is) (record { many = r.many; each = r.each; control = r.control })

-- and so does a suspension
pub sizes_suspended : (plan : Plan) (on : Bool) (a b : BusState) → b ≡ with_suspended a on → HasSizes plan a → HasSizes plan b
sizes_suspended plan on a b is s = subst (HasSizes plan) (sym is) (record { many = s.many; each = s.each })

pub if_some : {A : Type 0} (o : Option A) (P : A → Type 0) → ((x : A) → o ≡ Some x → P x) → IfSome o P
if_some None P h = tt
if_some (Some x) P h = h x refl

-- a base from which a ring is served is lawful
pub base_lawful : {E : Type 0} (e : DeviceModel E) (base : ℕ) (m : Mode) (still : Option E) (packed size n : _)
    → base_in e base m still ≡ Some n → is_lawful_base packed size base ≡ true
    → ((end : E) → still ≡ Some end → is_lawful_base packed size (e.base end) ≡ true) → is_lawful_base packed size n ≡ true
base_lawful e base Pass None packed size n is fresh ends = absurd (cc)
base_lawful e base Pass (Some end) packed size n is fresh ends =
    let same : e.base end ≡ n = cc in
    subst (λ (z : ℕ). is_lawful_base packed size z ≡ true) same (ends end refl)
base_lawful e base Shadow still packed size n is fresh ends =
    let same : base ≡ n = cc in
    subst (λ (z : ℕ). is_lawful_base packed size z ≡ true) same fresh

module _ (plan : Plan) (b : BusState) (own : b ≡ set_up plan b.status b.suspended b.vrings b.map)
    (many : length b.vrings ≡ queue_total plan) (n p : ℕ) (at : IsAt plan n p) where
  -- the ring of the queue, as the call finds it
  got : vring_of b n ≡ vring_at plan b p
  got = ring_got plan b.status b.suspended b.vrings b.map b own n p at

  -- one ring is put
  put_is : (v : Vring) (c : BusState) → c ≡ with_vring b n v → c ≡ with_vrings b (slice_set b.vrings p v)
  put_is v c is = is ∙ ring_put plan b.status b.suspended b.vrings b.map b own n p at v
      ∙ ap (λ (z : BusState). with_vrings z (slice_set b.vrings p v)) (sym own)

  put_many : (v : Vring) (c : BusState) → c ≡ with_vring b n v → length c.vrings ≡ length b.vrings
  put_many v c is = ap (λ (z : BusState). length z.vrings) (put_is v c is) ∙ length-set b.vrings p v

  put_here : (v : Vring) (c : BusState) → c ≡ with_vring b n v → vring_at plan c p ≡ v
  put_here v c is = ap (λ (z : BusState). vring_at plan z p) (put_is v c is)
      ∙ get_or-set_same b.vrings p v (fresh_vring plan.packed) (subst (λ (z : ℕ). p < z) (sym many) at.within)

  put_other : (v : Vring) (c : BusState) (k : ℕ) → c ≡ with_vring b n v → (k ≡ p → ⊥) → vring_at plan c k ≡ vring_at plan b k
  put_other v c k is other = ap (λ (z : BusState). vring_at plan z k) (put_is v c is)
      ∙ get_or-set_other b.vrings p k v (fresh_vring plan.packed) other

  put_keeps : (v : Vring) (c : BusState) → c ≡ with_vring b n v → v.num ≡ (vring_at plan b p).num → v.addr ≡ (vring_at plan b p).addr
      → KeepsRings plan b c
  put_keeps v c is num addr = record {
    many = put_many v c is;
    num = λ k below. elim (cases_eq k p) [
      | inl e ↦ subst (λ (j : ℕ). (vring_at plan c j).num ≡ (vring_at plan b j).num) (sym e)
          (ap (λ (z : Vring). z.num) (put_here v c is) ∙ num)
      | inr other ↦ ap (λ (z : Vring). z.num) (put_other v c k is other)
    ];
    addr = λ k below. elim (cases_eq k p) [
      | inl e ↦ subst (λ (j : ℕ). (vring_at plan c j).addr ≡ (vring_at plan b j).addr) (sym e)
          (ap (λ (z : Vring). z.addr) (put_here v c is) ∙ addr)
      | inr other ↦ ap (λ (z : Vring). z.addr) (put_other v c k is other)
    ];
  }

  -- its base is set
  pub no_fault_of_base : (base : ℕ) → is_running b ≡ false → (vring_at plan b p).num ≡ plan.size
      → is_lawful_base plan.packed plan.size base ≡ true → base_fault b (record { index = n; num = base }) ≡ None
  no_fault_of_base base still sized lawful =
      no_base_fault plan b.status b.suspended b.vrings b.map b own n p at base still sized lawful

  module _ (base : ℕ) (c : BusState) (is : c ≡ after_base b (record { index = n; num = base })) where
    abbrev v : Vring
    v = record (vring_of b n) { base = base }

    pub based_is : c ≡ with_vrings b (slice_set b.vrings p v)
    based_is = put_is v c is

    pub based_keeps : KeepsRings plan b c
    based_keeps = put_keeps v c is (ap (λ (z : Vring). z.num) got) (ap (λ (z : Vring). z.addr) got)

    pub based_here : (vring_at plan c p).base ≡ base
    based_here = ap (λ (z : Vring). z.base) (put_here v c is)

    pub based_other : (k : ℕ) → (k ≡ p → ⊥) → (vring_at plan c k).base ≡ (vring_at plan b k).base
    based_other k other = ap (λ (z : Vring). z.base) (put_other v c k is other)

  -- its address is set
  module _ (ring : ℕ) (c : BusState) (is : c ≡ after_addr b (ring_addr plan.packed plan.size n ring)) where
    abbrev addressed : Vring
    addressed = record (vring_of b n) { addr = Some (ring_addr plan.packed plan.size n ring) }

    pub addressed_is : c ≡ with_vrings b (slice_set b.vrings p addressed)
    addressed_is = put_is addressed c is

    pub addressed_many : length c.vrings ≡ queue_total plan
    addressed_many = put_many addressed c is ∙ many

    -- the queue has the ring of this number
    pub addressed_here : (vring_at plan b p).num ≡ plan.size → IsRing plan ring n (vring_at plan c p)
    addressed_here sized = subst (IsRing plan ring n) (sym (put_here addressed c is))
        (record { num = ap (λ (z : Vring). z.num) got ∙ sized; addr = refl })

    -- and the other queues have theirs
    pub addressed_other : (r i k : ℕ) → (k ≡ p → ⊥) → IsRing plan r i (vring_at plan b k) → IsRing plan r i (vring_at plan c k)
    addressed_other r i k other = subst (IsRing plan r i) (sym (put_other addressed c k is other))

    pub addressed_sizes : HasSizes plan b → HasSizes plan c
    addressed_sizes sizes = record {
      many = addressed_many;
      each = λ k below. elim (cases_eq k p) [
        | inl e ↦ subst (λ (j : ℕ). (vring_at plan c j).num ≡ plan.size) (sym e) (addressed_here (sizes.each p at.within)).num
        | inr other ↦ ap (λ (z : Vring). z.num) (put_other addressed c k is other) ∙ sizes.each k below
      ];
    }

  -- it is given its number of places
  module _ (c : BusState) (is : c ≡ after_num b (record { index = n; num = plan.size })) where
    abbrev sized_ring : Vring
    sized_ring = record (vring_of b n) { num = plan.size; base = fresh_base b.packed }

    pub sized_is : c ≡ with_vrings b (slice_set b.vrings p sized_ring)
    sized_is = put_is sized_ring c is

    pub sized_many : length c.vrings ≡ queue_total plan
    sized_many = put_many sized_ring c is ∙ many

    pub sized_here : (vring_at plan c p).num ≡ plan.size
    sized_here = ap (λ (z : Vring). z.num) (put_here sized_ring c is)

    pub sized_other : (r i k : ℕ) → (k ≡ p → ⊥) → IsRing plan r i (vring_at plan b k) → IsRing plan r i (vring_at plan c k)
    sized_other r i k other = subst (IsRing plan r i) (sym (put_other sized_ring c k is other))

  -- it is enabled
  pub enabled_keeps : KeepsRings plan b (serving b n)
  enabled_keeps = put_keeps (record (vring_of b n) { enabled = true }) (serving b n) refl (ap (λ (z : Vring). z.num) got)
      (ap (λ (z : Vring). z.addr) got)

  pub enabled_base : (k : ℕ) → (vring_at plan (serving b n) k).base ≡ (vring_at plan b k).base
  enabled_base k =
      let v : Vring = record (vring_of b n) { enabled = true } in
      elim (cases_eq k p) [
        | inl e ↦ subst (λ (j : ℕ). (vring_at plan (serving b n) j).base ≡ (vring_at plan b j).base) (sym e)
            (ap (λ (z : Vring). z.base) (put_here v (serving b n) refl) ∙ ap (λ (z : Vring). z.base) got)
        | inr other ↦ ap (λ (z : Vring). z.base) (put_other v (serving b n) k refl other)
      ]
