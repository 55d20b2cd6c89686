-- The ring of one queue is brought up, and the control queue's ring is set behind those of the data queues.
use Rattle.std.proofs.Common.{◌≡◌, ℕ, ◌<◌, ◌≤◌, false, List, [], length, refl, sym, ◌∙◌, ap, arith}
use Rattle.std.proofs.lemmas.Bool.{false≢true}
use Rattle.vd_model.specs.declared.base.Mode.{Mode}
use Rattle.vd_bus.specs.declared.bus.vring.Vring.{Vring}
use Rattle.vd_bus.specs.Bus.{BusState, control_queue}
use Rattle.vd_bus.specs.BusRings.{after_num, after_base}
use Rattle.vd_machine.specs.File.{Plan}
use Rattle.vd_play.specs.ControlRing.{with_ring, with_addr, with_control_ring, with_control_addr, with_control_base}
use Rattle.vd_play.specs.Journal.{ring_in}
use Rattle.vd_play.specs.Places.{queue_total, control_place, control_ring}
use Rattle.vd_play.specs.Setup.{set_up, with_vrings, vring_at, Stands, IsBrought, IsRing, HasSizes, HasRings, KeepsRings, HasControlBase}
use Rattle.vd_play.proofs.Buses.{own, own_all}
use Rattle.vd_play.proofs.Places.{IsAt, control_at, where_control}
use Rattle.vd_play.proofs.RingsSet.{sized_is, sized_many, sized_here, sized_other, addressed_is, addressed_many, addressed_here, addressed_other, based_is, based_keeps, based_here, based_other}

-- the rings alone of a bus at FEATURES_OK were set
pub brought_vrings : (plan : Plan) (vs : List Vring) (b c : BusState) → c ≡ with_vrings b vs → IsBrought plan b → IsBrought plan c
brought_vrings plan vs b c is brought = own plan 11 false vs [] c (is ∙ ap (λ (z : BusState). with_vrings z vs) brought)

same_vrings : (b c : BusState) (vs : List Vring) → c ≡ with_vrings b vs → c ≡ with_vrings b c.vrings
same_vrings b c vs is = is ∙ ap (λ (xs : List Vring). with_vrings b xs) (sym (ap (λ (z : BusState). z.vrings) is))

-- ---- a ring is brought up

module _ (plan : Plan) (b : BusState) (brought : IsBrought plan b) (many : length b.vrings ≡ queue_total plan) (n p : ℕ)
    (at : IsAt plan n p) (ring : ℕ) (c : BusState) (is : c ≡ with_ring plan n ring b) where
  abbrev sized : BusState
  sized = after_num b (record { index = n; num = plan.size })

  own_b : b ≡ set_up plan b.status b.suspended b.vrings b.map
  own_b = own_all plan 11 false b.vrings [] b brought

  sized_brought : IsBrought plan sized
  sized_brought = brought_vrings plan _ b sized (sized_is plan b own_b many n p at sized refl) brought

  own_sized : sized ≡ set_up plan sized.status sized.suspended sized.vrings sized.map
  own_sized = own_all plan 11 false sized.vrings [] sized sized_brought

  many_sized : length sized.vrings ≡ queue_total plan
  many_sized = sized_many plan b own_b many n p at sized refl

  pub ring_brought : IsBrought plan c
  ring_brought = brought_vrings plan _ sized c (addressed_is plan sized own_sized many_sized n p at ring c is) sized_brought

  pub ring_many : length c.vrings ≡ queue_total plan
  ring_many = addressed_many plan sized own_sized many_sized n p at ring c is

  pub ring_here : IsRing plan ring n (vring_at plan c p)
  ring_here = addressed_here plan sized own_sized many_sized n p at ring c is (sized_here plan b own_b many n p at sized refl)

  pub ring_other : (r i k : ℕ) → (k ≡ p → ⊥) → IsRing plan r i (vring_at plan b k) → IsRing plan r i (vring_at plan c k)
  ring_other r i k other h = addressed_other plan sized own_sized many_sized n p at ring c is r i k other
      (sized_other plan b own_b many n p at sized refl r i k other h)

-- ---- the control queue

less : (q n : ℕ) → q < n → q ≡ n → ⊥
less q n low is = omega (arith, low, is)

-- all data queues have their rings
abbrev pub HasData : Plan → Mode → ℕ → BusState → Type 0
HasData plan m k b = (q : ℕ) → q < length plan.queues → IsRing plan (ring_in m k q) q (vring_at plan b q)

module _ (plan : Plan) (few : length plan.queues ≤ control_queue) (m : Mode) (k : ℕ) (b c : BusState) where
  pub control_brought : IsBrought plan b → length b.vrings ≡ queue_total plan → c ≡ with_control_ring plan k b → IsBrought plan c
  control_brought brought many is =
      where_control plan (IsBrought plan) (with_ring plan control_queue (control_ring k) b) b c is
      (λ has. ring_brought plan b brought many control_queue (control_place plan) (control_at plan few has) (control_ring k) _ refl)
      (λ no. brought)

  pub rings_brought : IsBrought plan b → length b.vrings ≡ queue_total plan → HasData plan m k b → c ≡ with_control_ring plan k b
      → HasRings plan m k c
  rings_brought brought many each is =
      where_control plan (HasRings plan m k) (with_ring plan control_queue (control_ring k) b) b c is
      (λ has.
      let at = control_at plan few has in
      record {
        many = ring_many plan b brought many control_queue (control_place plan) at (control_ring k) _ refl;
        each = λ q low. ring_other plan b brought many control_queue (control_place plan) at (control_ring k) _ refl (ring_in m k q) q q
            (less q (length plan.queues) low) (each q low);
        control = λ yes. ring_here plan b brought many control_queue (control_place plan) at (control_ring k) _ refl;
      })
      (λ no. record { many = many; each = each; control = λ yes. absurd (false≢true (sym no ∙ yes)) })

  module _ (s : Stands plan b) (sizes : HasSizes plan b) where
    pub control_addressed_is : c ≡ with_control_addr plan k b → c ≡ with_vrings b c.vrings
    control_addressed_is is =
        where_control plan (λ z. z ≡ with_vrings b z.vrings) (with_addr plan control_queue (control_ring k) b) b c is
        (λ has. same_vrings b _ _ (addressed_is plan b s.is sizes.many control_queue (control_place plan) (control_at plan few has)
        (control_ring k) _ refl))
        (λ no. refl)

    pub control_addressed : HasData plan m k b → c ≡ with_control_addr plan k b → HasRings plan m k c
    control_addressed each is =
        where_control plan (HasRings plan m k) (with_addr plan control_queue (control_ring k) b) b c is
        (λ has.
        let at = control_at plan few has in
        record {
          many = addressed_many plan b s.is sizes.many control_queue (control_place plan) at (control_ring k) _ refl;
          each = λ q low. addressed_other plan b s.is sizes.many control_queue (control_place plan) at (control_ring k) _ refl
              (ring_in m k q) q q (less q (length plan.queues) low) (each q low);
          control = λ yes. addressed_here plan b s.is sizes.many control_queue (control_place plan) at (control_ring k) _ refl
              (sizes.each (control_place plan) at.within);
        })
        (λ no. record { many = sizes.many; each = each; control = λ yes. absurd (false≢true (sym no ∙ yes)) })

  module _ (base : ℕ) (s : Stands plan b) (sizes : HasSizes plan b) (is : c ≡ with_control_base plan base b) where
    abbrev based : BusState
    based = after_base b (record { index = control_queue; num = base })

    pub control_based_is : c ≡ with_vrings b c.vrings
    control_based_is = where_control plan (λ z. z ≡ with_vrings b z.vrings) based b c is
        (λ has. same_vrings b _ _ (based_is plan b s.is sizes.many control_queue (control_place plan) (control_at plan few has) base _ refl))
        (λ no. refl)

    pub control_based_keeps : KeepsRings plan b c
    control_based_keeps = where_control plan (KeepsRings plan b) based b c is
        (λ has. based_keeps plan b s.is sizes.many control_queue (control_place plan) (control_at plan few has) base _ refl)
        (λ no. record { many = refl; num = λ q low. refl; addr = λ q low. refl })

    pub control_based_other : (q : ℕ) → q < length plan.queues → (vring_at plan c q).base ≡ (vring_at plan b q).base
    control_based_other q low = where_control plan (λ z. (vring_at plan z q).base ≡ (vring_at plan b q).base) based b c is
        (λ has. based_other plan b s.is sizes.many control_queue (control_place plan) (control_at plan few has) base _ refl q
        (less q (length plan.queues) low))
        (λ no. refl)

    pub control_based_here : HasControlBase base plan c
    control_based_here = where_control plan (HasControlBase base plan) based b c is
        (λ has yes. based_here plan b s.is sizes.many control_queue (control_place plan) (control_at plan few has) base _ refl)
        (λ no yes. absurd (false≢true (sym no ∙ yes)))
