-- Where all that the shadow ring's device gave is collected and given, the guest's end is whole: of any course of a relay.
use Rattle.std.proofs.Common.{◌≡◌, ℕ, ◌+◌, ◌-◌, ◌<◌, ◌≤◌, List, [], ◌∷◌, ◌++◌, length, map, refl, sym, ◌∙◌, ap, arith, inl, inr}
use Rattle.std.proofs.lemmas.Bool.{cases_lt, cases_eq}
use Rattle.std.proofs.lemmas.List.{take_all}
use Rattle.vd_ring.specs.declared.driver.DriverView.{DriverView}
use Rattle.vd_ring.specs.declared.device.DeviceView.{DeviceView}
use Rattle.vd_ring.specs.declared.device.DeviceDone.{DeviceDone}
use Rattle.vd_ring.specs.declared.frame.Used.{Used}
use Rattle.vd_ring.specs.History.{offers, collects, takes, gives, running, open_at, numbers, occurs, without_all, IsWhole}
use Rattle.vd_ring.specs.Lists.{Lists}
use Rattle.vd_ring.specs.Places.{Places}
use Rattle.vd_ring.proofs.Counts.{one_same, one_other, one_below, occurs-append}
use Rattle.vd_layout.specs.Driver.{DriverModel}
use Rattle.vd_layout.specs.Device.{DeviceModel}
use Rattle.vd_layout.specs.Layout.{LayoutModel, IsLawfulLayout}
use Rattle.vd_relay.specs.Relay.{Stands}
use Rattle.vd_relay.specs.Tie.{Course, guests, numbered}
use Rattle.vd_relay.specs.Ways.{Way, moving, carrying, numbered_by}
use Rattle.vd_relay.specs.declared.state.State.{State}
use Rattle.vd_relay.proofs.Ties.{given_count}
use Rattle.vd_relay.proofs.Ways.{skips, came_count, open_past, number_at}
use Rattle.vd_switch.specs.ShadowingLanes.{IsWinding}

pub not_numbered : {X : Type 0} (j m : ℕ) (xs : List X) → j < m → occurs j (numbered m xs) ≡ 0
not_numbered j m [] low = refl
not_numbered j m (x ∷ xs) low = omega (arith, one_other m j (λ e. omega arith), not_numbered j (m + 1) xs (omega arith))

-- a chain of the guest's ring that was there before is none of those carried
occurs_before : (way : Way) (b k : ℕ) (xs : List ℕ) → k < b → occurs k (map (numbered_by way b) xs) ≡ 0
occurs_before way b k [] low = refl
occurs_before (moving ms) b k (x ∷ xs) low =
    omega (arith, one_other (b + x) k (λ e. omega arith), occurs_before (moving ms) b k xs low)
occurs_before (carrying n) b k (x ∷ xs) low =
    omega (arith, one_other (b + (x - n)) k (λ e. omega arith), occurs_before (carrying n) b k xs low)

-- it has one number for each chain that is carried
occurs_carried : (way : Way) (b j : ℕ) (xs : List ℕ) → skips way ≤ j → ((i : ℕ) → 1 ≤ occurs i xs → skips way ≤ i)
    → occurs (numbered_by way b j) (map (numbered_by way b) xs) ≡ occurs j xs
occurs_carried way b j [] past all = refl
occurs_carried way b j (x ∷ xs) past all =
    let rest = occurs_carried way b j xs past (λ i some. all i (omega (arith, some))) in
    elim (cases_eq x j) [
      | inl e ↦ omega (arith, one_same x j e, one_same (numbered_by way b x) (numbered_by way b j) (ap (numbered_by way b) e), rest)
      | inr ne ↦ (
          let here : skips way ≤ x = all x (omega (arith, one_same x x refl)) in
          omega (
            arith,
            one_other x j ne,
            one_other (numbered_by way b x) (numbered_by way b j)
                (λ h. ne (omega (arith, h, number_at way b x here, number_at way b j past))),
            rest,
          )
          )
    ]

module _ {E D : Type 0} (e : DeviceModel E) (d : DriverModel D) (l : LayoutModel) (law : IsLawfulLayout d e l) (z : Course)
    (r : State E D) (words shadow_words : List ℕ) (v : DriverView) (w : DeviceView) (sv : DriverView) (sw : DeviceView)
    (ring : l.ring words v w) (shadow_ring : l.ring shadow_words sv sw) (h : Stands e d z r w sv) (winds : IsWinding r sw)
    (acts : w.done ≡ h.acts) (back : h.back ≡ []) (all : length (collects sv.done) ≡ r.target) where
  outer : Lists v.frame v.done w.done
  outer = law.lists words v w ring

  inner : Lists sv.frame sv.done sw.done
  inner = law.lists shadow_words sv sw shadow_ring

  opened : Places sv.frame sv.done
  opened = law.places shadow_words sv sw shadow_ring

  as_many : length (collects sv.done) ≡ length (gives sw.done)
  as_many = all ∙ winds.target

  collected : collects sv.done ≡ gives sw.done
  collected = inner.collected ∙ take_all (length (collects sv.done)) (gives sw.done) (omega (arith, as_many))

  abbrev carried : List ℕ
  carried = open_at sv.done ++ numbered (length (offers sv.done)) h.hand

  runs : running w.done ≡ map (guests z) carried
  runs = ap running acts ∙ ap (λ (us : List Used). without_all us (running h.acts)) (sym back) ∙ h.tied.runs

  some : skips z.way ≤ length (collects sv.done)
  some = omega (arith, came_count z.way sv.done h.tied.follows)

  past : (i : ℕ) → 1 ≤ occurs i carried → skips z.way ≤ i
  past i there = elim (cases_lt i (length (offers sv.done))) [
    | inl low ↦ open_past z.way sv.done i h.tied.follows (omega (
      arith,
      there,
      occurs-append i (open_at sv.done) (numbered (length (offers sv.done)) h.hand),
      not_numbered i (length (offers sv.done)) h.hand low,
    ))
    | inr high ↦ omega (arith, high, some, as_many, winds.even, inner.some)
  ]

  given : length (gives w.done) + skips z.way ≡ length z.gives + length (gives sw.done)
  given = omega (
    arith,
    ap (λ (s : List DeviceDone). length (gives s)) acts,
    given_count z r.table h.acts sv.frame sv.done h.hand h.back h.tied,
    came_count z.way sv.done h.tied.follows,
    ap (λ (us : List Used). length us) back,
    as_many,
  )

  no_longer : (k : ℕ) → k < length (gives w.done) → occurs k (running w.done) ≡ 0
  no_longer k low = elim (cases_lt k (length z.gives)) [
    | inl a ↦ ap (occurs k) runs ∙ occurs_before z.way (length z.gives) k carried a
    | inr a ↦ (
        let j : ℕ = k - length z.gives + skips z.way in
        let after : skips z.way ≤ j = omega arith in
        let is : guests z j ≡ k = omega (arith, number_at z.way (length z.gives) j after, a) in
        let inside : j < length (gives sw.done) = omega (arith, given, a, low) in
        let once : occurs j (numbers (collects sv.done)) ≡ 1 = ap (λ (us : List Used). occurs j (numbers us)) collected
        ∙ winds.whole j inside in
        let offered : j < length (offers sv.done) = omega (arith, inner.some, winds.even, inside) in
        let closed : occurs j (open_at sv.done) ≡ 0 = omega
        (arith, opened.is_open j, one_below j (length (offers sv.done)) offered, once) in
        ap (occurs k) runs ∙ ap (λ (i : ℕ). occurs i (map (guests z) carried)) (sym is)
        ∙ occurs_carried z.way (length z.gives) j carried after past
        ∙ occurs-append j (open_at sv.done) (numbered (length (offers sv.done)) h.hand)
        ∙ omega (arith, closed, not_numbered j (length (offers sv.done)) h.hand offered)
        )
  ]

  pub whole_by : IsWhole w.done
  whole_by k low = omega (arith, outer.given k, one_below k (length (takes w.done)) (omega (arith, outer.count)), no_longer k low)
