-- How many commands a device of the control queue has begun, by what it has loaded of each chain that it took.
use Rattle.std.proofs.Common.{◌≡◌, ◌⊎◌, ℕ, ◌+◌, ◌-◌, ◌<◌, ◌≤◌, List, [], ◌∷◌, length, drop, slice_index_or, refl, sym, ◌∙◌, ap, subst, arith, inl, inr}
use Rattle.std.proofs.lemmas.Bool.{cases_lt, cases_eq, eq-eqb, ne_eqb}
use Rattle.std.proofs.lemmas.List.{length-map, length-append, length-drop, length-take}
use Rattle.std.proofs.lemmas.Option.{slice_get-get_or}
use Rattle.vd_model.specs.declared.chain.Piece.{Piece}
use Rattle.vd_model.specs.declared.record.Begun.{Begun}
use Rattle.vd_ring.specs.declared.device.DeviceDone.{DeviceDone}
use Rattle.vd_ring.specs.declared.device.DeviceDone.TheVariants.{Take, Give, Rest, StoreAck, LoadCommand}
use Rattle.vd_ring.specs.History.{takes, gives}
use Rattle.vd_bus.specs.Acts.{IsOneActMore}
use Rattle.vd_bus.specs.declared.device.Attached.{Attached}
use Rattle.vd_bus.specs.Device.{IsCommanded, chains_of}
use Rattle.vd_bus.specs.DeviceCommands.{IsExecuted, IsWaiting}
use Rattle.vd_control.specs.declared.settings.Settings.{Settings}
use Rattle.vd_commands.specs.Loads.{CommandLoad, loaded, command_loads}
use Rattle.vd_switch.specs.CommandLaneSteps.{LoadsSecond}
use Rattle.vd_switch.proofs.CommandJournal.{no_begun}

-- both words were loaded
abbrev AreBoth : List CommandLoad → Type 0
AreBoth ls = (first : ℕ) × (second : ℕ) × (ls ≡ loaded 1 second ∷ loaded 0 first ∷ [])

-- so many are begun: of each of them both words were loaded, and what is taken besides waits for them. That is one chain at most
pub record AreBegun (s : List DeviceDone) (n : ℕ) : Type 0 where
  pub few : n ≤ length (takes s)
  pub one : length (takes s) ≤ n + 1
  pub done : (k : ℕ) → k < n → AreBoth (command_loads s k)
  pub rest : (k : ℕ) → k < length (takes s) → n ≤ k → IsWaiting s k

pub begun_of : (begun : List Begun) (by : Attached) (at_attach now : Settings) (s : List DeviceDone)
    → IsCommanded begun by at_attach now s → by.from ≡ 0 → AreBegun s (length (drop by.at begun))
begun_of begun by at_attach now s h from =
    let ds : List Begun = drop by.at begun in
    let many : length ds ≡ length begun - by.at = length-drop by.at begun in
    record {
      few = omega (
        arith,
        length-map ds (λ (b : Begun). b.chain),
        length-append (chains_of ds) h.chains.0,
        ap (λ (cs : List (List Piece)). length cs) h.chains.1,
        length-drop by.from (takes s),
      );
      one = omega (arith, many, h.in_hand, h.after, from);
      done = λ k low.
          let at : by.from + k ≡ k = omega (arith, from) in
          let x = subst (λ (i : ℕ). IsExecuted s i (slice_index_or ds k no_begun)) at
          (h.each k (slice_index_or ds k no_begun) (slice_get-get_or ds k no_begun low)) in
          (x.first, x.second, x.are_loaded);
      rest = λ k low past. h.waits k low (omega (arith, many, h.after, from));
    }

-- a chain can't wait for what was loaded
clash : (s s' : List DeviceDone) (k : ℕ) → AreBoth (command_loads s' k) → command_loads s' k ≡ command_loads s k → IsWaiting s k → ⊥
clash s s' k both same (inl none) = absurd (omega (
  arith,
  ap (λ (ls : List CommandLoad). length ls) both.2,
  ap (λ (ls : List CommandLoad). length ls) same,
  ap (λ (ls : List CommandLoad). length ls) none,
))
clash s s' k both same (inr first) = absurd (omega (
  arith,
  ap (λ (ls : List CommandLoad). length ls) both.2,
  ap (λ (ls : List CommandLoad). length ls) same,
  ap (λ (ls : List CommandLoad). length ls) first.1,
))

abbrev half_of : List CommandLoad → ℕ
half_of [] = 0
half_of (l ∷ ls) = l.half

-- nothing more is begun, or the next, by the load of its second word
abbrev BeginsNext : List DeviceDone → List DeviceDone → ℕ → ℕ → Type 0
BeginsNext s s' n m = (m ≡ n) ⊎ ((m ≡ n + 1) × (n < length (takes s)) × (x : ℕ) × (s' ≡ LoadCommand n 1 x ∷ s))

module _ (s s' : List DeviceDone) (n m : ℕ) (h : AreBegun s n) (h' : AreBegun s' m) (low : n ≤ m) where
  same_loads : length (takes s') ≤ length (takes s) → command_loads s' n ≡ command_loads s n → BeginsNext s s' n m
  same_loads takes same = elim (cases_lt n m) [
    | inl more ↦ absurd (clash s s' n (h'.done n more) same (h.rest n (omega (arith, h'.few)) (omega arith)))
    | inr none ↦ inl (omega arith)
  ]

  begins_at : (act : DeviceDone) → s' ≡ act ∷ s → BeginsNext s s' n m
  begins_at (Take c q) is = elim (cases_eq (length (takes s)) n) [
    | inl e ↦ elim (cases_lt n m) [
      | inl more ↦ (
          let none : command_loads s' n ≡ [] = ap (λ (x : List DeviceDone). command_loads x n) is ∙ rw (eq-eqb (length (takes s)) n e) refl in
          absurd (omega (
            arith,
            ap (λ (ls : List CommandLoad). length ls) (h'.done n more).2,
            ap (λ (ls : List CommandLoad). length ls) none,
          ))
          )
      | inr none ↦ inl (omega arith)
    ]
    | inr ne ↦ elim (cases_lt n m) [
      | inl more ↦ absurd (clash s s' n (h'.done n more)
          (ap (λ (x : List DeviceDone). command_loads x n) is ∙ rw (ne_eqb (length (takes s)) n ne) refl)
          (h.rest n (omega (arith, h.few, ne_low ne)) (omega arith)))
      | inr none ↦ inl (omega arith)
    ]
  ]
    where
      ne_low : (length (takes s) ≡ n → ⊥) → n < length (takes s)
      ne_low ne = elim (cases_lt n (length (takes s))) [
        | inl a ↦ a
        | inr b ↦ absurd (ne (omega (arith, h.few)))
      ]
  begins_at (Give us) is = same_loads (omega (arith, ap (λ (x : List DeviceDone). length (takes x)) is))
      (ap (λ (x : List DeviceDone). command_loads x n) is)
  begins_at Rest is = same_loads
      (omega (arith, ap (λ (x : List DeviceDone). length (takes x)) is, length-take (length (gives s)) (takes s)))
      (ap (λ (x : List DeviceDone). command_loads x n) is)
  begins_at (StoreAck q x) is = same_loads (omega (arith, ap (λ (x : List DeviceDone). length (takes x)) is))
      (ap (λ (x : List DeviceDone). command_loads x n) is)
  begins_at (LoadCommand k i x) is = elim (cases_eq k n) [
    | inl e ↦ elim (cases_lt n m) [
      | inl more ↦ (
          let both = h'.done n more in
          let now : command_loads s' n ≡ loaded i x ∷ command_loads s n = ap (λ (y : List DeviceDone). command_loads y n) is
          ∙ rw (eq-eqb k n e) refl in
          let second : i ≡ 1 = ap half_of (sym now ∙ both.2) in
          let same : length (takes s') ≡ length (takes s) = ap (λ (y : List DeviceDone). length (takes y)) is in
          inr (
            omega (arith, h'.few, same, h.one),
            omega (arith, h'.few, same),
            x,
            is ∙ ap (λ (j : ℕ). LoadCommand j i x ∷ s) e ∙ ap (λ (j : ℕ). LoadCommand n j x ∷ s) second,
          )
          )
      | inr none ↦ inl (omega arith)
    ]
    | inr ne ↦ same_loads (omega (arith, ap (λ (y : List DeviceDone). length (takes y)) is))
        (ap (λ (y : List DeviceDone). command_loads y n) is ∙ rw (ne_eqb k n ne) refl)
  ]

  pub begins : IsOneActMore s s' → BeginsNext s s' n m
  begins (inl same) = same_loads (omega (arith, ap (λ (x : List DeviceDone). length (takes x)) same))
      (ap (λ (x : List DeviceDone). command_loads x n) same)
  begins (inr more) = begins_at more.0 more.1

  -- the load of a second word begins the next
  pub second_begins : (k x : ℕ) → k < length (takes s) → s' ≡ LoadCommand k 1 x ∷ s → (k ≡ n) × (m ≡ n + 1)
  second_begins k x taken is =
      let now : command_loads s' k ≡ loaded 1 x ∷ command_loads s k = ap (λ (y : List DeviceDone). command_loads y k) is
      ∙ rw (eq-eqb k k refl) refl in
      let same : length (takes s') ≡ length (takes s) = ap (λ (y : List DeviceDone). length (takes y)) is in
      let past : n ≤ k = elim (cases_lt k n) [
        | inl a ↦ absurd (omega (
          arith,
          ap (λ (ls : List CommandLoad). length ls) (h.done k a).2,
          ap (λ (ls : List CommandLoad). length ls) now,
          ap (λ (ls : List CommandLoad). length ls) (h'.done k (omega arith)).2,
        ))
        | inr b ↦ b
      ] in
      let more : k < m = elim (cases_lt k m) [
        | inl a ↦ a
        | inr b ↦ absurd (elim (h'.rest k (omega (arith, same)) b) as (λ _. ⊥) [
          | inl none ↦ absurd (omega (
            arith,
            ap (λ (ls : List CommandLoad). length ls) none,
            ap (λ (ls : List CommandLoad). length ls) now,
          ))
          | inr first ↦ absurd (omega (arith, ap half_of (sym now ∙ first.1)))
        ])
      ] in
      (omega (arith, h.one), omega (arith, h.one, h'.few, same))

-- the count without those replayed rises exactly where the second word of one that was not replayed is loaded
pub rises : (s s' : List DeviceDone) (n m replayed b : ℕ) → AreBegun s n → AreBegun s' m → n ≤ m → IsOneActMore s s'
    → ((b + (m - replayed) ≡ b + (n - replayed)) ⊎ (b + (m - replayed) ≡ b + (n - replayed) + 1))
rises s s' n m replayed b h h' low acts = elim (begins s s' n m h h' low acts) [
  | inl same ↦ inl (omega arith)
  | inr next ↦ elim (cases_lt n replayed) [
    | inl early ↦ inl (omega (arith, next.0))
    | inr late ↦ inr (omega (arith, next.0))
  ]
]

pub rises_by : (s s' : List DeviceDone) (n m replayed b : ℕ) → AreBegun s n → AreBegun s' m → n ≤ m → IsOneActMore s s'
    → b + (m - replayed) ≡ b + (n - replayed) + 1 → LoadsSecond replayed s s'
rises_by s s' n m replayed b h h' low acts up = elim (begins s s' n m h h' low acts) [
  | inl same ↦ absurd (omega arith)
  | inr next ↦ (n, next.2, omega (arith, next.0), next.1, next.3)
]

pub rises_to : (s s' : List DeviceDone) (n m replayed b : ℕ) → AreBegun s n → AreBegun s' m → n ≤ m → LoadsSecond replayed s s'
    → b + (m - replayed) ≡ b + (n - replayed) + 1
rises_to s s' n m replayed b h h' low load =
    let is = second_begins s s' n m h h' low load.0 load.1 load.3 load.4 in omega (arith, is.0, is.1, load.2)
