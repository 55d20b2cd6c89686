-- Commands and acks: what the driver's acts and stores keep.
use Rattle.std.proofs.Common.{◌≡◌, ◌≢◌, ℕ, ◌+◌, ◌<◌, ◌≤◌, ◌==◌, ◌&&◌, Bool, true, List, [], ◌∷◌, ◌++◌, length, if◌then◌else◌, slice_index, slice_set, Some, refl, sym, ap, ◌∙◌, subst, arith, inl, inr}
use Rattle.std.specs.List.{Contains}
use Rattle.std.proofs.lemmas.Bool.{cases_eq, cases_lt, eq-eqb, ne_eqb}
use Rattle.std.proofs.lemmas.List.{length_push, get_or-set_other, get_or-set_same, get_or-take}
use Rattle.vd_model.specs.declared.chain.Piece.{Piece}
use Rattle.vd_ring.specs.declared.frame.Frame.{Frame}
use Rattle.vd_ring.specs.declared.frame.Used.{Used}
use Rattle.vd_ring.specs.declared.driver.DriverDone.{DriverDone}
use Rattle.vd_ring.specs.declared.driver.DriverDone.TheVariants.{Offer, Collect, StoreCommand, LoadAck}
use Rattle.vd_ring.specs.declared.device.DeviceDone.{DeviceDone}
use Rattle.vd_ring.specs.declared.device.DeviceDone.TheVariants.{Take, Give, Rest, StoreAck, LoadCommand}
use Rattle.vd_ring.specs.Frames.{Fits, borrowed}
use Rattle.vd_ring.specs.History.{offers, collects, gives, open_at, free, places, head, next_head, chain, first, numbers, occurs, used_at, last_used}
use Rattle.vd_ring.specs.Control.{IsControlChain, last_command, command_of, last_collected, ack_of, CommandsAgree, Commands, Acks}
use Rattle.vd_ring.specs.Places.{Places}
use Rattle.vd_ring.specs.Lists.{Lists}
use Rattle.vd_ring.proofs.Counts.{one_same, one_other, occurs_push, occurs_from, Contains_from, occurs_without, first_occurs}
use Rattle.vd_ring.proofs.HeldPlaces.{open_below, borrowed_some, places_before, places_new, chain_before, chain_new, free_apart, free_inside, head_held, head_inside}
use Rattle.vd_ring.proofs.ListSteps.{some_same, given_below, collected_given}

-- command words of different heads, and of one head, have different places
abbrev pub AreApart : (ℕ → ℕ) → Type 0
AreApart command = (g h i j : ℕ) → i < 2 → j < 2 → command g + i ≡ command h + j → (g ≡ h) × (i ≡ j)

-- ---- the next head

pub next_free : (f : Frame) (o : List DriverDone) → 1 ≤ length (free f o) → 1 ≤ occurs (next_head f o) (free f o)
next_free f o h = first_occurs (free f o) h

pub head_new : (f : Frame) (o : List DriverDone) (c : List Piece) → Places f o → Fits f c
    → head f (Offer c ∷ o) (length (offers o)) ≡ next_head f o
head_new f o c p fits = ap first (places_new f o c p) ∙ get_or-take (borrowed f c) (free f o) 0 0 (borrowed_some f c fits)

pub head_before : (f : Frame) (o : List DriverDone) (c : List Piece) (k : ℕ) → Places f o → k < length (offers o)
    → head f (Offer c ∷ o) k ≡ head f o k
head_before f o c k p h = ap first (places_before f o c k p h)

-- ---- commands

pub commands_elsewhere : (f : Frame) (command ack : ℕ → ℕ) (o : List DriverDone) (stored : List ℕ) (p x : ℕ) → Places f o
    → ((h i : ℕ) → h < f.size → i < 2 → command h + i ≢ p) → Commands f command ack o stored
    → Commands f command ack o (slice_set stored p x)
commands_elsewhere f command ack o stored p x pl apart c = record {
  chains = c.chains;
  last = λ on h i low two. get_or-set_other stored p (command h + i) x 0 (apart h i low two) ∙ c.last on h i low two;
  stand = λ on k i here two. get_or-set_other stored p (command (head f o k) + i) x 0
      (apart (head f o k) i (head_inside f o k pl (occurs_from k (open_at o) here)) two) ∙ c.stand on k i here two;
}

pub commands_offered : (f : Frame) (command ack : ℕ → ℕ) (o : List DriverDone) (c : List Piece) (stored : List ℕ) → Places f o
    → Fits f c → borrowed f c ≤ length (free f o)
    → (f.control ≡ true → IsControlChain (command (next_head f o)) (ack (next_head f o)) c) → Commands f command ack o stored
    → Commands f command ack (Offer c ∷ o) stored
commands_offered f command ack o c stored p fits room is cs =
    let m : ℕ = length (offers o) in
    let inside : next_head f o < f.size = free_inside f o (next_head f o) p (next_free f o (omega (arith, borrowed_some f c fits))) in
    record {
      chains = λ on k h. elim (cases_eq m k) [
        | inl e ↦ subst (λ (j : ℕ). IsControlChain (command (head f (Offer c ∷ o) j)) (ack (head f (Offer c ∷ o) j))
            (chain (Offer c ∷ o) j)) e
            (subst (λ (g : ℕ). IsControlChain (command g) (ack g) (chain (Offer c ∷ o) m)) (sym (head_new f o c p fits))
            (subst (λ (d : List Piece). IsControlChain (command (next_head f o)) (ack (next_head f o)) d) (sym (chain_new o c))
            (is on)))
        | inr ne ↦ (
            let low : k < m = elim (cases_lt k m) [ inl a ↦ a | inr a ↦ absurd (ne (omega (arith, length_push (offers o) c))) ] in
            subst (λ (g : ℕ). IsControlChain (command g) (ack g) (chain (Offer c ∷ o) k)) (sym (head_before f o c k p low))
            (subst (λ (d : List Piece). IsControlChain (command (head f o k)) (ack (head f o k)) d) (sym (chain_before o c k low))
            (cs.chains on k low))
            )
      ];
      last = cs.last;
      stand = λ on k i here two. elim (cases_eq m k) [
        | inl e ↦ subst (λ (j : ℕ). slice_index stored (command (head f (Offer c ∷ o) j) + i) ≡ command_of f (Offer c ∷ o) j i) e
            (ap (λ g. slice_index stored (command g + i)) (head_new f o c p fits) ∙ cs.last on (next_head f o) i inside two
            ∙ sym (ap (λ (b : Bool). if b then last_command o (next_head f o) i else command_of f o m i) (eq-eqb m m refl)))
        | inr ne ↦ (
            let here2 : Contains (open_at o) k =
            Contains_from k (open_at o) (omega (
              arith,
              occurs_from k (open_at (Offer c ∷ o)) here,
              occurs_push k (open_at o) m,
              one_other m k ne,
            )) in
            let low : k < m = open_below f o k p (occurs_from k (open_at o) here2) in
            ap (λ g. slice_index stored (command g + i)) (head_before f o c k p low) ∙ cs.stand on k i here2 two
            ∙ sym (ap (λ (b : Bool). if b then last_command o (next_head f o) i else command_of f o k i) (ne_eqb m k ne))
            )
      ];
    }

pub commands_collected : (f : Frame) (command ack : ℕ → ℕ) (o : List DriverDone) (u : Used) (stored : List ℕ)
    → 1 ≤ occurs u.number (open_at o) → Commands f command ack o stored → Commands f command ack (Collect (u ∷ []) ∷ o) stored
commands_collected f command ack o u stored here c = record {
  chains = c.chains;
  last = c.last;
  stand = λ on k i a two. c.stand on k i
      (Contains_from k (open_at o) (omega (
        arith,
        occurs_from k (open_at (Collect (u ∷ []) ∷ o)) a,
        occurs_without k u.number (open_at o) here,
      ))) two;
}

pub commands_stored : (f : Frame) (command ack : ℕ → ℕ) (o : List DriverDone) (half x : ℕ) (stored : List ℕ) → Places f o
    → AreApart command → half < 2 → 1 ≤ length (free f o) → command (next_head f o) + half < length stored
    → Commands f command ack o stored
    → Commands f command ack (StoreCommand (next_head f o) half x ∷ o) (slice_set stored (command (next_head f o) + half) x)
commands_stored f command ack o half x stored p apart two room inside c =
    let g : ℕ = next_head f o in
    let q : ℕ = command g + half in
    record {
      chains = c.chains;
      last = λ on h i low small. elim (cases_eq g h) [
        | inl e ↦ elim (cases_eq half i) [
          | inl e2 ↦ subst (λ (j : ℕ). slice_index (slice_set stored q x) (command h + j) ≡
              (if (g == h) && (half == j) then x else last_command o h j)) e2
              (subst (λ (y : ℕ). slice_index (slice_set stored q x) (command y + half) ≡
              (if (g == y) && (half == half) then x else last_command o y half)) e
              (get_or-set_same stored q x 0 inside
              ∙ sym (ap (λ (b : Bool). if b && (half == half) then x else last_command o g half) (eq-eqb g g refl)
              ∙ ap (λ (b : Bool). if b then x else last_command o g half) (eq-eqb half half refl))))
          | inr ne ↦ get_or-set_other stored q (command h + i) x 0 (λ e3. ne (sym (apart h g i half small two e3).1))
              ∙ c.last on h i low small
              ∙ sym (ap (λ (b : Bool). if b && (half == i) then x else last_command o h i) (eq-eqb g h e)
              ∙ ap (λ (b : Bool). if b then x else last_command o h i) (ne_eqb half i ne))
        ]
        | inr ne ↦ get_or-set_other stored q (command h + i) x 0 (λ e. ne (sym (apart h g i half small two e).0))
            ∙ c.last on h i low small ∙ sym (ap (λ (b : Bool). if b && (half == i) then x else last_command o h i) (ne_eqb g h ne))
      ];
      stand = λ on k i here small.
          let is_open = occurs_from k (open_at o) here in
          let held = head_held f o k p is_open in
          let other : head f o k ≢ g = λ e. omega (
            arith,
            free_apart f o k g p is_open (next_free f o room),
            subst (λ (y : ℕ). 1 ≤ occurs y (places f o k)) e held,
          ) in
          get_or-set_other stored q (command (head f o k) + i) x 0 (λ e. other (apart (head f o k) g i half small two e).0)
          ∙ c.stand on k i here small;
    }

pub commands_loaded : (f : Frame) (command ack : ℕ → ℕ) (o : List DriverDone) (l y : ℕ) (stored : List ℕ)
    → Commands f command ack o stored → Commands f command ack (LoadAck l y ∷ o) stored
commands_loaded f command ack o l y stored c = record { chains = c.chains; last = c.last; stand = c.stand }

-- ---- what was loaded agrees

pub commands_agree : (f : Frame) (o o2 : List DriverDone) (s : List DeviceDone) → length (offers o) ≤ length (offers o2)
    → ((k i : ℕ) → k < length (offers o) → command_of f o2 k i ≡ command_of f o k i) → CommandsAgree f o s → CommandsAgree f o2 s
commands_agree f o o2 [] more same a = tt
commands_agree f o o2 (Take c g ∷ s) more same a = commands_agree f o o2 s more same a
commands_agree f o o2 (Give us ∷ s) more same a = commands_agree f o o2 s more same a
commands_agree f o o2 (Rest ∷ s) more same a = commands_agree f o o2 s more same a
commands_agree f o o2 (StoreAck g x ∷ s) more same a = commands_agree f o o2 s more same a
commands_agree f o o2 (LoadCommand k i x ∷ s) more same a =
    (omega (arith, a.0), a.1 ∙ sym (same k i a.0), commands_agree f o o2 s more same a.2)

-- ---- the chain collected last

last_in : (u : Used) (us : List Used) → 1 ≤ occurs (last_used (u ∷ us)).number (numbers (u ∷ us))
last_in u [] = omega (arith, one_same u.number u.number refl)
last_in u (v ∷ us) = omega (arith, last_in v us)

numbers-append : (k : ℕ) (us vs : List Used) → occurs k (numbers (us ++ vs)) ≡ occurs k (numbers us) + occurs k (numbers vs)
numbers-append k [] vs = omega arith
numbers-append k (u ∷ us) vs = omega (arith, numbers-append k us vs)

numbers_nil : (us : List Used) (k : ℕ) → occurs k (numbers us) ≤ occurs k (numbers (us ++ []))
numbers_nil us k = omega (arith, numbers-append k us [])

-- it is one of those collected
pub last_is_collected : (o : List DriverDone) (k : ℕ) → last_collected o ≡ Some k → 1 ≤ occurs k (numbers (collects o))
last_is_collected [] k is = absurd cc
last_is_collected (Offer c ∷ o) k is = absurd cc
last_is_collected (Collect [] ∷ o) k is = omega (arith, last_is_collected o k is, numbers_nil (collects o) k)
last_is_collected (Collect (u ∷ us) ∷ o) k is =
    let e : (last_used (u ∷ us)).number ≡ k = some_same (last_used (u ∷ us)).number k is in
    subst (λ (j : ℕ). 1 ≤ occurs j (numbers (collects o ++ u ∷ us))) e
    (omega (arith, numbers-append (last_used (u ∷ us)).number (collects o) (u ∷ us), last_in u us))
last_is_collected (StoreCommand g j x ∷ o) k is = last_is_collected o k is
last_is_collected (LoadAck l x ∷ o) k is = last_is_collected o k is

-- and was given
pub last_is_given : (f : Frame) (o : List DriverDone) (s : List DeviceDone) (k : ℕ) → Lists f o s → last_collected o ≡ Some k
    → 1 ≤ occurs k (numbers (gives s))
last_is_given f o s k l is = omega (arith, last_is_collected o k is, collected_given f o s k l)

-- ---- acks

pub acks_offered : (f : Frame) (ack : ℕ → ℕ) (o : List DriverDone) (c : List Piece) (s : List DeviceDone) (stored : List ℕ) → Places f o
    → Lists f o s → Acks f ack o s stored → Acks f ack (Offer c ∷ o) s stored
acks_offered f ack o c s stored p l a = record {
  last = a.last;
  stand = λ on j low high. ap (λ g. slice_index stored (ack g))
      (head_before f o c (used_at (gives s) j).number p (omega (arith, given_below f o s j l high, l.some))) ∙ a.stand on j low high;
  collected = λ on k is. absurd cc;
  commands_agree = commands_agree f o (Offer c ∷ o) s (omega (arith, length_push (offers o) c))
      (λ k i h. ap (λ (b : Bool). if b then last_command o (next_head f o) i else command_of f o k i)
      (ne_eqb (length (offers o)) k (λ e. omega arith))) a.commands_agree;
  acks_agree = a.acks_agree;
}

pub acks_collected : (f : Frame) (ack : ℕ → ℕ) (o : List DriverDone) (s : List DeviceDone) (stored : List ℕ)
    → length (collects o) < length (gives s) → Acks f ack o s stored
    → Acks f ack (Collect (used_at (gives s) (length (collects o)) ∷ []) ∷ o) s stored
acks_collected f ack o s stored below a =
    let u : Used = used_at (gives s) (length (collects o)) in record {
      last = a.last;
      stand = λ on j low high. a.stand on j (omega (arith, length_push (collects o) u)) high;
      collected = λ on k is. subst (λ (j : ℕ). slice_index stored (ack (head f o j)) ≡ ack_of s j) (some_same u.number k is)
          (a.stand on (length (collects o)) (omega arith) below);
      commands_agree = commands_agree f o (Collect (u ∷ []) ∷ o) s (omega arith) (λ k i h. refl) a.commands_agree;
      acks_agree = a.acks_agree;
    }

pub acks_stored : (f : Frame) (ack : ℕ → ℕ) (o : List DriverDone) (h i x : ℕ) (s : List DeviceDone) (stored : List ℕ)
    → Acks f ack o s stored → Acks f ack (StoreCommand h i x ∷ o) s stored
acks_stored f ack o h i x s stored a = record {
  last = a.last;
  stand = a.stand;
  collected = a.collected;
  commands_agree = commands_agree f o (StoreCommand h i x ∷ o) s (omega arith) (λ k j b. refl) a.commands_agree;
  acks_agree = a.acks_agree;
}

pub acks_loaded : (f : Frame) (ack : ℕ → ℕ) (o : List DriverDone) (k x : ℕ) (s : List DeviceDone) (stored : List ℕ) → Lists f o s
    → f.control ≡ true → last_collected o ≡ Some k → x ≡ slice_index stored (ack (head f o k)) → Acks f ack o s stored
    → Acks f ack (LoadAck k x ∷ o) s stored
acks_loaded f ack o k x s stored l on is word a = record {
  last = a.last;
  stand = a.stand;
  collected = a.collected;
  commands_agree = commands_agree f o (LoadAck k x ∷ o) s (omega arith) (λ j i b. refl) a.commands_agree;
  acks_agree = (last_is_given f o s k l is, word ∙ a.collected on k is, a.acks_agree);
}
