-- What the acts of a replay leave of the chains that it sent.
use Rattle.std.proofs.Common.{◌≡◌, ℕ, ◌+◌, ◌≤◌, Some, List, [], ◌∷◌, ◌++◌, length, refl, sym, ◌∙◌, ap, subst, arith, inl, inr}
use Rattle.std.specs.Prelude.{slice_get}
use Rattle.std.proofs.lemmas.Bool.{cases_eq, cases_lt, eq-eqb, ne_eqb}
use Rattle.std.proofs.Math.ListN.{length-append}
use Rattle.vd_model.specs.declared.chain.Piece.{Piece}
use Rattle.vd_model.specs.Chains.{readable}
use Rattle.vd_ring.specs.declared.frame.Frame.{Frame}
use Rattle.vd_ring.specs.declared.driver.DriverDone.{DriverDone}
use Rattle.vd_ring.specs.declared.driver.DriverDone.TheVariants.{Offer, Collect, StoreCommand, LoadAck}
use Rattle.vd_ring.specs.History.{entry, offers, collects, open_at, chain, occurs, without}
use Rattle.vd_ring.specs.Control.{last_command}
use Rattle.vd_ring.proofs.HeldPlaces.{chain_before, chain_new}
use Rattle.vd_control.specs.declared.command.Command.{Command}
use Rattle.vd_control.specs.declared.command.Command.TheVariants.{Rx, Mac, VlanAdd, VlanDel, Pairs, Offloads}
use Rattle.vd_control.specs.Commands.{IsCommand, spelled}
use Rattle.vd_relay.specs.declared.replay.ReplayStage.{ReplayStage}
use Rattle.vd_relay.specs.Replays.{AreCarried, AreAcked, IsBetween, Awaits, IsStored, IsAt}

-- all that is said of what was done
abbrev pub Sent : ReplayStage → List Command → ℕ → Frame → List DriverDone → Type 0
Sent st cs n g o = IsAt st cs n g o × AreCarried cs g o × AreAcked n o

pub moved_to : (st : ReplayStage) (cs : List Command) (n : ℕ) (g g' : Frame) (o o' : List DriverDone) → g' ≡ g → o' ≡ o
    → Sent st cs n g o → Sent st cs n g' o'
moved_to st cs n g g' o o' e f h = subst (λ (x : Frame). Sent st cs n x o') (sym e)
    (subst (λ (y : List DriverDone). Sent st cs n g y) (sym f) h)

-- ---- an offer

pub carried_offered : (cs : List Command) (g : Frame) (o : List DriverDone) (c : List Piece) (n : ℕ) → length (offers o) ≡ n
    → AreCarried cs g o → IsStored cs n g o 0 → IsStored cs n g o 1
    → ((b : Command) → slice_get cs n ≡ Some b → readable c ≡ length (spelled b)) → AreCarried cs g (Offer c ∷ o)
carried_offered cs g o c n is h s0 s1 of = λ k b below at. elim (cases_lt k (length (offers o))) [
  | inl low ↦
      let old = h k b low at in
      let ne : length (offers o) ≡ k → ⊥ = λ e. absurd (omega (arith, low, e)) in
      record {
        bytes = ap readable (chain_before o c k low) ∙ old.bytes;
        first = rw (ne_eqb (length (offers o)) k ne) old.first;
        second = rw (ne_eqb (length (offers o)) k ne) old.second;
      }
  | inr high ↦
      let e : length (offers o) ≡ k = omega (arith, high, below, length-append (offers o) (c ∷ [])) in
      let here : slice_get cs n ≡ Some b = subst (λ (j : ℕ). slice_get cs j ≡ Some b) (sym e ∙ is) at in
      record {
        bytes = ap (λ (j : ℕ). readable (chain (Offer c ∷ o) j)) (sym e) ∙ ap readable (chain_new o c) ∙ of b here;
        first = rw (eq-eqb (length (offers o)) k e) (s0 b here);
        second = rw (eq-eqb (length (offers o)) k e) (s1 b here);
      }
]

pub awaits_offered : (o : List DriverDone) (c : List Piece) (n : ℕ) → IsBetween o n → Awaits (Offer c ∷ o) n
awaits_offered o c n h = record {
  offered = omega (arith, length-append (offers o) (c ∷ []), h.offered);
  collected = h.collected;
  one = ap (λ (ks : List ℕ). ks ++ length (offers o) ∷ []) h.none ∙ ap (λ (j : ℕ). j ∷ []) h.offered;
}

-- ---- a collect

pub is_number : (o : List DriverDone) (n k : ℕ) → open_at o ≡ n ∷ [] → 1 ≤ occurs k (open_at o) → n ≡ k
is_number o n k is some = elim (cases_eq n k) [
  | inl e ↦ e
  | inr ne ↦
      let none : occurs k (n ∷ []) ≡ 0 = rw (ne_eqb n k ne) refl in
      absurd (omega (arith, some, ap (λ (ks : List ℕ). occurs k ks) is, none))
]

pub between_collected : (o : List DriverDone) (n k l : ℕ) → Awaits o n → n ≡ k → IsBetween (Collect (entry k l ∷ []) ∷ o) (n + 1)
between_collected o n k l h e = record {
  offered = h.offered;
  collected = omega (arith, length-append (collects o) (entry k l ∷ []), h.collected);
  none = ap (λ (ks : List ℕ). without k ks) h.one ∙ none_left;
}
  where
    none_left : without k (n ∷ []) ≡ []
    none_left = rw (eq-eqb n k e) refl

pub carried_collected : (cs : List Command) (g : Frame) (o : List DriverDone) (k l : ℕ) → AreCarried cs g o
    → AreCarried cs g (Collect (entry k l ∷ []) ∷ o)
carried_collected cs g o k l h = λ j b below at.
    let old = h j b below at in
    record { bytes = old.bytes; first = old.first; second = old.second }

-- ---- a command word

pub carried_stored : (cs : List Command) (g : Frame) (o : List DriverDone) (q i w : ℕ) → AreCarried cs g o
    → AreCarried cs g (StoreCommand q i w ∷ o)
carried_stored cs g o q i w h = λ j b below at.
    let old = h j b below at in
    record { bytes = old.bytes; first = old.first; second = old.second }

pub between_stored : (o : List DriverDone) (n q i w : ℕ) → IsBetween o n → IsBetween (StoreCommand q i w ∷ o) n
between_stored o n q i w h = record { offered = h.offered; collected = h.collected; none = h.none }

pub stored_here : (o : List DriverDone) (h i w : ℕ) → last_command (StoreCommand h i w ∷ o) h i ≡ w
stored_here o h i w = rw (eq-eqb h h refl) (rw (eq-eqb i i refl) refl)

pub stored_other : (o : List DriverDone) (h w : ℕ) → last_command (StoreCommand h 1 w ∷ o) h 0 ≡ last_command o h 0
stored_other o h w = rw (eq-eqb h h refl) refl

-- ---- an ack

pub carried_loaded : (cs : List Command) (g : Frame) (o : List DriverDone) (n x : ℕ) → AreCarried cs g o
    → AreCarried cs g (LoadAck n x ∷ o)
carried_loaded cs g o n x h = λ j b below at.
    let old = h j b below at in
    record { bytes = old.bytes; first = old.first; second = old.second }

pub between_loaded : (o : List DriverDone) (m n x : ℕ) → IsBetween o m → IsBetween (LoadAck n x ∷ o) m
between_loaded o m n x h = record { offered = h.offered; collected = h.collected; none = h.none }

pub acked_loaded : (n x : ℕ) (o : List DriverDone) → AreAcked n o → AreAcked (n + 1) (LoadAck n x ∷ o)
acked_loaded n x o h = λ k. elim (cases_eq n k) [
  | inl e ↦ rw (eq-eqb n k e) ((λ some. omega (arith, e)), λ below. refl)
  | inr ne ↦ rw (ne_eqb n k ne) (
    (λ some. omega (arith, (h k).0 some)),
    λ below. (h k).1 (elim (cases_lt k n) [ inl a ↦ a | inr b ↦ absurd (ne (omega (arith, b, below))) ]),
  )
]

-- ---- the bytes of a command

pub spelled_few : (b : Command) → IsCommand b → (3 ≤ length (spelled b)) × (length (spelled b) ≤ 10)
spelled_few (Rx flag on) h = (omega arith, omega arith)
spelled_few (Mac mac) h = (omega (arith, h), omega (arith, h))
spelled_few (VlanAdd vlan) h = (omega arith, omega arith)
spelled_few (VlanDel vlan) h = (omega arith, omega arith)
spelled_few (Pairs pairs) h = (omega arith, omega arith)
spelled_few (Offloads offloads) h = (omega arith, omega arith)
