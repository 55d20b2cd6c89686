-- What an offer and a collect on the shadow ring leave of what was carried.
use Rattle.std.proofs.Common.{◌≡◌, ◌≢◌, ℕ, ◌<◌, ◌≤◌, false, Some, None, IsSome, Option, List, [], ◌∷◌, length, nat_lt, slice_set, refl, sym, ◌∙◌, ap, subst, arith, inl, inr}
use Rattle.std.proofs.lemmas.Bool.{cases_eq, cases_lt, eq-eqb, ne_eqb}
use Rattle.std.proofs.lemmas.List.{get_or-set_same, get_or-set_other}
use Rattle.std.proofs.Math.ListN.{length-set, length-append}
use Rattle.vd_model.specs.declared.chain.Piece.{Piece}
use Rattle.vd_model.specs.Chains.{readable}
use Rattle.vd_ring.specs.declared.frame.Frame.{Frame}
use Rattle.vd_ring.specs.declared.driver.DriverDone.{DriverDone}
use Rattle.vd_ring.specs.declared.driver.DriverDone.TheVariants.{Offer, Collect}
use Rattle.vd_ring.specs.declared.device.DeviceDone.{DeviceDone}
use Rattle.vd_ring.specs.Frames.{Fits, borrowed}
use Rattle.vd_ring.specs.History.{entry, offers, open_at, takes, gives, chain_at, numbers, occurs, free, places, head, next_head, first, without, chain}
use Rattle.vd_ring.specs.Control.{last_command}
use Rattle.vd_ring.specs.Places.{Places}
use Rattle.vd_ring.proofs.Counts.{one_same, one_other, one_small, occurs_push, occurs_without, first_occurs}
use Rattle.vd_ring.proofs.HeldPlaces.{open_below, borrowed_some, places_before, places_new, free_apart, free_inside, head_held, head_inside, same_head, chain_before, chain_new}
use Rattle.vd_ring.proofs.Rooms.{first_take}
use Rattle.vd_control.specs.declared.settings.Settings.{Settings}
use Rattle.vd_commands.specs.Loads.{command_loads, AreLoaded}
use Rattle.vd_table.specs.declared.Command.{Command}
use Rattle.vd_table.specs.Rows.{row}
use Rattle.vd_relay.specs.Tie.{guests}
use Rattle.vd_relay.specs.Settling.{IsUnsettled}
use Rattle.vd_relay.specs.Commanding.{Takeover, carries, IsLoaded, KeepsOpen, AreCarried}
use Rattle.vd_relay.proofs.SettledChains.{acknowledged_new, acknowledged_old, settled_offered, late_old, late_new}

-- ---- an offer

module _ (number : ℕ → ℕ) (table : List (Option Command)) (at_ack : ℕ → ℕ) (s : List DeviceDone) (g : Frame) (o : List DriverDone)
    (c : List Piece) (ok : Places g o) (fits : Fits g c) (room : borrowed g c ≤ length (free g o))
    (t : KeepsOpen table number at_ack s g o) where
  next_free : 1 ≤ occurs (next_head g o) (free g o)
  next_free = first_occurs (free g o) (omega (arith, borrowed_some g c fits))

  head_new : head g (Offer c ∷ o) (length (offers o)) ≡ next_head g o
  head_new = ap first (places_new g o c ok) ∙ first_take (borrowed g c) (free g o) (borrowed_some g c fits)

  head_old : (k : ℕ) → 1 ≤ occurs k (open_at o) → head g (Offer c ∷ o) k ≡ head g o k
  head_old k some = ap first (places_before g o c k ok (open_below g o k ok some))

  head_other : (k : ℕ) → 1 ≤ occurs k (open_at o) → head g o k ≢ next_head g o
  head_other k some is = absurd (omega (
    arith,
    free_apart g o k (next_head g o) ok some next_free,
    ap (λ (q : ℕ). occurs q (places g o k)) is,
    head_held g o k ok some,
  ))

  -- the next head is one of the table's, and nothing is stored there
  pub row_inside : next_head g o < length table
  row_inside = omega (arith, free_inside g o (next_head g o) ok next_free, t.sized)

  none_there : (x : Option Command) → row table (next_head g o) ≡ x → x ≡ None
  none_there None is = refl
  none_there (Some x) is = let k = t.only (next_head g o) (subst (λ (y : Option Command). IsSome y) (sym is) refl) in absurd
      (head_other k.0 k.1 k.2)

  pub row_empty : row table (next_head g o) ≡ None
  row_empty = none_there (row table (next_head g o)) refl

  keeps_offered : (x : Command) → x.late ≡ false → IsLoaded at_ack s (number (length (offers o))) x
      → KeepsOpen (slice_set table (next_head g o) (Some x)) number at_ack s g (Offer c ∷ o)
  keeps_offered x early loaded =
      let q : ℕ = next_head g o in
      let new : List (Option Command) = slice_set table q (Some x) in
      record {
        sized = length-set table q (Some x) ∙ t.sized;
        stored = λ k some. elim (cases_eq (length (offers o)) k) [
          | inl e ↦ (
            x,
            ap (λ (j : ℕ). row new (head g (Offer c ∷ o) j)) (sym e) ∙ ap (λ (h : ℕ). row new h) head_new
                ∙ get_or-set_same table q (Some x) None row_inside,
            subst (λ (j : ℕ). IsLoaded at_ack s (number j) x) e loaded,
            subst (λ (j : ℕ). IsUnsettled g (Offer c ∷ o) j x) e
                (record { none = acknowledged_new g o c; late = early ∙ sym (late_new g o c) }),
          )
          | inr ne ↦
              let old : 1 ≤ occurs k (open_at o) = omega (
                arith,
                some,
                occurs_push k (open_at o) (length (offers o)),
                one_other (length (offers o)) k ne,
              ) in
              let was = t.stored k old in (
                was.0,
                ap (λ (h : ℕ). row new h) (head_old k old)
                    ∙ get_or-set_other table q (head g o k) (Some x) None (head_other k old) ∙ was.1,
                was.2,
                (let low = open_below g o k ok old in
                    record { none = acknowledged_old g o c k low ∙ was.3.none; late = was.3.late ∙ sym (late_old g o c k low) }),
              )
        ];
        only = λ h some. elim (cases_eq h q) [
          | inl e ↦ (
            length (offers o),
            omega (
              arith,
              occurs_push (length (offers o)) (open_at o) (length (offers o)),
              one_same (length (offers o)) (length (offers o)) refl,
            ),
            head_new ∙ sym e,
          )
          | inr ne ↦
              let k = t.only h (subst (λ (y : Option Command). IsSome y) (get_or-set_other table q h (Some x) None ne) some) in
              (k.0, omega (arith, occurs_push k.0 (open_at o) (length (offers o)), k.1), head_old k.0 k.1 ∙ k.2)
        ];
      }

pub carried_offered : (z : Takeover) (table : List (Option Command)) (settings : Settings) (at_ack : ℕ → ℕ) (s : List DeviceDone) (g : Frame)
    (o : List DriverDone) (c : List Piece) (x : Command) → Places g o → Fits g c → borrowed g c ≤ length (free g o)
    → x.late ≡ false → IsLoaded at_ack s (guests (carries z) (length (offers o))) x → readable c ≡ x.count
    → last_command o (next_head g o) 0 ≡ x.first → last_command o (next_head g o) 1 ≡ x.second
    → (1 ≤ occurs (guests (carries z) (length (offers o))) (numbers (gives s)) → ⊥)
    → AreCarried z table settings at_ack s g o
    → AreCarried z (slice_set table (next_head g o) (Some x)) settings at_ack s g (Offer c ∷ o)
carried_offered z table settings at_ack s g o c x ok fits room early loaded bytes first second new t =
    let m : ℕ = length (offers o) in
    record {
      passed = λ k is. elim (cases_lt k m) [
        | inl low ↦
            let p = t.passed k (record { not_replayed = is.not_replayed; offered = low }) in
            let ne : m ≡ k → ⊥ = λ e. absurd (omega (arith, low, e)) in
            record {
              bytes = ap readable (chain_before o c k low) ∙ p.bytes;
              words = rw (ne_eqb m k ne) p.words;
            }
        | inr high ↦
            let e : m ≡ k = omega (arith, high, is.offered, length-append (offers o) (c ∷ [])) in
            record {
              bytes = ap (λ (j : ℕ). readable (chain (Offer c ∷ o) j)) (sym e) ∙ ap readable (chain_new o c) ∙ bytes ∙ loaded.bytes
                  ∙ ap (λ (j : ℕ). readable (chain_at (takes s)
                  (guests (carries z) j))) e;
              words = rw (eq-eqb m k e) (subst (λ (j : ℕ). AreLoaded (command_loads s (guests (carries z) j))
                  (last_command o (next_head g o) 0) (last_command o (next_head g o) 1)) e
                  (subst (λ (y : ℕ). AreLoaded (command_loads s (guests (carries z) m)) y (last_command o (next_head g o) 1)) (sym first)
                  (subst (λ (y : ℕ). AreLoaded (command_loads s (guests (carries z) m)) x.first y) (sym second) loaded.words)));
            }
      ];
      answered = λ k is some. elim (cases_lt k m) [
        | inl low ↦ t.answered k (record { not_replayed = is.not_replayed; offered = low }) some
        | inr high ↦
            let e : k ≡ m = omega (arith, high, is.offered, length-append (offers o) (c ∷ [])) in
            absurd (new (subst (λ (j : ℕ). 1 ≤ occurs (guests (carries z) j) (numbers (gives s))) e some))
      ];
      keeps = keeps_offered (guests (carries z)) table at_ack s g o c ok fits room t.keeps x early loaded;
      settled = t.settled ∙ sym (settled_offered g o c z.settings z.replayed);
    }

-- ---- a collect

nothing : (x : Option Command) → IsSome x → x ≡ None → ⊥
nothing None some is = cc
nothing (Some x) some is = cc

module _ (number : ℕ → ℕ) (table : List (Option Command)) (at_ack : ℕ → ℕ) (s : List DeviceDone) (g : Frame) (o : List DriverDone)
    (k n : ℕ) (ok : Places g o) (some : 1 ≤ occurs k (open_at o)) (t : KeepsOpen table number at_ack s g o) where
  pub row_stored : head g o k < length table
  row_stored = omega (arith, head_inside g o k ok some, t.sized)

  open_once : (j : ℕ) → occurs j (open_at o) ≤ 1
  open_once j = omega (arith, ok.is_open j, one_small (nat_lt j (length (offers o))))

  apart : (j : ℕ) → 1 ≤ occurs j (without k (open_at o)) → (j ≢ k) × (1 ≤ occurs j (open_at o))
  apart j there = (
    λ is. absurd (omega (arith, occurs_without j k (open_at o) some, one_same k j (sym is), open_once j)),
    omega (arith, occurs_without j k (open_at o) some),
  )

  keeps_collected : KeepsOpen (slice_set table (head g o k) None) number at_ack s g (Collect (entry k n ∷ []) ∷ o)
  keeps_collected =
      let q : ℕ = head g o k in
      record {
        sized = length-set table q None ∙ t.sized;
        stored = λ j there.
            let a = apart j there in
            let was = t.stored j a.1 in (
              was.0,
              get_or-set_other table q (head g o j) None None (λ is. a.0 (same_head g o j k ok a.1 some is)) ∙ was.1,
              was.2,
              record { none = was.3.none; late = was.3.late },
            );
        only = λ h at. elim (cases_eq h q) [
          | inl e ↦ let none : row (slice_set table q None) h ≡ None = ap (λ (p : ℕ). row (slice_set table q None) p) e
              ∙ get_or-set_same table q None None row_stored in
              absurd (nothing (row (slice_set table q None) h) at none)
          | inr ne ↦
              let j = t.only h (subst (λ (y : Option Command). IsSome y) (get_or-set_other table q h None None ne) at) in
              let other : k ≢ j.0 = λ is. ne (sym j.2 ∙ ap (head g o) (sym is)) in
              (j.0, omega (arith, occurs_without j.0 k (open_at o) some, one_other k j.0 other, j.1), j.2)
        ];
      }

pub carried_collected : (z : Takeover) (table : List (Option Command)) (settings : Settings) (at_ack : ℕ → ℕ) (s : List DeviceDone)
    (g : Frame) (o : List DriverDone) (k n : ℕ) → Places g o → 1 ≤ occurs k (open_at o) → AreCarried z table settings at_ack s g o
    → AreCarried z (slice_set table (head g o k) None) settings at_ack s g (Collect (entry k n ∷ []) ∷ o)
carried_collected z table settings at_ack s g o k n ok some t = record {
  passed = λ j is.
      let p = t.passed j (record { not_replayed = is.not_replayed; offered = is.offered }) in
      record { bytes = p.bytes; words = p.words };
  answered = λ j is given. t.answered j (record { not_replayed = is.not_replayed; offered = is.offered }) given;
  keeps = keeps_collected (guests (carries z)) table at_ack s g o k n ok some t.keeps;
  settled = t.settled;
}
