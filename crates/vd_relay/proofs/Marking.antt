-- The commands that stand on a shadow ring, marked one after the other.
use Rattle.std.proofs.Common.{◌≡◌, ℕ, ◌+◌, ◌<◌, ◌≤◌, ◌&&◌, ◌||◌, nat_lt, Bool, true, false, Option, Some, None, List, [], length, slice_set, if◌then◌else◌, refl, sym, ◌∙◌, ap, arith, inl, inr}
use Rattle.std.proofs.lemmas.Bool.{cases_eq, cases_lt, lt-ltb, le-ltb}
use Rattle.std.proofs.lemmas.List.{get_or-set_same, get_or-set_other, get_or_past}
use Rattle.std.proofs.Math.ListN.{length-set}
use Rattle.vd_control.specs.declared.command.Command.{Command}
use Rattle.vd_control.specs.Commands.{command}
use Rattle.vd_table.specs.declared.Command.{Command as Kept}
use Rattle.vd_table.specs.Rows.{row}
use Rattle.vd_relay.specs.Settling.{are_same, kept_bytes, marked}

pub or_false : (b : Bool) → (b || false) ≡ b
or_false true = refl
or_false false = refl

or_true : (b : Bool) → (b || true) ≡ true
or_true true = refl
or_true false = refl

abbrev with_late : Kept → Bool → Kept
with_late x late = record x { late = late }

-- ---- one row

module _ (number : ℕ) (c : Option Command) (x : Kept) where
  abbrev test : Bool
  test = nat_lt x.number number && are_same (command (kept_bytes x)) c

  pub marked_late : test ≡ true → marked number c (Some x) ≡ Some (record x { late = true })
  marked_late sure = ap (λ (b : Bool). Some (with_late x b)) (ap (λ (b : Bool). x.late || b) sure ∙ or_true x.late)

  pub marked_as_is : test ≡ false → marked number c (Some x) ≡ Some x
  marked_as_is never = ap (λ (b : Bool). Some (with_late x b)) (ap (λ (b : Bool). x.late || b) never ∙ or_false x.late)

-- bytes that are no command mark nothing
pub marked_nothing : (number : ℕ) (r : Option Kept) → marked number None r ≡ r
marked_nothing number None = refl
marked_nothing number (Some x) = marked_as_is number None x (never (nat_lt x.number number) (command (kept_bytes x)))
  where
    never : (b : Bool) (o : Option Command) → (b && are_same o None) ≡ false
    never true None = refl
    never true (Some a) = refl
    never false o = refl

-- ---- a table

-- the rows below n are marked, and the others stand as they stood
pub record MarkedBelow (number : ℕ) (c : Option Command) (n : ℕ) (t t' : List (Option Kept)) : Type 0 where
  pub sized : length t' ≡ length t
  pub rows : (h : ℕ) → row t' h ≡ (if nat_lt h n then marked number c (row t h) else row t h)

module _ (number : ℕ) (c : Option Command) (t : List (Option Kept)) where
  pub marked_none : MarkedBelow number c 0 t t
  marked_none = record { sized = refl; rows = λ h. rw (le-ltb h 0 (omega arith)) refl }

  module _ (n : ℕ) (t' : List (Option Kept)) (m : MarkedBelow number c n t t') where
    pub row_old : row t' n ≡ row t n
    row_old = m.rows n ∙ rw (le-ltb n n (omega arith)) refl

    pub marked_next : (u : List (Option Kept)) → length u ≡ length t' → row u n ≡ marked number c (row t n)
        → ((h : ℕ) → (h ≡ n → ⊥) → row u h ≡ row t' h) → MarkedBelow number c (n + 1) t u
    marked_next u sized here others = record {
      sized = sized ∙ m.sized;
      rows = λ h. elim (cases_eq h n) [
        | inl e ↦ rw (lt-ltb h (n + 1) (omega (arith, e))) (ap (row u) e ∙ here ∙ ap (λ (j : ℕ). marked number c (row t j)) (sym e))
        | inr ne ↦ others h ne ∙ m.rows h
            ∙ ap (λ (b : Bool). if b then marked number c (row t h) else row t h) (same h ne)
      ];
    }
      where
        same : (h : ℕ) → (h ≡ n → ⊥) → nat_lt h n ≡ nat_lt h (n + 1)
        same h ne = elim (cases_lt h n) [
          | inl low ↦ lt-ltb h n low ∙ sym (lt-ltb h (n + 1) (omega (arith, low)))
          | inr high ↦ le-ltb h n high ∙ sym (le-ltb h (n + 1) (omega (arith, high, ne)))
        ]

    -- a row that is late then, and one that stays
    pub next_late : (x : Kept) → n < length t' → row t' n ≡ Some x
        → (nat_lt x.number number && are_same (command (kept_bytes x)) c) ≡ true
        → MarkedBelow number c (n + 1) t (slice_set t' n (Some (record x { late = true })))
    next_late x inside at sure = marked_next (slice_set t' n (Some (record x { late = true })))
        (length-set t' n (Some (record x { late = true })))
        (get_or-set_same t' n (Some (record x { late = true })) None inside ∙ sym (ap (marked number c) (sym row_old ∙ at)
        ∙ marked_late number c x sure)) (λ h ne. get_or-set_other t' n h (Some (record x { late = true })) None ne)

    pub next_as_is : (x : Kept) → row t' n ≡ Some x → (nat_lt x.number number && are_same (command (kept_bytes x)) c) ≡ false
        → MarkedBelow number c (n + 1) t t'
    next_as_is x at never = marked_next t' refl (at ∙ sym (ap (marked number c) (sym row_old ∙ at) ∙ marked_as_is number c x never))
        (λ h ne. refl)

    pub next_empty : row t' n ≡ None → MarkedBelow number c (n + 1) t t'
    next_empty at = marked_next t' refl (at ∙ sym (ap (marked number c) (sym row_old ∙ at))) (λ h ne. refl)

    pub marked_all : length t ≤ n → (h : ℕ) → row t' h ≡ marked number c (row t h)
    marked_all all h = m.rows h ∙ elim (cases_lt h n) [
      | inl low ↦ rw (lt-ltb h n low) refl
      | inr high ↦
          let none : row t h ≡ None = get_or_past t h None (omega (arith, all, high)) in
          rw (le-ltb h n high) (none ∙ sym (ap (marked number c) none))
    ]
