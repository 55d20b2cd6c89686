-- What a device's end knows of its chains, from a table of the running ones by their heads.
use Rattle.std.proofs.Common.{◌≡◌, ℕ, ◌+◌, ◌≤◌, List, length, Option, Some, None, slice_index_or, if◌then◌else◌, nat_lt, refl, sym, ap, ◌∙◌, arith, inl, inr}
use Rattle.std.proofs.lemmas.Bool.{cases_lt}
use Rattle.std.proofs.lemmas.List.{get_or_past}
use Rattle.vd_ring.specs.declared.device.DeviceDone.{DeviceDone}
use Rattle.vd_ring.specs.declared.frame.Frame.{Frame}
use Rattle.vd_ring.specs.History.{takes, gives, heads, running, taken_head, numbers, occurs}
use Rattle.vd_ring.proofs.Counts.{occurs_from}
use Rattle.vd_layout.specs.Device.{Runs}

-- the table has each running chain at its head
abbrev pub IsTable : List (Option ℕ) → List DeviceDone → Type 0
IsTable table s = (k : ℕ) → 1 ≤ occurs k (running s) → slice_index_or table (taken_head s k) None ≡ Some k

absent : (k : ℕ) → None ≡ Some k → ⊥
absent k z = cc z

some_same : (a b : Option ℕ) (j k : ℕ) → a ≡ Some j → b ≡ Some k → a ≡ b → j ≡ k
some_same a b j k x y z = cc

pub runs_in_table : (table : List (Option ℕ)) (f : Frame) (s : List DeviceDone)
    → ((k : ℕ) → occurs k (running s) + occurs k (numbers (gives s)) ≡ (if nat_lt k (length (takes s)) then 1 else 0))
    → length (takes s) ≡ length (gives s) + length (running s) → length (heads s) ≡ length (takes s)
    → length table ≡ f.size → IsTable table s → Runs f s
runs_in_table table f s each count as_many wide kept = record {
  each = each;
  count = count;
  as_many = as_many;
  inside = λ k runs. elim (cases_lt (taken_head s k) f.size) [
    | inl a ↦ a
    | inr a ↦ absurd (absent k (sym (get_or_past table (taken_head s k) None (omega (arith, a, wide)))
        ∙ kept k (occurs_from k (running s) runs)))
  ];
  apart = λ k runs j here e.
      some_same (Some j) (Some k) j k refl refl (sym (kept j (occurs_from j (running s) here)) ∙ ap (λ h. slice_index_or table h None) e
      ∙ kept k (occurs_from k (running s) runs));
}
