-- The next line of the report, and the lines after it.
use Rattle.std.proofs.Common.{◌≡◌, ℕ, ◌+◌, ◌<◌, ◌≤◌, min, Bool, false, List, [], ◌∷◌, ◌++◌, length, get_or, drop, refl, ap, ◌∙◌, append-nil}
use Rattle.std.proofs.lemmas.List.{drop_more, drop_all}
use Rattle.vd_model.specs.declared.base.Mode.{Mode}
use Rattle.vd_model.specs.declared.record.Begun.{Begun}
use Rattle.vd_bus.specs.Device.{lens_of}
use Rattle.vd_machine.specs.declared.machine.Switch.{Switch}
use Rattle.vd_machine.specs.declared.machine.To.TheVariants.{Pass}
use Rattle.vd_play.specs.Epochs.{epochs_from, mode_after, is_renewal}
use Rattle.vd_runner.specs.Report.{chain_line, chain_lines, epoch_line, epoch_lines}

pub chain_at : (q : ℕ) (begun : List Begun) (k : ℕ) (d : Begun) → k < length begun
    → chain_lines q k (lens_of (drop k begun)) ≡ chain_line q k (get_or begun k d).len
    ++ chain_lines q (k + 1) (lens_of (drop (k + 1) begun))
chain_at q begun k d h = ap (λ bs. chain_lines q k (lens_of bs)) (drop_more begun k d h)

-- a line doesn't tell a renewal
same_lines : (q e j : ℕ) (ss : List Switch) (m : Mode) (r : Bool) (first n : ℕ)
    → epoch_lines q e (epochs_from j ss m r first n) ≡ epoch_lines q e (epochs_from j ss m false first n)
same_lines q e j [] m r first n = refl
same_lines q e j (s ∷ ss) m r first n = refl

abbrev pub switch_at : List Switch → ℕ → Switch
switch_at ss e = get_or ss e (record { after = 0; to = Pass })

pub epoch_at : (q e : ℕ) (ss : List Switch) (m : Mode) (first n : ℕ) → e < length ss
    → epoch_lines q e (epochs_from e (drop e ss) m false first n) ≡ epoch_line q e m first (min (switch_at ss e).after n)
    ++ epoch_lines q (e + 1) (epochs_from (e + 1) (drop (e + 1) ss) (mode_after m (switch_at ss e).to) false
    (min (switch_at ss e).after n) n)
epoch_at q e ss m first n h =
    let s = switch_at ss e in
    ap (λ xs. epoch_lines q e (epochs_from e xs m false first n)) (drop_more ss e (record { after = 0; to = Pass }) h)
    ∙ ap (λ ls. epoch_line q e m first (min s.after n) ++ ls)
    (same_lines q (e + 1) (e + 1) (drop (e + 1) ss) (mode_after m s.to) (is_renewal s.to) (min s.after n) n)

-- after the last switch one epoch is left
pub last_epoch : (q e : ℕ) (ss : List Switch) (m : Mode) (first n : ℕ) → length ss ≤ e
    → epoch_lines q e (epochs_from e (drop e ss) m false first n) ≡ epoch_line q e m first n
last_epoch q e ss m first n h = ap (λ xs. epoch_lines q e (epochs_from e xs m false first n)) (drop_all e ss h)
    ∙ append-nil (epoch_line q e m first n)
