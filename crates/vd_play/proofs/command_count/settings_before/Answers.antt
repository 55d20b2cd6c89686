use Rattle.std.proofs.Common.{◌≡◌, ◌<◌, ◌∷◌, ℕ, List, [], map, length, slice_index_or, unwrap_or, Some, sym, ap, refl, ◌∙◌, arith}
use Rattle.std.proofs.lemmas.List.{length-map, get_or-map}
use Rattle.std.proofs.lemmas.Option.{slice_get_read, get_or_from_slice_get}
use Rattle.arrayvec.specs.ArrayVec.{ArrayVec}
use Rattle.vd_control.specs.Commands.{command}
use Rattle.vd_control.specs.Settings.{applied}
use Rattle.vd_bus.specs.GuestCommands.{commands}
use Rattle.vd_machine.specs.Queues.{script}
use Rattle.vd_play.proofs.CommandCounts.{folds_one, folds_none}
use Rattle.vd_play.proofs.command_count.settings_before.Goals as goal
use Rattle.vd_play.proofs.command_count.settings_before.Goals.{in-Some-read, in_default-read}

pub loop-i-preserved : goal.loop-i-preserved
loop-i-preserved c =
    let items : ArrayVec ℕ → List ℕ = λ b. b.items in
    let xs : List (ArrayVec ℕ) = c.as_slice-commands.result.now in
    let cs : List (List ℕ) = map items xs in
    let i : ℕ = c.loop-i.i in
    let x : ArrayVec ℕ = c.index-commands-i.result in
    let few : i < length xs = omega (
      arith,
      c.loop-i-test.true,
      c.loop-i.auto.i-end,
      c.sent_before-i-end.ensures.few,
      ap (λ o. length (commands (unwrap_or o (script [])))) c.in-Some.is,
      length-map c.in-Some.script.commands items,
      ap length c.as_slice-commands.ensures,
    ) in
    let low : i < length cs = omega (arith, few, length-map xs items) in
    let at = slice_get_read xs _ i x refl few c.index-commands-i.is in
    let here : slice_index_or cs i [] ≡ c.as_slice.result.now = get_or-map items xs i x [] few
    ∙ ap items (get_or_from_slice_get xs i x x at) ∙ sym c.as_slice.ensures.value in
    elim c.match-read.branch [
      | in-Some-read w ↦ record {
        folds = w.settings-is ∙ w.apply.ensures.value ∙ ap (λ s. applied s w.in-Some-read.command) c.loop-i.invariant.folds
            ∙ sym (folds_one cs i w.in-Some-read.command low (ap command here ∙ sym c.read.ensures.value ∙ w.in-Some-read.is));
        pairs = Rattle.std.proofs.Common.subst Rattle.vd_control.specs.Settings.HasPairs (sym w.settings-is)
            (w.apply.ensures.lawful c.loop-i.invariant.pairs);
      }
      | in_default-read w ↦ record {
        folds = w.settings-is ∙ c.loop-i.invariant.folds
            ∙ sym (folds_none cs i low (ap command here ∙ sym c.read.ensures.value ∙ w.in_default-read.is));
        pairs = Rattle.std.proofs.Common.subst Rattle.vd_control.specs.Settings.HasPairs (sym w.settings-is) c.loop-i.invariant.pairs;
      }
    ]
