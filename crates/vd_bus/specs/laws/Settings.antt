-- The settings of a control queue's device, over two stretches of its journal.
use Rattle.std.proofs.Common.{◌≡◌, ℕ, ◌≤◌, List, ◌++◌, length, map, drop, fold, refl, sym, ◌∙◌, ap, arith}
use Rattle.std.specs.List.{filter_map}
use Rattle.std.proofs.lemmas.List.{drop_all, drop_at, drop-append-le, map-append}
use Rattle.std.proofs.lemmas.List.Elements.{filter_map-append}
use Rattle.std.proofs.lemmas.List.Sums.{fold-append}
use mathlib.Core.List.{IsPrefix}
use Rattle.vd_model.specs.declared.record.Begun.{Begun}
use Rattle.vd_control.specs.declared.settings.Settings.{Settings}
use Rattle.vd_control.specs.Commands.{command}
use Rattle.vd_control.specs.Settings.{applied}
use Rattle.vd_commands.specs.Words.{set_by}
use Rattle.vd_bus.specs.DeviceCommands.{commands_of, set_since}

commands_more : (xs ys : List Begun) → commands_of (xs ++ ys) ≡ commands_of xs ++ commands_of ys
commands_more xs ys = map-append (λ (b : Begun). b.bytes.items) xs ys

set_more : (s : Settings) (xs ys : List Begun) → set_by s (commands_of (xs ++ ys)) ≡ set_by (set_by s (commands_of xs)) (commands_of ys)
set_more s xs ys = ap (λ z. fold applied s (filter_map command z)) (commands_more xs ys)
    ∙ ap (fold applied s) (filter_map-append command (commands_of xs) (commands_of ys))
    ∙ fold-append applied s (filter_map command (commands_of xs)) (filter_map command (commands_of ys))

-- what was set since one place of the journal, by what was set before another and by what was begun since
pub set_through : (at : ℕ) (bs bs' : List Begun) (first old new : Settings) → at ≤ length bs → IsPrefix bs bs'
    → old ≡ set_since at bs first → new ≡ set_since (length bs) bs' old → new ≡ set_since at bs' first
set_through at bs bs' first old new low prefix before after =
    let ys : List Begun = prefix.0 in
    let rest : drop (length bs) bs' ≡ ys = ap (drop (length bs)) (sym prefix.1) ∙ drop_at bs ys (length bs) refl in
    let whole : drop at bs' ≡ drop at bs ++ ys = ap (drop at) (sym prefix.1) ∙ drop-append-le at bs ys low in
    after ∙ ap (λ (z : List Begun). set_by old (commands_of z)) rest ∙ ap (λ z. set_by z (commands_of ys)) before
    ∙ sym (set_more first (drop at bs) ys) ∙ ap (λ (z : List Begun). set_by first (commands_of z)) (sym whole)

-- where nothing more was begun, nothing is set
pub set_none : (bs : List Begun) (s : Settings) → s ≡ set_since (length bs) bs s
set_none bs s = ap (λ (z : List Begun). set_by s (commands_of z)) (sym (drop_all (length bs) bs (omega arith)))
