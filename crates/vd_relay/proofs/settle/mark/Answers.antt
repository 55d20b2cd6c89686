use Rattle.std.proofs.Common.{ℕ, ◌+◌, ◌<◌, Option, Some, List, length, sym, ◌∙◌, subst, arith}
use Rattle.vd_control.specs.declared.command.Command.{Command}
use Rattle.vd_table.specs.declared.Command.{Command as Kept}
use Rattle.vd_relay.proofs.Marking.{MarkedBelow, marked_none, row_old, next_late, next_as_is, next_empty, marked_all}
use Rattle.vd_relay.proofs.settle.mark.Goals.{in-Some+then-comes_late, in-Some+else-comes_late, in_default}
use Rattle.vd_relay.proofs.settle.mark.Goals as goal

pub loop-head-init : goal.loop-head-init
loop-head-init c = marked_none c.args.number (Some c.args.later.now) c.args.commands.now

pub get-requires : goal.get-requires
get-requires c = record { inside = omega (arith, c.loop-head-test.true, c.size-head-end.ensures, c.loop-head.invariant.sized) }

pub comes_late-requires : goal.comes_late-requires
comes_late-requires c = c.requires.few c.loop-head.head c.in-Some.kept
    (sym (row_old c.args.number (Some c.args.later.now) c.args.commands.now c.loop-head.head c.loop-head.commands c.loop-head.invariant)
    ∙ sym c.get.ensures ∙ c.in-Some.is)

pub loop-head-preserved : goal.loop-head-preserved
loop-head-preserved c =
    let number : ℕ = c.args.number in
    let later : Option Command = Some c.args.later.now in
    let t : List (Option Kept) = c.args.commands.now in
    let n : ℕ = c.loop-head.head in
    let t' : List (Option Kept) = c.loop-head.commands in
    let m = c.loop-head.invariant in
    let inside : n < length t' = omega (arith, c.loop-head-test.true, c.size-head-end.ensures, m.sized) in
    elim c.match-get.branch [
      | in-Some+then-comes_late w ↦ subst (λ (u : List (Option Kept)). MarkedBelow number later (n + 1) t u)
          (sym (w.commands-is ∙ w.replace.ensures))
          (next_late number later t n t' m w.in-Some.kept inside (sym c.get.ensures ∙ w.in-Some.is)
          (sym w.comes_late.ensures ∙ w.if-comes_late.true))
      | in-Some+else-comes_late w ↦ subst (λ (u : List (Option Kept)). MarkedBelow number later (n + 1) t u) (sym w.commands-is)
          (next_as_is number later t n t' m w.in-Some.kept (sym c.get.ensures ∙ w.in-Some.is)
          (sym w.comes_late.ensures ∙ w.if-comes_late.false))
      | in_default w ↦ subst (λ (u : List (Option Kept)). MarkedBelow number later (n + 1) t u) (sym w.commands-is)
          (next_empty number later t n t' m (sym c.get.ensures ∙ w.in_default.is))
    ]

pub returns-clause-sized : goal.returns-clause-sized
returns-clause-sized c = c.loop-head.invariant.sized

pub returns-clause-rows : goal.returns-clause-rows
returns-clause-rows c = marked_all c.args.number (Some c.args.later.now) c.args.commands.now c.loop-head.head c.loop-head.commands
    c.loop-head.invariant (omega (arith, c.loop-head-test.false, c.size-head-end.ensures))
