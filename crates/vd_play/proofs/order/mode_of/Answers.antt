use Rattle.std.proofs.Common.{ℕ, length, slice_get, slice_index_or, arith, sym, ap, ◌∙◌}
use Rattle.std.proofs.lemmas.Option.{slice_get-get_or}
use Rattle.vd_machine.specs.declared.machine.Switch.{Switch}
use Rattle.vd_machine.specs.declared.machine.To.TheVariants.{Pass}
use Rattle.vd_play.specs.Epochs.{mode_after}
use Rattle.vd_play.proofs.Modes.{mode_first, mode_next, mode_behind}
use Rattle.vd_play.proofs.order.mode_of.Goals as goal

pub loop-i-init : goal.loop-i-init
loop-i-init c = sym (mode_first c.args.m.now.switches c.args.m.now.start)

pub loop-i-preserved : goal.loop-i-preserved
loop-i-preserved c =
    let i : ℕ = c.loop-i.i in
    let none : Switch = record { after = 0; to = Pass } in
    let s : Switch = slice_index_or c.as_slice-switches.result.now i none in
    let at = ap (λ ss. slice_get ss i) (sym c.as_slice-switches.ensures)
    ∙ slice_get-get_or c.as_slice-switches.result.now i none (omega (arith, c.loop-i-test.true, c.if-switches-epoch.false)) in
    c.mode_after-mode.ensures ∙ ap (λ z. mode_after z s.to) c.loop-i.invariant
    ∙ sym (mode_next c.args.m.now.switches c.args.m.now.start i s at)

pub returns-then-switches-epoch : goal.returns-then-switches-epoch
returns-then-switches-epoch c = sym (mode_behind c.args.m.now.switches c.args.m.now.start c.args.epoch
    (omega (arith, c.if-switches-epoch.true, ap length c.as_slice-switches.ensures)))
