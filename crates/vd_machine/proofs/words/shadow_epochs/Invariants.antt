use Rattle.std.proofs.Common.{◌≡◌, ◌+◌, ◌≤◌, drop}
use Rattle.vd_machine.specs.Words.{if_shadow, shadow_epochs}
use Rattle.vd_machine.proofs.words.shadow_epochs.Given as goal

abbrev pub invariant-loop-switch : goal.invariant-loop-switch
invariant-loop-switch l = record {
  count : shadow_epochs l.fn.start l.switches + if_shadow l.mode ≡ l.count + shadow_epochs l.mode (drop l.switch-index l.switches);
  small : l.count ≤ l.switch-index + 1;
}
