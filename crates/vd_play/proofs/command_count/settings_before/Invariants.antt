use Rattle.std.proofs.Common.{◌≡◌, map, take}
use Rattle.vd_control.specs.Settings.{HasPairs, folded}
use Rattle.vd_play.proofs.command_count.settings_before.Given as goal

abbrev pub invariant-loop-i : goal.invariant-loop-i
invariant-loop-i l = record {
  folds : l.settings ≡ folded (take l.i (map (λ b. b.items) l.commands));
  pairs : HasPairs l.settings;
}
