use Rattle.vd_control.specs.Settings.{HasPairs}
use Rattle.vd_control.proofs.tests.settings_of.Given as goal

abbrev pub invariant-loop-bytes : goal.invariant-loop-bytes
invariant-loop-bytes l = HasPairs l.settings
