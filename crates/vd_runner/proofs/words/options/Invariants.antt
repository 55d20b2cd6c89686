use Rattle.std.proofs.Common.{◌≡◌, drop, map}
use Rattle.vd_runner.specs.Command.{command}
use Rattle.vd_runner.specs.Given.{left}
use Rattle.vd_runner.proofs.words.options.Given as goal

abbrev pub invariant-loop-word : goal.invariant-loop-word
invariant-loop-word l = left l.given (map (λ w. w.now) (drop l.word-index l.words)) ≡ command (map (λ w. w.now) l.words)
