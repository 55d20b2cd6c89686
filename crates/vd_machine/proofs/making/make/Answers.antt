use Rattle.std.proofs.Common.{◌≡◌, ◌∙◌, ◌%◌, ap, nat_eq, rules, refl}
use Rattle.vd_machine.specs.Made.{made_regions}
use Rattle.vd_machine.specs.Queues.{all_lie}
use Rattle.vd_machine.proofs.MadeKeeps.{queues, size_is, window_is, queues_fit, queues_lie, queues_are_few, words_are_few, made_keeps}
use Rattle.vd_machine.proofs.MadeLaid.{regions_are_laid}
use Rattle.vd_machine.proofs.Printed.{means_canon}
use Rattle.vd_machine.proofs.making.make.Goals as goal

pub invariant_of-result-clause-sized : goal.invariant_of-result-clause-sized
invariant_of-result-clause-sized c = size_is (nat_eq (c.draw.result % 2) 1)

pub invariant_of-result-clause-windowed : goal.invariant_of-result-clause-windowed
invariant_of-result-clause-windowed c = window_is c.draw-2.result

pub invariant_of-result-clause-placed : goal.invariant_of-result-clause-placed
invariant_of-result-clause-placed c = rw c.in_ok-made_regions.ensures refl

pub invariant_of-result-clause-fitted : goal.invariant_of-result-clause-fitted
invariant_of-result-clause-fitted c =
    let are : c.from_vec-2.result ≡ queues c.draw-2.new.self.last = search rules in
    rw are (queues_fit c.draw-2.new.self.last)

pub invariant_of-result-clause-inside : goal.invariant_of-result-clause-inside
invariant_of-result-clause-inside c =
    let are : c.from_vec-2.result ≡ queues c.draw-2.new.self.last = search rules in
    ap (λ rs. all_lie rs c.from_vec-2.result) c.in_ok-made_regions.ensures ∙ ap (λ qs. all_lie made_regions qs) are
    ∙ queues_lie c.draw-2.new.self.last

pub invariant_of-result-clause-counted : goal.invariant_of-result-clause-counted
invariant_of-result-clause-counted c =
    let are : c.from_vec-2.result ≡ queues c.draw-2.new.self.last = search rules in
    rw are (queues_are_few c.draw-2.new.self.last)

pub invariant_of-result-clause-ranged : goal.invariant_of-result-clause-ranged
invariant_of-result-clause-ranged c = refl

pub invariant_of-result-clause-laid : goal.invariant_of-result-clause-laid
invariant_of-result-clause-laid c = rw c.in_ok-made_regions.ensures regions_are_laid

pub invariant_of-result-clause-switched : goal.invariant_of-result-clause-switched
invariant_of-result-clause-switched c = rw c.in_ok-made_switches.ensures refl

pub invariant_of-result-clause-controlled : goal.invariant_of-result-clause-controlled
invariant_of-result-clause-controlled c = rw c.in_ok-made_control.ensures refl

pub invariant_of-result-clause-worded : goal.invariant_of-result-clause-worded
invariant_of-result-clause-worded c =
    let are : c.from_vec-2.result ≡ queues c.draw-2.new.self.last = search rules in
    rw (are, c.in_ok-made_switches.ensures) (words_are_few (nat_eq (c.draw.result % 2) 1))

pub returns-clause-text : goal.returns-clause-text
returns-clause-text c = means_canon _ (made_keeps c.args.seed)
