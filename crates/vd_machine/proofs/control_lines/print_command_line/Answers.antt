use Rattle.std.proofs.Common.{◌++◌, ℕ, List, codes, map, ap, sym, ◌∙◌, append_assoc}
use Rattle.std.proofs.lemmas.Result.{on_ok_weaker}
use Rattle.vd_machine.specs.Canon.{items_text, command_item}
use Rattle.vd_machine.proofs.Printed.{then}
use Rattle.vd_machine.proofs.control_lines.print_command_line.Goals as goal

pub returns : goal.returns
returns c =
    let old = c.args.out.now.items in
    let items : List ℕ = items_text (map command_item c.args.commands.now) in
    on_ok_weaker c.push_text-2.result (λ end.
    then old c.push_text.new.out.items c.push_text-2.new.out.items (codes "commands = [") (items ++ codes "]\n") c.in_ok-push_text.ensures
    (then c.push_text.new.out.items c.print_commands.new.out.items c.push_text-2.new.out.items items (codes "]\n")
    c.in_ok-print_commands.ensures end)
    ∙ ap (λ (xs : List ℕ). old ++ (codes "commands = [" ++ xs)) (sym (append_assoc items (codes "]") (codes "\n")))) c.push_text-2.ensures
