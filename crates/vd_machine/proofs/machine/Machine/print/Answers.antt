use Rattle.std.proofs.Common.{◌++◌, ℕ, List, codes, map, ap, ◌∙◌}
use Rattle.std.proofs.lemmas.Result.{on_ok_weaker}
use Rattle.vd_machine.specs.Canon.{canon, line, list_text, region_text, queue_text, switch_text}
use Rattle.vd_machine.proofs.Printed.{printed_back, then}
use Rattle.vd_machine.proofs.machine.Machine.print.Goals as goal

pub returns-clause-text : goal.returns-clause-text
unfolding canon
returns-clause-text c =
    let old = c.args.out.now.items in
    let new = c.print_control.new.out.items in
    let regions = c.print_region_line.new.out.items in
    let queues = c.print_queue_line.new.out.items in
    let switches = c.print_switch_line.new.out.items in
    let window = c.print_number-2.new.out.items in
    let start = c.push_text-2.new.out.items in
    let number = c.print_number-4.new.out.items in
    on_ok_weaker c.print_control.result (λ end.
    then old c.push_text.new.out.items new _ _ (c.in_ok-push_text.ensures ∙ ap (λ (xs : List ℕ). old ++ xs) c.layout_line.ensures)
    (then c.push_text.new.out.items c.print_number.new.out.items new _ _ c.in_ok-print_number.ensures
    (then c.print_number.new.out.items c.print_features.new.out.items new _ _ c.in_ok-print_features.ensures
    (then c.print_features.new.out.items window new _ _ c.in_ok-print_number-2.ensures
    (then window start new _ _ (c.in_ok-push_text-2.ensures ∙ ap (λ (xs : List ℕ). window ++ xs) c.start_line.ensures)
    (then start c.print_number-3.new.out.items new _ _ c.in_ok-print_number-3.ensures
    (then c.print_number-3.new.out.items number new _ _ c.in_ok-print_number-4.ensures
    (then number regions new _ _
    (c.in_ok-print_region_line.ensures ∙ ap (λ rs. number ++ line (codes "regions") (list_text (map region_text rs))) c.as_slice.ensures)
    (then regions queues new _ _
    (c.in_ok-print_queue_line.ensures ∙ ap (λ qs. regions ++ line (codes "queues") (list_text (map queue_text qs))) c.as_slice-2.ensures)
    (then queues switches new _ _
    (c.in_ok-print_switch_line.ensures ∙ ap (λ ss. queues ++ line (codes "switches") (list_text (map switch_text ss))) c.as_slice-3.ensures)
    end))))))))))
    c.print_control.ensures

pub returns-clause-back : goal.returns-clause-back
returns-clause-back c = on_ok_weaker c.print_control.result (λ end. printed_back c.args.self.now) c.print_control.ensures
