use Rattle.std.proofs.Common.{◌≡◌, List, [], length, sum, sym, if◌then◌else◌}
use Rattle.std.proofs.lemmas.List.{length-map}
use Rattle.vd_model.specs.declared.record.Begun.{Begun}
use Rattle.vd_bus.specs.Device.{lens_of}
use Rattle.vd_machine.specs.File.{view}
use Rattle.vd_play.specs.Epochs.{working_epochs}
use Rattle.vd_runner.specs.Report.{queue_line, queue_lines, chain_lines, epoch_lines}
use Rattle.vd_runner.proofs.Midway.{begin, go_on, broken_off, broken_off_last}
use Rattle.vd_runner.proofs.writing.put_queue.Goals as goal

lens_count : (begun : List Begun) → length begun ≡ length (lens_of begun)
lens_count begun = sym (length-map begun (λ (b : Begun). b.len))

pub returns-in-Err-clause-err : goal.returns-in-Err-clause-err
returns-in-Err-clause-err g c =
    let lens = lens_of c.args.journal.now.begun.items in
    broken_off _ _ _ (queue_lines (view c.args.m.now) c.args.brief c.args.queue lens) (queue_line c.args.queue (length lens) (sum lens))
    _ (begin _ _)
    (rw (
      c.queue_line.ensures,
      c.sum_of.ensures,
      c.as_slice-begun.ensures,
      c.len-count.ensures.value,
      lens_count c.args.journal.now.begun.items,
    ) at c.in-Err.ensures.err)

pub returns-in-Err-put_if_long-clause-err : goal.returns-in-Err-put_if_long-clause-err
returns-in-Err-put_if_long-clause-err g c =
    let lens = lens_of c.args.journal.now.begun.items in
    let whole = queue_lines (view c.args.m.now) c.args.brief c.args.queue lens in
    let first = rw (
      c.queue_line.ensures,
      c.sum_of.ensures,
      c.as_slice-begun.ensures,
      c.len-count.ensures.value,
      lens_count c.args.journal.now.begun.items,
    ) at c.in-Ok.ensures.ok in
    broken_off _ _ _ whole (if c.args.brief then [] else chain_lines c.args.queue 0 lens) _
    (go_on _ _ _ whole (queue_line c.args.queue (length lens) (sum lens)) _ (begin _ _) first)
    (rw c.as_slice-begun.ensures at c.in-Err-put_if_long.ensures.err)

pub returns-in-Err-put_epochs-clause-err : goal.returns-in-Err-put_epochs-clause-err
returns-in-Err-put_epochs-clause-err g c =
    let lens = lens_of c.args.journal.now.begun.items in
    let plan = view c.args.m.now in
    let whole = queue_lines plan c.args.brief c.args.queue lens in
    let first = rw (
      c.queue_line.ensures,
      c.sum_of.ensures,
      c.as_slice-begun.ensures,
      c.len-count.ensures.value,
      lens_count c.args.journal.now.begun.items,
    ) at c.in-Ok.ensures.ok in
    let second = go_on _ _ _ whole (if c.args.brief then [] else chain_lines c.args.queue 0 lens) _
    (go_on _ _ _ whole (queue_line c.args.queue (length lens) (sum lens)) _ (begin _ _) first)
    (rw c.as_slice-begun.ensures at c.in-Ok-put_if_long.ensures.ok) in
    broken_off_last _ _ _ whole (epoch_lines c.args.queue 0 (working_epochs plan (length lens))) second
    (rw (c.as_slice.ensures, c.len-count.ensures.value, lens_count c.args.journal.now.begun.items) at c.in-Err-put_epochs.ensures.err)
