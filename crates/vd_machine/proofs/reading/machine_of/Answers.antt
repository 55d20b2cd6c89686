use Rattle.std.proofs.Common.{◌≡◌, true, length, is_some, subst, ap, sym, ◌∙◌}
use Rattle.toml.specs.View.{table_view}
use Rattle.vd_machine.specs.File.{Plan}
use Rattle.vd_machine.specs.Iovas.{are_laid}
use Rattle.vd_machine.specs.Queues.{are_scripts, scripts_of, all_lie, few}
use Rattle.vd_machine.specs.Words.{ring_count, control_count}
use Rattle.vd_machine.proofs.Rules.{breaks_none, means_it, lawful_if, few_words, IsRead}
use Rattle.vd_machine.proofs.Uncontrolled.{none_read}
use Rattle.vd_machine.proofs.reading.machine_of.Goals as goal

pub invariant_of-result-clause-fitted : goal.invariant_of-result-clause-fitted
invariant_of-result-clause-fitted c =
    let queues = c.in_ok-queues.queues in
    subst (λ most. are_scripts most queues ≡ true) c.most_pieces-most.ensures
    (lawful_if c.in_ok-scripts_of.field-0 queues (λ qs. are_scripts c.most_pieces-most.result qs ≡ true) c.in_ok-scripts_of.ensures.lawful
    c.in_ok-queues.ensures.ok)

pub invariant_of-result-clause-inside : goal.invariant_of-result-clause-inside
invariant_of-result-clause-inside c =
    ap (λ rs. all_lie rs c.in_ok-queues.queues) (sym c.as_slice.ensures)
    ∙ ap (λ qs. all_lie c.as_slice.result.now qs) (sym c.as_slice-2.ensures) ∙ sym c.all_lie.ensures ∙ c.in_ok-keep-5.ensures.ok

pub invariant_of-result-clause-counted : goal.invariant_of-result-clause-counted
invariant_of-result-clause-counted c = ap few (sym c.as_slice-3.ensures) ∙ sym c.few.ensures ∙ c.in_ok-keep-6.ensures.ok

pub invariant_of-result-clause-laid : goal.invariant_of-result-clause-laid
invariant_of-result-clause-laid c =
    ap (are_laid c.in_ok-iovas.iovas.first c.in_ok-iovas.iovas.last) (sym c.as_slice-4.ensures) ∙ sym c.in_ok-are_laid.ensures
    ∙ c.in_ok-keep-8.ensures.ok

pub returns-clause-uncontrolled : goal.returns-clause-uncontrolled
returns-clause-uncontrolled c =
    none_read (table_view c.args.file.now) _ c.in_ok-control.control (sym c.known_keys.ensures ∙ c.in_ok-keep.ensures.ok)
    c.in_ok-control_of.ensures.value c.in_ok-control.ensures.ok

pub invariant_of-result-clause-worded : goal.invariant_of-result-clause-worded
invariant_of-result-clause-worded c =
    few_words c.in_ok-packed.packed c.in_ok-size.size c.in_ok-features.features c.ring_count-rings.result _
    c.control_count-controls.result _
    c.all_words-words.result c.are_few_words.result
    (c.ring_count-rings.ensures.value
    ∙ ap (λ ss. ring_count c.in_ok-start.start ss (length c.as_slice-6.result.now)) c.as_slice-5.ensures
    ∙ ap (λ qs. ring_count c.in_ok-start.start c.in_ok-switches.switches (length qs)) c.as_slice-6.ensures)
    (c.control_count-controls.ensures.value ∙ ap (λ on. control_count on c.as_slice-7.result.now) c.is_some.ensures
    ∙ ap (control_count (is_some c.in_ok-control.control)) c.as_slice-7.ensures)
    c.all_words-words.ensures c.are_few_words.ensures c.in_ok-keep-9.ensures.ok

pub returns-clause-ok : goal.returns-clause-ok
returns-clause-ok c =
    let ms = table_view c.args.file.now in
    let p : Plan = record {
      packed = c.in_ok-packed.packed;
      size = c.in_ok-size.size;
      features = c.in_ok-features.features;
      window = c.in_ok-window.window;
      start = c.in_ok-start.start;
      first = c.in_ok-iovas.iovas.first;
      last = c.in_ok-iovas.iovas.last;
      regions = c.in_ok-regions.regions;
      queues = c.in_ok-queues.queues;
      switches = c.in_ok-switches.switches;
      control = c.in_ok-control.control;
    } in
    let read : IsRead ms p = record {
      whole = sym c.complete.ensures ∙ c.in_ok-keep-2.ensures.ok;
      types = sym c.typed.ensures ∙ c.in_ok-keep-3.ensures.ok;
      layout = sym c.layout_of.ensures ∙ c.in_ok-packed.ensures.ok;
      start = sym c.start_of.ensures ∙ c.in_ok-start.ensures.ok;
      size = sym c.size_of.ensures.value ∙ c.in_ok-size.ensures.ok;
      features = sym c.features_of.ensures.value ∙ c.in_ok-features.ensures.ok;
      window = sym c.window_of.ensures.value ∙ c.in_ok-window.ensures.ok;
      regions = sym c.in_ok-regions_of.ensures.value ∙ c.in_ok-regions.ensures.ok;
      chains = sym c.all_write_chains.ensures ∙ c.in_ok-keep-4.ensures.ok;
      queues = ap (λ most. scripts_of most ms) (sym c.most_pieces-most.ensures) ∙ sym c.in_ok-scripts_of.ensures.value
          ∙ c.in_ok-queues.ensures.ok;
      inside = ap (λ rs. all_lie rs c.in_ok-queues.queues) (sym c.as_slice.ensures)
          ∙ ap (λ qs. all_lie c.as_slice.result.now qs) (sym c.as_slice-2.ensures) ∙ sym c.all_lie.ensures ∙ c.in_ok-keep-5.ensures.ok;
      counted = ap few (sym c.as_slice-3.ensures) ∙ sym c.few.ensures ∙ c.in_ok-keep-6.ensures.ok;
      commands = sym c.has_few_commands.ensures ∙ c.in_ok-keep-7.ensures.ok;
      switches = sym c.in_ok-switches_of.ensures.value ∙ c.in_ok-switches.ensures.ok;
      control = sym c.in_ok-control_of.ensures.value ∙ c.in_ok-control.ensures.ok;
      range = sym c.range_of.ensures.value ∙ c.in_ok-iovas.ensures.ok;
      laid = ap (are_laid c.in_ok-iovas.iovas.first c.in_ok-iovas.iovas.last) (sym c.as_slice-4.ensures) ∙ sym c.in_ok-are_laid.ensures
          ∙ c.in_ok-keep-8.ensures.ok;
      worded = few_words c.in_ok-packed.packed c.in_ok-size.size c.in_ok-features.features c.ring_count-rings.result _
          c.control_count-controls.result _
          c.all_words-words.result c.are_few_words.result
          (c.ring_count-rings.ensures.value
          ∙ ap (λ ss. ring_count c.in_ok-start.start ss (length c.as_slice-6.result.now)) c.as_slice-5.ensures
          ∙ ap (λ qs. ring_count c.in_ok-start.start c.in_ok-switches.switches (length qs)) c.as_slice-6.ensures)
          (c.control_count-controls.ensures.value ∙ ap (λ on. control_count on c.as_slice-7.result.now) c.is_some.ensures
          ∙ ap (control_count (is_some c.in_ok-control.control)) c.as_slice-7.ensures)
          c.all_words-words.ensures c.are_few_words.ensures c.in_ok-keep-9.ensures.ok;
    } in
    (breaks_none ms p (sym c.known_keys.ensures ∙ c.in_ok-keep.ensures.ok) read, means_it ms p read)
