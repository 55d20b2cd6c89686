use Rattle.std.proofs.Common.{◌-◌, false, slice_get, sym, ap, ◌∙◌}
use Rattle.std.specs.Option.{option_map_or}
use Rattle.vd_machine.specs.declared.machine.Switch.{Switch}
use Rattle.vd_machine.specs.File.{view}
use Rattle.vd_play.specs.Epochs.{is_renewal}
use Rattle.vd_play.proofs.Modes.{renewed_first, renewed_later}
use Rattle.vd_play.proofs.order.is_renewed.Goals as goal

pub returns-then-epoch-eq0 : goal.returns-then-epoch-eq0
returns-then-epoch-eq0 c = sym (renewed_first (view c.args.m.now) c.args.epoch c.if-epoch-eq0.true)

pub returns : goal.returns
returns c = c.is_renewal_at.ensures
    ∙ ap (λ ss. option_map_or (λ (s : Switch). is_renewal s.to) (slice_get ss (c.args.epoch - 1)) false) c.as_slice.ensures
    ∙ sym (renewed_later (view c.args.m.now) c.args.epoch c.if-epoch-eq0.false)
