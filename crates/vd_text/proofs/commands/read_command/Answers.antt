use Rattle.std.proofs.Common.{ap, refl, sym, ◌∙◌, arith}
use Rattle.vd_text.specs.Commands.{is_command}
use Rattle.vd_text.proofs.CommandTexts.{decoded_in}
use Rattle.vd_text.proofs.commands.read_command.Goals as goal

pub returns-clause-lawful : goal.returns-clause-lawful
returns-clause-lawful c =
    ap is_command c.collect.ensures
    ∙ decoded_in c.args.text.now c.decode_to_slice.new.out _ _ _ (omega arith) (omega arith) refl c.decode_to_slice.ensures.value
    (sym c.is_err.ensures.value ∙ c.if-is_err.false)
