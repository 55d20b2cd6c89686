use Rattle.std.proofs.Common.{◌∙◌, ap, sym}
use Rattle.toml.specs.Parse.{parse_document}
use Rattle.vd_machine.proofs.Document.{document_text}
use Rattle.vd_machine.proofs.reading.table_of.Goals as goal

pub returns-in-Ok-table_from_str-clause-ok : goal.returns-in-Ok-table_from_str-clause-ok
returns-in-Ok-table_from_str-clause-ok c = document_text c.args.bytes.now c.in-Ok.ensures.cases.1
    ∙ ap parse_document (sym c.in-Ok.ensures.cases.0) ∙ c.in-Ok-table_from_str.ensures.ok
