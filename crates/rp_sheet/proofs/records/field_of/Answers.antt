use Rattle.rp_sheet.proofs.FieldLemmas.{field_there, field_missing}
use Rattle.rp_sheet.proofs.records.field_of.Goals as goal

pub returns-in-Some : goal.returns-in-Some
returns-in-Some c = field_there _ c.args.c c.in-Some.field.now c.in-Some.ensures.value

pub returns-in-None : goal.returns-in-None
returns-in-None c = field_missing _ c.args.c c.in-None.ensures.value
