use Rattle.std.proofs.Common.{sym, ap, ◌∙◌}
use Rattle.std.specs.Result.{result_err}
use Rattle.rp_forms.specs.Texts.{trimmed}
use Rattle.rp_forms.specs.declared.form.Form.{Form}
use Rattle.rp_sheet.specs.Fields.{field_of}
use Rattle.rp_sheet.proofs.FieldFaults.{field_read, number_read}
use Rattle.rp_sheet.proofs.fields.NumberRecordRecordKind.read_field.Goals as goal

pub returns : goal.returns
returns c =
    let columns = c.args.columns.now in
    let told = c.read_field.ensures ∙ ap (λ (form : Form). field_of form.budgets c.role.result (trimmed c.row_field.result.now) c.number_of.result c.number_of-2.result) c.form.ensures in
    let is = field_read columns.form columns.headers c.args.records.now c.args.t c.args.c c.role.result c.row_field.result.now c.number_of.result c.number_of-2.result c.read_field.result c.role.ensures c.row_field.ensures c.number_of.ensures c.number_of-2.ensures told in
    record { read = number_read c.read_field.result _ is; fault = ap result_err (sym is) }
