use Rattle.std.proofs.Common.{length, refl, sym, ap, ◌∙◌}
use Rattle.rp_num.proofs.BelowLemmas.{length-listed}
use Rattle.rp_sheet.specs.Fields.{figure}
use Rattle.rp_sheet.proofs.FieldFaults.{nothing_bought}
use Rattle.rp_sheet.proofs.fields.NumberRecordRecordKind.check_rest.Goals as goal

pub buys_nothing-requires : goal.buys_nothing-requires
buys_nothing-requires c =
    let columns = c.args.columns.now in
    ap length c.requires.read ∙ length-listed (figure columns.form columns.headers c.args.records.now c.args.t) (length columns.headers)

pub returns-then-buys_nothing : goal.returns-then-buys_nothing
returns-then-buys_nothing c =
    let columns = c.args.columns.now in
    let empty = sym (nothing_bought columns.form columns.headers c.args.records.now c.args.t c.args.figures.now c.requires.read) ∙ sym c.buys_nothing.ensures ∙ c.if-buys_nothing.true in
    rw (empty, c.number_of.ensures) refl

pub returns : goal.returns
returns c =
    let columns = c.args.columns.now in
    let bought = sym (nothing_bought columns.form columns.headers c.args.records.now c.args.t c.args.figures.now c.requires.read) ∙ sym c.buys_nothing.ensures ∙ c.if-buys_nothing.false in
    rw bought refl
