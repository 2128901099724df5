use Rattle.std.proofs.Common.{true, false, sym, ◌∙◌}
use Rattle.rp_num.proofs.PassedOn.{passed_err}
use Rattle.rp_menu.specs.Denotation.{told}
use Rattle.rp_menu.proofs.MenuRowFaults.{after_number, bad_number}
use Rattle.rp_menu.proofs.menu_rows.MenuRecordRecordKind.read_field.Goals as goal

pub returns-in_err-number-clause-fault : goal.returns-in_err-number-clause-fault
returns-in_err-number-clause-fault c =
    let columns = c.args.columns.now in
    passed_err c.from_residual.result (told c.in_err-number.field-0.0) c.from_residual.ensures
    ∙ bad_number columns.form columns.headers c.args.records.now c.args.t c.args.c c.in_err-number.field-0.0 c.in_err-number.ensures.fault

pub returns-then-lacks_menu-clause-fault : goal.returns-then-lacks_menu-clause-fault
returns-then-lacks_menu-clause-fault c =
    let columns = c.args.columns.now in
    rw c.number_of.ensures (after_number columns.form columns.headers c.args.records.now c.args.t c.args.c c.role.result c.row_field.result.now true c.in_ok-number.ensures.fault c.role.ensures c.row_field.ensures (sym c.lacks_menu.ensures ∙ c.if-lacks_menu.true))

pub returns-clause-fault : goal.returns-clause-fault
returns-clause-fault c =
    let columns = c.args.columns.now in
    after_number columns.form columns.headers c.args.records.now c.args.t c.args.c c.role.result c.row_field.result.now false c.in_ok-number.ensures.fault c.role.ensures c.row_field.ensures (sym c.lacks_menu.ensures ∙ c.if-lacks_menu.false)
