use Rattle.std.proofs.Common.{◌≡◌, ◌≢◌, ◌<◌, Ok, Err, None, Some, List, ℕ, length, map, sym, ap, arith, ◌∙◌, subst}
use Rattle.rp_num.proofs.PassedOn.{passed_on}
use Rattle.rp_sheet.specs.declared.fault.TableFault.TheVariants as fault
use Rattle.rp_long.specs.LongColumns.{Uses}
use Rattle.rp_long.specs.LongFaults.{goods_fault}
use Rattle.rp_long.specs.Panels.{denoted_panel, panel_with}
use Rattle.rp_long.specs.declared.fault.LongFault.{LongFault}
use Rattle.rp_long.specs.declared.fault.LongFault.TheVariants as long_fault
use Rattle.rp_long.proofs.StageLemmas.{empty_file, at_columns, at_goods, at_count, at_lengths, few_rows, fine_file, some_rows}
use Rattle.rp_long.proofs.read.read_panel.Goals as goal

pub returns-then-len-eq0-clause-refused : goal.returns-then-len-eq0-clause-refused
returns-then-len-eq0-clause-refused c = λ _.
    empty_file c.args.id.now (map (λ name. name.now) c.args.kept.now) c.args.records.now (sym c.len.ensures ∙ c.if-len-eq0.true)

pub returns-in_err-columns-clause-refused : goal.returns-in_err-columns-clause-refused
returns-in_err-columns-clause-refused c =
    let some : 0 < length c.args.records.now = omega arith in
    let kept = map (λ name. name.now) c.args.kept.now in
    let e = c.in_err-columns.field-0.0 in
    passed_on c.from_residual.result e (λ (e : LongFault). e ≢ long_fault.Table fault.NoMemory → denoted_panel c.args.id.now kept c.args.records.now ≡ Err e) c.from_residual.ensures
    (λ other. at_columns c.args.id.now kept c.args.records.now some e (c.in_err-columns.ensures.refused other))

pub returns-in_err-check_table_columns-clause-refused : goal.returns-in_err-check_table_columns-clause-refused
returns-in_err-check_table_columns-clause-refused c =
    let some : 0 < length c.args.records.now = omega arith in
    let id = c.args.id.now in
    let kept = map (λ name. name.now) c.args.kept.now in
    let e = c.in_err-check_table_columns.field-0.0 in
    let columns = c.table.ensures ∙ ap (λ (uses : Uses). uses.table) c.in_ok-columns.ensures.read in
    passed_on c.from_residual-in_err-check_table_columns.result e (λ (e : LongFault). e ≢ long_fault.Table fault.NoMemory → denoted_panel id kept c.args.records.now ≡ Err e) c.from_residual-in_err-check_table_columns.ensures
    (λ other. at_goods id kept c.args.records.now some e c.in_ok-columns.ensures.faultless
    (subst (λ (columns : List ℕ). goods_fault columns c.args.records.now ≡ Some e) columns (c.in_err-check_table_columns.ensures.refused other)))

pub returns-in_err-check_count-clause-refused : goal.returns-in_err-check_count-clause-refused
returns-in_err-check_count-clause-refused c =
    let some : 0 < length c.args.records.now = omega arith in
    let id = c.args.id.now in
    let kept = map (λ name. name.now) c.args.kept.now in
    let e = c.in_err-check_count.field-0.0 in
    let columns = c.table.ensures ∙ ap (λ (uses : Uses). uses.table) c.in_ok-columns.ensures.read in
    let goods = subst (λ (columns : List ℕ). goods_fault columns c.args.records.now ≡ None) columns c.in_ok-check_table_columns.ensures.fine in
    passed_on c.from_residual-in_err-check_count.result e (λ (e : LongFault). e ≢ long_fault.Table fault.NoMemory → denoted_panel id kept c.args.records.now ≡ Err e) c.from_residual-in_err-check_count.ensures
    (λ _. at_count id kept c.args.records.now some e c.in_ok-columns.ensures.faultless goods (sym c.in_err-check_count.ensures))

pub returns-in_err-check_lengths-clause-refused : goal.returns-in_err-check_lengths-clause-refused
returns-in_err-check_lengths-clause-refused c =
    let some : 0 < length c.args.records.now = omega arith in
    let id = c.args.id.now in
    let kept = map (λ name. name.now) c.args.kept.now in
    let e = c.in_err-check_lengths.field-0.0 in
    let columns = c.table.ensures ∙ ap (λ (uses : Uses). uses.table) c.in_ok-columns.ensures.read in
    let goods = subst (λ (columns : List ℕ). goods_fault columns c.args.records.now ≡ None) columns c.in_ok-check_table_columns.ensures.fine in
    passed_on c.from_residual-in_err-check_lengths.result e (λ (e : LongFault). e ≢ long_fault.Table fault.NoMemory → denoted_panel id kept c.args.records.now ≡ Err e) c.from_residual-in_err-check_lengths.ensures
    (λ _. at_lengths id kept c.args.records.now some e c.in_ok-columns.ensures.faultless goods (sym c.in_ok-check_count.ensures) (sym c.in_err-check_lengths.ensures))

pub group_records-requires-clause-few : goal.group_records-requires-clause-few
group_records-requires-clause-few c = few_rows c.args.records.now (sym c.in_ok-check_count.ensures)

pub new-requires-clause-some : goal.new-requires-clause-some
new-requires-clause-some c = some_rows c.args.records.now (sym c.in_ok-check_count.ensures)

pub returns-clause-denoted : goal.returns-clause-denoted
returns-clause-denoted c =
    let some : 0 < length c.args.records.now = omega arith in
    let id = c.args.id.now in
    let kept = map (λ name. name.now) c.args.kept.now in
    let columns = c.table.ensures ∙ ap (λ (uses : Uses). uses.table) c.in_ok-columns.ensures.read in
    let goods = subst (λ (columns : List ℕ). goods_fault columns c.args.records.now ≡ None) columns c.in_ok-check_table_columns.ensures.fine in
    fine_file id kept c.args.records.now some c.in_ok-columns.ensures.faultless goods (sym c.in_ok-check_count.ensures) (sym c.in_ok-check_lengths.ensures)
    ∙ ap (λ (uses : Uses). Ok (panel_with uses c.args.records.now)) (sym c.in_ok-columns.ensures.read) ∙ ap Ok (sym c.new.ensures)
