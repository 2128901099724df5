use Rattle.std.proofs.Common.{◌≡◌, ◌≢◌, ◌<◌, length, Some, sym, arith, ◌∙◌}
use Rattle.rp_sheet.specs.Fields.{fields_stage, record_fault}
use Rattle.rp_sheet.specs.Sheets.{first_fault}
use Rattle.rp_sheet.specs.declared.fault.TableFault.{TableFault}
use Rattle.rp_sheet.specs.declared.fault.TableFault.TheVariants as fault
use Rattle.rp_sheet.proofs.SheetStages.{empty_file, columns_fault, goods_fault, count_fault, fields_fault, sizes_fault, choices_fault, no_fault}
use Rattle.rp_sheet.proofs.FigureLemmas.{whole_rows}
use Rattle.rp_num.proofs.PassedOn.{passed_on}
use Rattle.rp_sheet.proofs.sheet.read_sheet.Goals as goal

pub returns-then-len-eq0-clause-refused : goal.returns-then-len-eq0-clause-refused
returns-then-len-eq0-clause-refused c = λ _.
    empty_file c.args.form.now c.args.goods.now c.args.records.now (sym c.len.ensures ∙ c.if-len-eq0.true)

pub returns-in_err-columns-clause-refused : goal.returns-in_err-columns-clause-refused
returns-in_err-columns-clause-refused c =
    let some : 0 < length c.args.records.now = omega arith in
    passed_on c.from_residual.result c.in_err-columns.field-0.0 (λ (e : TableFault). e ≢ fault.NoMemory → first_fault c.args.form.now c.args.goods.now c.args.records.now ≡ Some e) c.from_residual.ensures
    (λ other. columns_fault c.args.form.now c.args.goods.now c.args.records.now c.in_err-columns.field-0.0 some (c.in_err-columns.ensures.refused other))

pub returns-in_err-check_goods-clause-refused : goal.returns-in_err-check_goods-clause-refused
returns-in_err-check_goods-clause-refused c =
    let some : 0 < length c.args.records.now = omega arith in
    passed_on c.from_residual-in_err-check_goods.result c.in_err-check_goods.field-0.0 (λ (e : TableFault). e ≢ fault.NoMemory → first_fault c.args.form.now c.args.goods.now c.args.records.now ≡ Some e) c.from_residual-in_err-check_goods.ensures
    (λ other. goods_fault c.args.form.now c.args.goods.now c.args.records.now c.in_ok-columns.columns some c.in_ok-columns.ensures.kind c.in_ok-columns.ensures.read c.in_ok-columns.ensures.faultless c.in_err-check_goods.field-0.0 (c.in_err-check_goods.ensures.refused other))

pub returns-in_err-check_count-clause-refused : goal.returns-in_err-check_count-clause-refused
returns-in_err-check_count-clause-refused c =
    let some : 0 < length c.args.records.now = omega arith in
    passed_on c.from_residual-in_err-check_count.result c.in_err-check_count.field-0.0 (λ (e : TableFault). e ≢ fault.NoMemory → first_fault c.args.form.now c.args.goods.now c.args.records.now ≡ Some e) c.from_residual-in_err-check_count.ensures
    (λ _. count_fault c.args.form.now c.args.goods.now c.args.records.now c.in_ok-columns.columns some c.in_ok-columns.ensures.kind c.in_ok-columns.ensures.read c.in_ok-columns.ensures.faultless c.in_err-check_count.field-0.0 c.in_ok-check_goods.ensures.fine c.in_err-check_count.ensures.refused)

pub returns-in_err-figures-clause-refused : goal.returns-in_err-figures-clause-refused
unfolding fields_stage record_fault
returns-in_err-figures-clause-refused c =
    let some : 0 < length c.args.records.now = omega arith in
    passed_on c.from_residual-in_err-figures.result c.in_err-figures.field-0.0 (λ (e : TableFault). e ≢ fault.NoMemory → first_fault c.args.form.now c.args.goods.now c.args.records.now ≡ Some e) c.from_residual-in_err-figures.ensures
    (λ other. fields_fault c.args.form.now c.args.goods.now c.args.records.now c.in_ok-columns.columns some c.in_ok-columns.ensures.kind c.in_ok-columns.ensures.read c.in_ok-columns.ensures.faultless c.in_err-figures.field-0.0 c.in_ok-check_goods.ensures.fine c.in_ok-check_count.ensures.fine (c.in_err-figures.ensures.refused other))

pub read_sizes-requires : goal.read_sizes-requires
read_sizes-requires c =
    let read = c.as_slice.ensures.value ∙ c.in_ok-figures.ensures.read in
    rw read (whole_rows c.in_ok-columns.columns.form c.in_ok-columns.columns.headers c.args.records.now)

pub returns-in_err-sizes-clause-refused : goal.returns-in_err-sizes-clause-refused
unfolding fields_stage record_fault
returns-in_err-sizes-clause-refused c =
    let some : 0 < length c.args.records.now = omega arith in
    let read = c.as_slice.ensures.value ∙ c.in_ok-figures.ensures.read in
    passed_on c.from_residual-in_err-sizes.result c.in_err-sizes.field-0.0 (λ (e : TableFault). e ≢ fault.NoMemory → first_fault c.args.form.now c.args.goods.now c.args.records.now ≡ Some e) c.from_residual-in_err-sizes.ensures
    (λ other. sizes_fault c.args.form.now c.args.goods.now c.args.records.now c.in_ok-columns.columns some c.in_ok-columns.ensures.kind c.in_ok-columns.ensures.read c.in_ok-columns.ensures.faultless c.in_err-sizes.field-0.0 c.in_ok-check_goods.ensures.fine c.in_ok-check_count.ensures.fine c.in_ok-figures.ensures.faultless (rw read at (c.in_err-sizes.ensures.refused other)))

pub returns-in_err-check_choices-clause-refused : goal.returns-in_err-check_choices-clause-refused
unfolding fields_stage record_fault
returns-in_err-check_choices-clause-refused c =
    let some : 0 < length c.args.records.now = omega arith in
    let sized = c.as_slice.ensures.value ∙ c.in_ok-figures.ensures.read in
    let read = c.as_slice-2.ensures.value ∙ c.in_ok-figures.ensures.read in
    passed_on c.from_residual-in_err-check_choices.result c.in_err-check_choices.field-0.0 (λ (e : TableFault). e ≢ fault.NoMemory → first_fault c.args.form.now c.args.goods.now c.args.records.now ≡ Some e) c.from_residual-in_err-check_choices.ensures
    (λ _. choices_fault c.args.form.now c.args.goods.now c.args.records.now c.in_ok-columns.columns some c.in_ok-columns.ensures.kind c.in_ok-columns.ensures.read c.in_ok-columns.ensures.faultless c.in_err-check_choices.field-0.0 c.in_ok-check_goods.ensures.fine c.in_ok-check_count.ensures.fine c.in_ok-figures.ensures.faultless (rw sized at c.in_ok-sizes.ensures.faultless) (rw read at c.in_err-check_choices.ensures.refused))

pub returns-clause-faultless : goal.returns-clause-faultless
unfolding fields_stage record_fault
returns-clause-faultless c =
    let some : 0 < length c.args.records.now = omega arith in
    let sized = c.as_slice.ensures.value ∙ c.in_ok-figures.ensures.read in
    let read = c.as_slice-2.ensures.value ∙ c.in_ok-figures.ensures.read in
    no_fault c.args.form.now c.args.goods.now c.args.records.now c.in_ok-columns.columns some c.in_ok-columns.ensures.kind c.in_ok-columns.ensures.read c.in_ok-columns.ensures.faultless c.in_ok-check_goods.ensures.fine c.in_ok-check_count.ensures.fine c.in_ok-figures.ensures.faultless (rw sized at c.in_ok-sizes.ensures.faultless) (rw read at c.in_ok-check_choices.ensures.fine)
