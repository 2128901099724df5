use Rattle.std.proofs.Common.{rules, ◌≡◌, ◌≢◌, ◌<◌, [], List, length, None, Some, sym, ap, subst, arith, ◌∙◌}
use Rattle.rp_num.proofs.BelowLemmas.{length-listed}
use Rattle.rp_sheet.specs.Fields.{count_stage, rows_in}
use Rattle.rp_forms.specs.Forms.{menus_form}
use Rattle.rp_sheet.specs.Headers.{headers_of, headers_stage}
use Rattle.rp_forms.specs.declared.form.Form.{Form}
use Rattle.rp_sheet.proofs.FigureLemmas.{whole_rows}
use Rattle.rp_sheet.proofs.FineHeaders.{fine_headers}
use Rattle.rp_num.proofs.PassedOn.{passed_on}
use Rattle.rp_menu.specs.Cells.{menu_row_at}
use Rattle.rp_menu.specs.Denotation.{menu_rows_in, menu_row_of, sheet_fault, times_in, told}
use Rattle.rp_menu.specs.InnerCells.{IsMenuRow}
use Rattle.rp_menu.specs.declared.menu_row.MenuRow.{MenuRow}
use Rattle.rp_menu.specs.declared.fault.MenuFault.{MenuFault}
use Rattle.rp_menu.specs.declared.fault.MenuFault.TheVariants as fault
use Rattle.rp_menu.proofs.MenuStages.{empty_file, few_rows, goods_as, in_count, in_menu_rows, in_goods, in_headers, in_none, in_sizes, menu_rows_as, sizes_as}
use Rattle.rp_menu.proofs.SoundMenuRows.{sound_menu_rows}
use Rattle.rp_menu.proofs.read.read_menu_rows.Goals as goal

pub returns-then-len-eq0-clause-refused : goal.returns-then-len-eq0-clause-refused
returns-then-len-eq0-clause-refused c = λ _. empty_file c.args.records.now (sym c.len.ensures ∙ c.if-len-eq0.true)

pub returns-in_err-columns-clause-refused : goal.returns-in_err-columns-clause-refused
returns-in_err-columns-clause-refused c =
    let records = c.args.records.now in
    let some : 0 < length records = omega arith in
    let e = c.in_err-columns.field-0.0 in
    passed_on c.from_residual.result (told e) (λ (f : MenuFault). f ≢ fault.NoMemory → sheet_fault records ≡ Some f) c.from_residual.ensures
    (λ other. in_headers records some e (subst (λ (form : Form). headers_stage form (headers_of records) ≡ Some e) c.menus-form.ensures (c.in_err-columns.ensures.refused (λ same. other (ap told same)))))

pub returns-in_err-check_goods-clause-refused : goal.returns-in_err-check_goods-clause-refused
returns-in_err-check_goods-clause-refused c =
    let records = c.args.records.now in
    let some : 0 < length records = omega arith in
    let columns = c.in_ok-columns.columns in
    let kind = c.in_ok-columns.ensures.kind ∙ c.menus-form.ensures in
    let headed = subst (λ (form : Form). headers_stage form (headers_of records) ≡ None) c.menus-form.ensures c.in_ok-columns.ensures.faultless in
    let e = c.in_err-check_goods.field-0.0 in
    passed_on c.from_residual-in_err-check_goods.result (told e) (λ (f : MenuFault). f ≢ fault.NoMemory → sheet_fault records ≡ Some f) c.from_residual-in_err-check_goods.ensures
    (λ other. in_goods records some e headed (goods_as columns.form columns.headers records (Some e) kind c.in_ok-columns.ensures.read (c.in_err-check_goods.ensures.refused (λ same. other (ap told same)))))

pub returns-in_err-check_count-clause-refused : goal.returns-in_err-check_count-clause-refused
returns-in_err-check_count-clause-refused c =
    let records = c.args.records.now in
    let some : 0 < length records = omega arith in
    let columns = c.in_ok-columns.columns in
    let kind = c.in_ok-columns.ensures.kind ∙ c.menus-form.ensures in
    let headed = subst (λ (form : Form). headers_stage form (headers_of records) ≡ None) c.menus-form.ensures c.in_ok-columns.ensures.faultless in
    let goods = goods_as columns.form columns.headers records None kind c.in_ok-columns.ensures.read c.in_ok-check_goods.ensures.fine in
    let e = c.in_err-check_count.field-0.0 in
    passed_on c.from_residual-in_err-check_count.result (told e) (λ (f : MenuFault). f ≢ fault.NoMemory → sheet_fault records ≡ Some f) c.from_residual-in_err-check_count.ensures
    (λ _. in_count records some e headed goods (subst (λ (form : Form). count_stage form records ≡ Some e) c.menus-form.ensures c.in_err-check_count.ensures.refused))

pub returns-in_err-figures-clause-refused : goal.returns-in_err-figures-clause-refused
returns-in_err-figures-clause-refused c =
    let records = c.args.records.now in
    let some : 0 < length records = omega arith in
    let columns = c.in_ok-columns.columns in
    let kind = c.in_ok-columns.ensures.kind ∙ c.menus-form.ensures in
    let headed = subst (λ (form : Form). headers_stage form (headers_of records) ≡ None) c.menus-form.ensures c.in_ok-columns.ensures.faultless in
    let goods = goods_as columns.form columns.headers records None kind c.in_ok-columns.ensures.read c.in_ok-check_goods.ensures.fine in
    let count = subst (λ (form : Form). count_stage form records ≡ None) c.menus-form.ensures c.in_ok-check_count.ensures.fine in
    let e = c.in_err-figures.field-0.0 in
    passed_on c.from_residual-in_err-figures.result e (λ (f : MenuFault). f ≢ fault.NoMemory → sheet_fault records ≡ Some f) c.from_residual-in_err-figures.ensures
    (λ other. in_menu_rows records some e headed goods count (menu_rows_as columns.form columns.headers records (Some e) kind c.in_ok-columns.ensures.read (c.in_err-figures.ensures.refused other)))

pub read_sizes-requires : goal.read_sizes-requires
read_sizes-requires c =
    let read = c.as_slice.ensures.value ∙ c.in_ok-figures.ensures.read in
    rw read (whole_rows c.in_ok-columns.columns.form c.in_ok-columns.columns.headers c.args.records.now)

pub returns-in_err-sizes-clause-refused : goal.returns-in_err-sizes-clause-refused
returns-in_err-sizes-clause-refused c =
    let records = c.args.records.now in
    let some : 0 < length records = omega arith in
    let columns = c.in_ok-columns.columns in
    let kind = c.in_ok-columns.ensures.kind ∙ c.menus-form.ensures in
    let headed = subst (λ (form : Form). headers_stage form (headers_of records) ≡ None) c.menus-form.ensures c.in_ok-columns.ensures.faultless in
    let goods = goods_as columns.form columns.headers records None kind c.in_ok-columns.ensures.read c.in_ok-check_goods.ensures.fine in
    let count = subst (λ (form : Form). count_stage form records ≡ None) c.menus-form.ensures c.in_ok-check_count.ensures.fine in
    let menu_rows = menu_rows_as columns.form columns.headers records None kind c.in_ok-columns.ensures.read c.in_ok-figures.ensures.faultless in
    let read = c.as_slice.ensures.value ∙ c.in_ok-figures.ensures.read in
    let e = c.in_err-sizes.field-0.0 in
    passed_on c.from_residual-in_err-sizes.result (told e) (λ (f : MenuFault). f ≢ fault.NoMemory → sheet_fault records ≡ Some f) c.from_residual-in_err-sizes.ensures
    (λ other. in_sizes records some e headed goods count menu_rows (sizes_as columns.form columns.headers records c.as_slice.result.now (Some e) kind c.in_ok-columns.ensures.read read (c.in_err-sizes.ensures.refused (λ same. other (ap told same)))))

pub returns-clause-few : goal.returns-clause-few
returns-clause-few c =
    let records = c.args.records.now in
    let said : c.in_ok-list_menu_rows.field-0.items ≡ menu_rows_in (headers_of records) records = search rules in
    let count = subst (λ (form : Form). count_stage form records ≡ None) c.menus-form.ensures c.in_ok-check_count.ensures.fine in
    let all = ap length said ∙ length-listed (menu_row_of (headers_of records) records (times_in (headers_of records) records)) (rows_in records) in
    omega (arith, all, few_rows records count)

pub returns-clause-sound : goal.returns-clause-sound
returns-clause-sound c = λ t inside.
    let records = c.args.records.now in
    let columns = c.in_ok-columns.columns in
    let said : c.in_ok-list_menu_rows.field-0.items ≡ menu_rows_in (headers_of records) records = search rules in
    let all = ap length said ∙ length-listed (menu_row_of (headers_of records) records (times_in (headers_of records) records)) (rows_in records) in
    let kind = c.in_ok-columns.ensures.kind ∙ c.menus-form.ensures in
    let headed = subst (λ (form : Form). headers_stage form (headers_of records) ≡ None) c.menus-form.ensures c.in_ok-columns.ensures.faultless in
    let goods = goods_as columns.form columns.headers records None kind c.in_ok-columns.ensures.read c.in_ok-check_goods.ensures.fine in
    let menu_rows = menu_rows_as columns.form columns.headers records None kind c.in_ok-columns.ensures.read c.in_ok-figures.ensures.faultless in
    let read = c.as_slice.ensures.value ∙ c.in_ok-figures.ensures.read in
    let sizes = sizes_as columns.form columns.headers records c.as_slice.result.now None kind c.in_ok-columns.ensures.read read c.in_ok-sizes.ensures.faultless in
    let row : t < rows_in records = omega (arith, inside, all) in
    subst (λ (es : List MenuRow). IsMenuRow (menu_row_at es t)) (sym said)
    (sound_menu_rows (headers_of records) records (fine_headers menus_form [] (headers_of records) headed goods) menu_rows sizes t row)

pub returns-clause-faultless : goal.returns-clause-faultless
returns-clause-faultless c =
    let records = c.args.records.now in
    let some : 0 < length records = omega arith in
    let columns = c.in_ok-columns.columns in
    let kind = c.in_ok-columns.ensures.kind ∙ c.menus-form.ensures in
    let headed = subst (λ (form : Form). headers_stage form (headers_of records) ≡ None) c.menus-form.ensures c.in_ok-columns.ensures.faultless in
    let goods = goods_as columns.form columns.headers records None kind c.in_ok-columns.ensures.read c.in_ok-check_goods.ensures.fine in
    let count = subst (λ (form : Form). count_stage form records ≡ None) c.menus-form.ensures c.in_ok-check_count.ensures.fine in
    let menu_rows = menu_rows_as columns.form columns.headers records None kind c.in_ok-columns.ensures.read c.in_ok-figures.ensures.faultless in
    let read = c.as_slice.ensures.value ∙ c.in_ok-figures.ensures.read in
    let sizes = sizes_as columns.form columns.headers records c.as_slice.result.now None kind c.in_ok-columns.ensures.read read c.in_ok-sizes.ensures.faultless in
    in_none records some headed goods count menu_rows sizes
