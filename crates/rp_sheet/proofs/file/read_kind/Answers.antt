use Rattle.std.proofs.Common.{◌≡◌, ◌≢◌, Some, Ok, Err, sym, ap, ◌∙◌}
use Rattle.rp_sheet.specs.SheetFiles.{denoted_by}
use Rattle.rp_sheet.specs.declared.fault.TableFault.{TableFault}
use Rattle.rp_sheet.specs.declared.fault.TableFault.TheVariants as fault
use Rattle.rp_sheet.proofs.FileLemmas.{denoted_fault, read_from, value_of_read}
use Rattle.rp_num.proofs.PassedOn.{passed_on}
use Rattle.rp_sheet.proofs.StageLemmas.{same_fault}
use Rattle.rp_sheet.proofs.file.read_kind.Goals as goal

pub returns-in_err-sheet-clause-refused : goal.returns-in_err-sheet-clause-refused
returns-in_err-sheet-clause-refused g c =
    let kind = c.args.kind.now in
    let form = g.K.FileKind.form kind in
    let goods = g.K.FileKind.goods kind in
    let value = g.K.FileKind.value kind in
    let records = c.args.records.now in
    let e = c.in_err-sheet.field-0.0 in
    passed_on c.from_residual.result e (λ (e : TableFault). e ≢ fault.NoMemory → denoted_by form goods value records ≡ Err e) c.from_residual.ensures
    (λ other. denoted_fault form goods value records e (same_fault records (Some e) c.form-form.ensures c.goods.ensures (c.in_err-sheet.ensures.refused other)))

pub make-requires : goal.make-requires
make-requires g c =
    let kind = c.args.kind.now in
    let sheet = c.in_ok-sheet.sheet in
    let read = c.in_ok-sheet.ensures in (
      c.args.records.now,
      read_from c.form-form.result (g.K.FileKind.form kind) c.goods.result.now (g.K.FileKind.goods kind) c.args.records.now sheet.columns sheet.figures.items sheet.sizes.items
          c.form-form.ensures c.goods.ensures read.kind read.columns read.figures read.sizes read.faultless,
    )

pub returns-clause-denoted : goal.returns-clause-denoted
returns-clause-denoted g c =
    let kind = c.args.kind.now in
    let form = g.K.FileKind.form kind in
    let goods = g.K.FileKind.goods kind in
    let records = c.args.records.now in
    let sheet = c.in_ok-sheet.sheet in
    let read = c.in_ok-sheet.ensures in
    let from = read_from c.form-form.result form c.goods.result.now goods records sheet.columns sheet.figures.items sheet.sizes.items
    c.form-form.ensures c.goods.ensures read.kind read.columns read.figures read.sizes read.faultless in
    value_of_read form goods (g.K.FileKind.value kind) records sheet.columns sheet.figures.items sheet.sizes.items from ∙ ap Ok (sym c.in_ok-make.ensures.exact)
