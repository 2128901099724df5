use Rattle.std.proofs.Common.{◌≡◌, ◌+◌, Ok, IfOk, take, ap, ◌∙◌, subst}
use Rattle.rp_forms.specs.declared.form.Form.{Form}
use Rattle.rp_sheet.specs.Records.{records_in}
use Rattle.rp_sheet.specs.Refusals.{RefusedAs}
use Rattle.rp_sheet.specs.SheetFiles.{denoted_by}
use Rattle.rp_sheet.proofs.FileLemmas.{first_denoted}
use Rattle.rp_sheet.proofs.file.read_file.Goals as goal

pub returns-clause-denoted : goal.returns-clause-denoted
returns-clause-denoted g c =
    let kind = c.args.kind.now in
    let form = g.K.FileKind.form kind in
    let goods = g.K.FileKind.goods kind in
    let value = g.K.FileKind.value kind in
    let all = records_in c.args.bytes.now in
    let first = c.in_ok-records.ensures ∙ ap (λ (f : Form). take (f.most + 2) all) c.form-form.ensures in
    let same = ap (denoted_by form goods value) first ∙ first_denoted form goods value all in
    subst (λ d. IfOk c.read_kind.result (λ v. d ≡ Ok v)) same c.read_kind.ensures.denoted

pub returns-clause-refused : goal.returns-clause-refused
returns-clause-refused g c =
    let kind = c.args.kind.now in
    let form = g.K.FileKind.form kind in
    let goods = g.K.FileKind.goods kind in
    let value = g.K.FileKind.value kind in
    let all = records_in c.args.bytes.now in
    let first = c.in_ok-records.ensures ∙ ap (λ (f : Form). take (f.most + 2) all) c.form-form.ensures in
    let same = ap (denoted_by form goods value) first ∙ first_denoted form goods value all in
    subst (λ d. RefusedAs c.read_kind.result d) same c.read_kind.ensures.refused
