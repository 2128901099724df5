use Rattle.std.proofs.Common.{◌≡◌, ◌≢◌, Some, [], List, ℕ, sym, ap, ◌∙◌}
use Rattle.rp_forms.specs.declared.form.Form.{Form}
use Rattle.rp_sheet.specs.Headers.{headers_of, goods_stage, headers_stage}
use Rattle.rp_sheet.specs.declared.fault.TableFault.{TableFault}
use Rattle.rp_sheet.specs.declared.fault.TableFault.TheVariants as fault
use Rattle.rp_num.proofs.PassedOn.{passed_on}
use Rattle.rp_long.specs.LongFaults.{goods_fault_in}
use Rattle.rp_long.proofs.StageLemmas.{bad_goods, bad_headers, err_after, fine_goods, ok_after}
use Rattle.rp_long.proofs.goods.check_headers.Goals as goal

pub returns-in_err-columns-clause-refused : goal.returns-in_err-columns-clause-refused
returns-in_err-columns-clause-refused c =
    let headers = headers_of c.args.headers.now in
    let e = c.in_err-columns.field-0.0 in
    passed_on c.from_residual.result e (λ (e : TableFault). e ≢ fault.NoMemory → goods_fault_in headers ≡ Some e) c.from_residual.ensures
    (λ other. bad_headers headers e (ap (λ (form : Form). headers_stage form headers) (sym c.table.ensures) ∙ c.in_err-columns.ensures.refused other))

pub returns-clause-fine : goal.returns-clause-fine
returns-clause-fine c =
    let headers = headers_of c.args.headers.now in
    let kind = c.in_ok-columns.ensures.kind ∙ c.table.ensures in
    let stage = ap (λ (form : Form). headers_stage form headers) (sym c.table.ensures) ∙ c.in_ok-columns.ensures.faultless in
    let same = ap (λ (form : Form). goods_stage form [] headers) (sym kind) ∙ ap (λ (hs : List (List ℕ)). goods_stage c.in_ok-columns.columns.form [] hs) (sym c.in_ok-columns.ensures.read) in
    ok_after c.check_goods.result c.check_goods.ensures.fine (λ none. fine_goods headers stage (same ∙ none))

pub returns-clause-refused : goal.returns-clause-refused
returns-clause-refused c =
    let headers = headers_of c.args.headers.now in
    let kind = c.in_ok-columns.ensures.kind ∙ c.table.ensures in
    let stage = ap (λ (form : Form). headers_stage form headers) (sym c.table.ensures) ∙ c.in_ok-columns.ensures.faultless in
    let same = ap (λ (form : Form). goods_stage form [] headers) (sym kind) ∙ ap (λ (hs : List (List ℕ)). goods_stage c.in_ok-columns.columns.form [] hs) (sym c.in_ok-columns.ensures.read) in
    err_after c.check_goods.result c.check_goods.ensures.refused (λ e faulty other. bad_goods headers e stage (same ∙ faulty other))
