use Rattle.std.proofs.Common.{◌≡◌, ℕ, List, ◌++◌, not, ap, ◌∙◌, subst, IfOk}
use Rattle.rp_forms.specs.Columns.{name_in, mark_of_prices, mark_of_quantities}
use Rattle.rp_sheet.specs.Headers.{has}
use Rattle.rp_forms.specs.declared.form.Form.{Form}
use Rattle.rp_sheet.proofs.FieldFaults.{role_is}
use Rattle.rp_sheet.proofs.goods.lacks_partner.Goals as goal

pub returns-in-Price : goal.returns-in-Price
returns-in-Price c =
    let same = role_is _ c.args.columns.now.headers c.args.c c.role.result c.role.ensures ∙ c.in-Price.is in
    let name = c.name_in-name.ensures ∙ ap name_in c.header.ensures in
    let mark = c.quantities.ensures ∙ ap (λ (form : Form). mark_of_quantities form.marks) c.form.ensures in
    let header = ap (λ (text : List ℕ). text ++ c.name_in-name.result.now) mark ∙ ap (λ (text : List ℕ). mark_of_quantities c.args.columns.now.form.marks ++ text) name in
    rw same (subst (λ (text : List ℕ). IfOk c.lacks.result (λ lacks. lacks ≡ not (has c.args.columns.now.headers text))) header c.lacks.ensures)

pub returns-in-Quantity : goal.returns-in-Quantity
returns-in-Quantity c =
    let same = role_is _ c.args.columns.now.headers c.args.c c.role.result c.role.ensures ∙ c.in-Quantity.is in
    let name = c.name_in-name.ensures ∙ ap name_in c.header.ensures in
    let mark = c.prices.ensures ∙ ap (λ (form : Form). mark_of_prices form.marks) c.form.ensures in
    let header = ap (λ (text : List ℕ). text ++ c.name_in-name.result.now) mark ∙ ap (λ (text : List ℕ). mark_of_prices c.args.columns.now.form.marks ++ text) name in
    rw same (subst (λ (text : List ℕ). IfOk c.lacks-in-Quantity.result (λ lacks. lacks ≡ not (has c.args.columns.now.headers text))) header c.lacks-in-Quantity.ensures)
