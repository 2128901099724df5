use Rattle.std.proofs.Common.{ap, ◌∙◌}
use Rattle.rp_forms.specs.Columns.{price_mark}
use Rattle.rp_sheet.specs.Sheets.{numbers_under}
use Rattle.rp_text.proofs.BudgetFacts.{budget_limits, budgets_made}
use Rattle.rp_text.proofs.budgets.BudgetsFileFileKind.make.Goals as goal

pub numbers_under-requires : goal.numbers_under-requires
numbers_under-requires c = budget_limits c.requires.1 (c.as_slice.ensures.value ∙ c.in_ok-names.ensures) c.as_slice-sizes.ensures.value

pub make-requires : goal.make-requires
make-requires c =
    let numbered = c.in_ok-prices.ensures ∙ ap (λ names. numbers_under price_mark c.args.sheet.now.columns.headers names c.as_slice-sizes.result.now) c.as_slice.ensures.value in
    (budgets_made c.requires.1 c.in_ok-names.ensures c.as_slice-sizes.ensures.value _ _ numbered c.in_ok-w.ensures).0

pub returns-clause-exact : goal.returns-clause-exact
returns-clause-exact c =
    let numbered = c.in_ok-prices.ensures ∙ ap (λ names. numbers_under price_mark c.args.sheet.now.columns.headers names c.as_slice-sizes.result.now) c.as_slice.ensures.value in
    c.make.ensures ∙ (budgets_made c.requires.1 c.in_ok-names.ensures c.as_slice-sizes.ensures.value _ _ numbered c.in_ok-w.ensures).1
