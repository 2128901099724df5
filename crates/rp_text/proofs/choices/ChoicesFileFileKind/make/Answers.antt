use Rattle.std.proofs.Common.{◌∙◌}
use Rattle.rp_text.proofs.ChoiceFacts.{budget_limits, choice_limits, choices_exact, choices_made, times_limits}
use Rattle.rp_text.proofs.ChosenFacts.{choices_fit}
use Rattle.rp_text.proofs.choices.ChoicesFileFileKind.make.Goals as goal

pub from_zero-requires : goal.from_zero-requires
from_zero-requires c =
    let valid = c.goods-goods.ensures.valid in
    budget_limits c.requires.1 valid.some_goods valid.few_goods valid.few_budgets c.names-names.ensures c.as_slice-sizes.ensures.value _ (c.as_slice.ensures.value ∙ c.in_ok-numbers.ensures)

pub numbers_under-requires : goal.numbers_under-requires
numbers_under-requires c =
    let valid = c.goods-goods.ensures.valid in
    choice_limits c.requires.1 valid.some_goods valid.few_goods valid.few_budgets c.names-names.ensures c.as_slice-sizes.ensures.value

pub narrow-requires : goal.narrow-requires
narrow-requires c =
    let valid = c.goods-goods.ensures.valid in
    times_limits c.requires.1 valid.some_goods valid.few_goods valid.few_budgets c.names-names.ensures c.as_slice-sizes.ensures.value _ (c.as_slice-2.ensures.value ∙ c.in_ok-counts.ensures)

pub make-requires : goal.make-requires
make-requires c =
    let valid = c.goods-goods.ensures.valid in
    (choices_made c.requires.1 valid.some_goods valid.few_goods valid.few_budgets c.names-names.ensures c.as_slice-sizes.ensures.value _ _ _ _ _ _
    c.goods-goods.ensures.count (c.as_slice.ensures.value ∙ c.in_ok-numbers.ensures) c.in_ok-budget.ensures c.in_ok-quantities.ensures (c.as_slice-2.ensures.value ∙ c.in_ok-counts.ensures) c.in_ok-times.ensures).0

pub returns-clause-exact : goal.returns-clause-exact
returns-clause-exact c =
    let valid = c.goods-goods.ensures.valid in
    c.make.ensures ∙ (choices_made c.requires.1 valid.some_goods valid.few_goods valid.few_budgets c.names-names.ensures c.as_slice-sizes.ensures.value _ _ _ _ _ _
    c.goods-goods.ensures.count (c.as_slice.ensures.value ∙ c.in_ok-numbers.ensures) c.in_ok-budget.ensures c.in_ok-quantities.ensures (c.as_slice-2.ensures.value ∙ c.in_ok-counts.ensures) c.in_ok-times.ensures).1
    ∙ choices_exact c.requires.1 valid.some_goods valid.few_goods valid.few_budgets c.names-names.ensures c.as_slice-sizes.ensures.value

pub returns-clause-fitting : goal.returns-clause-fitting
returns-clause-fitting c =
    let valid = c.goods-goods.ensures.valid in
    let made = choices_made c.requires.1 valid.some_goods valid.few_goods valid.few_budgets c.names-names.ensures c.as_slice-sizes.ensures.value _ _ _ _ _ _
    c.goods-goods.ensures.count (c.as_slice.ensures.value ∙ c.in_ok-numbers.ensures) c.in_ok-budget.ensures c.in_ok-quantities.ensures (c.as_slice-2.ensures.value ∙ c.in_ok-counts.ensures) c.in_ok-times.ensures in
    let exact = choices_exact c.requires.1 valid.some_goods valid.few_goods valid.few_budgets c.names-names.ensures c.as_slice-sizes.ensures.value in
    choices_fit c.requires.1 valid.some_budgets valid.some_goods valid.few_goods valid.few_budgets c.make.result (c.make.ensures ∙ made.1 ∙ exact)
