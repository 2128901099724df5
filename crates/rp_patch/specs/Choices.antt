-- What is given: budgets, and how many times which bundles were chosen on them (Kitamura and Stoye 2018).
use Rattle.std.specs.Prelude.{◌≡◌, ◌<◌, ℕ, ◌+◌, ◌*◌, ◌==◌, length, slice_index, if◌then◌else◌}
use Rattle.rp_table.specs.BudgetLists.{BudgetList}
use Rattle.rp_table.specs.ChoiceLists.{ChoiceList}
use Rattle.rp_table.specs.Sums.{sum_below}

-- `price j g` is the price of good g on budget j, `income j` what there is to spend there; choice i was made on the
-- budget `budget i`, so many `times i`, and has the bundle `quantity i`.
pub record RandomInput : Type 0 where
  pub budgets : ℕ
  pub goods : ℕ
  pub price : ℕ → ℕ → ℕ
  pub income : ℕ → ℕ
  pub choices : ℕ
  pub budget : ℕ → ℕ
  pub quantity : ℕ → ℕ → ℕ
  pub times : ℕ → ℕ

-- What lists of budgets and of choices over the same goods give.
abbrev pub random_input_of : BudgetList → ChoiceList → RandomInput
random_input_of budgets choices = record {
  budgets = length budgets.w;
  goods = length budgets.names;
  price = λ j g. slice_index budgets.prices (j * length budgets.names + g);
  income = slice_index budgets.w;
  choices = length choices.budget;
  budget = slice_index choices.budget;
  quantity = λ i g. slice_index choices.quantities (i * choices.goods + g);
  times = slice_index choices.times;
}

-- How many choices were made on budget j.
abbrev pub times_on : RandomInput → ℕ → ℕ
times_on input j = sum_below input.choices (λ i. if input.budget i == j then input.times i else 0)

-- The choices are from these budgets: over the same goods, each on one of them, and some on every one.
pub record AreChoicesFrom (budgets : BudgetList) (choices : ChoiceList) : Type 0 where
  pub same_goods : choices.goods ≡ length budgets.names
  pub on_budgets : (i : ℕ) → i < length choices.budget → slice_index choices.budget i < length budgets.w
  pub on_every : (j : ℕ) → j < length budgets.w
      → (i : ℕ) × (i < length choices.budget) × (slice_index choices.budget i ≡ j) × (0 < slice_index choices.times i)
