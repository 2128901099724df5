-- Which observation the inner demand begins from, of the first k that were tried. No definition and no public clause
-- rests on these words.
use Rattle.std.specs.Prelude.{◌≡◌, ◌<◌, ◌⊎◌, ℕ, List, Option, Some, None, slice_index}
use Rattle.rp_evidence.specs.Demand.{BudgetInput, Buys, IsInnerStart, all_on_first, spending, with_rest_on_first}
use Rattle.rp_evidence.specs.Input.{TableInput}

-- The observation to begin from, or none where the budget buys no bundle of the table.
abbrev pub IsStart : TableInput → BudgetInput → List ℕ → Option ℕ → Type 0
IsStart input budget counts (Some s) = IsInnerStart input budget counts s
IsStart input budget counts None = (s : ℕ) → s < input.n → ¬ Buys input budget s

-- What the inner demand has of good g, over the price of good 0.
abbrev pub inner_numerator : TableInput → BudgetInput → Option ℕ → ℕ → ℕ
inner_numerator input budget (Some s) g = with_rest_on_first input budget s g
inner_numerator input budget None g = all_on_first budget g

-- s comes before b: it has a greater count, or the same count and a lower cost at the new prices.
abbrev pub StartComesBefore : TableInput → BudgetInput → List ℕ → ℕ → ℕ → Type 0
StartComesBefore input budget counts s b =
    (slice_index counts b < slice_index counts s)
    ⊎ ((slice_index counts s ≡ slice_index counts b)
    × (spending input.goods budget.prices (input.quantity s) < spending input.goods budget.prices (input.quantity b)))

-- The budget buys the bundle of s, and s comes before the best one so far, if there is one.
abbrev pub IsBetter : TableInput → BudgetInput → List ℕ → ℕ → Option ℕ → Type 0
IsBetter input budget counts s (Some b) = Buys input budget s × StartComesBefore input budget counts s b
IsBetter input budget counts s None = Buys input budget s

-- Of the first k observations s is the one to begin from: no other that the budget buys comes before it, and it
-- comes before each earlier one.
pub record IsBest (input : TableInput) (budget : BudgetInput) (counts : List ℕ) (k s : ℕ) : Type 0 where
  pub tried : s < k
  pub bought : Buys input budget s
  pub none_before : (t : ℕ) → t < k → Buys input budget t → ¬ StartComesBefore input budget counts t s
  pub first : (t : ℕ) → t < s → Buys input budget t → StartComesBefore input budget counts s t

-- So far as k observations were tried.
abbrev pub IsBestSoFar : TableInput → BudgetInput → List ℕ → ℕ → Option ℕ → Type 0
IsBestSoFar input budget counts k (Some s) = IsBest input budget counts k s
IsBestSoFar input budget counts k None = (t : ℕ) → t < k → ¬ Buys input budget t
