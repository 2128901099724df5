-- What people buy on a new budget, whose preferences rationalize a table (Varian 1982, on forecasting demand).
use Rattle.std.specs.Prelude.{ℕ, ◌*◌, ◌<◌, Bool}
use Rattle.rp_evidence.specs.Demand.{BudgetInput, FractionBundle, HasLess, HasMore, IsOnBudget}
use Rattle.rp_evidence.specs.Input.{TableInput}
use Rattle.rp_people.specs.Bundles.{CostsAtMost, IsBundle}
use Rattle.rp_people.specs.Fractions.{SignedFraction}
use Rattle.rp_people.specs.Preferences.{IsAtLeastAsGood, shown_by}
use Rattle.rp_people.specs.Rationalizing.{Fits, Rationalizes}
use Rattle.rp_people.specs.TableChoices.{choices_at}
use Rattle.rp_people.specs.Utilities.{IsConcaveUtility, preference_of}

-- By the preference no bundle that costs at most what is spent is better: this one is at least as good as each.
abbrev pub IsBestOnBudget : ℕ → BudgetInput → (FractionBundle → FractionBundle → Type 0) → FractionBundle → Type 0
IsBestOnBudget goods budget prefers x = (y : FractionBundle) → IsBundle y
    → CostsAtMost goods budget.prices y budget.expenditure 1 → IsAtLeastAsGood prefers x y

-- The bundle costs just what is spent, and is the best there by this preference, which is locally nonsatiated and
-- rationalizes the table.
pub record IsBoughtBy (input : TableInput) (budget : BudgetInput) (prefers : FractionBundle → FractionBundle → Type 0)
    (x : FractionBundle) : Type 0 where
  pub on_budget : IsOnBudget input budget x
  pub fits : Fits (choices_at input 1 1) prefers
  pub best : IsBestOnBudget input.goods budget prefers x

-- It is so by some such preference.
pub record IsBought (input : TableInput) (budget : BudgetInput) (x : FractionBundle) : Type 0 where
  pub passes : FractionBundle → FractionBundle → (ℕ → ℕ) → Bool
  pub by_preference : IsBoughtBy input budget (shown_by passes) x

-- The same by the preference of some strictly monotone and concave utility.
pub record IsBoughtByUtility (input : TableInput) (budget : BudgetInput) (x : FractionBundle) : Type 0 where
  pub on_budget : IsOnBudget input budget x
  pub utility : FractionBundle → SignedFraction
  pub concave_utility : IsConcaveUtility input.goods utility
  pub rationalizes : Rationalizes (choices_at input 1 1) (preference_of utility)
  pub best : IsBestOnBudget input.goods budget (preference_of utility) x

-- num/den is the infimum of good g over all bundles that are bought: none has less, and of any greater fraction one has
-- less that is bought by a utility.
pub record IsInfimumBought (input : TableInput) (budget : BudgetInput) (g num den : ℕ) : Type 0 where
  pub fraction : 0 < den
  pub none_less : (x : FractionBundle) → IsBought input budget x → ¬ HasLess x g num den
  pub approached : (num' den' : ℕ) → 0 < den' → num * den' < num' * den
      → (x : FractionBundle) × IsBoughtByUtility input budget x × HasLess x g num' den'

-- num/den is the supremum of good g over all bundles that are bought: none has more, and of any smaller fraction one
-- has more that is bought by a utility.
pub record IsSupremumBought (input : TableInput) (budget : BudgetInput) (g num den : ℕ) : Type 0 where
  pub fraction : 0 < den
  pub none_more : (x : FractionBundle) → IsBought input budget x → ¬ HasMore x g num den
  pub approached : (num' den' : ℕ) → 0 < den' → num' * den < num * den'
      → (x : FractionBundle) × IsBoughtByUtility input budget x × HasMore x g num' den'
