-- Supporting demands are feasible prices of the programs of a good, which are bounded by them.
use Rattle.std.proofs.Common.{ℕ, ℤ, List}
use Rattle.rp_farkas.specs.Best.{HasNoBound}
use Rattle.rp_farkas.specs.Prices.{HasFeasiblePrices}
use Rattle.rp_farkas.proofs.Costs.{prices_bound}
use Rattle.rp_evidence.specs.Demand.{BudgetInput, HasSupport}
use Rattle.rp_evidence.specs.DemandPrograms.{ListsBelow, demand_program}
use Rattle.rp_evidence.specs.Input.{TableInput}
use Rattle.rp_evidence.proofs.DemandBounds.{prices_feasible, supporting_priced}

module _ (input : TableInput) (budget : BudgetInput) (below : List ℕ) (lists : ListsBelow input budget below) where
  pub support_prices : (right : ℕ → ℤ) → HasSupport input budget → HasFeasiblePrices (demand_program input budget below right)
  support_prices right (w, s) = (w.den, w.num, prices_feasible input budget below right w.den w.num (supporting_priced input budget below lists right w s))

  pub support_bounds : (right : ℕ → ℤ) → HasSupport input budget → ¬ HasNoBound (demand_program input budget below right)
  support_bounds right support = prices_bound (demand_program input budget below right) (support_prices right support)
