-- Enough of every input is in the outer set of every output.
use Rattle.std.proofs.Common.{ℕ, List, arith}
use Rattle.rp_evidence.specs.Input.{input_of_table}
use Rattle.rp_evidence.specs.LeastCost.{least_cost_program}
use Rattle.rp_farkas.specs.Prices.{HasFeasiblePrices}
use Rattle.rp_programs.proofs.Spent.{spent_at_most}
use Rattle.rp_table.specs.Tables.{IsTable, Observations}
use Rattle.rp_limits.specs.declared.table.TheConstants.{LARGEST}
use Rattle.rp_producers.specs.OuterSet.{IsInOuterSet, ListsNotAbove}
use Rattle.rp_cost.proofs.OuterLaws.{outer_is_feasible}

module _ (table : Observations) (valid : IsTable table) where
  enough_of_all : (y : ℕ → ℕ) (y0 : ℕ) → IsInOuterSet (input_of_table table) y y0 (record { den = 1; num = λ g. LARGEST })
  enough_of_all y y0 = record {
    fraction = omega arith;
    dear = λ t t_in made. let h = spent_at_most table valid t t_in in omega (arith, h);
  }

  module _ (y : ℕ → ℕ) (y0 : ℕ) (prices : ℕ → ℕ) (listed : List ℕ) (lists : ListsNotAbove (input_of_table table) y y0 listed) where
    pub some_prices : HasFeasiblePrices (least_cost_program (input_of_table table) prices listed)
    some_prices =
        (1, (λ g. LARGEST), outer_is_feasible (input_of_table table) y y0 prices listed lists (record { den = 1; num = λ g. LARGEST }) (enough_of_all y y0))
