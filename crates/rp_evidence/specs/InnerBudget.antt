-- What new prices and new budgets of the program stand for: words that functions of the program and their proofs need.
use Rattle.rp_table.specs.declared.new_prices.NewBudget.{NewBudget}
use Rattle.rp_table.specs.declared.new_prices.NewPrices.{NewPrices}
use Rattle.rp_evidence.specs.Demand.{BudgetInput}
use Rattle.rp_evidence.specs.DemandEvidence.{budget_of}
use Rattle.rp_evidence.specs.Input.{TableInput, input_of_table}

-- what the table says that the new prices are set against
abbrev pub input_of : NewPrices → TableInput
input_of new_prices = input_of_table new_prices.table.now

-- a budget of the program: what is spent at the new prices
abbrev pub new_budget : NewBudget → BudgetInput
new_budget budget = budget_of budget.at.prices.now budget.m
