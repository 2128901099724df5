-- The right side of the program of the least and of the greatest of a good (this project's own form; duality of linear
-- programming as in Gale, Kuhn and Tucker 1951).
use Rattle.std.specs.Prelude.{ℕ, ◌==◌, ℤ, pos, if◌then◌else◌}
use Rattle.rp_evidence.specs.Demand.{BudgetInput}
use Rattle.rp_programs.specs.declared.demand.Extreme.{Extreme}
use Rattle.rp_programs.specs.declared.demand.Extreme.TheVariants.{Least, Greatest}

-- 1 at the good alone; or what the other goods cost, and 0 at the good.
abbrev pub right_side : Extreme → BudgetInput → ℕ → ℕ → ℤ
right_side Least budget g = λ i. if i == g then pos 1 else pos 0
right_side Greatest budget g = λ i. if i == g then pos 0 else pos (budget.prices i)
