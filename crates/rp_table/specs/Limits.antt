-- A price, a quantity and an expenditure within their limits, in scaled whole numbers (this project's own form).
use Rattle.std.specs.Prelude.{ℕ, ◌≤◌}
use Rattle.rp_limits.specs.declared.table.TheConstants.{LARGEST, LARGEST_EXPENDITURE}

-- no price is 0
abbrev pub IsPrice : ℕ → Type 0
IsPrice p = (1 ≤ p) × (p ≤ LARGEST)

-- a quantity may be 0
abbrev pub IsQuantity : ℕ → Type 0
IsQuantity q = q ≤ LARGEST

-- what is spent, or can be, is not 0
abbrev pub IsExpenditure : ℕ → Type 0
IsExpenditure m = (1 ≤ m) × (m ≤ LARGEST_EXPENDITURE)
