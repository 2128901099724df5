-- Feasible price vectors of a linear program: the feasible points of its dual, over fractions (Gale, Kuhn and Tucker
-- 1951).
use Rattle.std.specs.Prelude.{ℕ, ◌<◌, ℤ, pos, ◌*ℤ◌, ◌≤ℤ◌}
use Rattle.rp_farkas.specs.Total.{total}
use Rattle.rp_farkas.specs.LinearProgram.{LinearProgram}

-- Column j of A times x.
abbrev pub column_times : LinearProgram → ℕ → (ℕ → ℕ) → ℤ
column_times p j x = total p.rows (λ i. p.a i j *ℤ pos (x i))

-- The price of the right side, b·x.
abbrev pub value_of_prices : LinearProgram → (ℕ → ℕ) → ℤ
value_of_prices p x = total p.rows (λ i. p.b i *ℤ pos (x i))

-- The fractions x_i / den are a feasible price vector: x ≥ 0, and c ≤ A^T x (the dual of von Neumann, and of
-- Gale, Kuhn and Tucker, "Linear Programming and the Theory of Games", 1951).
pub record IsFeasiblePrices (p : LinearProgram) (den : ℕ) (x : ℕ → ℕ) : Type 0 where
  pub den_positive : 0 < den
  pub columns_hold : (j : ℕ) → j < p.cols → (p.c j *ℤ pos den) ≤ℤ column_times p j x

-- Some prices are feasible.
abbrev pub HasFeasiblePrices : LinearProgram → Type 0
HasFeasiblePrices p = (den : ℕ) × (x : ℕ → ℕ) × IsFeasiblePrices p den x
