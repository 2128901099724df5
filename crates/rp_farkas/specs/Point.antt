-- Feasible points of a linear program, over fractions (Dantzig 1963).
use Rattle.std.specs.Prelude.{ℕ, ◌<◌, ℤ, pos, ◌*ℤ◌, ◌≤ℤ◌}
use Rattle.rp_farkas.specs.Total.{total}
use Rattle.rp_farkas.specs.LinearProgram.{LinearProgram}

-- Row i of A times y.
abbrev pub row_times : LinearProgram → ℕ → (ℕ → ℕ) → ℤ
row_times p i y = total p.cols (λ j. p.a i j *ℤ pos (y j))

-- The objective c·y.
abbrev pub value_of : LinearProgram → (ℕ → ℕ) → ℤ
value_of p y = total p.cols (λ j. p.c j *ℤ pos (y j))

-- The fractions y_j / den are a feasible point: they are at least 0 as numerators are, and A y ≤ b
-- (textbook definition, as in Dantzig 1963).
pub record IsFeasiblePoint (p : LinearProgram) (den : ℕ) (y : ℕ → ℕ) : Type 0 where
  pub den_positive : 0 < den
  pub rows_hold : (i : ℕ) → i < p.rows → row_times p i y ≤ℤ (p.b i *ℤ pos den)
