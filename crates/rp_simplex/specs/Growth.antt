-- What every step of the run keeps: rows that are lexicographically positive, and an objective row that grows (Dantzig,
-- Orden and Wolfe 1955).
use Rattle.std.specs.Prelude.{ℕ, ◌<◌, pos, ◌*ℤ◌}
use Rattle.rp_simplex.specs.ExactTableau.{ExactTableau}
use Rattle.rp_simplex.specs.Lexicographic.{IsLexLess}

-- The denominator is positive, and the first entry other than 0 of each row but the objective row is: the row is
-- lexicographically greater than a row of zeros.
pub record HasPositiveRows (rows width : ℕ) (t : ExactTableau) : Type 0 where
  pub den_positive : 0 < t.den
  pub rows_positive : (i : ℕ) → i < rows → IsLexLess width (λ j. pos 0) (t.at i)

-- The objective row of u is lexicographically greater than that of t, as fractions over the denominators of both.
abbrev pub HasGrown : ℕ → ℕ → ExactTableau → ExactTableau → Type 0
HasGrown rows width t u = IsLexLess width (λ j. t.at rows j *ℤ pos u.den) (λ j. u.at rows j *ℤ pos t.den)
