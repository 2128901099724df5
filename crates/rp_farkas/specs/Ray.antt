-- Rays: the evidence that a program with a feasible point has no greatest value (Farkas 1902).
use Rattle.std.specs.Prelude.{ℕ, ◌<◌, pos, ◌≤ℤ◌, ◌<ℤ◌}
use Rattle.rp_farkas.specs.LinearProgram.{LinearProgram}
use Rattle.rp_farkas.specs.Point.{row_times, value_of}

-- A direction r with r ≥ 0, A r ≤ 0 and c·r > 0, by its numerators over any denominator
-- (Farkas, "Theorie der einfachen Ungleichungen", 1902).
pub record IsRay (p : LinearProgram) (r : ℕ → ℕ) : Type 0 where
  pub rows_hold : (i : ℕ) → i < p.rows → row_times p i r ≤ℤ pos 0
  pub gains : pos 0 <ℤ value_of p r
