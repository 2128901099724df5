-- For the proofs alone: a pivot that is not made. No public clause cites this word.
use Rattle.std.specs.Prelude.{ℕ}
use Rattle.rp_simplex.specs.ExactTableau.{ExactTableau}
use Rattle.rp_simplex.specs.Pivot.{IsPivot}
use Rattle.rp_simplex.specs.Width.{IsWithinWidth}

-- The pivot leads past the width.
pub record PivotPasses (rows width : ℕ) (t : ExactTableau) (r c : ℕ) : Type 0 where
  pub next : ExactTableau
  pub pivot : IsPivot rows width t r c next
  pub passes : IsWithinWidth rows width next → ⊥
