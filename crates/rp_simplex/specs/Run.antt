-- The run of the simplex, tableau by tableau (Dantzig 1963, by the lexicographic rule of Dantzig, Orden and Wolfe
-- 1955).
use Rattle.std.specs.Prelude.{ℕ, zero, suc}
use Rattle.rp_farkas.specs.LinearProgram.{LinearProgram}
use Rattle.rp_simplex.specs.ExactTableau.{ExactTableau, width_of}
use Rattle.rp_simplex.specs.FirstTableau.{IsFirstTableau}
use Rattle.rp_simplex.specs.Choice.{IsEntering, IsLeaving}
use Rattle.rp_simplex.specs.Pivot.{IsPivot}
use Rattle.rp_simplex.specs.Width.{IsWithinWidth}

-- t is the tableau of the run after k pivots; the run goes on from tableaus within the width alone.
pub data IsTableauAfter (p : LinearProgram) : ℕ → ExactTableau → Type 0 where
  begins : {t : ExactTableau} → IsFirstTableau p t → IsTableauAfter p zero t
  pivots : {k : ℕ} {t u : ExactTableau} {r c : ℕ} → IsTableauAfter p k t → IsWithinWidth p.rows (width_of p) t
      → IsEntering p.rows (width_of p) t c → IsLeaving p.rows (width_of p) t c r
      → IsPivot p.rows (width_of p) t r c u → IsTableauAfter p (suc k) u
