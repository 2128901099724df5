-- The width of a tableau (this project's own).
use Rattle.std.specs.Prelude.{ℕ, ◌<◌, ◌≤◌}
use Rattle.std.specs.Int.RustNames.{unsigned_abs}
use Rattle.rp_farkas.specs.Limits.{FitsEvidence}
use Rattle.rp_simplex.specs.ExactTableau.{ExactTableau}

-- The denominator and every numerator are at most 2^63 - 1 in absolute value.
pub record IsWithinWidth (rows width : ℕ) (t : ExactTableau) : Type 0 where
  pub den_fits : FitsEvidence t.den
  pub entries_fit : (i j : ℕ) → i ≤ rows → j < width → FitsEvidence (unsigned_abs (t.at i j))
