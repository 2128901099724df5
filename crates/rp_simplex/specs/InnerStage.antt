-- For the proofs alone: what the tableau in memory stands for. No public clause cites these words.
use Prim.Native.Nat.{◌∣◌}
use Rattle.std.specs.Prelude.{ℕ, ◌≡◌, ◌≤◌, ℤ, slice_index}
use Rattle.std.specs.Int.RustNames.{unsigned_abs}
use Rattle.rp_farkas.specs.LinearProgram.{LinearProgram}
use Rattle.rp_simplex.specs.InnerCombined.{combination}
use Rattle.rp_simplex.specs.ExactTableau.{ExactTableau, width_of}
use Rattle.rp_simplex.specs.InnerRows.{moved}
use Rattle.rp_simplex.specs.declared.stage.Stage.{Stage}

-- The entries are combinations of those of tableau 0.
abbrev pub exact : Stage → ExactTableau
exact t = record {
  den = t.den;
  at = combination t.rows t.multipliers t.columns;
  basis = λ i. slice_index t.basis.items i;
}

-- The multiplier in row i and place s after the pivot at row r and column c, before the common divisor is taken out.
abbrev pub renewed : Stage → ℕ → ℕ → ℕ → ℕ → ℤ
renewed t r c i s = moved t.multipliers t.den r ((exact t).at r c) i ((exact t).at i c) s

-- k divides each multiplier of row i after the pivot in row r, where the pivot's entry is p and that of row i is f.
abbrev pub DividesMoved : Stage → ℕ → ℤ → ℕ → ℤ → ℕ → Type 0
DividesMoved t r p i f k = (s : ℕ) → s ≤ t.rows → k ∣ unsigned_abs (moved t.multipliers t.den r p i f s)

-- k divides each multiplier after the pivot at row r and column c.
abbrev pub DividesRenewed : Stage → ℕ → ℕ → ℕ → Type 0
DividesRenewed t r c k = (i s : ℕ) → i ≤ t.rows → s ≤ t.rows → k ∣ unsigned_abs (renewed t r c i s)

-- The tableau has the shape that the program's tableaus have.
pub record IsShapedFor (p : LinearProgram) (t : Stage) : Type 0 where
  pub rows : t.rows ≡ p.rows
  pub width : t.width ≡ width_of p
