-- The tableau that the run begins with (Dantzig 1963).
use Rattle.std.specs.Prelude.{ℕ, zero, suc, ◌≡◌, ◌-◌, ◌<◌, ◌≤◌, ℤ, pos, neg_ℤ, if◌then◌else◌, ◌==◌, nat_lt}
use Rattle.rp_farkas.specs.LinearProgram.{LinearProgram}
use Rattle.rp_simplex.specs.ExactTableau.{ExactTableau, width_of}

-- Row i is b_i, the unit slack of the row, and row i of A; the objective row is 0, zero slacks, and -c.
abbrev pub first_entry : LinearProgram → ℕ → ℕ → ℤ
first_entry p i zero = if nat_lt i p.rows then p.b i else pos 0
first_entry p i (suc k) =
    if nat_lt k p.rows
    then (if i == k then pos 1 else pos 0)
    else (if nat_lt i p.rows then p.a i (k - p.rows) else neg_ℤ (p.c (k - p.rows)))

-- Tableau 0: these entries over the denominator 1, with the slack of each row as its basic column.
pub record IsFirstTableau (p : LinearProgram) (t : ExactTableau) : Type 0 where
  pub over_one : t.den ≡ 1
  pub entries : (i j : ℕ) → i ≤ p.rows → j < width_of p → t.at i j ≡ first_entry p i j
  pub slacks : (i : ℕ) → i < p.rows → t.basis i ≡ suc i
