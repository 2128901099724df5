-- What is read off the last tableau: a point, its prices, a ray (Dantzig 1963).
use Rattle.std.specs.Prelude.{ℕ, suc, ◌≡◌, ◌≢◌, ◌+◌, ◌<◌, ℤ, pos, neg_ℤ}
use Rattle.rp_farkas.specs.LinearProgram.{LinearProgram}
use Rattle.rp_simplex.specs.ExactTableau.{ExactTableau}

-- The numerators y of a point or a direction, one for each of the program's columns (column j of the program is
-- column 1 + rows + j of the tableau): `f i` where the column is basic in row i, `z` at column c of the tableau, and 0
-- elsewhere. Slacks are left out.
pub record IsReadAt (rows cols : ℕ) (t : ExactTableau) (f : ℕ → ℤ) (c : ℕ) (z : ℤ) (y : ℕ → ℕ) : Type 0 where
  pub basic : (j i : ℕ) → j < cols → i < rows → t.basis i ≡ suc (rows + j) → pos (y j) ≡ f i
  pub entering : (j : ℕ) → j < cols → c ≡ suc (rows + j) → pos (y j) ≡ z
  pub others : (j : ℕ) → j < cols → ((i : ℕ) → i < rows → t.basis i ≢ suc (rows + j)) → c ≢ suc (rows + j) → y j ≡ 0

-- The point: the right sides of the basic columns. (Column 0 is no column of the program.)
abbrev pub IsPointAt : LinearProgram → ExactTableau → (ℕ → ℕ) → Type 0
IsPointAt p t y = IsReadAt p.rows p.cols t (λ i. t.at i 0) 0 (pos 0) y

-- The prices: the slack entries of the objective row.
abbrev pub ArePricesAt : LinearProgram → ExactTableau → (ℕ → ℕ) → Type 0
ArePricesAt p t x = (s : ℕ) → s < p.rows → pos (x s) ≡ t.at p.rows (suc s)

-- The ray: 1, that is the denominator, at the entering column c, and the negated entries of that column at the basic
-- columns.
abbrev pub IsRayAt : LinearProgram → ExactTableau → ℕ → (ℕ → ℕ) → Type 0
IsRayAt p t c r = IsReadAt p.rows p.cols t (λ i. neg_ℤ (t.at i c)) c (pos t.den) r
