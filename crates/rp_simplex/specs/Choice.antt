-- Which column enters (Bland 1977), and which row leaves (Dantzig, Orden and Wolfe 1955).
use Rattle.std.specs.Prelude.{ℕ, ◌≢◌, ◌<◌, ◌≤◌, pos, ◌*ℤ◌, ◌≤ℤ◌, ◌<ℤ◌}
use Rattle.rp_simplex.specs.ExactTableau.{ExactTableau}
use Rattle.rp_simplex.specs.Lexicographic.{IsLexLess}

-- Column c is the first, after the right sides, whose objective entry is negative (Bland's first index in the
-- order slacks, then columns).
pub record IsEntering (rows width : ℕ) (t : ExactTableau) (c : ℕ) : Type 0 where
  pub after_right_sides : 1 ≤ c
  pub in_width : c < width
  pub negative : t.at rows c <ℤ pos 0
  pub first : (j : ℕ) → 1 ≤ j → j < c → pos 0 ≤ℤ t.at rows j

-- No column can enter: no objective entry is negative.
abbrev pub IsOptimal : ℕ → ℕ → ExactTableau → Type 0
IsOptimal rows width t = (j : ℕ) → 1 ≤ j → j < width → pos 0 ≤ℤ t.at rows j

-- Row r, divided by its positive entry in column c, is lexicographically less than every other row with a positive
-- entry there, divided likewise (Dantzig, Orden and Wolfe 1955).
pub record IsLeaving (rows width : ℕ) (t : ExactTableau) (c r : ℕ) : Type 0 where
  pub in_rows : r < rows
  pub positive : pos 0 <ℤ t.at r c
  pub least : (i : ℕ) → i < rows → i ≢ r → pos 0 <ℤ t.at i c
      → IsLexLess width (λ j. t.at i c *ℤ t.at r j) (λ j. t.at r c *ℤ t.at i j)

-- No row can leave: no row has a positive entry in column c.
abbrev pub IsUnbounded : ℕ → ExactTableau → ℕ → Type 0
IsUnbounded rows t c = (i : ℕ) → i < rows → t.at i c ≤ℤ pos 0
