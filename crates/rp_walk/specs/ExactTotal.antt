-- Exact totals of walks and their order: fractions of whole numbers (Landau, Foundations of Analysis, chapters 2 and
-- 4).
use Rattle.std.specs.Prelude.{◌≡◌, ℕ, ◌≤◌, ℤ, pos, ◌*ℤ◌, ◌<ℤ◌}

-- The exact total of a walk as a fraction: whole numbers of any size, the denominator positive. A sum has the
-- denominator 1.
pub record ExactTotal : Type 0 where
  pub num : ℤ
  pub den : ℕ
  pub positive : 1 ≤ den

-- The order of fractions, by their cross products (Landau, Foundations of Analysis, chapters 2 and 4).
abbrev pub IsLess : ExactTotal → ExactTotal → Type 0
IsLess x y = (x.num *ℤ pos y.den) <ℤ (y.num *ℤ pos x.den)

-- Two totals are one number.
abbrev pub SameTotal : ExactTotal → ExactTotal → Type 0
SameTotal x y = x.num *ℤ pos y.den ≡ y.num *ℤ pos x.den
