-- What the evidence on a linear program shows, over all fractions (Gale, Kuhn and Tucker 1951; Farkas 1902).
use Rattle.std.specs.Prelude.{◌≡◌, ℕ, ◌*◌, ◌<◌, ℤ, pos, ◌*ℤ◌, ◌≤ℤ◌, ◌<ℤ◌}
use Rattle.rp_farkas.specs.LinearProgram.{LinearProgram}
use Rattle.rp_farkas.specs.Point.{IsFeasiblePoint, value_of}
use Rattle.rp_farkas.specs.Prices.{IsFeasiblePrices, value_of_prices}

-- y / den is feasible, and no feasible point has a greater value.
pub record IsBestPoint (p : LinearProgram) (den : ℕ) (y : ℕ → ℕ) : Type 0 where
  pub feasible : IsFeasiblePoint p den y
  pub no_greater : (d : ℕ) (z : ℕ → ℕ) → IsFeasiblePoint p d z → (value_of p z *ℤ pos den) ≤ℤ (value_of p y *ℤ pos d)

-- x / den is a feasible price vector, and no feasible price vector has a lower cost.
pub record IsBestPrices (p : LinearProgram) (den : ℕ) (x : ℕ → ℕ) : Type 0 where
  pub feasible : IsFeasiblePrices p den x
  pub no_lower : (d : ℕ) (w : ℕ → ℕ) → IsFeasiblePrices p d w
      → (value_of_prices p x *ℤ pos d) ≤ℤ (value_of_prices p w *ℤ pos den)

-- num/den is the least cost: no feasible price vector costs less, and one costs just that.
pub record IsLeastCost (p : LinearProgram) (num den : ℕ) : Type 0 where
  pub fraction : 0 < den
  pub none_less : (d : ℕ) (x : ℕ → ℕ) → IsFeasiblePrices p d x → pos (num * d) ≤ℤ (value_of_prices p x *ℤ pos den)
  pub attained : (d : ℕ) × (x : ℕ → ℕ) × IsFeasiblePrices p d x × ((value_of_prices p x *ℤ pos den) ≡ pos (num * d))

-- A feasible point whose value is above the fraction n / d.
pub record Passes (p : LinearProgram) (n : ℤ) (d : ℕ) : Type 0 where
  pub den : ℕ
  pub point : ℕ → ℕ
  pub feasible : IsFeasiblePoint p den point
  pub above : (n *ℤ pos den) <ℤ (value_of p point *ℤ pos d)

-- The feasible points pass every value.
abbrev pub HasNoBound : LinearProgram → Type 0
HasNoBound p = (n : ℤ) (d : ℕ) → 0 < d → Passes p n d
