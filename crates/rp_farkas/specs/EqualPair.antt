-- Equal pairs: the evidence that a point and a price vector are both best (Gale, Kuhn and Tucker 1951).
use Rattle.std.specs.Prelude.{ℕ, ◌≡◌}
use Rattle.rp_farkas.specs.LinearProgram.{LinearProgram}
use Rattle.rp_farkas.specs.Point.{IsFeasiblePoint, value_of}
use Rattle.rp_farkas.specs.Prices.{IsFeasiblePrices, value_of_prices}

-- A feasible point and a feasible price vector, over one denominator, with c·y = b·x
-- (the duality theorem of linear programming; Gale, Kuhn and Tucker 1951).
pub record IsEqualPair (p : LinearProgram) (den : ℕ) (y x : ℕ → ℕ) : Type 0 where
  pub point : IsFeasiblePoint p den y
  pub prices : IsFeasiblePrices p den x
  pub equal : value_of p y ≡ value_of_prices p x
