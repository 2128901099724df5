-- Lists of the numbers below a bound that have a property, in increasing order (arithmetic).
use Rattle.std.specs.Prelude.{◌<◌, ◌↔◌, ℕ, List, Contains}
use Rattle.std.specs.List.Sorted.{IsStrictlyIncreasing}

-- The list has just the numbers below n of which P holds, in increasing order.
pub record Enumerates (n : ℕ) (P : ℕ → Type 0) (list : List ℕ) : Type 0 where
  pub rising : IsStrictlyIncreasing list
  pub just_these : (t : ℕ) → Contains list t ↔ ((t < n) × P t)
