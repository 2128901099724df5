-- Words that only proofs need: what the least common multiple of two numbers is.
use Rattle.std.specs.Prelude.{ℕ, ◌<◌}
use Prim.Native.Nat.{◌∣◌}

-- A multiple of both, which divides every other.
pub record IsCommon (a b m : ℕ) : Type 0 where
  pub positive : 0 < m
  pub first : a ∣ m
  pub second : b ∣ m
  pub least : (k : ℕ) → 0 < k → a ∣ k → b ∣ k → m ∣ k
