-- What the units of cells weigh.
use Rattle.std.proofs.Common.{◌≡◌, ◌+◌, ◌*◌, ◌^◌, ◌<◌, ◌≤◌, ℕ, add-one, arith, refl}
use Rattle.std.proofs.Math.Nat.{mul-le-mul}
use Rattle.rp_table.specs.Sums.{sum_below}

pub product_small : (a b : ℕ) → a < 2 ^ 64 → b ≤ 1000000000 → a * b ≤ 2 ^ 64 * 1000000000
product_small a b la lb = mul-le-mul {n₁ = a} {m₁ = b} {n₂ = 2 ^ 64} {m₂ = 1000000000} (omega (arith, la)) lb

-- one term more
pub term_more : (f : ℕ → ℕ) (i sum term : ℕ) → sum ≡ sum_below i f → term ≡ f i → sum + term ≡ sum_below (i + 1) f
term_more f i sum term so_far is = rw (so_far, is, add-one) refl
