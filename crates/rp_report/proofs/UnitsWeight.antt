-- The share that the units of the patches weigh.
use Rattle.std.proofs.Common.{◌≡◌, ℕ, ◌*◌, ◌≤◌, arith}
use Rattle.std.proofs.Math.Nat.{mul-le-mul}

-- what is shared is something
pub some_whole : (den total d n : ℕ) → 1 ≤ den → 1 ≤ total → d ≡ den → n ≡ total → 1 ≤ d * n
some_whole den total d n p q e f = mul-le-mul {n₁ = 1} {m₁ = 1} {n₂ = d} {m₂ = n} (omega arith) (omega arith)
