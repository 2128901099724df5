-- For the proofs alone: the exact order of ratios, by their cross products.
use Rattle.std.specs.Prelude.{ℕ, ◌*◌}
use Rattle.std.specs.Ordering.{nat_cmp}
use Rattle.std.specs.declared.cmp.Ordering.{Ordering}

-- The order of num x / den x and num y / den y.
abbrev pub cross_cmp : {K : Type 0} → (K → ℕ) → (K → ℕ) → K → K → Ordering
cross_cmp num den x y = nat_cmp (num x * den y) (num y * den x)
