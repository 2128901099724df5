use Rattle.std.specs.Prelude.{ℕ, ◌+◌, ◌==◌, if◌then◌else◌, ℤ, pos, negsuc, ◌≤ℤ◌}
use Rattle.rp_walk.specs.Sums.{whole_total}
use Rattle.rp_walk.specs.ExactTotal.{ExactTotal, SameTotal}

-- Costs by which a step to the next observation adds -1, one to the observation before adds 1, and every
-- other step adds 0.
abbrev pub ladder_cost : ℕ → ℕ → ℕ
ladder_cost t s = if s == t + 1 then 0 else (if t == s + 1 then 2 else 1)

-- A sum from -1 to 1.
abbrev pub FitsOne : ExactTotal → Type 0
FitsOne x = (z : ℤ) × (z ≤ℤ pos 1) × (negsuc 0 ≤ℤ z) × SameTotal x (whole_total z)
