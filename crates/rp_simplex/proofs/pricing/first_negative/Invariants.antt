use Rattle.std.proofs.Common.{ℕ, ◌<◌, ◌≤◌, pos, ◌≤ℤ◌}
use Rattle.rp_simplex.specs.InnerStage.{exact}
use Rattle.rp_simplex.proofs.pricing.first_negative.Given as goal

abbrev pub invariant-loop-j : goal.invariant-loop-j
invariant-loop-j l = (k : ℕ) → 1 ≤ k → k < l.j → pos 0 ≤ℤ (exact l.t).at l.t.rows k
