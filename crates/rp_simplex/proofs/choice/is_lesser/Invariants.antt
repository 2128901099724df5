use Rattle.std.proofs.Common.{◌≡◌, ℕ, ◌<◌, ◌*ℤ◌}
use Rattle.rp_simplex.specs.InnerStage.{exact}
use Rattle.rp_simplex.proofs.choice.is_lesser.Given as goal

abbrev pub invariant-loop-j : goal.invariant-loop-j
invariant-loop-j l = (k : ℕ) → k < l.j → (exact l.t).at l.second l.c *ℤ (exact l.t).at l.first k ≡ (exact l.t).at l.first l.c *ℤ (exact l.t).at l.second k
