use Rattle.std.proofs.Common.{ℕ, ◌<◌, ◌⊎◌}
use Rattle.rp_generated.specs.InnerLight.{Clash, IsIn}
use Rattle.rp_generated.proofs.compatible.compatible_with.Given as goal

abbrev pub invariant-loop-j : goal.invariant-loop-j
invariant-loop-j l = (j : ℕ) → j < 256 → IsIn l.set.words j ⊎ ((j < l.j) × Clash l.patches l.i j)
