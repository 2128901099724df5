use Rattle.std.proofs.Common.{◌<◌, ℕ, get_or}
use Rattle.rp_farkas.specs.Limits.{FitsEvidence}
use Rattle.rp_check_mixture.proofs.shares.weights_fit.Given as goal

abbrev pub invariant-loop-weight : goal.invariant-loop-weight
invariant-loop-weight l = (k d : ℕ) → k < l.weight-index → FitsEvidence (get_or l.weights k d)
