use Rattle.std.proofs.Common.{◌<◌, ◌-◌, ℕ}
use Rattle.rp_check_fit.specs.KeptFailure.{RisesAt}
use Rattle.rp_check_fit.proofs.kept_set.check_rising.Given as goal

abbrev pub invariant-loop-k : goal.invariant-loop-k
invariant-loop-k l = (k : ℕ) → k < l.k - 1 → RisesAt l.kept k
