use Rattle.std.proofs.Common.{◌<◌, ℕ, slice_index}
use Rattle.rp_check_fit.proofs.kept_set.check_observed.Given as goal

abbrev pub invariant-loop-k : goal.invariant-loop-k
invariant-loop-k l = (k : ℕ) → k < l.k → slice_index l.kept k < l.n
