use Rattle.std.proofs.Common.{◌<◌, ℕ, Ok}
use Rattle.rp_check.specs.RandomCheckWithin.{RandomItemFailsWithinAt}
use Rattle.rp_check.proofs.random.check_random_within.Given as goal

abbrev pub invariant-loop-k : goal.invariant-loop-k
invariant-loop-k l = (k : ℕ) → k < l.k → RandomItemFailsWithinAt l.patches l.certificate.items l.steps k (Ok tt)
