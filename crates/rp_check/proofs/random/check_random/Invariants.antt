use Rattle.std.proofs.Common.{◌<◌, ℕ, Ok}
use Rattle.rp_check.specs.RandomCheckVerdict.{RandomItemFailsAt}
use Rattle.rp_check.proofs.random.check_random.Given as goal

abbrev pub invariant-loop-k : goal.invariant-loop-k
invariant-loop-k l = (k : ℕ) → k < l.k → RandomItemFailsAt l.patches l.certificate.items k (Ok tt)
