use Rattle.std.proofs.Common.{ℕ, ◌<◌}
use Rattle.rp_clauses.specs.AfriatFailure.{NumbersFitAt}
use Rattle.rp_clauses.proofs.afriat.check_numbers.Given as goal

abbrev pub invariant-loop-s : goal.invariant-loop-s
invariant-loop-s l = (s : ℕ) → s < l.s → NumbersFitAt l.numbers s
