use Rattle.rp_check_mixture.specs.InnerSearch.{IsLeastBelow}
use Rattle.rp_check_mixture.proofs.dual.least_on.Given as goal

abbrev pub invariant-loop-i : goal.invariant-loop-i
invariant-loop-i l = IsLeastBelow l.patches l.weights l.j l.i l.least
