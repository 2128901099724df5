use Rattle.rp_check_mixture.proofs.ToCome.{IsWrittenTo}
use Rattle.rp_check_mixture.proofs.dual.write_to_come.Given as goal

abbrev pub invariant-loop-k : goal.invariant-loop-k
invariant-loop-k l = IsWrittenTo l.patches l.weights l.to_come l.least l.k
