use Rattle.std.proofs.Common.{◌<◌, ℕ}
use Rattle.rp_evidence.specs.Input.{input_of_table}
use Rattle.rp_check_fit.specs.Axioms.{IsEitherPair}
use Rattle.rp_check_fit.proofs.pair_counts.is_in_pair.Given as goal

abbrev pub invariant-loop-t : goal.invariant-loop-t
invariant-loop-t l = (t : ℕ) → t < l.t → ¬ IsEitherPair (input_of_table l.input.table.now) l.s t
