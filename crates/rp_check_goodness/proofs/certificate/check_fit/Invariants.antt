use Rattle.std.proofs.Common.{ℕ, ◌<◌, Ok}
use Rattle.rp_check_goodness.specs.FitVerdict.{FitItemFailsAt}
use Rattle.rp_evidence.specs.Input.{input_of_table}
use Rattle.rp_check_goodness.proofs.certificate.check_fit.Given as goal

abbrev pub invariant-loop-k : goal.invariant-loop-k
invariant-loop-k l = (k : ℕ) → k < l.k → FitItemFailsAt (input_of_table l.input.table.now) l.items k (Ok tt)
