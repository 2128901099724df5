use Rattle.std.proofs.Common.{ℕ, ◌<◌}
use Rattle.rp_clauses.specs.QuasilinearFailure.{FitsValue, level_at}
use Rattle.rp_clauses.proofs.quasilinear.check_widths.Given as goal

abbrev pub invariant-loop-s : goal.invariant-loop-s
invariant-loop-s l = (s : ℕ) → s < l.s → FitsValue (level_at l.values s)
