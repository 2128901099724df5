use Rattle.std.proofs.Common.{ℕ, ◌<◌}
use Rattle.rp_fit.specs.PumpEvidence.{FitsPumpValue, value_at}
use Rattle.rp_check_walk_levels.proofs.pump.check_widths.Given as goal

abbrev pub invariant-loop-s : goal.invariant-loop-s
invariant-loop-s l = (s : ℕ) → s < l.s → FitsPumpValue (value_at l.values s)
