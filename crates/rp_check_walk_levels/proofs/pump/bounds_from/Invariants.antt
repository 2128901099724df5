use Rattle.std.proofs.Common.{ℕ, ◌<◌}
use Rattle.rp_fit.specs.PumpEvidence.{BoundsStep}
use Rattle.rp_table.specs.Cost.{cost_of}
use Rattle.rp_check_walk_levels.proofs.pump.bounds_from.Given as goal

abbrev pub invariant-loop-t : goal.invariant-loop-t
invariant-loop-t l = (t : ℕ) → t < l.t → BoundsStep (cost_of l.input.table.now) l.num l.den l.values l.s t
