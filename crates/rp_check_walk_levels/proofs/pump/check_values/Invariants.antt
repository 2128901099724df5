use Rattle.std.proofs.Common.{ℕ, ◌<◌}
use Rattle.rp_fit.specs.PumpEvidence.{BoundsFrom}
use Rattle.rp_table.specs.Cost.{cost_of}
use Rattle.rp_table.specs.Tables.{records_of}
use Rattle.rp_check_walk_levels.proofs.pump.check_values.Given as goal

abbrev pub invariant-loop-s : goal.invariant-loop-s
invariant-loop-s l =
    (s : ℕ) → s < l.s → BoundsFrom (records_of l.input.table.now) (cost_of l.input.table.now) l.num l.den l.values s
