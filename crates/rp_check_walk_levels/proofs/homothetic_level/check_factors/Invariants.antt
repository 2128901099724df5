use Rattle.std.proofs.Common.{ℕ, ◌<◌}
use Rattle.rp_check_walk_levels.specs.HomotheticLevelFailure.{BoundsProductsFrom}
use Rattle.rp_table.specs.Cost.{cost_of}
use Rattle.rp_table.specs.Tables.{records_of}
use Rattle.rp_check_walk_levels.proofs.homothetic_level.check_factors.Given as goal

abbrev pub invariant-loop-s : goal.invariant-loop-s
invariant-loop-s l =
    (s : ℕ) → s < l.s → BoundsProductsFrom (records_of l.input.table.now) (cost_of l.input.table.now) l.low l.values s
