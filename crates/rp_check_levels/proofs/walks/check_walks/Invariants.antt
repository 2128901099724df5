use Rattle.std.proofs.Common.{◌<◌, ℕ, Ok}
use Rattle.rp_check_levels.specs.WalksFailure.{WalkFails}
use Rattle.rp_table.specs.Cost.{cost_of}
use Rattle.rp_table.specs.Tables.{records_of}
use Rattle.rp_check_levels.proofs.walks.check_walks.Given as goal

abbrev pub invariant-loop-k : goal.invariant-loop-k
invariant-loop-k l = (k : ℕ) → k < l.k → WalkFails (records_of l.input.table.now) (cost_of l.input.table.now) l.walks k (Ok tt)
