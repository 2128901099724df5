use Rattle.std.proofs.Common.{ℕ, ◌<◌, slice_index}
use Rattle.rp_table.specs.Tables.{records_of}
use Rattle.rp_check_levels.proofs.walks.are_observed.Given as goal

abbrev pub invariant-loop-k : goal.invariant-loop-k
invariant-loop-k l = (k : ℕ) → k < l.k → slice_index l.walk k < records_of l.input.table.now
