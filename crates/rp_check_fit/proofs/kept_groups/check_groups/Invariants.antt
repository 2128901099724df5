use Rattle.std.proofs.Common.{◌<◌, ℕ, Ok}
use Rattle.rp_check_fit.specs.KeptFailure.{GroupFails}
use Rattle.rp_table.specs.Cost.{cost_of}
use Rattle.rp_table.specs.Tables.{records_of}
use Rattle.rp_check_fit.proofs.kept_groups.check_groups.Given as goal

abbrev pub invariant-loop-k : goal.invariant-loop-k
invariant-loop-k l = (k : ℕ) → k < l.k → GroupFails (records_of l.input.table.now) (cost_of l.input.table.now) l.groups k (Ok tt)
