use Rattle.std.proofs.Common.{ℕ, ◌<◌}
use Rattle.rp_clauses.specs.GarpFailure.{OrdersAt}
use Rattle.rp_clauses.specs.Standards.{StrictUnder}
use Rattle.rp_table.specs.Cost.{cost_of}
use Rattle.rp_table.specs.Tables.{records_of}
use Rattle.rp_clauses.proofs.garp.check_ordering_ranks.Given as goal

abbrev pub invariant-loop-s : goal.invariant-loop-s
invariant-loop-s l = (s : ℕ) → s < l.s → OrdersAt (records_of l.input.table.now) (StrictUnder l.standard l.input.table.now.levels (cost_of l.input.table.now)) l.ranks s
