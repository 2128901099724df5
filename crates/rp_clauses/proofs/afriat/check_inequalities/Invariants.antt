use Rattle.std.proofs.Common.{ℕ, ◌<◌}
use Rattle.rp_clauses.specs.AfriatFailure.{AllowsAt}
use Rattle.rp_table.specs.Cost.{cost_of}
use Rattle.rp_table.specs.Tables.{records_of}
use Rattle.rp_clauses.proofs.afriat.check_inequalities.Given as goal

abbrev pub invariant-loop-s : goal.invariant-loop-s
invariant-loop-s l = (s : ℕ) → s < l.s → AllowsAt (records_of l.input.table.now) l.input.table.now.levels (cost_of l.input.table.now) l.numbers s
