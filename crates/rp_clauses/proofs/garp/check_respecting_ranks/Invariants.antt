use Rattle.std.proofs.Common.{ℕ, ◌<◌}
use Rattle.rp_clauses.specs.GarpFailure.{RespectsAt}
use Rattle.rp_clauses.specs.Standards.{StrictUnder, WeakUnder}
use Rattle.rp_table.specs.Cost.{cost_of}
use Rattle.rp_table.specs.Tables.{records_of}
use Rattle.rp_clauses.proofs.garp.check_respecting_ranks.Given as goal

abbrev pub invariant-loop-s : goal.invariant-loop-s
invariant-loop-s l = (s : ℕ) → s < l.s → RespectsAt (records_of l.input.table.now) (WeakUnder l.standard l.input.table.now.levels (cost_of l.input.table.now)) (StrictUnder l.standard l.input.table.now.levels (cost_of l.input.table.now)) l.ranks s
