use Rattle.std.proofs.Common.{ℕ, ◌<◌}
use Rattle.rp_table.specs.Tables.{records_of}
use Rattle.rp_cost.specs.Axioms.{Breaks}
use Rattle.rp_cost.proofs.axioms.first_pair.Given as goal

abbrev pub invariant-loop-first : goal.invariant-loop-first
invariant-loop-first l = (i j : ℕ) → i < l.first → j < records_of l.tech.table → ¬ Breaks l.test l.tech i j
