use Rattle.std.proofs.Common.{◌≡◌, ◌<◌, ℕ, length}
use Rattle.rp_whole_tableau.specs.Pivots.{number_at}
use Rattle.rp_whole_tableau.specs.Programs.{entry_of}
use Rattle.rp_whole_tableau.proofs.tableau.Tableau.written_out.Given as goal

abbrev pub invariant-loop-i : goal.invariant-loop-i
invariant-loop-i l = record {
  count : length l.column.items ≡ l.i;
  each : (k : ℕ) → k < l.i → number_at l.column.items k ≡ entry_of l.self k l.rows;
}
