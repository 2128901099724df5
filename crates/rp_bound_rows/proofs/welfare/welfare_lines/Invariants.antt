use Rattle.std.proofs.Common.{◌≡◌, ◌<◌, ℕ, List, length}
use Rattle.std.specs.Prelude.{slice_index_or}
use Rattle.rp_table.specs.Rows.{row_of}
use Rattle.rp_bound_rows.specs.WelfareLines.{AreWelfareLinesAt}
use Rattle.rp_bound_rows.specs.declared.line.Line.{Line}
use Rattle.rp_bound_rows.proofs.welfare.welfare_lines.Given as goal

abbrev pub invariant-loop-i : goal.invariant-loop-i
invariant-loop-i g l = record {
  one_each : length l.at.items ≡ l.i;
  each : (i : ℕ) (d : List Line) → i < l.i
      → AreWelfareLinesAt g.S.BoundSearch.of_welfare l.table l.places i (row_of l.new.prices l.new.goods i) (slice_index_or l.at.items i d);
}
