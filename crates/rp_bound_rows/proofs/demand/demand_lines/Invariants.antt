use Rattle.std.proofs.Common.{◌≡◌, ◌<◌, ℕ, List, length, slice_index}
use Rattle.std.specs.Prelude.{slice_index_or}
use Rattle.rp_table.specs.Rows.{row_of}
use Rattle.rp_bound_rows.specs.DemandLines.{AreDemandLinesAt}
use Rattle.rp_bound_rows.specs.declared.line.Line.{Line}
use Rattle.rp_bound_rows.proofs.demand.demand_lines.Given as goal

abbrev pub invariant-loop-i : goal.invariant-loop-i
invariant-loop-i g l = record {
  one_each : length l.at.items ≡ l.i;
  each : (i : ℕ) (d : List Line) → i < l.i
      → AreDemandLinesAt g.S.BoundSearch.of_demand l.table i (row_of l.new.prices l.new.goods i) (slice_index l.new.m i) (slice_index_or l.at.items i d);
}
