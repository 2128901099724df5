use Rattle.std.proofs.Common.{◌≡◌, ◌<◌, ℕ, length}
use Rattle.std.specs.Prelude.{slice_index_or}
use Rattle.rp_table.specs.Rows.{row_of}
use Rattle.rp_bound_rows.specs.WelfareLines.{IsObservationLine}
use Rattle.rp_bound_rows.specs.declared.line.Line.{Line}
use Rattle.rp_bound_rows.proofs.welfare.welfare_lines_at.Given as goal

abbrev pub invariant-loop-t : goal.invariant-loop-t
invariant-loop-t g l = record {
  one_each : length l.lines.items ≡ l.t;
  each : (t : ℕ) (d : Line) → t < l.t
      → IsObservationLine g.S.BoundSearch.of_welfare l.table l.places l.i (row_of l.new.prices l.new.goods l.i) t (slice_index_or l.lines.items t d);
}
