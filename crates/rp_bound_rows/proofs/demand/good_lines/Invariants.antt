use Rattle.std.proofs.Common.{◌≡◌, ◌<◌, ℕ, length}
use Rattle.std.specs.Prelude.{slice_index_or}
use Rattle.rp_bound_rows.specs.DemandLines.{IsGoodLine}
use Rattle.rp_bound_rows.specs.declared.line.Line.{Line}
use Rattle.rp_bound_rows.proofs.demand.good_lines.Given as goal

abbrev pub invariant-loop-g : goal.invariant-loop-g
invariant-loop-g l = record {
  one_each : length l.lines.items ≡ l.g;
  each : (g : ℕ) (d : Line) → g < l.g → IsGoodLine l.table l.i l.part g (slice_index_or l.lines.items g d);
}
