use Rattle.std.proofs.Common.{◌≡◌, ◌<◌, ℕ, length}
use Rattle.std.specs.Prelude.{slice_index_or}
use Rattle.rp_long.specs.Panels.{household_at}
use Rattle.rp_panel.specs.PanelText.{IsRowOfHousehold}
use Rattle.rp_rows.specs.declared.row.Row.{Row}
use Rattle.rp_panel.proofs.rows.household_rows.Given as goal

abbrev pub invariant-loop-h : goal.invariant-loop-h
invariant-loop-h g l = record {
  one_each : length l.rows.items ≡ l.h;
  each : (h : ℕ) (row : Row) → h < l.h
      → IsRowOfHousehold g.T.HomotheticTest.given l.asked l.offered (household_at l.panel h) (slice_index_or l.rows.items h row);
}
