-- For the proofs alone: how far the rows of households are written. No public clause cites this word.
use Rattle.std.specs.Prelude.{◌≡◌, ◌<◌, ◌++◌, ℕ, List, length, slice_index_or}
use Rattle.std.specs.List.{flat_map}
use Rattle.rp_bound_rows.specs.BoundRows.{GivenDemand, GivenWelfare}
use Rattle.rp_bound_rows.specs.RowText.{text_of_row}
use Rattle.rp_bound_rows.specs.Writing.{HasWritten}
use Rattle.rp_bound_rows.specs.declared.asked.BoundsAsked.{BoundsAsked}
use Rattle.rp_bound_rows.specs.declared.row.BoundRow.{BoundRow}
use Rattle.rp_bound_rows.specs.declared.writer.RowWriter.{RowWriter}
use Rattle.rp_bounds_panel.specs.BoundsText.{IsRowOfHousehold}
use Rattle.rp_long.specs.Panels.{Panel, household_at}

-- the lines of the first n households are written after what there was
pub record WritesHouseholds (of_demand : GivenDemand) (of_welfare : GivenWelfare) (asked : BoundsAsked) (new : List ℕ)
    (panel : Panel) (n : ℕ) (before after : RowWriter) : Type 0 where
  pub rows : List BoundRow
  pub one_each : length rows ≡ n
  pub each : (h : ℕ) (row : BoundRow) → h < n
      → IsRowOfHousehold of_demand of_welfare asked new (household_at panel h) (slice_index_or rows h row)
  pub written : (text : List ℕ) → HasWritten before text → HasWritten after (text ++ flat_map text_of_row rows)
