use Rattle.std.proofs.Common.{◌++◌, ℕ, List, map, take}
use Rattle.std.specs.List.{flat_map}
use Rattle.rp_bound_rows.specs.RowText.{text_of_row}
use Rattle.rp_bound_rows.specs.Writing.{HasWritten}
use Rattle.rp_bounds_panel.specs.BoundsText.{unnamed_row}
use Rattle.rp_bounds_panel.proofs.rows.write_unnamed.Given as goal

abbrev pub invariant-loop-refused : goal.invariant-loop-refused
invariant-loop-refused l =
    (text : List ℕ) → HasWritten l.fn.rows text → HasWritten l.rows (text ++ flat_map text_of_row (map (unnamed_row l.kept) (take l.refused-index l.unnamed)))
