use Rattle.std.proofs.Common.{◌++◌, map, take}
use Rattle.std.specs.List.{flat_map}
use Rattle.csv.specs.Writing.{row_text}
use Rattle.rp_rows.specs.InnerWriting.{IsWriting}
use Rattle.rp_rows.specs.RowText.{header_fields, line_of_row, panel_writer}
use Rattle.rp_rows.proofs.text.panel_text.Given as goal

abbrev pub invariant-loop-row : goal.invariant-loop-row
invariant-loop-row l =
    IsWriting l.writer (row_text panel_writer (header_fields (map (λ name. name.now) l.fn.kept)) ++ flat_map line_of_row (take l.row-index l.rows))
