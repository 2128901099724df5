use Rattle.std.proofs.Common.{◌++◌, ℕ, List, take}
use Rattle.std.specs.List.{flat_map}
use Rattle.rp_bound_rows.specs.RowText.{line_text}
use Rattle.rp_bound_rows.specs.Writing.{HasWritten}
use Rattle.rp_bound_rows.proofs.writer.RowWriter.write_lines.Given as goal

abbrev pub invariant-loop-line : goal.invariant-loop-line
invariant-loop-line l =
    (text : List ℕ) → HasWritten l.fn.self text → HasWritten l.self (text ++ flat_map (line_text l.row l.bounds) (take l.line-index l.lines))
