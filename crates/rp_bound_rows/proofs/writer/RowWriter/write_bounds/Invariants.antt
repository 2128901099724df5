use Rattle.std.proofs.Common.{◌++◌, ℕ, List, take}
use Rattle.std.specs.List.{flat_map}
use Rattle.rp_bound_rows.specs.RowText.{lines_text}
use Rattle.rp_bound_rows.specs.Writing.{HasWritten}
use Rattle.rp_bound_rows.proofs.writer.RowWriter.write_bounds.Given as goal

abbrev pub invariant-loop-lines : goal.invariant-loop-lines
invariant-loop-lines l =
    (text : List ℕ) → HasWritten l.fn.self text → HasWritten l.self (text ++ flat_map (lines_text l.row l.bounds) (take l.lines-index l.at))
