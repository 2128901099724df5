use Rattle.std.proofs.Common.{◌≡◌, ◌+◌, ◌==◌, ◌&&◌, nat_lt, false}
use Rattle.std.specs.Prelude.{codes}
use Rattle.rp_num.specs.Below.{any_below}
use Rattle.rp_sheet.specs.Sizes.{figure_at}
use Rattle.rp_sheet.specs.ChoiceCounts.{column_named}
use Rattle.rp_sheet.proofs.sheet.is_chosen.Given as goal

abbrev pub invariant-loop-row : goal.invariant-loop-row
invariant-loop-row l =
    any_below l.row-index (λ t. ((figure_at l.figures t (column_named (codes "budget") l.fn.columns.headers)).units == l.j + 1) && nat_lt 0 (figure_at l.figures t (column_named (codes "n") l.fn.columns.headers)).units) ≡ false
