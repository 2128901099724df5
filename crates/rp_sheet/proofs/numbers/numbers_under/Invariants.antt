use Rattle.std.proofs.Common.{◌≡◌, length, slice_index}
use Rattle.rp_num.specs.Below.{rows_below}
use Rattle.rp_forms.specs.Texts.{text_at}
use Rattle.rp_sheet.specs.Sheets.{column_of}
use Rattle.rp_sheet.proofs.numbers.numbers_under.Given as goal

abbrev pub invariant-loop-row : goal.invariant-loop-row
invariant-loop-row l =
    l.numbers.items ≡ rows_below l.row-index (length l.fn.names) (λ t g. slice_index (text_at l.sizes t) (column_of l.fn.mark l.fn.columns.headers l.fn.names g))
