use Rattle.std.proofs.Common.{◌≡◌, slice_index}
use Rattle.rp_num.specs.Below.{listed}
use Rattle.rp_forms.specs.Texts.{text_at}
use Rattle.rp_sheet.proofs.numbers.column_numbers.Given as goal

abbrev pub invariant-loop-row : goal.invariant-loop-row
invariant-loop-row l = l.numbers.items ≡ listed l.row-index (λ t. slice_index (text_at l.sizes t) l.place)
