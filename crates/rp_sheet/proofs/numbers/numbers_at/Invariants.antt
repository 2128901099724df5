use Rattle.std.proofs.Common.{◌≡◌, slice_index}
use Rattle.rp_num.specs.Below.{listed}
use Rattle.rp_sheet.proofs.numbers.numbers_at.Given as goal

abbrev pub invariant-loop-place : goal.invariant-loop-place
invariant-loop-place l = l.numbers.items ≡ listed l.place-index (λ g. slice_index l.row (slice_index l.places g))
