use Rattle.std.proofs.Common.{◌≡◌, if◌then◌else◌, length}
use Rattle.rp_num.specs.Below.{greatest_below}
use Rattle.rp_forms.specs.Columns.{role_at}
use Rattle.rp_sheet.specs.Sizes.{figure_at}
use Rattle.rp_forms.specs.Columns.{shares_scale}
use Rattle.rp_sheet.proofs.sizes.greatest_places.Given as goal

abbrev pub invariant-loop-row : goal.invariant-loop-row
invariant-loop-row l =
    l.greatest ≡ greatest_below l.row-index (λ t. greatest_below (length l.columns.headers) (λ c. if shares_scale l.role (role_at l.columns.form.marks l.columns.headers c) then (figure_at l.figures t c).places else 0))
