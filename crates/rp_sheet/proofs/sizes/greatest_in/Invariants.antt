use Rattle.std.proofs.Common.{◌≡◌, if◌then◌else◌, get_or}
use Rattle.rp_num.specs.Below.{greatest_below}
use Rattle.rp_forms.specs.Columns.{role_at}
use Rattle.rp_sheet.specs.Fields.{nothing}
use Rattle.rp_forms.specs.Columns.{shares_scale}
use Rattle.rp_sheet.proofs.sizes.greatest_in.Given as goal

abbrev pub invariant-loop-c : goal.invariant-loop-c
invariant-loop-c l =
    l.greatest ≡ greatest_below l.c (λ c. if shares_scale l.role (role_at l.columns.form.marks l.columns.headers c) then (get_or l.figures c nothing).places else 0)
