use Rattle.std.proofs.Common.{◌≡◌, false, ◌&&◌, nat_lt, get_or}
use Rattle.rp_num.specs.Below.{any_below}
use Rattle.rp_forms.specs.Columns.{role_at, measures}
use Rattle.rp_sheet.specs.Fields.{nothing}
use Rattle.rp_sheet.proofs.fields.buys.Given as goal

abbrev pub invariant-loop-c : goal.invariant-loop-c
invariant-loop-c l =
    any_below l.c (λ c. measures (role_at l.columns.form.marks l.columns.headers c) && nat_lt 0 (get_or l.figures c nothing).units) ≡ false
