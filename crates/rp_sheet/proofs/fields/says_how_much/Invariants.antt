use Rattle.std.proofs.Common.{◌≡◌, false}
use Rattle.rp_num.specs.Below.{any_below}
use Rattle.rp_forms.specs.Columns.{role_at, measures}
use Rattle.rp_sheet.proofs.fields.says_how_much.Given as goal

abbrev pub invariant-loop-c : goal.invariant-loop-c
invariant-loop-c l = any_below l.c (λ c. measures (role_at l.columns.form.marks l.columns.headers c)) ≡ false
