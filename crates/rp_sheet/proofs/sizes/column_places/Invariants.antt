use Rattle.std.proofs.Common.{◌≡◌}
use Rattle.rp_num.specs.Below.{listed}
use Rattle.rp_forms.specs.Columns.{role_at}
use Rattle.rp_sheet.specs.Sizes.{places_of}
use Rattle.rp_sheet.proofs.sizes.column_places.Given as goal

abbrev pub invariant-loop-c : goal.invariant-loop-c
invariant-loop-c l = l.places.items ≡ listed l.c (λ c. places_of l.columns.form l.columns.headers l.figures (role_at l.columns.form.marks l.columns.headers c))
