use Rattle.std.proofs.Common.{◌≡◌, None}
use Rattle.std.specs.Result.{result_err}
use Rattle.rp_num.specs.Below.{first_of, listed}
use Rattle.rp_sheet.specs.Sizes.{size_at, scaled}
use Rattle.rp_sheet.proofs.sizes.read_sizes_in.Given as goal

abbrev pub invariant-loop-c : goal.invariant-loop-c
invariant-loop-c l = record {
  so_far : l.sizes.items ≡ listed l.c (scaled l.columns.form l.columns.headers l.fn.figures l.t);
  faultless : first_of l.c (λ c. result_err (size_at l.columns.form l.columns.headers l.fn.figures l.t c)) ≡ None;
}
