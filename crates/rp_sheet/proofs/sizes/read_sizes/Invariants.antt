use Rattle.std.proofs.Common.{◌≡◌, None, length}
use Rattle.std.specs.Result.{result_err}
use Rattle.rp_num.specs.Below.{first_of, listed}
use Rattle.rp_sheet.specs.Sizes.{size_at, scaled}
use Rattle.rp_sheet.proofs.sizes.read_sizes.Given as goal

abbrev pub invariant-loop-t : goal.invariant-loop-t
invariant-loop-t l = record {
  so_far : l.rows.items ≡ listed l.t (λ t. listed (length l.columns.headers) (scaled l.columns.form l.columns.headers l.figures t));
  faultless : first_of l.t (λ t. first_of (length l.columns.headers) (λ c. result_err (size_at l.columns.form l.columns.headers l.figures t c))) ≡ None;
}
