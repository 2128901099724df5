use Rattle.std.proofs.Common.{◌≡◌, None}
use Rattle.rp_num.specs.Below.{first_of}
use Rattle.rp_sheet.specs.Headers.{pair_fault}
use Rattle.rp_sheet.proofs.goods.check_pairs.Given as goal

abbrev pub invariant-loop-c : goal.invariant-loop-c
invariant-loop-c l = first_of l.c (pair_fault l.columns.form.marks l.columns.headers) ≡ None
