use Rattle.std.proofs.Common.{◌≡◌, None}
use Rattle.rp_num.specs.Below.{first_of}
use Rattle.rp_sheet.specs.Headers.{other_goods_fault}
use Rattle.rp_sheet.proofs.fixed_goods.check_other_goods.Given as goal

abbrev pub invariant-loop-c : goal.invariant-loop-c
invariant-loop-c l = first_of l.c (other_goods_fault l.columns.form.marks l.goods l.columns.headers) ≡ None
