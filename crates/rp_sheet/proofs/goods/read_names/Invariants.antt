use Rattle.std.proofs.Common.{◌≡◌, take}
use Rattle.rp_forms.specs.Columns.{names_with, is_price}
use Rattle.rp_sheet.proofs.goods.read_names.Given as goal

abbrev pub invariant-loop-c : goal.invariant-loop-c
invariant-loop-c l = l.names.items ≡ names_with l.columns.form.marks is_price (take l.c l.columns.headers)
