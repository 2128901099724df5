use Rattle.std.proofs.Common.{◌≡◌}
use Rattle.rp_num.specs.Below.{listed}
use Rattle.rp_sheet.specs.Sheets.{column_of}
use Rattle.rp_sheet.proofs.goods.columns_of.Given as goal

abbrev pub invariant-loop-name : goal.invariant-loop-name
invariant-loop-name l = l.found.items ≡ listed l.name-index (column_of l.mark l.columns.headers l.names)
