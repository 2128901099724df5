use Rattle.std.proofs.Common.{◌≡◌}
use Rattle.rp_num.specs.Below.{listed}
use Rattle.rp_menu.specs.Denotation.{menu_row_of}
use Rattle.rp_menu.proofs.read.list_menu_rows.Given as goal

abbrev pub invariant-loop-t : goal.invariant-loop-t
invariant-loop-t l = l.menu_rows.items ≡ listed l.t (menu_row_of l.columns.headers l.records l.times)
