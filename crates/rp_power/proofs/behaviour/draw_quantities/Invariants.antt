use Rattle.std.proofs.Common.{◌≡◌}
use Rattle.rp_num.specs.Below.{rows_below}
use Rattle.rp_table.specs.Tables.{goods_of}
use Rattle.rp_power.specs.DrawnTable.{drawn_quantity}
use Rattle.rp_power.proofs.behaviour.draw_quantities.Given as goal

abbrev pub invariant-loop-t : goal.invariant-loop-t
invariant-loop-t l = l.quantities.items ≡ rows_below l.t (goods_of l.table) (drawn_quantity l.table l.words)
