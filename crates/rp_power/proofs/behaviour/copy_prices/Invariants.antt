use Rattle.std.proofs.Common.{◌≡◌}
use Rattle.rp_num.specs.Below.{rows_below}
use Rattle.rp_table.specs.Tables.{goods_of, price_of}
use Rattle.rp_power.proofs.behaviour.copy_prices.Given as goal

abbrev pub invariant-loop-t : goal.invariant-loop-t
invariant-loop-t l = l.prices.items ≡ rows_below l.t (goods_of l.table) (price_of l.table)
