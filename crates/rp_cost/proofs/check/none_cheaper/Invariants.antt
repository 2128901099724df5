use Rattle.std.proofs.Common.{ℕ, ◌<◌, ◌≤◌, slice_index}
use Rattle.rp_table.specs.Spending.{spending}
use Rattle.rp_table.specs.Tables.{goods_of, quantity_of}
use Rattle.rp_cost.proofs.check.none_cheaper.Given as goal

abbrev pub invariant-loop-s : goal.invariant-loop-s
invariant-loop-s l = (r : ℕ) → r < l.s → l.question.y ≤ slice_index l.question.tech.now.y r
    → l.cost ≤ spending (goods_of l.question.tech.now.table) (slice_index l.question.prices.now) (quantity_of l.question.tech.now.table r)
