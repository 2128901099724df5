use Rattle.std.proofs.Common.{ℕ, slice_index}
use Rattle.rp_cost.specs.declared.bounds.CostBounds.{CostBounds}
use Rattle.rp_table.specs.Rows.{row_of}
use Rattle.rp_filled.specs.FilledCosts.{IsFilledCost}
use Rattle.rp_filled.specs.InnerFound.{ArePaired}
use Rattle.rp_filled.proofs.costs.filled_costs.Given as goal

abbrev pub invariant-loop-bounds : goal.invariant-loop-bounds
invariant-loop-bounds l =
    ArePaired (λ (k : ℕ) (stated filled : CostBounds). IsFilledCost l.tech (row_of l.asked.prices.prices l.asked.prices.goods k) (slice_index l.asked.y k) stated filled) l.yielded l.all.items
