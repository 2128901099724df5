use Rattle.std.proofs.Common.{◌<◌, ◌≤◌, ℕ}
use Rattle.rp_patch.specs.Kinds.{cells_weight}
use Rattle.rp_orders.specs.InnerLists.{listed_order}
use Rattle.rp_orders.specs.OrderKinds.{PicksCells, cells_picked}
use Rattle.rp_orders.proofs.choosers.all_weigh.Given as goal

abbrev pub invariant-loop-n : goal.invariant-loop-n
invariant-loop-n l = (m : ℕ) → m < l.n → PicksCells l.seen (listed_order l.letters m)
    → l.least ≤ cells_weight l.weights (cells_picked l.seen (listed_order l.letters m))
