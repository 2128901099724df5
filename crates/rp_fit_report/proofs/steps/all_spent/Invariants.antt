use Rattle.std.proofs.Common.{◌≡◌, ◌≤◌, ◌*◌, ◌^◌}
use Rattle.rp_table.specs.Cost.{cost_of}
use Rattle.rp_table.specs.Sums.{sum_below}
use Rattle.rp_fit_report.proofs.steps.all_spent.Given as goal

abbrev pub invariant-loop-s : goal.invariant-loop-s
invariant-loop-s l = (l.total ≡ sum_below l.s (λ s. cost_of l.input.table.now s s)) × (l.s ≤ l.total) × (l.total ≤ l.s * 2 ^ 51)
