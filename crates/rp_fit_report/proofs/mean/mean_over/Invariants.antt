use Rattle.std.proofs.Common.{◌≡◌, ◌≤◌, ◌*◌}
use Rattle.rp_table.specs.Cost.{cost_of}
use Rattle.rp_table.specs.Sums.{sum_below}
use Rattle.rp_fit_report.specs.MeanLack.{lack_of, parts_in}
use Rattle.rp_fit_report.proofs.mean.mean_over.Given as goal

abbrev pub invariant-loop-s : goal.invariant-loop-s
invariant-loop-s l = (l.sum ≡ sum_below l.s (λ s. parts_in l.den (lack_of (cost_of l.input.table.now) l.part s))) × (l.sum ≤ l.s * l.den)
