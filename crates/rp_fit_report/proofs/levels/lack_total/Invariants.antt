use Rattle.std.proofs.Common.{◌≡◌, ◌≤◌, ◌*◌, ◌^◌}
use Rattle.rp_check_levels.specs.LevelsFailure.{measure_of}
use Rattle.rp_table.specs.Cost.{cost_of}
use Rattle.rp_table.specs.Sums.{sum_below}
use Rattle.rp_fit_report.specs.LevelsText.{lack_at}
use Rattle.rp_fit_report.proofs.levels.lack_total.Given as goal

abbrev pub invariant-loop-s : goal.invariant-loop-s
invariant-loop-s l = (l.total ≡ sum_below l.s (lack_at (cost_of l.input.table.now) (measure_of l.part.lack) l.part.at l.more)) × (l.total ≤ l.s * 2 ^ 52)
