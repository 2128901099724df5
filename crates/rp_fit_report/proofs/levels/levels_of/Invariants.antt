use Rattle.std.proofs.Common.{◌≡◌}
use Rattle.rp_num.specs.Below.{listed}
use Rattle.rp_table.specs.Cost.{cost_of}
use Rattle.rp_fit_report.specs.LevelsText.{level_of}
use Rattle.rp_fit_report.proofs.levels.levels_of.Given as goal

abbrev pub invariant-loop-s : goal.invariant-loop-s
invariant-loop-s l = l.levels.items ≡ listed l.s (level_of (cost_of l.input.table.now) l.part.at)
