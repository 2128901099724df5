use Rattle.std.proofs.Common.{◌≡◌, ◌≤◌, ◌<◌, ◌*◌, ◌^◌}
use Rattle.rp_table.specs.Cost.{cost_of}
use Rattle.rp_table.specs.Tables.{records_of}
use Rattle.rp_fit_report.specs.MeanLack.{common_den, lack_of}
use Rattle.rp_fit_report.proofs.mean.common_den.Given as goal

abbrev pub invariant-loop-s : goal.invariant-loop-s
invariant-loop-s l = (l.den ≡ common_den l.s (lack_of (cost_of l.input.table.now) l.part)) × (1 ≤ l.den) × (l.den * records_of l.input.table.now < 2 ^ 127)
