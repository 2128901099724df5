use Rattle.std.proofs.Common.{get_or}
use Rattle.rp_table.specs.Cost.{cost_at}
use Rattle.rp_effic.specs.InnerBracket.{AddsBetween}
use Rattle.rp_effic.proofs.ratios.add_between.Given as goal

abbrev pub invariant-loop-place : goal.invariant-loop-place
invariant-loop-place l = AddsBetween (cost_at l.costs) l.bracket l.steps.to.items l.s (get_or l.steps.starts.items l.s 0) l.place l.initial.ratios.items l.ratios.items
