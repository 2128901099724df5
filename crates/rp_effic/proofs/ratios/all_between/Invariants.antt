use Rattle.rp_table.specs.Cost.{cost_at}
use Rattle.rp_effic.specs.InnerBracket.{HaveBetween}
use Rattle.rp_effic.proofs.ratios.all_between.Given as goal

abbrev pub invariant-loop-s : goal.invariant-loop-s
invariant-loop-s l = HaveBetween l.s (cost_at l.costs) l.bracket l.steps.starts.items l.steps.to.items l.ratios.items
