use Rattle.rp_table.specs.Cost.{cost_at}
use Rattle.rp_effic.specs.InnerWeakSteps.{AddsRow}
use Rattle.rp_effic.proofs.weak_steps.add_row.Given as goal

abbrev pub invariant-loop-t : goal.invariant-loop-t
invariant-loop-t l = AddsRow l.costs.n (cost_at l.costs) l.s l.t l.initial.to.items l.to.items
