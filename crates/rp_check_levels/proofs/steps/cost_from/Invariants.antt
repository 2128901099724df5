use Rattle.std.proofs.Common.{◌≡◌, ◌≤◌, ◌*◌, ◌^◌, if◌then◌else◌}
use Rattle.rp_fit.specs.Steps.{step_cost}
use Rattle.rp_fit.specs.StepsEvidence.{is_taken}
use Rattle.rp_table.specs.Cost.{cost_of}
use Rattle.rp_table.specs.Sums.{sum_below}
use Rattle.rp_check_levels.proofs.steps.cost_from.Given as goal

abbrev pub invariant-loop-t : goal.invariant-loop-t
invariant-loop-t l =
    (l.sum ≡ sum_below l.t (λ t. if is_taken l.taken l.s t then step_cost (cost_of l.input.table.now) l.s t else 0)) × (l.sum ≤ l.t * 2 ^ 51)
