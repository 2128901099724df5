use Rattle.std.proofs.Common.{◌≡◌, ◌≤◌, ◌*◌, ◌^◌, if◌then◌else◌}
use Rattle.rp_fit.specs.Steps.{step_cost}
use Rattle.rp_fit.specs.StepsEvidence.{is_taken}
use Rattle.rp_table.specs.Sums.{sum_below}
use Rattle.rp_table.specs.Cost.{cost_of}
use Rattle.rp_table.specs.Tables.{records_of}
use Rattle.rp_check_levels.proofs.steps.cost_of_taken.Given as goal

abbrev pub invariant-loop-s : goal.invariant-loop-s
invariant-loop-s l =
    (l.sum ≡ sum_below l.s (λ s. sum_below (records_of l.input.table.now) (λ t. if is_taken l.taken s t then step_cost (cost_of l.input.table.now) s t else 0)))
    × (l.sum ≤ l.s * 2 ^ 60)
