use Rattle.std.proofs.Common.{◌≡◌, ◌^◌, arith, refl, subst, if◌then◌else◌}
use Rattle.rp_check_levels.proofs.Sums.{sum_more}
use Rattle.rp_fit.specs.Steps.{step_cost}
use Rattle.rp_fit.specs.StepsEvidence.{is_taken}
use Rattle.rp_table.specs.Sums.{sum_below}
use Rattle.rp_table.specs.Cost.{cost_of}
use Rattle.rp_table.specs.Tables.{records_of}
use Rattle.rp_check_levels.proofs.steps.cost_from.Goals as goal

pub loop-t-preserved : goal.loop-t-preserved
loop-t-preserved c =
    let table = c.args.input.now.table.now in
    sum_more (λ t. if is_taken c.args.taken.now c.args.s t then step_cost (cost_of table) c.args.s t else 0) c.loop-t.t c.loop-t.sum c.cost_along-sum.result _ (2 ^ 51)
    c.loop-t.invariant c.cost_along-sum.ensures.value c.cost_along-sum.ensures.small refl

pub returns-clause-value : goal.returns-clause-value
returns-clause-value c =
    let table = c.args.input.now.table.now in
    let e : c.loop-t.t ≡ records_of table = omega arith in
    subst (λ k. c.loop-t.sum ≡ sum_below k (λ t. if is_taken c.args.taken.now c.args.s t then step_cost (cost_of table) c.args.s t else 0)) e c.loop-t.invariant.0
