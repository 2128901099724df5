use Rattle.std.proofs.Common.{◌≡◌, ◌^◌, arith, refl, subst, if◌then◌else◌}
use Rattle.rp_check_levels.proofs.Sums.{sum_more}
use Rattle.rp_fit.specs.Steps.{step_cost}
use Rattle.rp_fit.specs.StepsEvidence.{is_taken}
use Rattle.rp_table.specs.Sums.{sum_below}
use Rattle.rp_table.specs.Cost.{cost_of}
use Rattle.rp_table.specs.Tables.{records_of}
use Rattle.rp_check_levels.proofs.steps.cost_of_taken.Goals as goal

pub loop-s-preserved : goal.loop-s-preserved
loop-s-preserved c =
    let table = c.args.input.now.table.now in
    sum_more (λ s. sum_below (records_of table) (λ t. if is_taken c.args.taken.now s t then step_cost (cost_of table) s t else 0)) c.loop-s.s c.loop-s.sum c.cost_from-sum.result _ (2 ^ 60)
    c.loop-s.invariant c.cost_from-sum.ensures.value c.cost_from-sum.ensures.small refl

pub returns : goal.returns
returns c =
    let table = c.args.input.now.table.now in
    let e : c.loop-s.s ≡ records_of table = omega arith in
    subst (λ k. c.loop-s.sum ≡ sum_below k (λ s. sum_below (records_of table) (λ t. if is_taken c.args.taken.now s t then step_cost (cost_of table) s t else 0))) e c.loop-s.invariant.0
