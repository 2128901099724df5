use Rattle.std.proofs.Common.{arith, below_more}
use Rattle.std.proofs.lemmas.Bool.{false≢true}
use Rattle.rp_check_levels.specs.StepsFailure.{IsStepAt}
use Rattle.rp_table.specs.Cost.{cost_of}
use Rattle.rp_table.specs.Tables.{records_of}
use Rattle.rp_check_levels.proofs.steps.are_steps_from.Goals as goal

pub returns-then-not-is_step_at : goal.returns-then-not-is_step_at
returns-then-not-is_step_at c = (λ h. absurd (false≢true h), λ all. absurd (cc (c.is_step_at.ensures.1 (all c.loop-k.k (omega arith)))))

pub loop-k-preserved : goal.loop-k-preserved
loop-k-preserved c =
    let table = c.args.input.now.table.now in
    below_more (IsStepAt (records_of table) (cost_of table) c.args.s c.args.row.now) c.loop-k.k c.loop-k.invariant (c.is_step_at.ensures.0 c.if-not-is_step_at.false)
