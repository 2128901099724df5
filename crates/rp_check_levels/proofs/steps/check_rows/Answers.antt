use Rattle.std.proofs.Common.{[], arith, below_more, slice_index_or}
use Rattle.rp_check_levels.specs.StepsFailure.{AreStepsFrom}
use Rattle.rp_evidence.proofs.ClauseLemmas.{first_not}
use Rattle.rp_evidence.specs.declared.failure.Reason.TheVariants.{Set}
use Rattle.rp_table.specs.Cost.{cost_of}
use Rattle.rp_table.specs.Tables.{records_of}
use Rattle.rp_check_levels.proofs.steps.check_rows.Goals as goal

pub returns-then-not-is_row : goal.returns-then-not-is_row
returns-then-not-is_row c =
    let table = c.args.input.now.table.now in
    first_not (records_of table) c.loop-s.s (λ s. AreStepsFrom (records_of table) (cost_of table) s (slice_index_or c.args.taken.now s [])) Set c.fails.result (omega arith) c.loop-s.invariant (λ holds. absurd (cc (c.is_row.ensures.1 holds))) c.fails.ensures

pub loop-s-preserved : goal.loop-s-preserved
loop-s-preserved c =
    let table = c.args.input.now.table.now in
    below_more (λ s. AreStepsFrom (records_of table) (cost_of table) s (slice_index_or c.args.taken.now s [])) c.loop-s.s c.loop-s.invariant (c.is_row.ensures.0 c.if-not-is_row.false)
