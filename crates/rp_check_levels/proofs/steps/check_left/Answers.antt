use Rattle.std.proofs.Common.{arith}
use Rattle.rp_check_levels.specs.StepsFailure.{FallsFrom}
use Rattle.rp_evidence.proofs.ClauseLemmas.{first_not}
use Rattle.rp_evidence.specs.declared.failure.Reason.TheVariants.{Order}
use Rattle.rp_table.specs.Cost.{cost_of}
use Rattle.rp_table.specs.Tables.{records_of}
use Rattle.rp_check_levels.proofs.steps.check_left.Goals as goal

pub returns-then-not-falls_from : goal.returns-then-not-falls_from
returns-then-not-falls_from c =
    let table = c.args.input.now.table.now in
    first_not (records_of table) c.loop-s.s (FallsFrom (records_of table) (cost_of table) c.args.taken.now c.args.ranks.now) Order c.fails.result (omega arith) c.loop-s.invariant (λ holds. absurd (cc (c.falls_from.ensures.1 holds))) c.fails.ensures
