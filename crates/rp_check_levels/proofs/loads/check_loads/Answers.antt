use Rattle.std.proofs.Common.{arith}
use Rattle.rp_check_levels.specs.Loads.{IsWithinLimits}
use Rattle.rp_evidence.proofs.ClauseLemmas.{first_not}
use Rattle.rp_evidence.specs.declared.failure.Reason.TheVariants.{Dual}
use Rattle.rp_table.specs.Cost.{cost_of}
use Rattle.rp_table.specs.Tables.{records_of}
use Rattle.rp_check_levels.proofs.loads.check_loads.Goals as goal

pub returns-then-not-is_within_limits : goal.returns-then-not-is_within_limits
returns-then-not-is_within_limits c =
    let table = c.args.input.now.table.now in
    first_not (records_of table) c.loop-s.s (IsWithinLimits (records_of table) (cost_of table) c.args.measure c.args.den c.args.walks.now) Dual c.fails.result (omega arith) c.loop-s.invariant (λ holds. absurd (cc (c.is_within_limits.ensures.1 holds))) c.fails.ensures
