use Rattle.std.proofs.Common.{Ok, arith, below_more, length}
use Rattle.rp_check_levels.specs.WalksFailure.{WalkFails}
use Rattle.rp_evidence.proofs.ClauseLemmas.{first_found}
use Rattle.rp_table.specs.Cost.{cost_of}
use Rattle.rp_table.specs.Tables.{records_of}
use Rattle.rp_check_levels.proofs.walks.check_walks.Goals as goal

pub returns-in_err-check_walk : goal.returns-in_err-check_walk
returns-in_err-check_walk c =
    let table = c.args.input.now.table.now in
    first_found (length c.args.walks.now) c.loop-k.k (WalkFails (records_of table) (cost_of table) c.args.walks.now) c.from_residual.result c.in_err-check_walk.field-0.0 (omega arith)
    c.loop-k.invariant c.in_err-check_walk.ensures c.from_residual.ensures

pub loop-k-preserved : goal.loop-k-preserved
loop-k-preserved c =
    let table = c.args.input.now.table.now in
    below_more (λ k. WalkFails (records_of table) (cost_of table) c.args.walks.now k (Ok tt)) c.loop-k.k c.loop-k.invariant c.in_ok-check_walk.ensures
