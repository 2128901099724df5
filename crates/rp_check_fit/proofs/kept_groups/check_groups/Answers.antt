use Rattle.std.proofs.Common.{Ok, arith, below_more, length}
use Rattle.rp_check_fit.specs.KeptFailure.{GroupFails}
use Rattle.rp_evidence.proofs.ClauseLemmas.{first_found}
use Rattle.rp_table.specs.Cost.{cost_of}
use Rattle.rp_table.specs.Tables.{records_of}
use Rattle.rp_check_fit.proofs.kept_groups.check_groups.Goals as goal

pub returns-in_err-check_group : goal.returns-in_err-check_group
returns-in_err-check_group c =
    let table = c.args.input.now.table.now in
    first_found (length c.args.groups.now) c.loop-k.k (GroupFails (records_of table) (cost_of table) c.args.groups.now) c.from_residual.result c.in_err-check_group.field-0.0 (omega arith)
    c.loop-k.invariant c.in_err-check_group.ensures c.from_residual.ensures

pub loop-k-preserved : goal.loop-k-preserved
loop-k-preserved c =
    let table = c.args.input.now.table.now in
    below_more (λ k. GroupFails (records_of table) (cost_of table) c.args.groups.now k (Ok tt)) c.loop-k.k c.loop-k.invariant c.in_ok-check_group.ensures
