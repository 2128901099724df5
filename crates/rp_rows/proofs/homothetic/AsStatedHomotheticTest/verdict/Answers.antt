use Rattle.rp_evidence.proofs.SameProducts.{homothetic_same}
use Rattle.rp_homo.proofs.SameVerdicts.{verdict_same}
use Rattle.rp_table.specs.Cost.{cost_at, cost_of}
use Rattle.rp_rows.proofs.VerdictLemmas.{same_costs}
use Rattle.rp_rows.proofs.homothetic.AsStatedHomotheticTest.verdict.Goals as goal

pub returns-clause-proves : goal.returns-clause-proves
returns-clause-proves c =
    let is = c.requires in
    let costs = c.args.costs.now in
    let table = c.args._table.now in
    rw (← is.size) (homothetic_same costs.n (cost_at costs) (cost_of table) c.in_ok-found.found (same_costs costs table is) c.in_ok-found.ensures.proves)

pub returns-clause-given : goal.returns-clause-given
returns-clause-given c =
    let is = c.requires in
    let costs = c.args.costs.now in
    let table = c.args._table.now in
    rw (← is.size) (verdict_same costs.n (cost_at costs) (cost_of table) c.in_ok-found.found (same_costs costs table is) c.in_ok-found.ensures.verdict)
