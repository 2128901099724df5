use Rattle.std.proofs.Common.{slice_index}
use Rattle.rp_evidence.specs.Input.{input_of_table}
use Rattle.rp_cost.proofs.ProducerBounds.{convex_profit_sets_where, profit_sets_where}
use Rattle.rp_cost.proofs.axioms.profit_axiom.Goals as goal

pub returns-clause-sets : goal.returns-clause-sets
returns-clause-sets c =
    profit_sets_where (input_of_table c.args.tech.now.table) (slice_index c.args.tech.now.y) (slice_index c.args.tech.now.p) c.first_pair.result
    c.first_pair.ensures

pub returns-clause-convex : goal.returns-clause-convex
returns-clause-convex c =
    convex_profit_sets_where (input_of_table c.args.tech.now.table) (slice_index c.args.tech.now.y) (slice_index c.args.tech.now.p) c.first_pair.result
    c.first_pair.ensures
