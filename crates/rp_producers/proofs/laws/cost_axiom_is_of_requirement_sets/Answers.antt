use Rattle.rp_producers.proofs.Producers.{convex_cost_sets, cost_sets, meets_cost}
use Rattle.rp_producers.proofs.laws.cost_axiom_is_of_requirement_sets.Goals as goal

pub returns-clause-some : goal.returns-clause-some
returns-clause-some g c = cost_sets

pub returns-clause-convex : goal.returns-clause-convex
returns-clause-convex g c = convex_cost_sets

pub returns-clause-each : goal.returns-clause-each
returns-clause-each g c input y = meets_cost input y g.S.InputSets.has
