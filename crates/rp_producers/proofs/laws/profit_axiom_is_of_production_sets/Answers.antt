use Rattle.rp_producers.proofs.Producers.{convex_profit_sets, meets_profit, profit_sets}
use Rattle.rp_producers.proofs.laws.profit_axiom_is_of_production_sets.Goals as goal

pub returns-clause-some : goal.returns-clause-some
returns-clause-some g c = profit_sets

pub returns-clause-convex : goal.returns-clause-convex
returns-clause-convex g c = convex_profit_sets

pub returns-clause-each : goal.returns-clause-each
returns-clause-each g c input y p = meets_profit input y p g.S.InputSets.has
