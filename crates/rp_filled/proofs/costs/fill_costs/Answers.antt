use Rattle.std.proofs.lemmas.Result.{IfOk-weaker}
use Rattle.rp_filled.proofs.CostLemmas.{broken_costs, held_costs}
use Rattle.rp_filled.proofs.costs.fill_costs.Goals as goal

pub filled_costs-requires-clause-minimises : goal.filled_costs-requires-clause-minimises
filled_costs-requires-clause-minimises c = c.cost_axiom.ensures.holds.0 c.in-Holds.is

pub filled_costs-requires-clause-given : goal.filled_costs-requires-clause-given
filled_costs-requires-clause-given c = c.requires.given (c.cost_axiom.ensures.holds.0 c.in-Holds.is)

pub returns-in-Holds : goal.returns-in-Holds
returns-in-Holds c =
    IfOk-weaker c.filled_costs.result _ _ (λ filled are. held_costs c.args.tech.now c.args.asked.now c.args.stated.items (c.cost_axiom.ensures.holds.0 c.in-Holds.is) filled.items are) c.filled_costs.ensures

pub returns-in-Pair : goal.returns-in-Pair
returns-in-Pair c = broken_costs c.args.tech.now c.args.asked.now c.args.stated.items c.cost_axiom.result _ _ c.in-Pair.is c.cost_axiom.ensures.holds c.requires.none
