use Rattle.rp_filled.proofs.CostLemmas.{cost_filled}
use Rattle.rp_filled.proofs.costs.filled_cost.Goals as goal

pub returns : goal.returns
returns c = cost_filled c.args.tech.now c.requires.minimises c.args.prices.now c.requires.prices c.args.y c.args.stated c.requires.given c.in_ok-lower.lower c.in_ok-lower.ensures
