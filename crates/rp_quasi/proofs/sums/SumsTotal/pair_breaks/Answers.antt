use Rattle.rp_quasi.proofs.Steps.{breaks_tested}
use Rattle.rp_table.specs.Cost.{cost_at}
use Rattle.rp_quasi.proofs.sums.SumsTotal.pair_breaks.Goals as goal

pub returns : goal.returns
returns c =
    breaks_tested c.args.self.now.costs.now.n (cost_at c.args.self.now.costs.now) c.args.s c.args.t _ _ _ _ c.requires.from
    c.cost.ensures.exact c.cost-2.ensures.exact c.cost-3.ensures.exact c.cost-4.ensures.exact
