use Rattle.rp_table.specs.Cost.{cost_at}
use Rattle.rp_homo.proofs.Walks.{breaks_tested}
use Rattle.rp_homo.proofs.products.ProductsTotal.pair_breaks.Goals as goal

pub returns : goal.returns
returns c =
    breaks_tested c.args.self.now.costs.now.n (cost_at c.args.self.now.costs.now) c.args.s c.args.t
    c.cost.result c.cost-2.result c.cost-3.result c.cost-4.result c.product-across.result c.product-own.result
    c.requires.from c.requires.to
    c.cost.ensures.exact c.cost-2.ensures.exact c.cost-3.ensures.exact c.cost-4.ensures.exact
    c.cost.ensures.positive c.cost-2.ensures.positive c.cost-3.ensures.positive c.cost-4.ensures.positive
    c.product-across.ensures c.product-own.ensures
