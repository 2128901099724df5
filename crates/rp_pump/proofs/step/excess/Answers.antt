use Rattle.std.proofs.Common.{◌+◌, ◌*◌, ◌∙◌, ap}
use Rattle.std.proofs.lemmas.Int.{to_z-of_z}
use mir.Syntax.{w128}
use Rattle.rp_table.specs.Cost.{cost_at}
use Rattle.rp_fit.proofs.PumpIndex.{excess_split}
use Rattle.rp_pump.proofs.step.excess.Goals as goal

pub returns-clause-value : goal.returns-clause-value
returns-clause-value c =
    let a = c.args in
    let cost = cost_at a.costs.now in
    to_z-of_z w128 c.difference.result (record { sfits = c.difference.type_inv }) ∙ c.difference.ensures.value ∙ excess_split a.num a.den (cost a.s a.s) (cost a.s a.t) (c.product.result + c.product-2.result) c.product-3.result
    (λ i. (c.product.ensures.value ∙ ap (λ m. a.num * m) c.cost-spent.ensures.exact) i + (c.product-2.ensures.value ∙ ap (λ m. a.den * m) c.cost.ensures.exact) i)
    (c.product-3.ensures.value ∙ ap (λ m. a.den * m) c.cost-spent.ensures.exact)
