use Rattle.std.proofs.Common.{◌∙◌, ◌+◌, ◌*◌, ℕ, ap, slice_index, arith}
use Rattle.rp_table.specs.Tables.{goods_of}
use Rattle.rp_table.proofs.SpendingLaws.{spending-same}
use Rattle.rp_power.proofs.spending.drawn_cost.Goals as goal

pub returns : goal.returns
returns c =
    let table = c.args.table.now in
    c.cost_of_bundle.ensures.exact ∙ spending-same _ (goods_of table) _ _ _ _ c.prices-prices.ensures.all_goods c.prices-prices.ensures.each (λ g within. c.bundle_at-bundle.ensures.each g (omega (arith, within, c.prices-prices.ensures.all_goods)) ∙ ap (λ (k : ℕ). slice_index c.args.quantities.now (c.args.t * k + g)) c.prices-prices.ensures.all_goods)
