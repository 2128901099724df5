use Rattle.std.proofs.Common.{◌^◌, ◌<◌, ◌∙◌, add-zero, rules}
use Rattle.rp_num.proofs.Compare.{nat_cmp-by_high, nat_cmp-by_low}
use Rattle.rp_num.proofs.order.cmp_products.Goals as goal

pub returns-then-left_high-right_high : goal.returns-then-left_high-right_high
returns-then-left_high-right_high c =
    c.cmp.ensures
    ∙ nat_cmp-by_low (2 ^ 128) _ _ _ _ _ _ (c.carrying_mul-left_low.ensures ∙ add-zero _) (c.carrying_mul-right_low.ensures ∙ add-zero _) c.if-left_high-right_high.true

pub returns-else-left_high-right_high : goal.returns-else-left_high-right_high
returns-else-left_high-right_high c =
    let left : c.carrying_mul-left_low.result.0 < 2 ^ 128 = search rules in
    let right : c.carrying_mul-right_low.result.0 < 2 ^ 128 = search rules in
    c.cmp-else-left_high-right_high.ensures
    ∙ nat_cmp-by_high (2 ^ 128) _ _ _ _ _ _ left right (c.carrying_mul-left_low.ensures ∙ add-zero _) (c.carrying_mul-right_low.ensures ∙ add-zero _) c.if-left_high-right_high.false
