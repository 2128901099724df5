use Rattle.std.proofs.Common.{ℕ, pos, ◌*ℤ◌, ◌≤ℤ◌, slice_index, arith}
use borrow.Author.Count.{below_more}
use Rattle.rp_farkas.specs.Prices.{column_times}
use Rattle.rp_farkas.proofs.SumSteps.{at_most, fails, not_at_most, product_is, sum_is}
use Rattle.rp_farkas.proofs.pair.columns_hold.Goals as goal

pub loop-j-preserved : goal.loop-j-preserved
loop-j-preserved g c =
    below_more (λ (j : ℕ). ((g.P.Lp.program c.args.p.now).c j *ℤ pos c.args.den) ≤ℤ column_times (g.P.Lp.program c.args.p.now) j (slice_index c.args.x.now)) c.loop-j.j c.loop-j.invariant
    (at_most _ _ _ _ (sum_is _ _ c.column_sum.type_inv c.column_sum.ensures) (product_is _ _ _ _ c.product.type_inv c.c.type_inv c.product.ensures c.c.ensures) c.if-product-column_sum.false)

pub returns-then-product-column_sum : goal.returns-then-product-column_sum
returns-then-product-column_sum g c =
    fails (λ all. not_at_most _ _ _ _ (sum_is _ _ c.column_sum.type_inv c.column_sum.ensures) (product_is _ _ _ _ c.product.type_inv c.c.type_inv c.product.ensures c.c.ensures) c.if-product-column_sum.true
    (all c.loop-j.j (omega arith)))
