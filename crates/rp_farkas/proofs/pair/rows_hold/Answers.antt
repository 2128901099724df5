use Rattle.std.proofs.Common.{ℕ, pos, ◌*ℤ◌, ◌≤ℤ◌, arith}
use borrow.Author.Count.{below_more}
use Rattle.rp_farkas.specs.Listing.{numerator_at}
use Rattle.rp_farkas.specs.Point.{row_times}
use Rattle.rp_farkas.proofs.SumSteps.{at_most, fails, not_at_most, product_is, sum_is}
use Rattle.rp_farkas.proofs.pair.rows_hold.Goals as goal

pub loop-i-preserved : goal.loop-i-preserved
loop-i-preserved g c =
    below_more (λ (i : ℕ). row_times (g.P.Lp.program c.args.p.now) i (numerator_at c.args.y.now) ≤ℤ ((g.P.Lp.program c.args.p.now).b i *ℤ pos c.args.den)) c.loop-i.i c.loop-i.invariant
    (at_most _ _ _ _ (product_is _ _ _ _ c.product.type_inv c.b.type_inv c.product.ensures c.b.ensures) (sum_is _ _ c.row_sum.type_inv c.row_sum.ensures) c.if-row_sum-product.false)

pub returns-then-row_sum-product : goal.returns-then-row_sum-product
returns-then-row_sum-product g c =
    fails (λ all. not_at_most _ _ _ _ (product_is _ _ _ _ c.product.type_inv c.b.type_inv c.product.ensures c.b.ensures) (sum_is _ _ c.row_sum.type_inv c.row_sum.ensures) c.if-row_sum-product.true
    (all c.loop-i.i (omega arith)))
