use Rattle.std.proofs.Common.{arith}
use Rattle.rp_table.specs.Cost.{own_of}
use Rattle.rp_afriat.specs.InnerFilling.{scaled_at}
use Rattle.rp_afriat.proofs.Quotients.{multiplier_no_more, multiplier_one_more}
use Rattle.rp_afriat.proofs.multipliers.set_multipliers.Goals as goal
use Rattle.rp_afriat.proofs.multipliers.set_multipliers.Goals.{then-counts-i+else-least-from, else-counts-i}

pub loop-s-preserved : goal.loop-s-preserved
loop-s-preserved c =
    let a = c.args in
    let l = c.loop-s in
    elim c.if-counts-i.branch [
      | then-counts-i+else-least-from w ↦
          multiplier_one_more a.costs.now.n (scaled_at a.costs.now) (own_of a.costs.now) a.counts.now a.class a.u.now a.lambda.now l.lambda l.s l.invariant w.multiplier-least.result
          (omega (arith, c.loop-s-test.true, c.n-s-end.ensures.count, c.requires.multipliers_each)) w.if-counts-i.true w.multiplier-least.ensures
          (omega (arith, w.if-least-from.false, w.from.ensures)) _ w.lambda-is
      | else-counts-i w ↦ multiplier_no_more a.costs.now.n (scaled_at a.costs.now) (own_of a.costs.now) a.counts.now a.class a.u.now a.lambda.now l.lambda l.s l.invariant w.if-counts-i.false _ w.lambda-is
    ]
