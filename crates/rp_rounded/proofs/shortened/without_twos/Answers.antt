use Rattle.std.proofs.Common.{◌∙◌, arith}
use Rattle.rp_rounded.proofs.Twos.{halved}
use Rattle.rp_rounded.proofs.shortened.without_twos.Goals as goal

pub loop-twos-preserved : goal.loop-twos-preserved
loop-twos-preserved c = record {
  same = halved c.loop-twos.part c.loop-twos.twos c.if-part-ne0.false ∙ c.loop-twos.invariant.same;
  positive = omega arith;
}
