use Rattle.std.proofs.Common.{◌<◌, arith}
use Rattle.rp_evidence.specs.InnerBudget.{input_of}
use Rattle.rp_evidence.specs.Welfare.{EqualsOrReaches}
use Rattle.rp_check.proofs.MarkedSets.{marked_more}
use Rattle.rp_check.proofs.welfare.reached.Goals as goal

pub loop-s-preserved : goal.loop-s-preserved
loop-s-preserved c =
    let input = input_of c.args.new_prices.now in
    let s = c.loop-s.s in
    let s_in : s < input.n = omega (arith, c.n-s-end.ensures.count, c.loop-s-test.true, c.loop-s.auto.s-end) in
    marked_more 512 (EqualsOrReaches input c.args.t) c.loop-s.marks s c.loop-s.invariant (omega (arith, s_in, c.n-s-end.ensures.count, c.n-s-end.ensures.few))
    c.equals_or_reaches.result (c.equals_or_reaches.ensures input c.requires.closure c.requires.observed s_in)

pub returns : goal.returns
returns c = λ s l. c.loop-s.invariant.each s (omega (arith, l, c.n-s-end.ensures.count, c.loop-s-test.false))
