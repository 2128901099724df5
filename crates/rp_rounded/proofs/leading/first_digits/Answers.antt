use Rattle.std.proofs.Common.{arith}
use Rattle.rp_rounded.proofs.Twos.{digit_more, leading_found}
use Rattle.rp_rounded.proofs.leading.first_digits.Goals as goal

pub loop-places-init : goal.loop-places-init
loop-places-init c = record {
  exact = omega arith;
  rest = omega arith;
  below = omega arith;
}

pub returns-then-division-ge-LEAST-clause-leading :
    goal.returns-then-division-ge-LEAST-clause-leading
returns-then-division-ge-LEAST-clause-leading c =
    leading_found c.args.num c.args.den c.loop-places.division.whole c.loop-places.division.rest c.loop-places.places
    c.loop-places.invariant.exact c.loop-places.invariant.rest c.if-division-ge-LEAST.true c.loop-places.invariant.below

pub loop-places-preserved : goal.loop-places-preserved
loop-places-preserved c = record {
  exact = digit_more c.args.num c.loop-places.places _ _ c.loop-places.invariant.exact c.one_digit_more-division.ensures.exact;
  rest = c.one_digit_more-division.ensures.rest;
  below = c.one_digit_more-division.ensures.below;
}
