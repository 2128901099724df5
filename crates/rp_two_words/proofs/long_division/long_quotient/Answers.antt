use Rattle.std.proofs.Common.{◌≡◌, ◌+◌, ◌*◌, ◌^◌, ◌≤◌, arith, subst}
use Rattle.std.proofs.Math.Nat.{pow-le-pow_right}
use Rattle.rp_two_words.specs.InnerDivision.{taken_together}
use Rattle.rp_two_words.proofs.Quotients.{all_taken, digit_more, no_quotient, twice_below}
use Rattle.rp_two_words.proofs.long_division.long_quotient.Goals as goal

pub loop-digits-init : goal.loop-digits-init
loop-digits-init c = record {
  exact = omega arith;
  rest = omega arith;
  below = omega arith;
  left = omega arith;
}

pub one_more-division-requires-clause-quotient : goal.one_more-division-requires-clause-quotient
one_more-division-requires-clause-quotient c =
    let p : 2 ^ c.loop-digits.digits ≤ 2 ^ 127 = pow-le-pow_right {n = 2} (omega arith) {i = c.loop-digits.digits} {j = 127} (omega arith) in
    omega (arith, p)

pub loop-digits-preserved : goal.loop-digits-preserved
loop-digits-preserved c = record {
  exact = digit_more (c.args.high * 2 ^ 128 + c.args.low) c.loop-digits.digits _ _ c.loop-digits.invariant.exact c.one_more-division.ensures.exact;
  rest = c.one_more-division.ensures.rest;
  below = twice_below c.loop-digits.division.quotient c.one_more-division.result.quotient c.loop-digits.digits c.loop-digits.invariant.below c.one_more-division.ensures.quotient;
  left = c.one_more-division.ensures.left;
}

pub returns-then-division-eq0 : goal.returns-then-division-eq0
returns-then-division-eq0 c =
    let all : c.loop-digits.digits ≡ 128 = omega arith in
    let e = subst (λ k. (c.args.high * 2 ^ 128 + c.args.low) * 2 ^ k ≡ taken_together c.args.by c.loop-digits.division) all c.loop-digits.invariant.exact in
    let whole = all_taken (c.args.high * 2 ^ 128 + c.args.low) (c.loop-digits.division.quotient * c.args.by + c.loop-digits.division.rest) c.loop-digits.division.left e c.loop-digits.invariant.left in
    omega (arith, whole)

pub returns-else-division-eq0 : goal.returns-else-division-eq0
returns-else-division-eq0 c = λ x small.
    let all : c.loop-digits.digits ≡ 128 = omega arith in
    let e = subst (λ k. (c.args.high * 2 ^ 128 + c.args.low) * 2 ^ k ≡ taken_together c.args.by c.loop-digits.division) all c.loop-digits.invariant.exact in
    let whole = all_taken (c.args.high * 2 ^ 128 + c.args.low) (c.loop-digits.division.quotient * c.args.by + c.loop-digits.division.rest) c.loop-digits.division.left e c.loop-digits.invariant.left in
    no_quotient (c.args.high * 2 ^ 128 + c.args.low) c.args.by c.loop-digits.division.quotient c.loop-digits.division.rest whole (omega arith) c.loop-digits.invariant.rest x
