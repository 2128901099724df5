use Rattle.std.proofs.Common.{◌≡◌, ◌*◌, ◌^◌, ◌%◌, ◌≤◌, arith, refl, subst}
use Rattle.std.proofs.lemmas.Nat.{one_shl, pow_pos}
use Rattle.std.proofs.Math.Nat.{pow-le-pow_right}
use Rattle.rp_num.specs.Fraction.{IsLowestTerms}
use Rattle.rp_num.proofs.Products.{lowest_same}
use Rattle.rp_rounded.proofs.Twos.{halved_over}
use Rattle.rp_rounded.proofs.shortened.over_twos.Goals as goal

pub loop-twos-init : goal.loop-twos-init
loop-twos-init c = record { same = refl; small = omega arith }

pub loop-twos-preserved : goal.loop-twos-preserved
loop-twos-preserved c = record {
  same = halved_over c.loop-twos.part c.args.num (2 ^ c.args.places) c.loop-twos.twos c.if-part-eq0.true c.loop-twos-test.true c.loop-twos.invariant.same;
  small = omega arith;
}

pub new-requires-clause-den_fits : goal.new-requires-clause-den_fits
new-requires-clause-den_fits c =
    let e : 1 * 2 ^ c.loop-twos.twos % 2 ^ 128 ≡ 2 ^ c.loop-twos.twos = one_shl c.loop-twos.twos 128 (omega arith) in
    let p : 2 ^ c.loop-twos.twos ≤ 2 ^ 126 = pow-le-pow_right {n = 2} (omega arith) {i = c.loop-twos.twos} {j = 126} (omega arith) in
    omega (arith, e, p)

pub returns : goal.returns
returns c =
    let e : 1 * 2 ^ c.loop-twos.twos % 2 ^ 128 ≡ 2 ^ c.loop-twos.twos = one_shl c.loop-twos.twos 128 (omega arith) in
    let some : 1 ≤ 2 ^ c.loop-twos.twos = omega (arith, pow_pos c.loop-twos.twos) in
    lowest_same c.loop-twos.part (2 ^ c.loop-twos.twos) c.args.num (2 ^ c.args.places) c.new.result some c.loop-twos.invariant.same
    (subst (λ d. IsLowestTerms c.loop-twos.part d c.new.result) e c.new.ensures.lowest)
