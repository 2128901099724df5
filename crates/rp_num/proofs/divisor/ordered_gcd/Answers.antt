use Rattle.std.proofs.Common.{◌*◌, ◌^◌, ◌<◌, arith, subst, sym}
use Prim.Native.Nat.{◌∣◌}
use mir.Syntax.{w128}
use Rattle.std.specs.Int.{IsGcd}
use Rattle.std.proofs.Math.Nat.{one-dvd}
use Rattle.rp_num.proofs.Twos.{IsGcd-by_odd_parts, IsGcd-shifted, odd_by_twos}
use Rattle.rp_num.proofs.divisor.ordered_gcd.Goals as goal

pub returns-then-small-eq1 : goal.returns-then-small-eq1
returns-then-small-eq1 c =
    (one-dvd c.args.small, one-dvd c.args.large, λ d p q. subst (λ n. d ∣ n) c.if-small-eq1.true p)

pub odd_gcd-requires : goal.odd_gcd-requires
odd_gcd-requires c =
    let some : 0 < c.args.small = omega arith in
    (odd_by_twos w128 c.args.small some c.ranges.small.fits).0

pub returns : goal.returns
returns c =
    let some : 0 < c.args.small = omega arith in
    let some_large : 0 < c.args.large = omega arith in
    let small = odd_by_twos w128 c.args.small some c.ranges.small.fits in
    let large = odd_by_twos w128 c.args.large some_large c.ranges.large.fits in
    let whole = IsGcd-by_odd_parts c.args.small c.args.large _ _ _ _ c.odd_gcd.result small.1 large.1 small.0 large.0 c.odd_gcd.ensures in
    IsGcd-shifted 128 c.args.small c.args.large c.odd_gcd.result c.min-shared.result some c.ranges.small.fits
    (subst (λ k. IsGcd c.args.small c.args.large (c.odd_gcd.result * 2 ^ k)) (sym c.min-shared.ensures) whole)
