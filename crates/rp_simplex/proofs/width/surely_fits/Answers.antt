use Rattle.std.proofs.Common.{◌≡◌, ◌*◌, ◌^◌, ◌<◌, ◌≤◌, List, ℤ, length, ◌-◌, ◌∙◌, ap, arith}
use Rattle.std.specs.Int.RustNames.{unsigned_abs}
use Rattle.std.proofs.lemmas.Bool.{leb-true}
use Rattle.rp_simplex.specs.InnerCombined.{AreSmall, dot}
use Rattle.rp_simplex.proofs.DotLemmas.{bounded_dot, magnitude, magnitude_start, magnitude_more, read_size, small_anywhere, surely}
use Rattle.rp_simplex.proofs.width.surely_fits.Goals as goal

pub loop-s-init : goal.loop-s-init
loop-s-init c = record {
  value = magnitude_start c.args.multipliers.now;
  bounded = omega arith;
}

pub loop-s-preserved : goal.loop-s-preserved
loop-s-preserved c =
    let size = read_size c.args.multipliers.now c.loop-s.s c.unsigned_abs.result c.requires.fit (omega arith) c.unsigned_abs.ensures.value in
    record {
      value = omega (arith, size.0, magnitude_more c.loop-s.s c.args.multipliers.now, c.loop-s.invariant.value, c.from-sum.ensures);
      bounded = omega (arith, size.1, c.loop-s.invariant.bounded, c.from-sum.ensures);
    }

pub returns : goal.returns
returns c = surely _ ((column : List ℤ) → AreSmall c.args.largest column → unsigned_abs (dot (length c.args.multipliers.now) c.args.multipliers.now column) < 2 ^ 63) (λ test column small.
    let count : c.loop-s.s ≡ length c.args.multipliers.now = omega arith in
    let bound : unsigned_abs (dot (length c.args.multipliers.now) c.args.multipliers.now column) ≤ magnitude (length c.args.multipliers.now) c.args.multipliers.now * c.args.largest
    = bounded_dot (length c.args.multipliers.now) c.args.largest c.args.multipliers.now column (λ s _. small_anywhere c.args.largest column small s) in
    let most : c.loop-s.sum * c.from.result ≤ 2 ^ 63 - 1 = leb-true (c.loop-s.sum * c.from.result) (2 ^ 63 - 1) test in
    let sum_is : c.loop-s.sum * c.from.result ≡ magnitude (length c.args.multipliers.now) c.args.multipliers.now * c.args.largest
    = (λ k. c.loop-s.invariant.value k * c.from.ensures k) ∙ ap (λ n. magnitude n c.args.multipliers.now * c.args.largest) count in
    omega (arith, bound, most, sum_is))
