use Rattle.std.proofs.Common.{pos, ◌*ℤ◌, get_or, refl, ◌∙◌, arith}
use Rattle.rp_simplex.proofs.Bits.{back128}
use Rattle.rp_simplex.proofs.DotLemmas.{product_more, total_start}
use Rattle.rp_simplex.proofs.dot.dot_product.Goals as goal

pub loop-s-init : goal.loop-s-init
loop-s-init c = record {
  value = total_start (λ s. get_or c.args.multipliers.now s (pos 0) *ℤ get_or c.args.column.now s (pos 0));
  bounded = omega arith;
}

pub loop-s-preserved : goal.loop-s-preserved
loop-s-preserved c =
    let next = product_more c.loop-s.s (λ s. get_or c.args.multipliers.now s (pos 0) *ℤ get_or c.args.column.now s (pos 0)) (get_or c.args.multipliers.now c.loop-s.s (pos 0)) (get_or c.args.column.now c.loop-s.s (pos 0)) _ _
    (c.requires.fit c.loop-s.s (omega arith)) (c.requires.small c.loop-s.s (omega arith)) refl
    c.loop-s.invariant.value c.loop-s.invariant.bounded (back128 c.plus_product-sum.result c.plus_product-sum.type_inv ∙ c.plus_product-sum.ensures) in
    record {
      value = next.0;
      bounded = next.1;
    }
