use Rattle.std.proofs.Common.{◌≡◌, ℕ, ℤ, pos, ◌*ℤ◌, get_or, refl, sym, ◌∙◌, ap, arith}
use Rattle.rp_farkas.specs.Total.{total}
use Rattle.rp_simplex.proofs.Bits.{back128}
use Rattle.rp_simplex.proofs.DotLemmas.{product_more, total_start}
use Rattle.rp_simplex.proofs.pricing.gathered_product.Goals as goal

pub loop-k-init : goal.loop-k-init
loop-k-init c = record {
  value = total_start (λ q. get_or c.args.multipliers.now (get_or c.args.places.now q 0) (pos 0) *ℤ get_or c.args.column.now (get_or c.args.places.now q 0) (pos 0));
  bounded = omega arith;
}

pub loop-k-preserved : goal.loop-k-preserved
loop-k-preserved c =
    let s : ℕ = get_or c.args.places.now c.loop-k.k 0 in
    let inside = c.requires.gathered.inside c.loop-k.k c.loop-k-test.true in
    let next = product_more c.loop-k.k (λ q. get_or c.args.multipliers.now (get_or c.args.places.now q 0) (pos 0) *ℤ get_or c.args.column.now (get_or c.args.places.now q 0) (pos 0))
    (get_or c.args.multipliers.now s (pos 0)) (get_or c.args.column.now s (pos 0)) _ _
    (c.requires.fit s inside) (c.requires.small s (omega (arith, inside, c.requires.same))) refl
    c.loop-k.invariant.value c.loop-k.invariant.bounded (back128 c.plus_product-sum.result c.plus_product-sum.type_inv ∙ c.plus_product-sum.ensures) in
    record {
      value = next.0;
      bounded = next.1;
    }

pub returns : goal.returns
returns c =
    let f : ℕ → ℤ = λ q. get_or c.args.multipliers.now (get_or c.args.places.now q 0) (pos 0) *ℤ get_or c.args.column.now (get_or c.args.places.now q 0) (pos 0) in
    let all : c.loop-k.k ≡ c.args.count = omega arith in
    c.loop-k.invariant.value ∙ ap (λ n. total n f) all ∙ sym (c.requires.gathered.same (λ s. get_or c.args.column.now s (pos 0)))
