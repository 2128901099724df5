use Rattle.std.proofs.Common.{◌≡◌, ◌+◌, ◌*◌, add-one, arith, refl}
use Rattle.rp_patch.specs.Types.{combinations}
use Rattle.rp_types.proofs.CombinationLemmas.{too_many_ways}
use Rattle.rp_types.proofs.combinations.test_combinations.Goals as goal

pub returns-then-product-gt-COMBINATIONS-clause-refused :
    goal.returns-then-product-gt-COMBINATIONS-clause-refused
returns-then-product-gt-COMBINATIONS-clause-refused c =
    let p = c.args.patches.now in
    let is : combinations p (c.loop-j.j + 1) ≡ c.loop-j.product * c.patches_on-product.result = rw (add-one, c.loop-j.invariant.so_far, c.patches_on-product.ensures.exact) refl in
    too_many_ways p c.budgets-j-end.ensures.valid (c.loop-j.j + 1) 1048576 (omega (arith, c.loop-j-test.true, c.budgets-j-end.ensures.count)) (omega (arith, is, c.if-product-gt-COMBINATIONS.true))
