use Rattle.std.proofs.Common.{◌-ℤ◌, ◌*ℤ◌, sym, ◌∙◌}
use Rattle.rp_simplex.proofs.Bits.{back64, back128}
use Rattle.rp_simplex.proofs.ClearedRows.{back, moved-other}
use Rattle.rp_simplex.proofs.divisor.moved_multiplier.Goals as goal

pub returns-else-i-r-clause-value : goal.returns-else-i-r-clause-value
returns-else-i-r-clause-value c =
    back128 c.difference_of_products.result c.difference_of_products.type_inv ∙ c.difference_of_products.ensures.value
    ∙ (λ k. (back64 c.multiplier-else-i-r.result c.multiplier-else-i-r.type_inv ∙ c.multiplier-else-i-r.ensures.value) k *ℤ back c.args.pivot c.requires.pivot k
    -ℤ back c.args.factor c.requires.factor k *ℤ (back64 c.multiplier-else-i-r-2.result c.multiplier-else-i-r-2.type_inv ∙ c.multiplier-else-i-r-2.ensures.value) k)
    ∙ sym (moved-other c.args.t.now.multipliers c.args.t.now.den c.args.r c.args.pivot c.args.i c.args.factor c.args.s c.if-i-r.false)
