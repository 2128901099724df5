use Rattle.std.proofs.Common.{ℕ, ℤ, ◌*ℤ◌, sym, ◌∙◌, below_more}
use mir.Val.{to_z, of_z}
use Rattle.std.specs.Int.{w128}
use Rattle.rp_simplex.proofs.Bits.{back128, same_bits, other_bits}
use Rattle.rp_simplex.specs.InnerStage.{exact}
use Rattle.rp_simplex.proofs.Choices.{first_difference}
use Rattle.rp_simplex.proofs.choice.is_lesser.Goals as goal

pub returns-then-one-other : goal.returns-then-one-other
returns-then-one-other c =
    let one : ℕ → ℤ = λ j. (exact c.args.t.now).at c.args.second c.args.c *ℤ (exact c.args.t.now).at c.args.first j in
    let other : ℕ → ℤ = λ j. (exact c.args.t.now).at c.args.first c.args.c *ℤ (exact c.args.t.now).at c.args.second j in
    first_difference c.args.t.now.width c.loop-j.j one other (to_z w128 (of_z w128 c.cross-one.result)) (to_z w128 (of_z w128 c.cross-other.result))
    c.loop-j-test.true c.loop-j.invariant
    (back128 c.cross-one.result c.cross-one.type_inv ∙ c.cross-one.ensures.value)
    (back128 c.cross-other.result c.cross-other.type_inv ∙ c.cross-other.ensures.value)
    (other_bits c.cross-one.result c.cross-other.result c.cross-one.type_inv c.cross-other.type_inv c.if-one-other.true)

pub loop-j-preserved : goal.loop-j-preserved
loop-j-preserved c = below_more _ _ c.loop-j.invariant (sym c.cross-one.ensures.value ∙ same_bits c.cross-one.result c.cross-other.result c.cross-one.type_inv c.cross-other.type_inv c.if-one-other.false ∙ c.cross-other.ensures.value)
