use Rattle.std.proofs.Common.{inl, inr, arith, refl}
use Rattle.std.specs.Int.{w128}
use Rattle.std.proofs.lemmas.Int.{ints, to_z-of_z}
use Rattle.rp_whole_tableau.proofs.grown.Lowest.or.Goals as goal

pub returns-then-price-self : goal.returns-then-price-self
returns-then-price-self c = inl (omega (arith, ints, c.if-price-self.true), refl, to_z-of_z w128 c.args.price c.ranges.price)

pub returns-else-price-self : goal.returns-else-price-self
returns-else-price-self c = inr (omega (arith, ints, c.if-price-self.false), refl)
