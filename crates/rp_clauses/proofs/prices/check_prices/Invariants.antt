use Rattle.std.proofs.Common.{ℕ, ◌<◌}
use Rattle.rp_clauses.specs.PricesFailure.{PriceFits}
use Rattle.rp_clauses.proofs.prices.check_prices.Given as goal

abbrev pub invariant-loop-g : goal.invariant-loop-g
invariant-loop-g l = (k : ℕ) → k < l.g → PriceFits l.prices k
