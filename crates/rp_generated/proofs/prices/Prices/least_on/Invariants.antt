use Rattle.std.proofs.Common.{◌<◌, ℕ, slice_index}
use Rattle.rp_generated.specs.InnerLight.{IsIn}
use Rattle.rp_generated.proofs.prices.Prices.least_on.Given as goal

abbrev pub invariant-loop-k : goal.invariant-loop-k
invariant-loop-k l = (m : ℕ) → m < l.k → ¬ IsIn l.set.words (slice_index l.list m)
