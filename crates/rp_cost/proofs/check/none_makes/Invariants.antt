use Rattle.std.proofs.Common.{ℕ, ◌<◌, slice_index}
use Rattle.rp_cost.proofs.check.none_makes.Given as goal

abbrev pub invariant-loop-s : goal.invariant-loop-s
invariant-loop-s l = (r : ℕ) → r < l.s → slice_index l.question.tech.now.y r < l.question.y
