use Rattle.std.proofs.Common.{ℕ, ◌<◌}
use Rattle.rp_check.specs.LevelsFailure.{AreLevelsAlike}
use Rattle.rp_check.proofs.levels.check_alike.Given as goal

abbrev pub invariant-loop-t : goal.invariant-loop-t
invariant-loop-t l = (t : ℕ) → t < l.t → AreLevelsAlike l.own l.levels t
