use Rattle.std.proofs.Common.{◌<◌, ◌-◌, ℕ}
use Rattle.rp_check_walks.specs.Distinct.{IsUnlikeEarlier}
use Rattle.rp_check_walks.proofs.distinct.are_distinct.Given as goal

abbrev pub invariant-loop-j : goal.invariant-loop-j
invariant-loop-j l = (j : ℕ) → j < l.j - 1 → IsUnlikeEarlier l.walk j
