use Rattle.std.proofs.Common.{◌<◌, ℕ}
use Rattle.rp_check_fit.specs.KeptFailure.{RespectsKeptAt}
use Rattle.rp_table.specs.Cost.{cost_of}
use Rattle.rp_check_fit.proofs.kept_set.check_ranks.Given as goal

abbrev pub invariant-loop-i : goal.invariant-loop-i
invariant-loop-i l = (i : ℕ) → i < l.i → RespectsKeptAt (cost_of l.input.table.now) l.kept l.ranks i
