use Rattle.std.proofs.Common.{◌<◌, ℕ, slice_index}
use Rattle.rp_fit.specs.Groups.{Contradict}
use Rattle.rp_table.specs.Cost.{cost_of}
use Rattle.rp_check_fit.proofs.kept_groups.contradicts_earlier.Given as goal

abbrev pub invariant-loop-i : goal.invariant-loop-i
invariant-loop-i l = (i : ℕ) → i < l.i → Contradict (cost_of l.input.table.now) (slice_index l.members i) (slice_index l.members l.j)
