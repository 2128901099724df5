use Rattle.std.proofs.Common.{◌<◌, ℕ, slice_index}
use Rattle.rp_check_fit.specs.InnerGroups.{ContradictsEarlier}
use Rattle.rp_table.specs.Cost.{cost_of}
use Rattle.rp_table.specs.Tables.{records_of}
use Rattle.rp_check_fit.proofs.kept_groups.all_contradict.Given as goal

abbrev pub invariant-loop-j : goal.invariant-loop-j
invariant-loop-j l =
    ((k : ℕ) → k < l.j → slice_index l.members k < records_of l.input.table.now)
    × ((k : ℕ) → k < l.j → ContradictsEarlier (cost_of l.input.table.now) l.members k)
