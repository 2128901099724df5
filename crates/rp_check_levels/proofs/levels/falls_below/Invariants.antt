use Rattle.std.proofs.Common.{ℕ, ◌<◌, slice_index}
use Rattle.rp_table.specs.Cost.{cost_of}
use Rattle.rp_check_levels.proofs.levels.falls_below.Given as goal

abbrev pub invariant-loop-t : goal.invariant-loop-t
invariant-loop-t l = (t : ℕ) → t < l.t
    → cost_of l.input.table.now l.s t < cost_of l.input.table.now l.s (slice_index l.at l.s)
    → slice_index l.ranks t < slice_index l.ranks l.s
