use Rattle.std.proofs.Common.{◌<◌, ℕ, slice_index}
use Rattle.rp_clauses.specs.Standards.{StrictUnder}
use Rattle.rp_table.specs.Cost.{cost_of}
use Rattle.rp_clauses.proofs.garp.orders.Given as goal

abbrev pub invariant-loop-t : goal.invariant-loop-t
invariant-loop-t l = (t : ℕ) → t < l.t → StrictUnder l.standard l.input.table.now.levels (cost_of l.input.table.now) l.s t → slice_index l.ranks t < slice_index l.ranks l.s
