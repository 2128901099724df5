use Rattle.std.proofs.Common.{◌≡◌, ◌≤◌, ◌*◌, ◌^◌, take}
use Rattle.rp_check_levels.specs.Loads.{loads}
use Rattle.rp_fit.specs.WeightedWalks.{weight_by}
use Rattle.rp_table.specs.Cost.{cost_of}
use Rattle.rp_check_levels.proofs.loads.weight_by.Given as goal

abbrev pub invariant-loop-k : goal.invariant-loop-k
invariant-loop-k l = (l.weight ≡ weight_by (loads l.measure (cost_of l.input.table.now) l.s l.t) (take l.k l.walks)) × (l.weight ≤ l.k * 2 ^ 64)
