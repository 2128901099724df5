use Rattle.std.proofs.Common.{◌≡◌, ◌≤◌, ◌*◌, ◌^◌, take}
use Rattle.rp_fit.specs.WeightedWalks.{weight_of_all}
use Rattle.rp_fit_report.proofs.levels.weight_of.Given as goal

abbrev pub invariant-loop-k : goal.invariant-loop-k
invariant-loop-k l = (l.weight ≡ weight_of_all (take l.k l.walks)) × (l.weight ≤ l.k * 2 ^ 64)
