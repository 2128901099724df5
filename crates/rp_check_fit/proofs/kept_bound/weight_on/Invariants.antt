use Rattle.std.proofs.Common.{◌≡◌, ◌≤◌, ◌*◌, ◌^◌, take}
use Rattle.rp_fit.specs.Groups.{weight_on}
use Rattle.rp_check_fit.proofs.kept_bound.weight_on.Given as goal

abbrev pub invariant-loop-k : goal.invariant-loop-k
invariant-loop-k l = (l.weight ≡ weight_on (take l.k l.groups) l.s) × (l.weight ≤ l.k * 2 ^ 32)
