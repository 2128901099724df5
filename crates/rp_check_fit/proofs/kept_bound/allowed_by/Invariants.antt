use Rattle.std.proofs.Common.{◌≡◌, ◌≤◌, ◌*◌, ◌^◌, take}
use Rattle.rp_fit.specs.Groups.{allowed_by}
use Rattle.rp_check_fit.proofs.kept_bound.allowed_by.Given as goal

abbrev pub invariant-loop-k : goal.invariant-loop-k
invariant-loop-k l = (l.sum ≡ allowed_by (take l.k l.groups)) × (l.sum ≤ l.k * 2 ^ 41)
