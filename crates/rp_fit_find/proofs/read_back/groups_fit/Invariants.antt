use Rattle.std.proofs.Common.{All, take}
use Rattle.rp_json_indices.specs.Limits.{FitsGroup}
use Rattle.rp_fit_find.proofs.read_back.groups_fit.Given as goal

abbrev pub invariant-loop-k : goal.invariant-loop-k
invariant-loop-k l = All FitsGroup (take l.k l.groups)
