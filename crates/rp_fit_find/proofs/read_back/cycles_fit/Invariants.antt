use Rattle.std.proofs.Common.{All, take}
use Rattle.rp_json_indices.specs.Limits.{FitsCycle}
use Rattle.rp_fit_find.proofs.read_back.cycles_fit.Given as goal

abbrev pub invariant-loop-k : goal.invariant-loop-k
invariant-loop-k l = All FitsCycle (take l.k l.walks)
