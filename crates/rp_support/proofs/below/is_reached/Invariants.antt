use Rattle.std.proofs.Common.{◌<◌, ℕ}
use Rattle.rp_pref.specs.Closure.{EqualsOrReachesIn}
use Rattle.rp_evidence.specs.Marks.{IsMarked}
use Rattle.rp_support.proofs.below.is_reached.Given as goal

abbrev pub invariant-loop-s : goal.invariant-loop-s
invariant-loop-s l = (k : ℕ) → k < l.s → ¬ (IsMarked l.starts k × EqualsOrReachesIn l.closure k l.t)
