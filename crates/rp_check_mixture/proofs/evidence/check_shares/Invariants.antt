use Rattle.std.proofs.Common.{◌<◌, ℕ, Ok}
use Rattle.rp_patch.specs.KindFailure.{PartFailsOf}
use Rattle.rp_check_mixture.proofs.evidence.check_shares.Given as goal

abbrev pub invariant-loop-k : goal.invariant-loop-k
invariant-loop-k g l = (k : ℕ) → k < l.k → PartFailsOf (g.C.CellUnits.kinds l.choosers) l.shares k (Ok tt)
