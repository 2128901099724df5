use Rattle.rp_evidence.specs.Enumeration.{Enumerates}
use Rattle.rp_support.specs.InnerMarks.{IsReachedFrom}
use Rattle.rp_support.proofs.below.reached_from.Given as goal

abbrev pub invariant-loop-t : goal.invariant-loop-t
invariant-loop-t l = Enumerates l.t (IsReachedFrom l.closure l.starts) l.reached.items
