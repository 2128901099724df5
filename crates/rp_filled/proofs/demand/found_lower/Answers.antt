use Rattle.std.proofs.Common.{IfOk, subst}
use Rattle.rp_evidence.specs.BoundEvidence.{BoundHolds}
use Rattle.rp_farkas.specs.LinearProgram.{LinearProgram}
use Rattle.rp_filled.specs.InnerFound.{IsFoundBound}
use Rattle.rp_filled.proofs.demand.found_lower.Goals as goal

pub returns : goal.returns
returns c = subst (λ (p : LinearProgram). IfOk c.found_bound.result (IsFoundBound (BoundHolds p (λ x. x c.args.g)) c.args.stated)) c.least.ensures c.found_bound.ensures
