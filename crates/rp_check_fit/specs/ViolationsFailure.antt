-- When numbers of violating pairs fail (this program's own order of clauses; Swofford and Whitney 1987).
use Rattle.std.specs.Prelude.{[], ◌∷◌}
use Rattle.rp_fit.specs.declared.violations.ViolationsPart.{ViolationsPart}
use Rattle.rp_evidence.specs.Clauses.{Finding, InOrder, Unless}
use Rattle.rp_evidence.specs.Count.{IsNumberOf}
use Rattle.rp_evidence.specs.Input.{TableInput}
use Rattle.rp_evidence.specs.declared.failure.Reason.TheVariants.{Number}
use Rattle.rp_fit.specs.Violations.{IsGarpPair, IsInGarpPair, IsNumberOfPairs, IsSarpPair, IsWarpPair, IsWeakGarpPair}

-- Each number is that of the pairs, and the last that of the observations in some pair; the place is which of them.
abbrev pub ViolationsFail : TableInput → ViolationsPart → Finding
ViolationsFail input part = InOrder (
    Unless (IsNumberOfPairs input.n (IsGarpPair input) part.garp) Number 1
    ∷ Unless (IsNumberOfPairs input.n (IsWeakGarpPair input) part.weak_garp) Number 2
    ∷ Unless (IsNumberOfPairs input.n (IsWarpPair input) part.warp) Number 3
    ∷ Unless (IsNumberOfPairs input.n (IsSarpPair input) part.sarp) Number 4
    ∷ Unless (IsNumberOf input.n (IsInGarpPair input) part.observations) Number 5
    ∷ [])
