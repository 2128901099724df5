-- What each item of a certificate on goodness of fit proves.
use Rattle.rp_evidence.specs.Efficiency.{ProvesEfficiency}
use Rattle.rp_evidence.specs.Input.{TableInput}
use Rattle.rp_fit.specs.HomotheticLevel.{ProvesHomotheticLevel}
use Rattle.rp_fit.specs.KeptEvidence.{ProvesKept}
use Rattle.rp_fit.specs.LevelsEvidence.{ProvesLevels}
use Rattle.rp_fit.specs.MoneyPump.{IsPumpIndex}
use Rattle.rp_fit.specs.QuasilinearLevel.{IsQuasilinearLevel}
use Rattle.rp_fit.specs.StepsEvidence.{ProvesSteps}
use Rattle.rp_fit.specs.Violations.{AreViolationCounts}
use Rattle.rp_fit.specs.declared.item.FitItem.{FitItem}
use Rattle.rp_fit.specs.declared.item.FitItem.TheVariants.{Efficiency, HomotheticLevel, Kept, Levels, Pump, QuasilinearLevel, Steps, Violations}

-- Numbers of violating pairs; the critical cost efficiency index; the most observations that are consistent; levels of
-- the observations' own; the least cost of steps; the money pump; the quasilinear and the homothetic level.
abbrev pub ProvesFit : TableInput → FitItem → Type 0
ProvesFit input (Violations part) =
    AreViolationCounts input part.garp part.weak_garp part.warp part.sarp part.observations
ProvesFit input (Efficiency evidence) = ProvesEfficiency input.n input.cost evidence
ProvesFit input (Kept part) = ProvesKept input.n input.cost part
ProvesFit input (Levels part) = ProvesLevels input.n input.cost part
ProvesFit input (Steps part) = ProvesSteps input.n input.cost part
ProvesFit input (Pump part) = IsPumpIndex input.n input.cost part.num part.den
ProvesFit input (QuasilinearLevel part) = IsQuasilinearLevel input.n input.cost part.num part.den
ProvesFit input (HomotheticLevel part) = ProvesHomotheticLevel input.n input.cost part
